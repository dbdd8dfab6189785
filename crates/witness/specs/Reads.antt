-- A read answers as the plain store does, and a handle gives its file after a reclaim too.
use Rattle.std.specs.Prelude.{List, [], ◌++◌, ◌∷◌, ◌≡◌, refl}
use Rattle.std.proofs.Common.{◌∙◌}
use Rattle.rules.specs.Opened.{opened}
use Rattle.rules.specs.Answers.{number}
use Rattle.rules.specs.declared.Rule.TheVariants.{Tightest}
use Rattle.rules.specs.Calls.{Call, begin, commit, delete, outcome, read, read_open, write}
use Rattle.rules.specs.Plain.{plain_number, seen}
use Rattle.rules.specs.Settled.{survey}
use Rattle.rules.specs.Sound.{standing}
use Rattle.rules.specs.declared.Standing.TheVariants.{Settled}
use Rattle.witness.specs.Short.{AnswersPlainly, StillReads, abc, full, image, plenty, small, store}

-- File 7 is committed, and deleted in the next transaction. Were the deletion forgotten or the mark shown, a read of the
-- transaction view would be DONE.
abbrev pub deleted : List Call
deleted = begin Tightest plenty ∷ write Tightest 7 abc plenty ∷ commit plenty ∷ begin Tightest plenty ∷ delete Tightest 7 plenty ∷ []

pub deleted_is_absent : AnswersPlainly deleted (read_open 7)
unfolding opened
deleted_is_absent = (let absent : number (outcome small (read_open 7) (image deleted)).answer ≡ 9 = refl in absent) ∙ plainly
  where
    plainly : 9 ≡ plain_number (store deleted) (seen small (read_open 7) (image deleted)) (read_open 7)
    plainly = refl

-- File 9 is committed with no bytes. Were length 0 read as absent, a read of it would be refused.
abbrev pub empty : List Call
empty = begin Tightest plenty ∷ write Tightest 9 [] plenty ∷ commit plenty ∷ []

pub empty_is_there : AnswersPlainly empty (read 9)
unfolding opened
empty_is_there = (let there : number (outcome small (read 9) (image empty)).answer ≡ 0 = refl in there) ∙ plainly
  where
    plainly : 0 ≡ plain_number (store empty) (seen small (read 9) (image empty)) (read 9)
    plainly = refl

-- File 7 is at 0:1, behind an old transaction. File 3 takes a reclaim of unit 0, which is made in full.
-- Were the copied sectors numbered afresh, 0:1 would be the open transaction.
abbrev pub filled : List Call
filled = begin Tightest plenty ∷ write Tightest 7 abc plenty ∷ write Tightest 1 full plenty ∷ write Tightest 2 full plenty ∷ commit plenty ∷ begin Tightest plenty ∷ delete Tightest 1 plenty ∷ commit plenty ∷ []

abbrev pub reclaims : List Call
reclaims = begin Tightest plenty ∷ write Tightest 3 full 14 ∷ []

pub filled_reads : StillReads filled 0 1
unfolding opened
filled_reads = refl

pub reclaims_settled : standing small (survey small (image (filled ++ reclaims))) ≡ Settled
unfolding opened
reclaims_settled = refl

pub moved_handle : StillReads (filled ++ reclaims) 0 1
unfolding opened
moved_handle = refl
