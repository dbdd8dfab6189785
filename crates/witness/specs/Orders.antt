-- The screens' laws: what a transaction makes, in either order, in two commits or in one.
use Rattle.std.specs.Prelude.{List, [], ◌∷◌, refl}
use Rattle.rules.specs.Opened.{opened}
use Rattle.rules.specs.Calls.{Call, begin, commit, delete, write}
use Rattle.rules.specs.declared.Rule.TheVariants.{Tightest}
use Rattle.witness.specs.Short.{AllDone, ReadsAlike, ReadsAs, abc, abd, plenty}

-- File 7 is written twice. Were the earlier write left pending and the later one dropped, the earlier content would be read.
abbrev pub two_writes : List Call
two_writes = begin Tightest plenty ∷ write Tightest 7 abc plenty ∷ write Tightest 7 abd plenty ∷ commit plenty ∷ []

pub two_writes_done : AllDone two_writes
unfolding opened
two_writes_done = refl

pub later_write : ReadsAs two_writes 7 abd
unfolding opened
later_write = refl

-- Files 7 and 9 in either order. Were a write to drop what was pending of other files too, only the last of them would be there.
abbrev pub seven_nine : List Call
seven_nine = begin Tightest plenty ∷ write Tightest 7 abc plenty ∷ write Tightest 9 abd plenty ∷ commit plenty ∷ []

abbrev pub nine_seven : List Call
nine_seven = begin Tightest plenty ∷ write Tightest 9 abd plenty ∷ write Tightest 7 abc plenty ∷ commit plenty ∷ []

pub seven_nine_done : AllDone seven_nine
unfolding opened
seven_nine_done = refl

pub nine_seven_done : AllDone nine_seven
unfolding opened
nine_seven_done = refl

pub either_order : ReadsAlike seven_nine nine_seven 7
unfolding opened
either_order = refl

-- File 7 is committed twice, or once with its later content. Were a commit to keep the earlier of the two, the first would be read.
abbrev pub in_two : List Call
in_two = begin Tightest plenty ∷ write Tightest 7 abc plenty ∷ commit plenty ∷ begin Tightest plenty ∷ write Tightest 7 abd plenty ∷ commit plenty ∷ []

abbrev pub in_one : List Call
in_one = begin Tightest plenty ∷ write Tightest 7 abd plenty ∷ commit plenty ∷ []

pub in_two_done : AllDone in_two
unfolding opened
in_two_done = refl

pub in_one_done : AllDone in_one
unfolding opened
in_one_done = refl

pub two_commits : ReadsAlike in_two in_one 7
unfolding opened
two_commits = refl

-- File 7 is committed and then deleted, or never written. Were a delete to leave the file, it would be read.
abbrev pub then_deleted : List Call
then_deleted = begin Tightest plenty ∷ write Tightest 7 abc plenty ∷ commit plenty ∷ begin Tightest plenty ∷ delete Tightest 7 plenty ∷ commit plenty ∷ []

abbrev pub never_written : List Call
never_written = begin Tightest plenty ∷ commit plenty ∷ []

pub then_deleted_done : AllDone then_deleted
unfolding opened
then_deleted_done = refl

pub never_written_done : AllDone never_written
unfolding opened
never_written_done = refl

pub deleted_left_out : ReadsAlike then_deleted never_written 7
unfolding opened
deleted_left_out = refl
