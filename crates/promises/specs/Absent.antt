-- Absent is not empty; and the listing shows exactly the committed files, with their lengths.
use Rattle.std.proofs.Math.Bool.{cond}
use Rattle.std.specs.Prelude.{false, true, [], ◌≡◌, ℕ, eqb}
use Rattle.std.proofs.Math.Option.{Option, none, some}
use Rattle.std.proofs.Common.{◌∙◌}
use Rattle.std.proofs.Math.Path.{ap}
use Rattle.rules.specs.Answers.{content, number}
use Rattle.rules.specs.Calls.{is_bad_file, outcome, read}
use Rattle.rules.specs.Flash.{Bytes}
use Rattle.rules.specs.Histories.{Plain}
use Rattle.rules.specs.Plain.{Seen, bytes_in, content_by, is_absent_in, is_settled, plain_content, plain_number, seen, when_settled}
use Rattle.rules.specs.Settled.{survey}
use Rattle.rules.specs.Sound.{standing}
use Rattle.rules.specs.declared.Geometry.{Geometry}
use Rattle.rules.specs.declared.Standing.TheVariants.{Settled}
use Rattle.theory.specs.Promised.Histories.{Holds}
use Rattle.promises.specs.Answered.{as_plain_lem}

-- what a read of a settled image answers, by the file's content
read_number : (m : Plain) (x : Seen) (f : ℕ) (y : Option Bytes) → x.settled ≡ true → is_bad_file f ≡ false → m.files f ≡ y → plain_number m x (read f) ≡ cond (is_absent_in y) 9 0
unfolding plain_number when_settled
read_number m x f y s b e = λ i. cond (s i) (cond (b i) 5 (cond (is_absent_in (e i)) 9 0)) 4

module _ (g : Geometry) (s : Bytes) (m : Plain) (h : Holds g s m) (st : standing g (survey g s) ≡ Settled) (f : ℕ) (b : is_bad_file f ≡ false) where
  settled' : (seen g (read f) s).settled ≡ true
  unfolding seen is_settled
  settled' = ap is_settled st

  pub empty_read : m.files f ≡ some [] → (number (outcome g (read f) s).answer ≡ 0) × (content (outcome g (read f) s) ≡ [])
  unfolding is_absent_in plain_content content_by bytes_in
  empty_read e = (
    (as_plain_lem g s m h (read f)).0 ∙ read_number m (seen g (read f) s) f (some []) settled' b e,
    (as_plain_lem g s m h (read f)).1 ∙ (λ i. cond (eqb (read_number m (seen g (read f) s) f (some []) settled' b e i) 0) (bytes_in (e i)) []),
  )

  pub absent_read : m.files f ≡ none → number (outcome g (read f) s).answer ≡ 9
  unfolding is_absent_in
  absent_read e = (as_plain_lem g s m h (read f)).0 ∙ read_number m (seen g (read f) s) f none settled' b e
