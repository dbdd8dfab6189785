-- What becomes of a transaction's descriptors, by their places, and that it is the reader's, on entries.
use Rattle.std.proofs.Math.Path.{◌≡◌}
use Rattle.std.specs.Prelude.{ℕ, ◌+◌, ◌/◌, ◌%◌, ◌<◌, get_or}
use Rattle.std.proofs.Math.Bool.{cond}
use mathlib.Core.List.{List, [], ◌∷◌, ◌++◌}
use Rattle.std.proofs.Math.Dec.{eqb}
use Rattle.rules.specs.Lists.{filter}
use Rattle.rules.specs.Flash.{Bytes, word, Step}
use Rattle.rules.specs.Unit.{current, old, void}
use Rattle.rules.specs.Settled.{Entry, of_file}
use Rattle.unit.specs.Spots.{places}
use Rattle.step_new.specs.Places.{SpotIf, become_at, one_at}

-- where the table of current descriptors, by file, has a place, one stands there
abbrev pub Currents : ℕ → List ℕ → Type 0
Currents bytes table = (f : ℕ) → f < 256 → SpotIf bytes (get_or table f 0)

-- data becomes current, a delete mark old
unfoldable pub new_flags : ℕ → ℕ
new_flags tag = cond (eqb (tag / 256) 0x10) current old

-- what becomes of the pending one at p, its tag as it stands in s, with the table of current ones
unfoldable pub turn_at : Bytes → List ℕ → ℕ → List Step
turn_at s table p = become_at old (one_at (get_or table (word s (p + 6) % 256) 0)) ++ become_at (new_flags (word s (p + 6))) (one_at p)

unfoldable pub turns_at : Bytes → List ℕ → List ℕ → List Step
turns_at s table [] = []
turns_at s table (p ∷ ps) = turn_at s table p ++ turns_at s table ps

unfoldable pub clean_up_at : Bytes → List ℕ → List ℕ → ℕ → List Step
clean_up_at s table ps t = turns_at s table ps ++ become_at old (one_at t)

-- the transaction at t becomes committed; then what is left
unfoldable pub commit_at : Bytes → List ℕ → List ℕ → ℕ → List Step
commit_at s table ps t = become_at current (one_at t) ++ clean_up_at s table ps t

unfoldable pub abort_at : List ℕ → ℕ → List Step
abort_at ps t = become_at old (one_at t) ++ become_at old ps

unfoldable pub mend_at : ℕ → ℕ → List Step
mend_at torn allocated = become_at void (one_at torn) ++ become_at old (one_at allocated)

-- a committed transaction is finished, else the open one is aborted
unfoldable pub end_at : Bytes → List ℕ → List ℕ → ℕ → ℕ → List Step
end_at s table ps opened committed = cond (eqb committed 0) (abort_at ps opened) (clean_up_at s table ps committed)

unfoldable pub tidy_at : Bytes → List ℕ → List ℕ → ℕ → ℕ → ℕ → ℕ → List Step
tidy_at s table ps torn allocated opened committed = mend_at torn allocated ++ end_at s table ps opened committed

-- ---- the reader's, on entries

-- the entry stands at a place, and its tag where s has it
pub record Tagged (s : Bytes) (e : Entry) : Type 0 where
  pub some : e.place ≡ 0 → ⊥
  pub tag : e.descriptor.tag ≡ word s (e.place + 6)

-- the table has the place of each file's current one, of which there is at most one
abbrev pub IndexesCurrent : List ℕ → List Entry → Type 0
IndexesCurrent table cs = (f : ℕ) → f < 256 → places (filter (of_file f) cs) ≡ one_at (get_or table f 0)
