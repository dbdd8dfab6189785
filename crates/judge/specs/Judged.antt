-- What a look at an image shows, in the reader's words.
use Rattle.std.specs.Prelude.{◌≡◌, true, false, cond, Option, Some, None, MatchOption, List, [], ◌∷◌, ℕ, ◌-◌, ◌*◌, ◌<◌, length, get_or, take, drop, eqb}
use Rattle.rules.specs.Flash.{Bytes, is_geometry}
use Rattle.rules.specs.Unit.{receiving, is_open, is_committed}
use Rattle.rules.specs.Settled.{Physical, physical, Entry, Survey, survey, select, is_spare}
use Rattle.rules.specs.Sound.{home_at, standing}
use Rattle.rules.specs.declared.Geometry.{Geometry}
use Rattle.rules.specs.declared.Standing.TheVariants.{Neither}
use Rattle.judge.specs.declared.Remainder.{Remainder}
use Rattle.judge.specs.declared.Remainder.TheVariants.{Spare, Receiving, Retired}
use Rattle.judge.specs.declared.Transaction.{Transaction}
use Rattle.judge.specs.declared.Transaction.TheVariants.{Open, Committed}
use Rattle.judge.specs.declared.Look.{Look}

-- what the remaining unit is
unfoldable pub remainder_of : Physical → Remainder
remainder_of r = cond (is_spare r.bytes) Spare (cond (eqb r.state receiving) Receiving Retired)

-- the transaction, if there is one, by the descriptors of open ones and of committed ones
unfoldable pub transaction_for : List Entry → List Entry → Option Transaction
transaction_for [] [] = None
transaction_for [] (e ∷ es) = Some Committed
transaction_for (e ∷ es) cs = Some Open

unfoldable pub transaction_of : Survey → Option Transaction
transaction_of v = transaction_for (select is_open v) (select is_committed v)

-- the unit that stands n-th in the image
abbrev pub unit_in : Geometry → Bytes → ℕ → Physical
unit_in g s n = physical (n * g.size) (take g.size (drop (n * g.size) s))

-- where a settled or sound image has its homes and its remaining unit, and whether it has a transaction
pub record Whereabouts (g : Geometry) (s : Bytes) (r : Look) : Type 0 where
  pub inside : (L : ℕ) → L < g.units - 1 → get_or r.homes L 0 < g.units
  pub homes : (L : ℕ) → L < g.units - 1 → (home_at (survey g s).homes L).unit ≡ unit_in g s (get_or r.homes L 0)
  pub last : r.remaining < g.units
  pub remaining : (survey g s).spare ≡ unit_in g s r.remaining
  pub state : r.state ≡ remainder_of (survey g s).spare
  pub transaction : r.transaction ≡ transaction_of (survey g s)

-- the verdict on an image of a right geometry, and what it shows
pub record LookTells (g : Geometry) (s : Bytes) (r : Look) : Type 0 where
  pub geometry : is_geometry g (length s) ≡ true
  pub standing : r.standing ≡ standing g (survey g s)
  pub whereabouts : (r.standing ≡ Neither → ⊥) → Whereabouts g s r

-- the verdict on any image: nothing of a wrong geometry
abbrev pub Judged : Geometry → Bytes → Option Look → Type 0
Judged g s r = MatchOption r (is_geometry g (length s) ≡ false) (LookTells g s)
