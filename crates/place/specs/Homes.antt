-- The homes of an image, read where a table by logical number has their physical units.
use Rattle.std.specs.Prelude.{◌≡◌, List, [], ◌∷◌, ℕ, zero, suc, ◌-◌, ◌*◌, ◌≤◌, ◌<◌, length, get_or, take, drop}
use Rattle.rules.specs.Flash.{Bytes}
use Rattle.rules.specs.Unit.{room_of}
use Rattle.rules.specs.Settled.{Home, physical}
use Rattle.rules.specs.declared.Geometry.{Geometry}

-- a unit's bytes, all of them
pub record WholeUnit (g : Geometry) (u : Bytes) : Type 0 where
  pub long : length u ≡ g.size
  pub large : 16 ≤ g.size
  pub small : g.size ≤ 4096

-- the table has a unit for each logical number 0..U-2
abbrev pub HomesTable : Geometry → List ℕ → Type 0
HomesTable g table = (L : ℕ) → L < g.units - 1 → get_or table L 0 < g.units

-- the n-th unit of the image
unfoldable pub unit_in : Geometry → Bytes → ℕ → Bytes
unit_in g s i = take g.size (drop (i * g.size) s)

unfoldable pub home_in : Geometry → Bytes → List ℕ → ℕ → Home
home_in g s table L =
    let i = get_or table L 0 in
    record { number = L; unit = physical (i * g.size) (unit_in g s i); room = room_of g (unit_in g s i) }

-- the homes of the k logical numbers from L on
unfoldable pub homes_at : Geometry → Bytes → List ℕ → ℕ → ℕ → List Home
homes_at g s table zero L = []
homes_at g s table (suc k) L = home_in g s table L ∷ homes_at g s table k (suc L)
