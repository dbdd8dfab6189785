-- A copy made position by position: what is left of it, and what its making leaves of the old home.
use Rattle.std.specs.Prelude.{◌≡◌, true, cond, List, [], ◌++◌, ◌⊎◌, ℕ, ◌+◌, ◌≤◌, take, drop}
use Rattle.rules.specs.Lists.{all}
use Rattle.rules.specs.Flash.{Bytes, Step, programs}
use Rattle.rules.specs.Unit.{Descriptor, stands}
use Rattle.rules.specs.Copy.{is_kept, kept_size, is_movable}
use Rattle.laws.specs.Copies.{four, moved, sector_of}
use Rattle.rules.specs.declared.Geometry.{Geometry}
use Rattle.unit.specs.LoopTurns.{from}

-- two units of an image of so many bytes, apart
pub record TwoUnits (bytes size from to : ℕ) : Type 0 where
  pub from_in : from + size ≤ bytes
  pub to_in : to + size ≤ bytes
  pub apart : (from + size ≤ to) ⊎ (to + size ≤ from)

-- the unit at a
abbrev pub part : Bytes → ℕ → ℕ → Bytes
part s a k = take k (drop a s)

-- the steps of one position: none unless it is kept
unfoldable pub copied : Bytes → ℕ → ℕ → Descriptor → ℕ → List Step
copied u to p d low = cond (is_kept d) (programs (to + stands p) (four (moved low d)) ++ programs (to + low) (sector_of u d)) []

-- the positions from p up to n can be copied below low
pub record Packs (g : Geometry) (u : Bytes) (n p low : ℕ) : Type 0 where
  pub movable : all (is_movable g) (from u n p) ≡ true
  pub room : stands n + kept_size (from u n p) ≤ low
  pub top : low ≤ g.size
