-- The unit that is lent from an image.
use Prim.Native.Nat.{ℕ, zero, suc, ◌+◌, ◌*◌, ◌%◌, ◌≤◌, ◌<◌}
use native.Mathlib.Omega.{arith}
use Rattle.std.proofs.Common.{suc-mul, zero-mul}
use Rattle.std.specs.Prelude.{◌≡◌, true, length}
use Rattle.rules.specs.Flash.{Bytes, is_geometry}
use Rattle.rules.specs.declared.Geometry.{Geometry}
use Rattle.laws.specs.Units.{right_geometry, row}

pub rows_eight : (u s : ℕ) → s % 8 ≡ 0 → u * s % 8 ≡ 0
rows_eight zero s e = rw zero-mul
rows_eight (suc u) s e = rw suc-mul (omega (arith, rows_eight u s e))

-- the unit that stands h-th lies in the image
pub record Within (g : Geometry) (s : Bytes) (h : ℕ) : Type 0 where
  pub inside : h * g.size + g.size ≤ length s
  pub short : length s ≤ 65536
  pub large : 512 ≤ g.size
  pub small : g.size ≤ 4096

pub within : (g : Geometry) (s : Bytes) (h : ℕ) → is_geometry g (length s) ≡ true → h < g.units → Within g s h
within g s h right l =
    let o = right_geometry g s right in
    record { inside = omega (arith, row h g.units g.size l, o.whole); short = omega (arith, o.whole, o.short); large = o.large; small = o.small }
