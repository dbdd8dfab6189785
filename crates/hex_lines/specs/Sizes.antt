-- The image of a right geometry.
use Rattle.std.specs.Prelude.{◌≡◌, refl, Bool, true, false, ◌&&◌, ◌||◌, ℕ, ◌*◌, ◌/◌, ◌≤◌, eqb, leb}
use Rattle.std.proofs.Common.{ap, arith, eqb-true, leb-true}
use Rattle.rules.specs.Flash.{is_geometry}
use Rattle.rules.specs.declared.Geometry.{Geometry}
use Rattle.std.proofs.lemmas.Bool.{and_parts}

whole_units : (u z n : ℕ) (a b c d : Bool) → eqb z 512 ≡ a → eqb z 1024 ≡ b → eqb z 2048 ≡ c → eqb z 4096 ≡ d → a || b || c || d ≡ true → n ≡ u * z → n ≡ 16 * (n / 16)
whole_units u z n true b c d p q r s t e = omega (arith, ap (λ (y : ℕ). u * y) (eqb-true z 512 p))
whole_units u z n false true c d p q r s t e = omega (arith, ap (λ (y : ℕ). u * y) (eqb-true z 1024 q))
whole_units u z n false false true d p q r s t e = omega (arith, ap (λ (y : ℕ). u * y) (eqb-true z 2048 r))
whole_units u z n false false false true p q r s t e = omega (arith, ap (λ (y : ℕ). u * y) (eqb-true z 4096 s))
whole_units u z n false false false false p q r s t e = let z : ◌≡◌ {A = ℕ} 0 1 = cc in absurd (omega arith)

-- A right geometry's image has whole rows, and at most 65,536 bytes.
pub rows_whole : (g : Geometry) (n : ℕ) → is_geometry g n ≡ true → (n ≡ 16 * (n / 16)) × (n ≤ 65536)
unfolding is_geometry
rows_whole g n e =
    let is_size : Bool = eqb g.size 512 || eqb g.size 1024 || eqb g.size 2048 || eqb g.size 4096 in
    let a = and_parts (is_size && leb 3 g.units && leb g.units 64 && leb (g.units * g.size) 65536) (eqb n (g.units * g.size)) e in
    let b = and_parts (is_size && leb 3 g.units && leb g.units 64) (leb (g.units * g.size) 65536) a.0 in
    let c = and_parts (is_size && leb 3 g.units) (leb g.units 64) b.0 in
    let d = and_parts is_size (leb 3 g.units) c.0 in
    let w : n ≡ g.units * g.size = eqb-true n (g.units * g.size) a.1 in (
      whole_units g.units g.size n (eqb g.size 512) (eqb g.size 1024) (eqb g.size 2048) (eqb g.size 4096) refl refl refl refl d.0 w,
      omega (arith, w, leb-true (g.units * g.size) 65536 b.1),
    )
