-- Tests joined and taken apart.
use Rattle.std.specs.Prelude.{◌≡◌, refl, Bool, true, false, ℕ}
use Rattle.std.proofs.Common.{sym, arith}

-- y where x holds, as the reader's tests over a list are joined
abbrev pub when : Bool → Bool → Bool
when x y = elim x [ true ↦ y | false ↦ false ]

pub no : {A : Type 0} → false ≡ true → A
no e = let z : ◌≡◌ {A = ℕ} 0 1 = cc in absurd (omega arith)

pub elim_inv : (x r : Bool) → (elim x as (λ (b : Bool). Bool) [ true ↦ r | false ↦ false ]) ≡ true → (x ≡ true) × (r ≡ true)
elim_inv true r e = (refl, e)
elim_inv false r e = no e

pub same : (x y : Bool) → (x ≡ true → y ≡ true) → (y ≡ true → x ≡ true) → x ≡ y
same true y f h = sym (f refl)
same false true f h = h refl
same false false f h = refl
