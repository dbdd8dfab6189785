-- One turn of each loop over the headers and the logical numbers.
use Prim.Native.Nat.{ℕ, zero, suc, ◌+◌, ◌-◌, ◌≤◌, ◌<◌}
use native.Mathlib.Omega.{arith}
use Rattle.std.specs.Prelude.{◌≡◌, refl, Bool, true, false, cond, Some, None, ltb, List, get_or, set}
use Rattle.std.proofs.Common.{ap, lt-ltb, ltb-true, ltb-false}
use Rattle.rules.specs.Flash.{Bytes}
use Rattle.home_table.specs.Units.{logical_of, state_of}
use Rattle.home_table.specs.Places.{housed, unit_of, claimed, claims, either, eithers, is_at, left_from}

module _ (S : ℕ) (s : Bytes) (last : ℕ) (n u : ℕ) where
  module _ (f : ℕ) (held : List ℕ) where
    pub claims_turn : u < n → claims S s last f (n - u) u held ≡ claims S s last f (n - (u + 1)) (u + 1) (claimed last f held (logical_of S s u) (state_of S s u) u)
    unfolding claims
    claims_turn h =
        let e : n - u ≡ suc (n - (u + 1)) = omega arith in
        rw e

    pub claims_end : n ≤ u → claims S s last f (n - u) u held ≡ held
    unfolding claims
    claims_end h =
        let e : n - u ≡ 0 = omega arith in
        rw e

  module _ (home : List ℕ) where
    pub left_turn : u < n → is_at last home (logical_of S s u) u ≡ true → left_from S s last home (n - u) u ≡ left_from S s last home (n - (u + 1)) (u + 1)
    unfolding left_from
    left_turn h g =
        let e : n - u ≡ suc (n - (u + 1)) = omega arith in
        rw e (rw (g, left_from))

    pub left_here : u < n → is_at last home (logical_of S s u) u ≡ false → left_from S s last home (n - u) u ≡ u
    unfolding left_from
    left_here h g =
        let e : n - u ≡ suc (n - (u + 1)) = omega arith in
        rw e (rw (g, left_from))

    pub left_end : n ≤ u → left_from S s last home (n - u) u ≡ u
    unfolding left_from
    left_end h =
        let e : n - u ≡ 0 = omega arith in
        rw e

module _ (ls rs : List ℕ) (n L : ℕ) (home : List ℕ) where
  pub eithers_turn : L < n → eithers ls rs (n - L) L home ≡ eithers ls rs (n - (L + 1)) (L + 1) (set home L (either (get_or ls L 0) (get_or rs L 0)))
  unfolding eithers
  eithers_turn h =
      let e : n - L ≡ suc (n - (L + 1)) = omega arith in
      rw e

  pub eithers_end : n ≤ L → eithers ls rs (n - L) L home ≡ home
  unfolding eithers
  eithers_end h =
      let e : n - L ≡ 0 = omega arith in
      rw e

-- every number has its unit, or one has none
pub housed_all : (U : ℕ) (at : List ℕ) (k L : ℕ) → ((i : ℕ) → i < L + k → get_or at i 0 < U) → housed U at k L ≡ true
unfolding housed
housed_all U at zero L h = refl
housed_all U at (suc k) L h = rw (housed, lt-ltb (get_or at L 0) U (h L (omega arith))) (housed_all U at k (L + 1) (λ i l. h i (omega arith)))

pub housed_not : (U : ℕ) (at : List ℕ) (k L i : ℕ) → L ≤ i → i < L + k → U ≤ get_or at i 0 → housed U at k L ≡ false
unfolding housed
housed_not U at zero L i a b n = absurd (omega arith)
housed_not U at (suc k) L i a b n = go (ltb (get_or at L 0) U) refl (λ l. housed_not U at k (L + 1) i l (omega arith) n)
  where
    go : (x : Bool) → ltb (get_or at L 0) U ≡ x → (L + 1 ≤ i → housed U at k (L + 1) ≡ false) → (elim x [ true ↦ housed U at k (L + 1) | false ↦ false ]) ≡ false
    go true e r = r (omega (arith, apart))
      where
        apart : i ≡ L → ⊥
        apart q = omega (arith, ltb-true (get_or at L 0) U e, ap (λ (j : ℕ). get_or at j 0) q)
    go false e r = refl

-- what a claim names
pub unit_some : (U v x : ℕ) → unit_of U v ≡ Some x → (x ≡ v) × (v < U)
unit_some U v x e = go (ltb v U) refl e
  where
    go : (b : Bool) → ltb v U ≡ b → cond b (Some v) None ≡ Some x → (x ≡ v) × (v < U)
    go true t e = (cc, ltb-true v U t)
    go false t e = cc

pub unit_none : (U v : ℕ) → unit_of U v ≡ None → U ≤ v
unit_none U v e = go (ltb v U) refl e
  where
    go : (b : Bool) → ltb v U ≡ b → cond b (Some v) None ≡ None → U ≤ v
    go true t e = cc
    go false t e = ltb-false v U t
