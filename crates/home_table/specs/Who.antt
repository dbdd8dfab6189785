-- Whom the claims name: the units in state f with logical number L, none, one or several of them.
use Prim.Native.Nat.{ℕ, zero, suc, ◌+◌, ◌-◌, ◌≤◌, ◌<◌}
use Rattle.std.proofs.Common.{arith, sym, ◌∙◌, ne_eqb, eqb-true, ltb-false, length-set, get_or-set_same, get_or-set_other}
use Rattle.std.specs.Prelude.{◌≡◌, Bool, cond, List, [], ◌∷◌, eqb, ltb, length, get_or, set, replicate}
use Rattle.std.proofs.Math.Path.{refl, ap}
use Rattle.std.proofs.Math.Bool.{true, false}
use Rattle.std.proofs.lemmas.Bool.{eqb-false}
use Rattle.std.proofs.lemmas.List.{length-replicate}
use Rattle.rules.specs.Flash.{Bytes}
use Rattle.rules.specs.Unit.{live, retired}
use Rattle.home_table.specs.Units.{logical_of, state_of}
use Rattle.home_table.specs.Places.{claim, claimed, claims, claims_of, either, eithers, places_of}

unfoldable pub holders : ℕ → Bytes → ℕ → ℕ → ℕ → ℕ → List ℕ
holders S s f L zero u = []
holders S s f L (suc k) u =
    cond (eqb (state_of S s u) f) (cond (eqb (logical_of S s u) L) (u ∷ holders S s f L k (u + 1)) (holders S s f L k (u + 1))) (holders S s f L k (u + 1))

unfoldable pub claim_all : ℕ → List ℕ → ℕ
claim_all v [] = v
claim_all v (u ∷ us) = claim_all (claim v u) us

pub claimed_long : (last f : ℕ) (held : List ℕ) (l st u : ℕ) → length (claimed last f held l st u) ≡ length held
unfolding claimed
claimed_long last f held l st u = go (eqb st f) (ltb l last)
  where
    go : (x y : Bool) → length (cond x (cond y (set held l (claim (get_or held l 0) u)) held) held) ≡ length held
    go true true = length-set held l (claim (get_or held l 0) u)
    go true false = refl
    go false y = refl

-- one unit's claim, seen at L
pub claimed_at : (last f : ℕ) (held : List ℕ) (l st u L : ℕ) → L < last → last ≤ length held
    → get_or (claimed last f held l st u) L 0 ≡ cond (eqb st f) (cond (eqb l L) (claim (get_or held L 0) u) (get_or held L 0)) (get_or held L 0)
unfolding claimed
claimed_at last f held l st u L h k = go (eqb st f) (ltb l last) (eqb l L) refl refl
  where
    go : (x y z : Bool) → ltb l last ≡ y → eqb l L ≡ z
        → get_or (cond x (cond y (set held l (claim (get_or held l 0) u)) held) held) L 0 ≡ cond x (cond z (claim (get_or held L 0) u) (get_or held L 0)) (get_or held L 0)
    go true true true p q =
        let e : l ≡ L = eqb-true l L q in
        rw e (get_or-set_same held L (claim (get_or held L 0) u) 0 (omega arith))
    go true true false p q = get_or-set_other held l L (claim (get_or held l 0) u) 0 (λ e. eqb-false l L q (sym e))
    go true false true p q =
        let e : l ≡ L = eqb-true l L q in
        let m : last ≤ l = ltb-false l last p in
        absurd (omega arith)
    go true false false p q = refl
    go false y z p q = refl

module _ (S : ℕ) (s : Bytes) (last f L : ℕ) (h : L < last) where
  pub who : (k u : ℕ) (held : List ℕ) → last ≤ length held → get_or (claims S s last f k u held) L 0 ≡ claim_all (get_or held L 0) (holders S s f L k u)
  unfolding claims holders claim_all
  who zero u held l = refl
  who (suc k) u held l =
      let next = claimed last f held (logical_of S s u) (state_of S s u) u in
      who k (u + 1) next (rw (claimed_long last f held (logical_of S s u) (state_of S s u) u) l)
      ∙ ap (λ (v : ℕ). claim_all v (holders S s f L k (u + 1))) (claimed_at last f held (logical_of S s u) (state_of S s u) u L h l)
      ∙ go (eqb (state_of S s u) f) (eqb (logical_of S s u) L)
    where
      go : (x z : Bool) → claim_all (cond x (cond z (claim (get_or held L 0) u) (get_or held L 0)) (get_or held L 0)) (holders S s f L k (u + 1))
          ≡ claim_all (get_or held L 0) (cond x (cond z (u ∷ holders S s f L k (u + 1)) (holders S s f L k (u + 1))) (holders S s f L k (u + 1)))
      go true true = refl
      go true false = refl
      go false z = refl

-- none, one, several
pub nobody : claim_all 255 [] ≡ 255
unfolding claim_all
nobody = refl

pub sole : (u : ℕ) → claim_all 255 (u ∷ []) ≡ u
unfolding claim_all
sole u = refl

stays : (us : List ℕ) → claim_all 254 us ≡ 254
unfolding claim_all
stays [] = refl
stays (u ∷ us) = stays us

pub several : (u v : ℕ) (us : List ℕ) → u < 64 → claim_all 255 (u ∷ v ∷ us) ≡ 254
unfolding claim_all
several u v us h =
    let n : eqb u 255 ≡ false = ne_eqb u 255 (λ e. omega arith) in
    rw n (stays us)

-- a holder is one of the units looked at, has L's number and is in the state
pub record Holder (S : ℕ) (s : Bytes) (f L k u x : ℕ) : Type 0 where
  pub below : x < u + k
  pub number : logical_of S s x ≡ L
  pub state : state_of S s x ≡ f

pub head_holder : (S : ℕ) (s : Bytes) (f L k u x : ℕ) (xs : List ℕ) → holders S s f L k u ≡ x ∷ xs → Holder S s f L k u x
unfolding holders
head_holder S s f L zero u x xs e = let z : ◌≡◌ {A = ℕ} 0 1 = cc in absurd (omega arith)
head_holder S s f L (suc k) u x xs e = go (λ d. head_holder S s f L k (u + 1) x xs d) (eqb (state_of S s u) f) (eqb (logical_of S s u) L) refl refl e
  where
    later : Holder S s f L k (u + 1) x → Holder S s f L (suc k) u x
    later h = record { below = omega (arith, h.below); number = h.number; state = h.state }

    go : (holders S s f L k (u + 1) ≡ x ∷ xs → Holder S s f L k (u + 1) x) → (a b : Bool) → eqb (state_of S s u) f ≡ a → eqb (logical_of S s u) L ≡ b
        → cond a (cond b (u ∷ holders S s f L k (u + 1)) (holders S s f L k (u + 1))) (holders S s f L k (u + 1)) ≡ x ∷ xs → Holder S s f L (suc k) u x
    go rec true true p q e =
        let t : u ≡ x = cc in
        record { below = omega arith; number = rw (← t) (eqb-true (logical_of S s u) L q); state = rw (← t) (eqb-true (state_of S s u) f p) }
    go rec true false p q e = later (rec e)
    go rec false b p q e = later (rec e)

-- the place of each number among 64
pub eithers_past : (ls rs : List ℕ) (k L : ℕ) (home : List ℕ) (i : ℕ) → i < L → get_or (eithers ls rs k L home) i 0 ≡ get_or home i 0
unfolding eithers
eithers_past ls rs zero L home i h = refl
eithers_past ls rs (suc k) L home i h =
    eithers_past ls rs k (L + 1) (set home L (either (get_or ls L 0) (get_or rs L 0))) i (omega arith)
    ∙ get_or-set_other home L i (either (get_or ls L 0) (get_or rs L 0)) 0 (λ e. omega arith)

pub eithers_at : (ls rs : List ℕ) (k L : ℕ) (home : List ℕ) (i : ℕ) → L ≤ i → i < L + k → L + k ≤ length home → get_or (eithers ls rs k L home) i 0 ≡ either (get_or ls i 0) (get_or rs i 0)
unfolding eithers
eithers_at ls rs zero L home i g h l = absurd (omega arith)
eithers_at ls rs (suc k) L home i g h l =
    let next = set home L (either (get_or ls L 0) (get_or rs L 0)) in
    go (λ a b. eithers_at ls rs k (L + 1) next i a b (rw (length-set home L (either (get_or ls L 0) (get_or rs L 0))) (omega arith))) (eqb i L) refl
  where
    go : (L + 1 ≤ i → i < L + 1 + k → get_or (eithers ls rs k (L + 1) (set home L (either (get_or ls L 0) (get_or rs L 0)))) i 0 ≡ either (get_or ls i 0) (get_or rs i 0))
        → (x : Bool) → eqb i L ≡ x → get_or (eithers ls rs k (L + 1) (set home L (either (get_or ls L 0) (get_or rs L 0)))) i 0 ≡ either (get_or ls i 0) (get_or rs i 0)
    go rec true e =
        let t : i ≡ L = eqb-true i L e in
        rw t (eithers_past ls rs k (L + 1) (set home L (either (get_or ls L 0) (get_or rs L 0))) L (omega arith)
        ∙ get_or-set_same home L (either (get_or ls L 0) (get_or rs L 0)) 0 (omega arith))
    go rec false e =
        let n : i ≡ L → ⊥ = eqb-false i L e in
        rec (omega arith) (omega arith)

pub chosen : (S U : ℕ) (s : Bytes) (l : ℕ) → l < U - 1 → U ≤ 64
    → get_or (places_of S U s) l 0 ≡ either (get_or (claims_of S U s live) l 0) (get_or (claims_of S U s retired) l 0)
unfolding places_of
chosen S U s l h k = eithers_at (claims_of S U s live) (claims_of S U s retired) (U - 1) 0 (replicate 64 0) l (omega arith) (omega arith) (rw (length-replicate {A = ℕ} 64 0) (omega arith))
