-- The claims name the homes that the reader's definitions find, one each.
use Prim.Native.Nat.{ℕ, zero, suc, ◌+◌, ◌*◌, ◌-◌, ◌≤◌, ◌<◌}
use Rattle.std.proofs.Common.{arith, suc-mul, ◌∙◌, subst, length-take, length-drop}
use Rattle.std.proofs.Math.Numerals.{add-one}
use Rattle.std.proofs.Math.Nat.{zero-mul}
use Rattle.std.proofs.Math.Path.{◌≡◌, refl, sym, ap}
use Rattle.std.specs.Prelude.{Bool, ◌&&◌, length, take, drop, replicate}
use Rattle.std.proofs.Math.Bool.{true, false, cond}
use mathlib.Core.List.{List, [], ◌∷◌, map}
use borrow.Author.Tests.{ne_eqb, ltb-true, lt-ltb, le-ltb}
use Rattle.std.proofs.Math.Dec.{eqb, ltb}
use Rattle.std.proofs.Math.ListN.{get_or, get_or-replicate}
use Rattle.std.proofs.lemmas.List.{length-map}
use Rattle.std.proofs.Math.Seq.{drop-drop}
use Rattle.rules.specs.Lists.{filter}
use Rattle.rules.specs.Flash.{Bytes, word}
use Rattle.rules.specs.Unit.{live, retired, room_of}
use Rattle.rules.specs.Settled.{Physical, Home, physical, the_first, units_from, units_of, is_in, homes_for, one_each, homes_from}
use Rattle.laws.specs.Words.{word_drop, word_take}
use Rattle.rules.specs.declared.Geometry.{Geometry}
use Rattle.unit.specs.Tests.{elim_inv, when}
pub use Rattle.home_table.specs.Units.{unit_at}
use Rattle.home_table.specs.Units.{logical_of, state_of}
unfoldable pub use Rattle.home_table.specs.Places.{housed}
use Rattle.home_table.specs.Places.{claims, claims_of, either, eithers, places_of}
use Rattle.home_table.specs.Who.{holders, claim_all, who, nobody, sole, several, head_holder, eithers_at}

abbrev pub standing : ℕ → Bytes → ℕ → Physical
standing S s u = physical (u * S) (unit_at S s u)

module _ (S : ℕ) (s : Bytes) (u : ℕ) where
  pub unit_long : u * S + S ≤ length s → length (unit_at S s u) ≡ S
  unit_long k = simp (length-take, length-drop) (omega arith)

  -- it is what the code lends of the image, from the unit's place on
  module _ (b : ℕ) (e : b ≡ u * S) where
    pub lent : take (b + S - b) (drop b s) ≡ unit_at S s u
    lent =
        let w : b + S - b ≡ S = omega arith in
        rw (w, e)

    pub lent_long : u * S + S ≤ length s → length (take (b + S - b) (drop b s)) ≡ S
    lent_long k = ap length lent ∙ unit_long k

module _ (S : ℕ) (s : Bytes) (u : ℕ) (h : 4 ≤ S) where
  pub logical_at : word (unit_at S s u) 0 ≡ logical_of S s u
  logical_at =
      let e : u * S + 0 ≡ u * S = omega arith in
      word_take S (drop (u * S) s) 0 (omega arith) ∙ word_drop (u * S) s 0 ∙ ap (word s) e

  pub state_at_lem : word (unit_at S s u) 2 ≡ state_of S s u
  state_at_lem = word_take S (drop (u * S) s) 2 (omega arith) ∙ word_drop (u * S) s 2

-- the units in state f with logical number L are the holders
module _ (g : Geometry) (s : Bytes) (h : 4 ≤ g.size) where
  pub next_unit : (u : ℕ) → u * g.size + g.size ≡ (u + 1) * g.size
  next_unit u = rw (add-one, suc-mul)

  in_law : (L f u : ℕ) → is_in L f (standing g.size s u) ≡ (eqb (logical_of g.size s u) L && eqb (state_of g.size s u) f)
  unfolding is_in physical
  in_law L f u = rw (logical_at g.size s u h, state_at_lem g.size s u h)

  pub holders_law : (f L k u : ℕ)
      → filter (is_in L f) (units_from g k (u * g.size) (drop (u * g.size) s)) ≡ map (standing g.size s) (holders g.size s f L k u)
  unfolding filter units_from holders
  holders_law f L zero u = refl
  holders_law f L (suc k) u =
      rw (in_law L f u, drop-drop g.size (u * g.size) s, next_unit u)
      (go (eqb (logical_of g.size s u) L) (eqb (state_of g.size s u) f) (holders_law f L k (u + 1)))
    where
      go : (x y : Bool)
          → filter (is_in L f) (units_from g k ((u + 1) * g.size) (drop ((u + 1) * g.size) s)) ≡ map (standing g.size s) (holders g.size s f L k (u + 1))
          → cond (x && y) (standing g.size s u ∷ filter (is_in L f) (units_from g k ((u + 1) * g.size) (drop ((u + 1) * g.size) s))) (filter (is_in L f) (units_from g k ((u + 1) * g.size) (drop ((u + 1) * g.size) s)))
          ≡ map (standing g.size s) (cond y (cond x (u ∷ holders g.size s f L k (u + 1)) (holders g.size s f L k (u + 1))) (holders g.size s f L k (u + 1)))
      go true true e = ap (λ (l : List Physical). standing g.size s u ∷ l) e
      go true false e = e
      go false true e = e
      go false false e = e

-- ---- one home each
somebody : (x : ℕ) (xs : List ℕ) → x < 64 → claim_all 255 (x ∷ xs) ≡ 255 → ⊥
somebody x [] h e = omega (arith, sole x)
somebody x (y ∷ xs) h e = omega (arith, several x y xs h)

-- the units that may be L's home
unfoldable pub candidates : ℕ → ℕ → Bytes → ℕ → List ℕ
candidates S U s L = elim (holders S s live L U 0) [ [] ↦ holders S s retired L U 0 | x ∷ xs ↦ x ∷ xs ]

module _ (g : Geometry) (s : Bytes) (h : 4 ≤ g.size) (small : g.units ≤ 64) where
  abbrev S : ℕ
  S = g.size

  abbrev U : ℕ
  U = g.units

  whole : (f L : ℕ) → filter (is_in L f) (units_of g s) ≡ map (standing S s) (holders S s f L U 0)
  unfolding units_of
  whole f L =
      let z : 0 * S ≡ 0 = zero-mul S in
      rw z at (holders_law g s h f L U 0)

  pub candidates_law : (L : ℕ) → homes_for (units_of g s) L ≡ map (standing S s) (candidates S U s L)
  unfolding homes_for candidates
  candidates_law L = go (holders S s live L U 0) (holders S s retired L U 0) (sym (whole live L)) (sym (whole retired L))
    where
      base : (xs ys : List ℕ)
          → (elim (map (standing S s) xs) as (λ (l : List Physical). List Physical) [ [] ↦ map (standing S s) ys | q ∷ qs ↦ q ∷ qs ])
          ≡ map (standing S s) (elim xs as (λ (l : List ℕ). List ℕ) [ [] ↦ ys | x ∷ xs ↦ x ∷ xs ])
      base [] ys = refl
      base (x ∷ xs) ys = refl

      go : (xs ys : List ℕ) {ls rs : List Physical} → map (standing S s) xs ≡ ls → map (standing S s) ys ≡ rs
          → (elim ls as (λ (l : List Physical). List Physical) [ [] ↦ rs | q ∷ qs ↦ q ∷ qs ])
          ≡ map (standing S s) (elim xs as (λ (l : List ℕ). List ℕ) [ [] ↦ ys | x ∷ xs ↦ x ∷ xs ])
      go xs ys {ls} {rs} e d =
          subst (λ (l : List Physical). (elim l as (λ (l : List Physical). List Physical) [ [] ↦ rs | q ∷ qs ↦ q ∷ qs ]) ≡ map (standing S s) (elim xs as (λ (l : List ℕ). List ℕ) [ [] ↦ ys | x ∷ xs ↦ x ∷ xs ])) e
          (subst (λ (r : List Physical). (elim (map (standing S s) xs) as (λ (l : List Physical). List Physical) [ [] ↦ r | q ∷ qs ↦ q ∷ qs ]) ≡ map (standing S s) (elim xs as (λ (l : List ℕ). List ℕ) [ [] ↦ ys | x ∷ xs ↦ x ∷ xs ])) d
          (base xs ys))

  -- what all claims together name
  record Named (xs : List ℕ) (v : ℕ) : Type 0 where
    sure : ltb v U ≡ eqb (length xs) 1
    alone : v < U → xs ≡ v ∷ []

  named : (xs : List ℕ) → ((x : ℕ) (ys : List ℕ) → xs ≡ x ∷ ys → x < U) → Named xs (claim_all 255 xs)
  unfolding claim_all
  named [] b = record { sure = le-ltb 255 U (omega arith); alone = λ k. absurd (omega arith) }
  named (x ∷ []) b =
      let e : claim_all 255 (x ∷ []) ≡ x = sole x in
      rw e (record { sure = lt-ltb x U (b x [] refl); alone = λ k. refl })
  named (x ∷ y ∷ xs) b =
      let l : x < U = b x (y ∷ xs) refl in
      let e : claim_all 255 (x ∷ y ∷ xs) ≡ 254 = several x y xs (omega arith) in
      rw e (record { sure = le-ltb 254 U (omega arith) ∙ sym (ne_eqb (suc (suc (length xs))) 1 (λ k. omega arith)); alone = λ k. absurd (omega arith) })

  heads : (f L : ℕ) (x : ℕ) (ys : List ℕ) → holders S s f L U 0 ≡ x ∷ ys → x < U
  heads f L x ys e = omega (arith, (head_holder S s f L U 0 x ys e).below)

  -- what stands at L's place: below U the one candidate, else there is none or there are several
  pub record HomePlace (L v : ℕ) : Type 0 where
    pub sure : ltb v U ≡ eqb (length (candidates S U s L)) 1
    pub alone : v < U → candidates S U s L ≡ v ∷ []
    pub number : v < U → logical_of S s v ≡ L

  from_claims : (L : ℕ) → HomePlace L (either (claim_all 255 (holders S s live L U 0)) (claim_all 255 (holders S s retired L U 0)))
  unfolding candidates
  from_claims L = go (holders S s live L U 0) refl
    where
      here : (f : ℕ) (v : ℕ) → Named (holders S s f L U 0) v → candidates S U s L ≡ holders S s f L U 0 → HomePlace L v
      here f v n e =
          record {
            sure = rw e n.sure;
            alone = λ k. e ∙ n.alone k;
            number = λ k. (head_holder S s f L U 0 v [] (n.alone k)).number;
          }

      go : (ls : List ℕ) → holders S s live L U 0 ≡ ls → HomePlace L (either (claim_all 255 (holders S s live L U 0)) (claim_all 255 (holders S s retired L U 0)))
      go [] e =
          let c : candidates S U s L ≡ holders S s retired L U 0 = rw (e, candidates) in
          let v : claim_all 255 (holders S s live L U 0) ≡ 255 = ap (claim_all 255) e ∙ nobody in
          rw v (here retired (claim_all 255 (holders S s retired L U 0)) (named (holders S s retired L U 0) (heads retired L)) c)
      go (x ∷ xs) e =
          let c : candidates S U s L ≡ holders S s live L U 0 = rw (e, candidates) in
          let n : Named (holders S s live L U 0) (claim_all 255 (holders S s live L U 0)) = named (holders S s live L U 0) (heads live L) in
          let q : eqb (claim_all 255 (holders S s live L U 0)) 255 ≡ false = ne_eqb (claim_all 255 (holders S s live L U 0)) 255 (λ k. somebody x xs (omega (arith, heads live L x xs e)) (ap (claim_all 255) (sym e) ∙ k)) in
          rw q (here live (claim_all 255 (holders S s live L U 0)) n c)

  pub place : (L : ℕ) → L < U - 1 → HomePlace L (get_or (places_of S U s) L 0)
  unfolding places_of claims_of
  place L l =
      let a = claims S s (U - 1) live U 0 (replicate 64 255) in
      let b = claims S s (U - 1) retired U 0 (replicate 64 255) in
      let e : get_or (eithers a b (U - 1) 0 (replicate 64 0)) L 0 ≡ either (get_or a L 0) (get_or b L 0) = eithers_at a b (U - 1) 0 (replicate 64 0) L (omega arith) (omega arith) (omega arith) in
      rw (e, claim_at live, claim_at retired) (from_claims L)
    where
      claim_at : (f : ℕ) → get_or (claims S s (U - 1) f U 0 (replicate 64 255)) L 0 ≡ claim_all 255 (holders S s f L U 0)
      claim_at f =
          let z : ◌≡◌ {A = ℕ} (get_or (replicate 64 255) L 0) 255 = get_or-replicate 64 L 255 0 (omega arith) in
          who S s (U - 1) f L l U 0 (replicate 64 255) (omega arith) ∙ ap (λ (v : ℕ). claim_all v (holders S s f L U 0)) z

-- their homes
unfoldable pub houses : Geometry → Bytes → List ℕ → ℕ → ℕ → List Home
houses g s at zero L = []
houses g s at (suc k) L =
    let p = standing g.size s (get_or at L 0) in
    record { number = L; unit = p; room = room_of g p.bytes } ∷ houses g s at k (L + 1)

pub houses_long : (g : Geometry) (s : Bytes) (at : List ℕ) (k L : ℕ) → length (houses g s at k L) ≡ k
unfolding houses
houses_long g s at zero L = refl
houses_long g s at (suc k) L = ap suc (houses_long g s at k (L + 1))

module _ (g : Geometry) (s : Bytes) (h : 4 ≤ g.size) (small : g.units ≤ 64) where
  abbrev at : List ℕ
  at = places_of g.size g.units s

  pub one_each_law : (k L : ℕ) → L + k ≤ g.units - 1 → one_each k L (units_of g s) ≡ housed g.units at k L
  unfolding one_each housed
  one_each_law zero L l = refl
  one_each_law (suc k) L l =
      let p = place g s h small L (omega arith) in
      let e : eqb (length (homes_for (units_of g s) L)) 1 ≡ ltb (get_or at L 0) g.units = ap (λ (x : List Physical). eqb (length x) 1) (candidates_law g s h small L) ∙ ap (λ (x : ℕ). eqb x 1) (length-map (candidates g.size g.units s L) (standing g.size s)) ∙ sym p.sure in
      let r : one_each k (suc L) (units_of g s) ≡ housed g.units at k (L + 1) = ap (λ (n : ℕ). one_each k n (units_of g s)) (sym (add-one L)) ∙ one_each_law k (L + 1) (omega arith) in
      ap (λ (x : Bool). when x (one_each k (suc L) (units_of g s))) e ∙ ap (when (ltb (get_or at L 0) g.units)) r

  pub homes_law : (k L : ℕ) → L + k ≤ g.units - 1 → housed g.units at k L ≡ true → homes_from g k L (units_of g s) ≡ houses g s at k L
  unfolding homes_from houses housed the_first
  homes_law zero L l e = refl
  homes_law (suc k) L l e =
      let p = place g s h small L (omega arith) in
      let i = elim_inv (ltb (get_or at L 0) g.units) (housed g.units at k (L + 1)) e in
      let v : get_or at L 0 < g.units = ltb-true (get_or at L 0) g.units i.0 in
      let q : homes_for (units_of g s) L ≡ standing g.size s (get_or at L 0) ∷ [] = candidates_law g s h small L ∙ ap (map (standing g.size s)) (p.alone v) in
      rw (q, ← add-one L, homes_law k (L + 1) (omega arith) i.1)
