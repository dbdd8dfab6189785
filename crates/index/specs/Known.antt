-- Whoever knows that an image is settled or sound has what an index asks: the homes' table, and not more than 257 pending ones.
use Rattle.std.specs.Prelude.{ℕ, zero, suc, ◌+◌, ◌*◌, ◌-◌, ◌≤◌, ◌<◌, ◌≡◌, Bool, true, false, ltb, eqb, length}
use Rattle.std.proofs.Common.{arith, add-zero, zero-add, sym, ◌∙◌, eqb-true, ltb-true}
use Rattle.std.proofs.Math.Nat.{eq_of_mul-eq-mul_right}
use Rattle.std.proofs.Math.Path.{refl, ap}
use mathlib.Core.List.{List}
use Rattle.std.proofs.lemmas.Bool.{eqb-false}
use Rattle.std.proofs.Math.ListN.{get_or}
use Rattle.rules.specs.Flash.{Bytes, word, is_geometry}
use Rattle.rules.specs.Unit.{is_pending_file}
use Rattle.rules.specs.Settled.{Physical, Home, physical, survey, pick, select, counts}
use Rattle.rules.specs.Sound.{home_at, standing}
use Rattle.rules.specs.declared.Geometry.{Geometry}
use Rattle.rules.specs.declared.Standing.TheVariants.{Neither}
use Rattle.laws.specs.Homes.{housed_parts, sound_housed}
use Rattle.laws.specs.Units.{RightGeometry, right_geometry}
use Rattle.unit.specs.Tests.{no}
use Rattle.home_table.specs.Places.{places_of}
use Rattle.home_table.specs.Bridge.{unit_at, housed, houses, one_each_law, homes_law, place}
use Rattle.index.specs.Shapes.{Homed}
use Rattle.index.specs.AtMostOne.{few_more, sound_few}

-- two tables that agree below U-1
houses_same : (g : Geometry) (s : Bytes) (home at : List ℕ) (k L : ℕ) → ((M : ℕ) → L ≤ M → M < L + k → get_or home M 0 ≡ get_or at M 0) → houses g s home k L ≡ houses g s at k L
unfolding houses
houses_same g s home at zero L e = refl
houses_same g s home at (suc k) L e = rw (e L (omega arith) (omega arith), houses_same g s home at k (L + 1) (λ M a b. e M (omega arith) (omega arith)))

same_homed : (g : Geometry) (s : Bytes) (home at : List ℕ) → ((L : ℕ) → L < g.units - 1 → get_or home L 0 ≡ get_or at L 0) → Homed g s at → Homed g s home
same_homed g s home at e h =
    record {
      right = h.right;
      below = λ L l. rw (e L l) (h.below L l);
      number = λ L l. rw (e L l) (h.number L l);
      homes = h.homes ∙ sym (houses_same g s home at (g.units - 1) 0 (λ M a b. e M (omega arith)));
    }

house_base : (g : Geometry) (s : Bytes) (at : List ℕ) (k M L : ℕ) → L < k → (home_at (houses g s at k M) L).unit.base ≡ get_or at (M + L) 0 * g.size
unfolding houses home_at physical
house_base g s at zero M L l = absurd (omega arith)
house_base g s at (suc k) M zero l = rw add-zero
house_base g s at (suc k) M (suc L) l =
    let e : M + 1 + L ≡ M + suc L = omega arith in
    rw (← e) (house_base g s at k (M + 1) L (omega arith))

housed_at : (U : ℕ) (at : List ℕ) (k M : ℕ) → housed U at k M ≡ true → (L : ℕ) → M ≤ L → L < M + k → get_or at L 0 < U
unfolding housed
housed_at U at zero M h L a b = absurd (omega arith)
housed_at U at (suc k) M h L a b = go (ltb (get_or at M 0) U) (eqb M L) refl refl h (λ e x y. housed_at U at k (M + 1) e L x y)
  where
    go : (t q : Bool) → ltb (get_or at M 0) U ≡ t → eqb M L ≡ q → (elim t as (λ (x : Bool). Bool) [ true ↦ housed U at k (M + 1) | false ↦ false ]) ≡ true
        → (housed U at k (M + 1) ≡ true → M + 1 ≤ L → L < M + 1 + k → get_or at L 0 < U) → get_or at L 0 < U
    go true true p q h rec = rw (← eqb-true M L q) (ltb-true (get_or at M 0) U p)
    go true false p q h rec =
        let n : M ≡ L → ⊥ = eqb-false M L q in
        rec h (omega arith) (omega arith)
    go false q p r h rec = no h

module _ (g : Geometry) (s : Bytes) (right : is_geometry g (length s) ≡ true) (sound : standing g (survey g s) ≡ Neither → ⊥) where
  pub few_pending : length (select is_pending_file (survey g s)) ≤ 257
  unfolding select counts
  few_pending = omega (arith, few_more (pick is_pending_file (survey g s).entries), (sound_few g (survey g s) sound).pairs)

  o : RightGeometry g s
  o = right_geometry g s right

  h : 4 ≤ g.size
  h = omega (arith, o.large)

  -- each logical number has a home
  pub all_housed : housed g.units (places_of g.size g.units s) (g.units - 1) 0 ≡ true
  unfolding survey
  all_housed =
      sym (one_each_law g s h o.few (g.units - 1) 0 (omega arith))
      ∙ (housed_parts g (survey g s) (sound_housed g (survey g s) sound)).one

  pub sound_homed : (home : List ℕ) → home ≡ places_of g.size g.units s → Homed g s home
  unfolding survey
  sound_homed home e = rw e (record { right = right; below = below; number = number; homes = homes_law g s h o.few (g.units - 1) 0 (omega arith) all_housed })
    where
      below : (L : ℕ) → L < g.units - 1 → get_or (places_of g.size g.units s) L 0 < g.units
      below L l = housed_at g.units (places_of g.size g.units s) (g.units - 1) 0 all_housed L (omega arith) (omega arith)

      number : (L : ℕ) → L < g.units - 1 → word s (get_or (places_of g.size g.units s) L 0 * g.size) ≡ L
      number L l = (place g s h o.few L l).number (below L l)

  -- the table that names the unit of each home
  pub shown_homed : (home : List ℕ) → ((L : ℕ) → L < g.units - 1 → (home_at (survey g s).homes L).unit ≡ physical (get_or home L 0 * g.size) (unit_at g.size s (get_or home L 0)))
      → Homed g s home
  unfolding physical
  shown_homed home e =
      let at = places_of g.size g.units s in
      let h = sound_homed at refl in
      same_homed g s home at
      (λ L l.
      let a : (home_at (survey g s).homes L).unit.base ≡ get_or home L 0 * g.size = ap (λ (p : Physical). p.base) (e L l) in
      let b : (home_at (survey g s).homes L).unit.base ≡ get_or at (0 + L) 0 * g.size = ap (λ (hs : List Home). (home_at hs L).unit.base) h.homes ∙ house_base g s at (g.units - 1) 0 L l in
      eq_of_mul-eq-mul_right g.size (omega (arith, o.large)) (get_or home L 0) (get_or at L 0) (sym a ∙ b ∙ rw zero-add))
      h
