-- What a handle names: the one entry with its logical unit and position, where it is current.
use Prim.Native.Nat.{ℕ, zero, suc, ◌+◌, ◌*◌, ◌-◌, ◌≤◌, ◌<◌}
use Rattle.std.proofs.Common.{arith, add-one, zero-add, ◌∙◌, eq-eqb, ne_eqb, eqb-true, lt-ltb, le-ltb}
use Rattle.std.specs.Prelude.{◌≡◌, ◌&&◌, ltb, get_or}
use Rattle.std.proofs.Math.Path.{refl, ap}
use Rattle.std.proofs.Math.Bool.{Bool, true, false, cond}
use mathlib.Core.List.{List, [], ◌∷◌, ◌++◌, append-nil}
use Rattle.std.proofs.lemmas.Bool.{eqb-false}
use Rattle.std.proofs.Math.Dec.{eqb}
use Rattle.std.proofs.Math.ListN.{length, drop}
use Rattle.rules.specs.Lists.{filter, first}
use Rattle.rules.specs.Flash.{Bytes}
use Rattle.rules.specs.Unit
use Rattle.rules.specs.Unit.{Descriptor, stands, is_current_file}
use Rattle.rules.specs.Settled.{Physical, Home, Entry, physical, entries_in, entries_of, survey, pick, select}
use Rattle.rules.specs.Calls.{is_at}
use Rattle.rules.specs.declared.Geometry.{Geometry}
use Rattle.laws.specs.Units.{RightGeometry, right_geometry, row}
use Rattle.unit.specs.Shapes.{descriptor_at, room_of, table, array_of}
use Rattle.unit.specs.Laws.{next_place}
use Rattle.unit.specs.BridgeRoom.{array_is}
use Rattle.home_table.specs.Bridge.{unit_at, standing, houses, unit_long}
use Rattle.index.specs.Shapes.{place_of, Homed, current_in}

-- what the handle L:p names among the entries
unfoldable named : ℕ → ℕ → List Entry → List Entry
named L p es = filter (is_at L p) (pick is_current_file es)

module _ (L p : ℕ) where
  named_append : (xs ys : List Entry) → named L p (xs ++ ys) ≡ named L p xs ++ named L p ys
  unfolding named pick filter
  named_append [] ys = refl
  named_append (e ∷ xs) ys = go (is_current_file e.descriptor) (is_at L p e) refl (named_append xs ys)
    where
      one : Bool → List Entry → List Entry
      one b es = cond b (e ∷ pick is_current_file es) (pick is_current_file es)

      go : (b t : Bool) → is_at L p e ≡ t → named L p (xs ++ ys) ≡ named L p xs ++ named L p ys → filter (is_at L p) (one b (xs ++ ys)) ≡ filter (is_at L p) (one b xs) ++ named L p ys
      go true true q h = rw q (ap (λ (l : List Entry). e ∷ l) h)
      go true false q h = rw q h
      go false t q h = h

  named_other : (e : Entry) (es : List Entry) → is_at L p e ≡ false → named L p (e ∷ es) ≡ named L p es
  unfolding named pick filter
  named_other e es q = go (is_current_file e.descriptor)
    where
      go : (b : Bool) → filter (is_at L p) (cond b (e ∷ pick is_current_file es) (pick is_current_file es)) ≡ filter (is_at L p) (pick is_current_file es)
      go true = rw q
      go false = refl

  named_this : (e : Entry) (es : List Entry) → is_at L p e ≡ true → named L p es ≡ [] → place_of (first (named L p (e ∷ es))) ≡ cond (is_current_file e.descriptor) e.place 0
  unfolding named pick filter first place_of
  named_this e es q h = go (is_current_file e.descriptor)
    where
      go : (b : Bool) → place_of (first (filter (is_at L p) (cond b (e ∷ pick is_current_file es) (pick is_current_file es)))) ≡ cond b e.place 0
      go true = rw q
      go false = rw h

  -- another logical number's entries, and positions past p
  other_unit : (M : ℕ) (ph : Physical) (i : ℕ) (ds : List Descriptor) → (M ≡ L → ⊥) → named L p (entries_in M ph i ds) ≡ []
  unfolding entries_in named pick filter is_at
  other_unit M ph i [] n = refl
  other_unit M ph i (d ∷ ds) n = named_other _ (entries_in M ph (suc i) ds) (apart n) ∙ other_unit M ph (suc i) ds n
    where
      apart : (M ≡ L → ⊥) → (eqb M L && eqb i p) ≡ false
      apart n = rw (ne_eqb M L n)

  past : (ph : Physical) (i : ℕ) (ds : List Descriptor) → p < i → named L p (entries_in L ph i ds) ≡ []
  unfolding entries_in named pick filter is_at
  past ph i [] l = refl
  past ph i (d ∷ ds) l = named_other _ (entries_in L ph (suc i) ds) (apart (eqb L L) (ne_eqb i p (λ e. omega arith))) ∙ past ph (suc i) ds (omega arith)
    where
      apart : (b : Bool) → eqb i p ≡ false → (b && eqb i p) ≡ false
      apart true q = q
      apart false q = refl

  same_at : (i : ℕ) → i ≡ p → (eqb L L && eqb i p) ≡ true
  same_at i e = rw (eq-eqb L L refl, eq-eqb i p e)

  other_at : (i : ℕ) → eqb i p ≡ false → (eqb L L && eqb i p) ≡ false
  other_at i q = rw (eq-eqb L L refl, q)

  -- the entries of its own unit
  module _ (u : Bytes) (ph : Physical) where
    abbrev here : ℕ
    here = cond (is_current_file (descriptor_at u (stands p))) (ph.base + stands p) 0

    in_unit : (k i : ℕ) → i ≤ p → place_of (first (named L p (entries_in L ph i (table k (drop (stands i) u))))) ≡ cond (ltb p (i + k)) here 0
    unfolding entries_in table named pick filter first place_of is_at
    in_unit zero i l = rw (le-ltb p (i + 0) (omega arith))
    in_unit (suc k) i l = go (eqb i p) refl (λ m. in_unit k (suc i) m)
      where
        next : drop 8 (drop (stands i) u) ≡ drop (stands (suc i)) u
        next = next_place u i ∙ ap (λ (n : ℕ). drop (stands n) u) (add-one i)

        rest : List Entry
        rest = entries_in L ph (suc i) (table k (drop 8 (drop (stands i) u)))

        go : (b : Bool) → eqb i p ≡ b
            → (suc i ≤ p → place_of (first (named L p (entries_in L ph (suc i) (table k (drop (stands (suc i)) u))))) ≡ cond (ltb p (suc i + k)) here 0)
            → place_of (first (named L p (entries_in L ph i (table (suc k) (drop (stands i) u))))) ≡ cond (ltb p (i + suc k)) here 0
        go true q rec =
            let t : i ≡ p = eqb-true i p q in
            rw (lt-ltb p (i + suc k) (omega arith))
            (named_this _ rest (same_at i t) (past ph (suc i) (table k (drop 8 (drop (stands i) u))) (omega arith))
            ∙ rw t)
        go false q rec =
            let n : i ≡ p → ⊥ = eqb-false i p q in
            let m : i + suc k ≡ suc i + k = omega arith in
            ap (λ (l : List Entry). place_of (first l)) (named_other _ rest (other_at i q)) ∙ rw (next, m) (rec (omega arith))

-- ---- all homes
module _ (g : Geometry) (s : Bytes) (home : List ℕ) (known : Homed g s home) (L p : ℕ) where
  abbrev h : ℕ
  h = get_or home L 0

  o : RightGeometry g s
  o = right_geometry g s known.right

  nobody : (k M : ℕ) → ((N : ℕ) → M ≤ N → N < M + k → N ≡ L → ⊥) → named L p (entries_of (houses g s home k M)) ≡ []
  unfolding entries_of houses named pick filter
  nobody zero M n = refl
  nobody (suc k) M n =
      let ph = standing g.size s (get_or home M 0) in
      let ds = (Unit.room_of g ph.bytes).array in
      named_append L p (entries_in M ph 0 ds) (entries_of (houses g s home k (M + 1)))
      ∙ rw (other_unit L p M ph 0 ds (n M (omega arith) (omega arith))) (nobody k (M + 1) (λ N a b e. n N (omega arith) (omega arith) e))

  own : L < g.units - 1 → place_of (first (named L p (entries_in L (standing g.size s h) 0 (Unit.room_of g (unit_at g.size s h)).array))) ≡ current_in (h * g.size) p (unit_at g.size s h)
  unfolding current_in stands array_of physical
  own l =
      let u = unit_at g.size s h in
      let n = (room_of g.size u).n in
      let w : length u ≡ g.size = unit_long g.size s h (omega (arith, row h g.units g.size (known.below L l), o.whole)) in
      rw (w, ← array_is g u) (in_unit L p u (standing g.size s h) n 0 (omega arith) ∙ rw zero-add)

  found : (k M : ℕ) → M ≤ L → L < M + k → L < g.units - 1 → place_of (first (named L p (entries_of (houses g s home k M)))) ≡ current_in (h * g.size) p (unit_at g.size s h)
  unfolding entries_of houses physical
  found zero M a b l = absurd (omega arith)
  found (suc k) M a b l = go (eqb M L) refl (λ x y. found k (M + 1) x y l)
    where
      ph : ℕ → Physical
      ph N = standing g.size s (get_or home N 0)

      rest : ℕ → List Entry
      rest N = entries_of (houses g s home k (N + 1))

      go : (t : Bool) → eqb M L ≡ t → (M + 1 ≤ L → L < M + 1 + k → place_of (first (named L p (rest M))) ≡ current_in (h * g.size) p (unit_at g.size s h))
          → place_of (first (named L p (entries_in M (ph M) 0 (Unit.room_of g (unit_at g.size s (get_or home M 0))).array ++ rest M))) ≡ current_in (h * g.size) p (unit_at g.size s h)
      go true q rec =
          let t : M ≡ L = eqb-true M L q in
          let xs = entries_in L (ph L) 0 (Unit.room_of g (unit_at g.size s h)).array in
          let z : named L p (rest L) ≡ [] = nobody k (L + 1) (λ N a b e. omega arith) in
          rw t (ap (λ (l : List Entry). place_of (first l)) (named_append L p xs (rest L) ∙ ap (λ (l : List Entry). named L p xs ++ l) z ∙ append-nil (named L p xs)) ∙ own l)
      go false q rec =
          let n : M ≡ L → ⊥ = eqb-false M L q in
          let xs = entries_in M (ph M) 0 (Unit.room_of g (unit_at g.size s (get_or home M 0))).array in
          let z : named L p xs ≡ [] = other_unit L p M (ph M) 0 (Unit.room_of g (unit_at g.size s (get_or home M 0))).array n in
          ap (λ (l : List Entry). place_of (first l)) (named_append L p xs (rest M) ∙ ap (λ (l : List Entry). l ++ named L p (rest M)) z) ∙ rec (omega arith) (omega arith)

  whole : filter (is_at L p) (select is_current_file (survey g s)) ≡ named L p (entries_of (houses g s home (g.units - 1) 0))
  unfolding named select survey
  whole = ap (λ (hs : List Home). named L p (entries_of hs)) known.homes

  -- the place of what the handle names, and none where its logical unit is over U-2
  pub at_home : L < g.units - 1 → place_of (first (filter (is_at L p) (select is_current_file (survey g s)))) ≡ current_in (h * g.size) p (unit_at g.size s h)
  at_home l = rw whole (found (g.units - 1) 0 (omega arith) (omega arith) l)

  pub at_none : g.units - 1 ≤ L → place_of (first (filter (is_at L p) (select is_current_file (survey g s)))) ≡ 0
  unfolding first place_of
  at_none l = rw (whole, nobody (g.units - 1) 0 (λ N a b e. omega arith))
