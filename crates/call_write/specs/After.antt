-- A store in a unit that is reclaimed first, by what the code knows of the image.
use Rattle.std.specs.Prelude.{true, ◌≡◌, refl, ℕ, ◌+◌, ◌-◌, ◌*◌, ◌/◌, ◌≤◌, ◌<◌, get_or, length}
use mathlib.Core.List.{List, [], ◌∷◌, ◌++◌}
use Rattle.std.proofs.Common.{◌∙◌, le-div_iff_mul-le, mul-le-mul_right, arith, eq-eqb, ne_eqb}
use Rattle.std.proofs.Math.Path.{ap, ap₂, sym}
use Rattle.std.proofs.Math.Decide.{dec_lt, ℕ_discrete}
use Rattle.rules.specs.Flash.{Bytes, Step, is_geometry, program}
use Rattle.rules.specs.Unit.{Room, header_bytes, old, stands}
use Rattle.rules.specs.Settled.{Entry, Home, Physical, physical, survey}
use Rattle.rules.specs.Sound.{home_at}
use Rattle.rules.specs.Jobs
use Rattle.rules.specs.Answers.{Plan, makes}
use Rattle.rules.specs.Calls.{storing}
use Rattle.rules.specs.Jobs.{can, become, earlier_of, fill_in, move, no_earlier, once_reclaimed, reclaim, size_for, store_job, vacant}
use Rattle.laws.specs.Places.{place_once}
use Rattle.rules.specs.declared.Geometry.{Geometry}
use Rattle.rules.specs.declared.Rule.{Rule}
use Rattle.laws.specs.Units.{right_geometry}
use Rattle.theory_sound.specs.AnySound.{settled_safe, settled_quiet}
use Rattle.step_new.specs.Places.{become_at, one_at, become_is}
use Rattle.judge.specs.Judged.{unit_in}
use Rattle.index.specs.Shapes.{base_at, places}
use Rattle.place.specs.Homes.{home_in}
use Rattle.place.specs.Homes as homes
use Rattle.place.specs.Search.{room_once}
use Rattle.theory.specs.Images.Layout.{are_bytes}
use Rattle.theory.specs.After.Rebased.{places_of, rebased, rebased_all}
use Rattle.theory.specs.After.Rebased as there
use Rattle.theory.specs.After.AfterMove.{moved_place}
use Rattle.theory.specs.After.StoreAfter.{begin_reclaimed, room_after, store_reclaimed, stored_after}
use Rattle.call_look.specs.Known.{Known, Remaining}
use Rattle.call_store.specs.Stores.{BehindIf, new_at, base_of, room_then, handle_then, moved_if, after_job}
use Rattle.call_store.specs.Moves.{moved_is, moved_none, moved_below, moved_above, moved_in}
use Rattle.call_store.specs.Laws.{home_is_lem}

-- ---- places
become_same : (f : ℕ) (l : List ℕ) → there.become_at f l ≡ become_at f l
unfolding there.become_at become_at
become_same f [] = refl
become_same f (a ∷ l) = ap {B = List Step} (λ (x : List Step). program a f ∷ x) (become_same f l)

places_same : (es : List Entry) → places_of es ≡ places es
unfolding places_of places
places_same [] = refl
places_same (e ∷ es) = ap {B = List ℕ} (λ (l : List ℕ). e.place ∷ l) (places_same es)

pub become_one : (es : List Entry) (a : ℕ) → places es ≡ one_at a → become old es ≡ become_at old (one_at a)
become_one es a e = become_is old es ∙ ap (become_at old) e

one_none : (a : ℕ) → a ≡ 0 → one_at a ≡ []
unfolding one_at
one_none a e = rw (eq-eqb a 0 e)

one_some : (a : ℕ) → (a ≡ 0 → ⊥) → one_at a ≡ a ∷ []
unfolding one_at
one_some a e = rw (ne_eqb a 0 e)

-- a place behind its unit's header is behind that of the unit it lies in
behind_from : (g : Geometry) (a i : ℕ) → 0 < g.size → header_bytes ≤ a - base_at g a → i * g.size ≤ a → header_bytes ≤ a - i * g.size
unfolding base_at
behind_from g a i p h l =
    let k : i ≤ a / g.size = (le-div_iff_mul-le {k = g.size} {x = i} {y = a} p).1 l in
    omega (arith, mul-le-mul_right g.size k)

module _ (g : Geometry) (bytes a i to : ℕ) (wide : 0 < g.size) (h : BehindIf g bytes a) where
  moved_none' : a ≡ 0 → rebased_all (rebased (i * g.size) to g.size) (one_at a) ≡ one_at (moved_if (i * g.size) to g.size a)
  unfolding rebased_all
  moved_none' e = rw (one_none a e) (sym (one_none (moved_if (i * g.size) to g.size a) (moved_none (i * g.size) to g.size a e)))

  module _ (some' : a ≡ 0 → ⊥) where
    nonzero : moved_if (i * g.size) to g.size a ≡ 0 → ⊥
    nonzero z = go (dec_lt a (i * g.size)) (dec_lt a (i * g.size + g.size))
      where
        go : Dec (a < i * g.size) → Dec (a < i * g.size + g.size) → ⊥
        go (yes x) y = some' (sym (moved_below (i * g.size) to g.size a some' x) ∙ z)
        go (no x) (no y) = some' (sym (moved_above (i * g.size) to g.size a some' (omega arith)) ∙ z)
        go (no x) (yes y) =
            let l : i * g.size ≤ a = omega arith in
            omega (arith, moved_in (i * g.size) to g.size a some' l y, behind_from g a i wide (h some').high l)

    moved_some' : rebased_all (rebased (i * g.size) to g.size) (one_at a) ≡ one_at (moved_if (i * g.size) to g.size a)
    unfolding rebased_all
    moved_some' = rw (one_some a some') (ap {B = List ℕ} (λ (x : ℕ). x ∷ []) (sym (moved_is (i * g.size) to g.size a some')) ∙ sym (one_some (moved_if (i * g.size) to g.size a) nonzero))

  moved_one : rebased_all (rebased (i * g.size) to g.size) (one_at a) ≡ one_at (moved_if (i * g.size) to g.size a)
  moved_one = go (ℕ_discrete a 0)
    where
      go : Dec (a ≡ 0) → rebased_all (rebased (i * g.size) to g.size) (one_at a) ≡ one_at (moved_if (i * g.size) to g.size a)
      go (yes e) = moved_none' e
      go (no e) = moved_some' e

-- ---- the store
after_by : Geometry → ℕ → Bytes → ℕ → Physical → Physical → Room → List Step → Plan
after_by g tag content L from to r end =
    makes (record { unit = L; position = vacant r.array })
    (move g L from to ++ (fill_in (to.base + stands (vacant r.array)) to.base (r.low - size_for content) tag content ++ end))

module _ (g : Geometry) (s : Bytes) (home : List ℕ) (left : ℕ) (known : Known g s home) (remaining : Remaining g s left) (bytes : are_bytes s ≡ true) (rule : Rule) (tag : ℕ) (content : Bytes) (a L : ℕ)
    (q : Jobs.place g rule (size_for content) (survey g s) ≡ once_reclaimed L) where
  is : home_at (survey g s).homes L ≡ home_in g s home L
  is = home_is_lem g s home known.homed L (place_once g s rule (size_for content) L q).0

  unit_is : (home_at (survey g s).homes L).unit ≡ unit_in g s (get_or home L 0)
  unit_is = ap (λ (x : Home). x.unit) is ∙ (unfold home_in homes.unit_in in refl)

  room_is : room_after g (survey g s) L ≡ room_then g s home L
  unfolding room_after room_then room_once
  room_is = ap (λ (x : Home). room_once g x.room) is

  -- by the places that become old
  stored_is : (ps : List ℕ) → there.become_at old ps ≡ become_at old (one_at (moved_if (base_of g home L) (left * g.size) g.size a))
      → storing (can (stored_after g tag content ps (survey g s) L)) ≡ makes (handle_then g s home L) (after_job g s home left tag content a L)
  unfolding storing stored_after reclaim after_by after_job new_at handle_then physical
  stored_is ps e = λ i. after_by g tag content L (unit_is i) (remaining.spare i) (room_is i) (e i)

  legal : is_geometry g (length s) ≡ true
  legal = known.homed.right

  -- a transaction
  pub begin_after : a ≡ 0 → storing (store_job g rule tag content no_earlier s (survey g s)) ≡ makes (handle_then g s home L) (after_job g s home left tag content a L)
  begin_after z =
      ap storing (begin_reclaimed g s (settled_safe g s legal bytes known.settled) (settled_quiet g s legal bytes known.settled) rule tag content L q)
      ∙ stored_is [] (become_same old [] ∙ ap (become_at old) (sym (one_none (moved_if (base_of g home L) (left * g.size) g.size a) (moved_none (base_of g home L) (left * g.size) g.size a z))))

  -- a change of a file
  pub change_after : (f : ℕ) → places (earlier_of f (survey g s)) ≡ one_at a → BehindIf g (length s) a
      → storing (store_job g rule tag content (earlier_of f) s (survey g s)) ≡ makes (handle_then g s home L) (after_job g s home left tag content a L)
  change_after f e b =
      ap storing (store_reclaimed g s (settled_safe g s legal bytes known.settled) (settled_quiet g s legal bytes known.settled) rule tag content L q f)
      ∙ stored_is (rebased_all (moved_place g (survey g s) L) (places_of (earlier_of f (survey g s)))) ends
    where
      moves_so : moved_place g (survey g s) L ≡ rebased (base_of g home L) (left * g.size) g.size
      moves_so = unfold moved_place physical in ap₂ (λ (x y : Physical). rebased x.base y.base g.size) unit_is remaining.spare

      ends : there.become_at old (rebased_all (moved_place g (survey g s) L) (places_of (earlier_of f (survey g s)))) ≡ become_at old (one_at (moved_if (base_of g home L) (left * g.size) g.size a))
      ends =
          become_same old (rebased_all (moved_place g (survey g s) L) (places_of (earlier_of f (survey g s))))
          ∙ ap (become_at old) (ap₂ rebased_all moves_so (places_same (earlier_of f (survey g s)) ∙ e) ∙ moved_one g (length s) a (get_or home L 0) (left * g.size) (omega (arith, (right_geometry g s legal).large)) b)
