-- A sound image case by case: what its descriptors are, and the three ways to be moving.
use Rattle.std.proofs.Math.Bool.{Bool}
use Rattle.std.specs.Prelude.{◌&&◌, ◌||◌, cond, false, not, true, List, ◌≡◌, ◌+◌, ◌-◌, ◌<◌, ◌≤◌, ℕ, ltb, length}
use Rattle.std.proofs.Common.{◌∙◌, ap, arith}
use Rattle.std.proofs.Math.Path.{refl}
use Rattle.std.proofs.Math.Dec.{eqb, leb}
use Rattle.rules.specs.Copy.{copy_of}
use Rattle.rules.specs.Lists.{filter}
use Rattle.rules.specs.Settled.{Counts, Entry, Home, Physical, Survey, counts, is_beside, is_current_ok, is_housed, is_live, is_quiet, is_still, pairs, pick}
use Rattle.rules.specs.Sound.{home_at, is_committing, is_complete, is_moving, is_unfinished, is_within, standing}
use Rattle.rules.specs.Unit.{is_allocated, is_committed, is_current_file, is_open, is_pending_file, is_torn, receiving, retired}
use Rattle.rules.specs.declared.Geometry.{Geometry}
use Rattle.rules.specs.declared.Standing.{Standing}
use Rattle.rules.specs.declared.Standing.TheVariants.{Neither, Settled, Sound}
use Rattle.theory.specs.Base.Facts.{and_l, and_r, eq_of, is_nil, le_of, lt_of, not-true, true_false}
use Rattle.theory.specs.Images.Stand.{fine, not_neither}
use Rattle.theory.specs.Tidying.Sorted.{Committing, Orderly, UnfinishedLists, committing, data_only, quiet_of, quiet_unfinished, sorted, unfinished}

-- ---- descriptors
module _ (es : List Entry) where
  abbrev T : ℕ
  T = length (pick is_torn es) + length (pick is_allocated es)

  abbrev W : ℕ
  W = pairs (pick is_pending_file es)

  abbrev G : Bool
  G = eqb (pairs (pick is_current_file es)) 0 && data_only (pick is_current_file es)

  abbrev beside' : Bool
  beside' = eqb (length (pick is_open es)) 1 || eqb (length (pick is_pending_file es)) 0

  unfinished_of : is_unfinished (counts es) ≡ true → UnfinishedLists (sorted es)
  unfolding is_unfinished counts is_current_ok is_beside
  unfinished_of h = go (eqb T 1 && beside' && eqb W 0) (eqb T 0 && leb W 1) refl refl (and_r (A && B && G) ((eqb T 1 && beside' && eqb W 0) || (eqb T 0 && leb W 1)) h)
    where
      A : Bool
      A = eqb (length (pick is_committed es)) 0

      B : Bool
      B = leb (length (pick is_open es)) 1

      h3 : A && B && G ≡ true
      h3 = and_l (A && B && G) ((eqb T 1 && beside' && eqb W 0) || (eqb T 0 && leb W 1)) h

      h2 : A && B ≡ true
      h2 = and_l (A && B) G h3

      made : T + W ≤ 1 → (T ≡ 1 → beside' ≡ true) → UnfinishedLists (sorted es)
      made t b =
          record {
            committed = is_nil (pick is_committed es) (eq_of (length (pick is_committed es)) 0 (and_l A B h2));
            opened = le_of (length (pick is_open es)) 1 (and_r A B h2);
            current = eq_of (pairs (pick is_current_file es)) 0 (and_l (eqb (pairs (pick is_current_file es)) 0) (data_only (pick is_current_file es)) (and_r (A && B) G h3));
            data' = and_r (eqb (pairs (pick is_current_file es)) 0) (data_only (pick is_current_file es)) (and_r (A && B) G h3);
            torn = t;
            beside = b;
          }

      go : (x y : Bool) → eqb T 1 && beside' && eqb W 0 ≡ x → eqb T 0 && leb W 1 ≡ y → x || y ≡ true → UnfinishedLists (sorted es)
      go true y e f k =
          let p = and_l (eqb T 1 && beside') (eqb W 0) e in
          made (omega (arith, eq_of T 1 (and_l (eqb T 1) beside' p), eq_of W 0 (and_r (eqb T 1 && beside') (eqb W 0) e))) (λ z. and_r (eqb T 1) beside' p)
      go false true e f k =
          let z : T ≡ 0 = eq_of T 0 (and_l (eqb T 0) (leb W 1) f) in
          made (omega (arith, z, le_of W 1 (and_r (eqb T 0) (leb W 1) f))) (λ o. absurd (let w : ⊥ = omega (arith, z, o) in w))
      go false false e f k = true_false false k refl

  committing_of : is_committing (counts es) ≡ true → Committing (sorted es)
  unfolding is_committing counts is_current_ok
  committing_of h =
      record {
        torn = is_nil (pick is_torn es) (omega (arith, none));
        allocated = is_nil (pick is_allocated es) (omega (arith, none));
        committed = eq_of (length (pick is_committed es)) 1 (and_r A B h2);
        opened = is_nil (pick is_open es) (eq_of (length (pick is_open es)) 0 (and_r (A && B) C h3));
        current = eq_of (pairs (pick is_current_file es)) 0 (and_l (eqb (pairs (pick is_current_file es)) 0) (data_only (pick is_current_file es)) ok);
        data' = and_r (eqb (pairs (pick is_current_file es)) 0) (data_only (pick is_current_file es)) ok;
        pending = eq_of W 0 (and_r (A && B && C) D h4);
      }
    where
      A : Bool
      A = eqb T 0

      B : Bool
      B = eqb (length (pick is_committed es)) 1

      C : Bool
      C = eqb (length (pick is_open es)) 0

      D : Bool
      D = eqb W 0

      h4 : A && B && C && D ≡ true
      h4 = and_l (A && B && C && D) G h

      h3 : A && B && C ≡ true
      h3 = and_l (A && B && C) D h4

      h2 : A && B ≡ true
      h2 = and_l (A && B) C h3

      ok : G ≡ true
      ok = and_r (A && B && C && D) G h

      none : T ≡ 0
      none = eq_of T 0 (and_l A B h2)

  -- quiet, unfinished or committing descriptors are orderly
  pub orderly_of : fine (counts es) ≡ true → Orderly (sorted es)
  orderly_of h = go (is_quiet (counts es)) (is_unfinished (counts es)) (is_committing (counts es)) refl refl refl h
    where
      go : (q u c : Bool) → is_quiet (counts es) ≡ q → is_unfinished (counts es) ≡ u → is_committing (counts es) ≡ c → q || (u || c) ≡ true → Orderly (sorted es)
      go true u c e f k h = unfinished (quiet_unfinished (sorted es) (quiet_of es e))
      go false true c e f k h = unfinished (unfinished_of f)
      go false false true e f k h = committing (committing_of k)
      go false false false e f k h = true_false false h refl

-- ---- the three ways to be moving
abbrev pub dead_of : List Home → ℕ
dead_of hs = length (filter (λ (x : Home). not (is_live x)) hs)

pub data Ways (g : Geometry) (hs : List Home) (r : Physical) : Type 0 where
  receives : r.logical < g.units - 1 → r.state ≡ receiving → dead_of hs ≡ 0 → is_within r.bytes (copy_of g r.logical (home_at hs r.logical).unit.bytes) ≡ true → Ways g hs r
  completes : r.logical < g.units - 1 → r.state ≡ receiving → dead_of hs ≡ 1 → is_live (home_at hs r.logical) ≡ false → is_complete g r.logical (home_at hs r.logical).unit.bytes r.bytes ≡ true → Ways g hs r
  leaves : r.logical < g.units - 1 → r.state ≡ retired → dead_of hs ≡ 0 → Ways g hs r

pub ways_of : (g : Geometry) (hs : List Home) (r : Physical) → is_moving g hs r ≡ true → Ways g hs r
unfolding is_moving
ways_of g hs r h = go (a1 && a2 && a3) (a1 && b2 && b3 && b4) (c1 && a2 && c3) refl refl refl (and_r (ltb L (g.units - 1)) ((a1 && a2 && a3) || (a1 && b2 && b3 && b4) || (c1 && a2 && c3)) h)
  where
    L : ℕ
    L = r.logical

    a1 : Bool
    a1 = eqb r.state receiving

    a2 : Bool
    a2 = eqb (dead_of hs) 0

    a3 : Bool
    a3 = is_within r.bytes (copy_of g L (home_at hs L).unit.bytes)

    b2 : Bool
    b2 = eqb (dead_of hs) 1

    b3 : Bool
    b3 = not (is_live (home_at hs L))

    b4 : Bool
    b4 = is_complete g L (home_at hs L).unit.bytes r.bytes

    c1 : Bool
    c1 = eqb r.state retired

    c3 : Bool
    c3 = is_complete g L r.bytes (home_at hs L).unit.bytes

    low : L < g.units - 1
    low = lt_of L (g.units - 1) (and_l (ltb L (g.units - 1)) ((a1 && a2 && a3) || (a1 && b2 && b3 && b4) || (c1 && a2 && c3)) h)

    go : (x y z : Bool) → a1 && a2 && a3 ≡ x → a1 && b2 && b3 && b4 ≡ y → c1 && a2 && c3 ≡ z → x || y || z ≡ true → Ways g hs r
    go true y z e f k q = let p = and_l (a1 && a2) a3 e in receives low (eq_of r.state receiving (and_l a1 a2 p)) (eq_of (dead_of hs) 0 (and_r a1 a2 p)) (and_r (a1 && a2) a3 e)
    go false true z e f k q =
        let p = and_l (a1 && b2 && b3) b4 f in
        let o = and_l (a1 && b2) b3 p in
        completes low (eq_of r.state receiving (and_l a1 b2 o)) (eq_of (dead_of hs) 1 (and_r a1 b2 o)) (not-true (is_live (home_at hs L)) (and_r (a1 && b2) b3 p)) (and_r (a1 && b2 && b3) b4 f)
    go false false true e f k q = let p = and_l (c1 && a2) c3 k in leaves low (eq_of r.state retired (and_l c1 a2 p)) (eq_of (dead_of hs) 0 (and_r c1 a2 p))
    go false false false e f k q = true_false false q refl

-- ---- a sound image, case by case
pub data Cases (g : Geometry) (v : Survey) : Type 0 where
  still : is_still v ≡ true → fine (counts v.entries) ≡ true → Cases g v
  moves : is_quiet (counts v.entries) ≡ true → Ways g v.homes v.spare → Cases g v

pub sound_cases : (g : Geometry) (v : Survey) → not_neither (standing g v) ≡ true → (is_housed g v ≡ true) × Cases g v
unfolding standing
sound_cases g v h = go (is_housed g v) (is_still v) (is_quiet c) (is_unfinished c || is_committing c) (is_moving g v.homes v.spare) refl refl refl refl refl h
  where
    c : Counts
    c = counts v.entries

    fine_q : is_quiet c ≡ true → fine c ≡ true
    fine_q e = ap (λ (b : Bool). b || (is_unfinished c || is_committing c)) e

    fine_u : is_quiet c ≡ false → is_unfinished c || is_committing c ≡ true → fine c ≡ true
    fine_u e f = ap (λ (b : Bool). b || (is_unfinished c || is_committing c)) e ∙ f

    go : (a b q u m : Bool) → is_housed g v ≡ a → is_still v ≡ b → is_quiet c ≡ q → is_unfinished c || is_committing c ≡ u → is_moving g v.homes v.spare ≡ m
        → not_neither (elim a as (λ j. Standing) [
          | false ↦ Neither
          | true ↦ elim (b && q) as (λ j. Standing) [ true ↦ Settled | false ↦ cond ((b && u) || (q && m)) Sound Neither ]
        ]) ≡ true
        → (is_housed g v ≡ true) × Cases g v
    go false b q u m e1 e2 e3 e4 e5 k = true_false false k refl
    go true true true u m e1 e2 e3 e4 e5 k = (e1, still e2 (fine_q e3))
    go true true false true m e1 e2 e3 e4 e5 k = (e1, still e2 (fine_u e3 e4))
    go true true false false m e1 e2 e3 e4 e5 k = true_false false k refl
    go true false true u true e1 e2 e3 e4 e5 k = (e1, moves e3 (ways_of g v.homes v.spare e5))
    go true false true u false e1 e2 e3 e4 e5 k = true_false false k refl
    go true false false u m e1 e2 e3 e4 e5 k = true_false false k refl
