-- The round of the homes in the reader's words: what it leaves where all is right, and the verdict from its tests.
use Prim.Native.Nat.{ℕ, zero, suc, ◌+◌, ◌*◌, ◌≤◌, ◌<◌}
use native.Mathlib.Omega.{arith}
use Rattle.std.proofs.Common.{add-zero, sym, ◌∙◌, ne_eqb, ltb-true, length-take, length-drop}
use Rattle.std.specs.Prelude.{◌≡◌, Bool, not, ◌&&◌, Option, Some, None, ltb, eqb, drop}
use Rattle.std.proofs.Math.Path.{refl, ap}
use Rattle.std.proofs.Math.Bool.{true, false, cond}
use mathlib.Core.List.{List, [], ◌∷◌, ◌++◌}
use Rattle.std.proofs.Math.ListN.{length, get_or}
use Rattle.rules.specs.Lists.{all, filter}
use Rattle.rules.specs.Flash.{Bytes}
use Rattle.rules.specs.Unit
use Rattle.rules.specs.Unit.{Descriptor, descriptor, is_header, is_home}
use Rattle.rules.specs.Settled.{Physical, Home, Entry, physical, entries_in, entries_of, has_header}
use Rattle.rules.specs.Settled
use Rattle.rules.specs.Sound.{no_home}
use Rattle.laws.specs.Words.{AreBytes, bytes_take}
use Rattle.rules.specs.declared.Geometry.{Geometry}
use Rattle.laws.specs.Units.{RightGeometry, row}
use Rattle.unit.specs.Shapes.{room_of, table, array_of}
use Rattle.unit.specs.BridgeRoom.{array_is}
use Rattle.unit.specs.Tests.{when, elim_inv}
use Rattle.counts.specs.Tally.{TallyNotes, tallied, tally_of}
use Rattle.counts.specs.Bridge.{descriptors, tallied_append}
use Rattle.home_table.specs.Bridge.{unit_at, housed, houses}
use Rattle.home_table.specs.Bridge as at
use Rattle.copy.specs.Small.{small_drop}
use Rattle.copy.specs.Bridge.{ByteUnit}
use Rattle.judge.specs.declared.HomesTally.{HomesTally}
use Rattle.copy.specs.Moving.{is_live}
use Rattle.judge.specs.Round.{with_unit, descriptors_of, round_from}

pub unit_whole : (g : Geometry) (s : Bytes) → RightGeometry g s → AreBytes s → (u : ℕ) → u < g.units → ByteUnit g (unit_at g.size s u)
unit_whole g s o small u h =
    let r : u * g.size + g.size ≤ g.units * g.size = row u g.units g.size h in
    record {
      long = simp (length-take, length-drop) (omega (arith, o.whole));
      small = bytes_take g.size (drop (u * g.size) s) (small_drop (u * g.size) s small);
      large = omega (arith, o.large);
      fits = o.small;
      even = omega (arith, o.eight);
    }

-- ---- the round of the homes
-- a home's entries are its descriptors
pub descriptors_in : (L : ℕ) (p : Physical) (k i : ℕ) (r : Bytes) → descriptors (entries_in L p i (table k r)) ≡ table k r
unfolding descriptors entries_in table
descriptors_in L p zero i r = refl
descriptors_in L p (suc k) i r = ap (λ (l : List Descriptor). descriptor r ∷ l) (descriptors_in L p k (suc i) (drop 8 r))

pub descriptors_append : (xs ys : List Entry) → descriptors (xs ++ ys) ≡ descriptors xs ++ descriptors ys
unfolding descriptors
descriptors_append [] ys = refl
descriptors_append (x ∷ xs) ys = ap (λ (l : List Descriptor). x.descriptor ∷ l) (descriptors_append xs ys)

-- a home that is as it must be, its header first
abbrev pub is_right : Geometry → Home → Bool
is_right g h = when (has_header h) (is_home g h.unit.bytes h.room)

-- all are: all headers, and all homes
pub all_right : (g : Geometry) (hs : List Home) → (all has_header hs && all (λ (h : Home). is_home g h.unit.bytes h.room) hs) ≡ all (is_right g) hs
unfolding all
all_right g [] = refl
all_right g (h ∷ hs) = go (has_header h) (is_home g h.unit.bytes h.room) (all_right g hs)
  where
    none : (a : Bool) → (a && false) ≡ false
    none true = refl
    none false = refl

    go : (x y : Bool) → (all has_header hs && all (λ (h : Home). is_home g h.unit.bytes h.room) hs) ≡ all (is_right g) hs
        → (when x (all has_header hs) && when y (all (λ (h : Home). is_home g h.unit.bytes h.room) hs)) ≡ when (when x y) (all (is_right g) hs)
    go true true e = e
    go true false e = none (all has_header hs)
    go false y e = refl

abbrev pub is_dead : Home → Bool
is_dead h = not (Settled.is_live h)

-- what the round leaves where all is right: hs are the homes
unfoldable pub seen : ℕ → TallyNotes → List Home → HomesTally
seen a t hs = record { retired = a + length (filter is_dead hs); tally = tally_of (tallied (descriptors (entries_of hs)) t) }

abbrev pub whether : Bool → HomesTally → Option HomesTally
whether true x = Some x
whether false x = None

pub with_unit_lem : (u : Bytes) (a : ℕ) → with_unit u a ≡ cond (not (is_live u)) (suc a) a
with_unit_lem u a = go (is_live u)
  where
    go : (x : Bool) → cond x a (a + 1) ≡ cond (not x) (suc a) a
    go true = refl
    go false = omega arith

pub seen_none : (a : ℕ) (t : TallyNotes) → record { retired = a; tally = tally_of t } ≡ seen a t []
unfolding seen filter entries_of descriptors tallied
seen_none a t = simp add-zero

-- the home of L, which stands v-th
abbrev pub home_of : Geometry → Bytes → ℕ → ℕ → Home
home_of g s L v = record { number = L; unit = at.standing g.size s v; room = Unit.room_of g (at.standing g.size s v).bytes }

module _ (g : Geometry) (s : Bytes) (L v : ℕ) (hs : List Home) where
  pub entries_one : entries_of (home_of g s L v ∷ hs) ≡ entries_in L (at.standing g.size s v) 0 (descriptors_of g.size (unit_at g.size s v)) ++ entries_of hs
  unfolding entries_of physical
  entries_one = rw (array_is g (unit_at g.size s v))

  pub tallied_one : (t : TallyNotes) → tallied (descriptors (entries_of (home_of g s L v ∷ hs))) t ≡ tallied (descriptors (entries_of hs)) (tallied (descriptors_of g.size (unit_at g.size s v)) t)
  unfolding array_of
  tallied_one t =
      let ds = descriptors_of g.size (unit_at g.size s v) in
      let q : descriptors (entries_in L (at.standing g.size s v) 0 (descriptors_of g.size (unit_at g.size s v))) ≡ descriptors_of g.size (unit_at g.size s v) =
      descriptors_in L (at.standing g.size s v) (room_of g.size (unit_at g.size s v)).n 0 (drop 16 (unit_at g.size s v)) in
      ap (λ (es : List Entry). tallied (descriptors es) t) entries_one
      ∙ ap (λ (l : List Descriptor). tallied l t) (descriptors_append (entries_in L (at.standing g.size s v) 0 ds) (entries_of hs))
      ∙ tallied_append (descriptors (entries_in L (at.standing g.size s v) 0 ds)) (descriptors (entries_of hs)) t
      ∙ ap (λ (l : List Descriptor). tallied (descriptors (entries_of hs)) (tallied l t)) q

  pub dead_one : (a : ℕ) → a + length (filter is_dead (home_of g s L v ∷ hs)) ≡ cond (not (is_live (unit_at g.size s v))) (suc a) a + length (filter is_dead hs)
  unfolding filter is_live Settled.is_live physical
  dead_one a = go (is_live (unit_at g.size s v))
    where
      go : (x : Bool) → a + length (cond (not x) (home_of g s L v ∷ filter is_dead hs) (filter is_dead hs)) ≡ cond (not x) (suc a) a + length (filter is_dead hs)
      go true = refl
      go false = omega arith

  pub seen_one : (a : ℕ) (t : TallyNotes)
      → seen a t (home_of g s L v ∷ hs)
      ≡ seen (cond (not (is_live (unit_at g.size s v))) (suc a) a) (tallied (descriptors_of g.size (unit_at g.size s v)) t) hs
  unfolding seen
  seen_one a t = rw (dead_one a, tallied_one t)

module _ (g : Geometry) (s : Bytes) (spots : List ℕ) where
  pub round_law : (k L a : ℕ) (t : TallyNotes) → round_from g s spots k L a t ≡ whether (all (is_right g) (houses g s spots k L)) (seen a t (houses g s spots k L))
  unfolding round_from houses all physical has_header
  round_law zero L a t = ap (λ (x : HomesTally). Some x) (seen_none a t)
  round_law (suc k) L a t =
      let u = unit_at g.size s (get_or spots L 0) in
      let ih = round_law k (L + 1) (cond (not (is_live (unit_at g.size s (get_or spots L 0)))) (suc a) a) (tallied (descriptors_of g.size (unit_at g.size s (get_or spots L 0))) t) in
      go (is_header (unit_at g.size s (get_or spots L 0))) (is_home g (unit_at g.size s (get_or spots L 0)) (Unit.room_of g (unit_at g.size s (get_or spots L 0))))
      (ap (λ (n : ℕ). round_from g s spots k (L + 1) n (tallied (descriptors_of g.size (unit_at g.size s (get_or spots L 0))) t)) (with_unit_lem (unit_at g.size s (get_or spots L 0)) a)
      ∙ ih ∙ ap (whether (all (is_right g) (houses g s spots k (L + 1)))) (sym (seen_one g s L (get_or spots L 0) (houses g s spots k (L + 1)) a t)))
    where
      go : (z y : Bool) {r : Option HomesTally}
          → r ≡ whether (all (is_right g) (houses g s spots k (L + 1))) (seen a t (home_of g s L (get_or spots L 0) ∷ houses g s spots k (L + 1)))
          → ◌≡◌ {A = Option HomesTally} (elim z [ false ↦ None | true ↦ elim y [ false ↦ None | true ↦ r ] ])
          (whether (when (when z y) (all (is_right g) (houses g s spots k (L + 1)))) (seen a t (home_of g s L (get_or spots L 0) ∷ houses g s spots k (L + 1))))
      go true true e = e
      go true false e = refl
      go false y e = refl

-- ---- the homes one by one
pub houses_at : (g : Geometry) (s : Bytes) (spots : List ℕ) (k L i : ℕ) → i < k → get_or (houses g s spots k L) i no_home ≡ home_of g s (L + i) (get_or spots (L + i) 0)
unfolding houses
houses_at g s spots zero L i l = absurd (omega arith)
houses_at g s spots (suc k) L zero l =
    let z : L + 0 ≡ L = omega arith in
    rw z
houses_at g s spots (suc k) L (suc i) l =
    let z : L + suc i ≡ L + 1 + i = omega arith in
    rw z (houses_at g s spots k (L + 1) i (omega arith))

pub housed_at : (U : ℕ) (spots : List ℕ) (k L i : ℕ) → housed U spots k L ≡ true → i < k → get_or spots (L + i) 0 < U
unfolding housed
housed_at U spots zero L i h l = absurd (omega arith)
housed_at U spots (suc k) L zero h l =
    let z : L + 0 ≡ L = omega arith in
    rw z (ltb-true (get_or spots L 0) U (elim_inv (ltb (get_or spots L 0) U) (housed U spots k (L + 1)) h).0)
housed_at U spots (suc k) L (suc i) h l =
    let z : L + suc i ≡ L + 1 + i = omega arith in
    rw z (housed_at U spots k (L + 1) i (elim_inv (ltb (get_or spots L 0) U) (housed U spots k (L + 1)) h).1 (omega arith))

pub all_at : (f : Home → Bool) (hs : List Home) (i : ℕ) → i < length hs → all f hs ≡ true → f (get_or hs i no_home) ≡ true
unfolding all
all_at f [] i l e = absurd (omega arith)
all_at f (x ∷ hs) zero l e = (elim_inv (f x) (all f hs) e).0
all_at f (x ∷ hs) (suc i) l e = all_at f hs i (omega arith) (elim_inv (f x) (all f hs) e).1

-- none dead: all live
pub all_live : (hs : List Home) → eqb (length (filter is_dead hs)) 0 ≡ all Settled.is_live hs
unfolding filter all
all_live [] = refl
all_live (x ∷ hs) = go (Settled.is_live x) (all_live hs)
  where
    go : (b : Bool) → eqb (length (filter is_dead hs)) 0 ≡ all Settled.is_live hs
        → eqb (length (cond (not b) (x ∷ filter is_dead hs) (filter is_dead hs))) 0 ≡ when b (all Settled.is_live hs)
    go true e = e
    go false e = ne_eqb (suc (length (filter is_dead hs))) 0 (λ k. omega arith)
