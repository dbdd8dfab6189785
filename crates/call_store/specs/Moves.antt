-- A store once its unit is reclaimed: what lies where, by numbers that stand before the move.
use Rattle.rules.specs.Answers.{Answer}
use Rattle.std.specs.Prelude.{◌≡◌, ◌⊎◌, true, List, ◌++◌, ℕ, ◌+◌, ◌-◌, ◌*◌, ◌%◌, ◌≤◌, ◌<◌, length, get_or, take, drop}
use Rattle.std.proofs.Math.Path.{ap}
use Rattle.std.proofs.Common.{◌∙◌, inl, inr, arith, eq-eqb, ne_eqb}
use Rattle.std.proofs.Math.Decide.{dec_lt}
use Rattle.rules.specs.Flash.{Bytes, Step, State, run, Run}
use Rattle.rules.specs.Unit
use Rattle.rules.specs.Unit.{Room, old, stands, room_for}
use Rattle.rules.specs.Copy.{is_copyable}
use Rattle.rules.specs.Settled.{physical}
use Rattle.rules.specs.Jobs.{fill_in, fits, move, size_for, vacant}
use Rattle.laws.specs.Rooms.{lowest_le}
use Rattle.laws.specs.Units.{RightGeometry, right_geometry, row}
use Rattle.rules.specs.declared.Geometry.{Geometry}
use Rattle.call_answer.specs.Ends.{answer_of}
use Rattle.flash.specs.Laws.{run_on}
use Rattle.step_new.specs.Places.{Spot, SpotIf, become_at, one_at}
use Rattle.step_move.specs.Copying.{TwoUnits, part}
use Rattle.index.specs.Lent.{rows_eight}
use Rattle.place.specs.Homes.{home_in}
use Rattle.place.specs.Homes as homes
use Rattle.place.specs.Laws.{lent_whole}
use Rattle.place.specs.Search.{room_once}
use Rattle.theory.specs.After.Rebased.{rebased, rebased_in, rebased_below, rebased_above}
use Rattle.call_store.specs.Stores.{new_at, base_of, room_then, handle_then, moved_if, after_job, Reclaims}
use Rattle.call_store.specs.Laws.{base_is, lent_home}
use Rattle.call_store.specs.Rooms.{SectorRoom, fits_inside}

-- ---- a place moved along with its unit
module _ (from to size a : ℕ) where
  pub moved_none : a ≡ 0 → moved_if from to size a ≡ 0
  unfolding moved_if
  moved_none e = rw (eq-eqb a 0 e)

  module _ (some : a ≡ 0 → ⊥) where
    pub moved_is : moved_if from to size a ≡ rebased from to size a
    unfolding moved_if
    moved_is = rw (ne_eqb a 0 some)

    pub moved_below : a < from → moved_if from to size a ≡ a
    moved_below l = moved_is ∙ rebased_below from to size a l

    pub moved_above : from + size ≤ a → moved_if from to size a ≡ a
    moved_above l = moved_is ∙ rebased_above from to size a l

    pub moved_in : from ≤ a → a < from + size → moved_if from to size a ≡ to + (a - from)
    moved_in l m = moved_is ∙ rebased_in from to size a l m

-- it is one still
pub moved_spot : (bytes from to size a : ℕ) → size % 8 ≡ 0 → from % 8 ≡ 0 → to % 8 ≡ 0 → to + size ≤ bytes → SpotIf bytes a → SpotIf bytes (moved_if from to size a)
moved_spot bytes from to size a e f t l h n = go (dec_lt a from) (dec_lt a (from + size))
  where
    some : a ≡ 0 → ⊥
    some z = n (moved_none from to size a z)

    p : Spot bytes a
    p = h some

    go : Dec (a < from) → Dec (a < from + size) → Spot bytes (moved_if from to size a)
    go (yes x) y = rw (moved_below from to size a some x) p
    go (no x) (no y) = rw (moved_above from to size a some (omega arith)) p
    go (no x) (yes y) = rw (moved_in from to size a some (omega arith) y) (record { whole = omega (arith, p.whole); inside = omega (arith, p.whole) })

-- ---- what fits once the unit is reclaimed lies inside
once_inside : (g : Geometry) (r : Room) (e : ℕ) → stands (Unit.n (room_once g r)) ≤ g.size → fits e (room_once g r) ≡ true → SectorRoom g.size e (vacant (room_once g r).array) (room_once g r).low
unfolding room_once room_for
once_inside g r e l h = fits_inside g.size e (room_once g r) l (lowest_le g.size (room_once g r).array) h

-- ---- two units
module _ (g : Geometry) (s : Bytes) (home : List ℕ) (left e L : ℕ) (k : Reclaims g s home left e L) where
  ok : RightGeometry g s
  ok = right_geometry g s k.right

  pub from_in : base_of g home L + g.size ≤ length s
  from_in = omega (arith, row (get_or home L 0) g.units g.size (k.table L k.below), ok.whole)

  pub to_in : left * g.size + g.size ≤ length s
  to_in = omega (arith, row left g.units g.size k.last, ok.whole)

  pub two : TwoUnits (length s) g.size (base_of g home L) (left * g.size)
  two = record { from_in = from_in; to_in = to_in; apart = go (dec_lt (get_or home L 0) left) }
    where
      go : Dec (get_or home L 0 < left) → (base_of g home L + g.size ≤ left * g.size) ⊎ (left * g.size + g.size ≤ base_of g home L)
      go (yes l) = inl (row (get_or home L 0) left g.size l)
      go (no l) = inr (row left (get_or home L 0) g.size (omega (arith, k.apart)))

  pub earlier_moved : (a : ℕ) → SpotIf (length s) a → SpotIf (length s) (moved_if (base_of g home L) (left * g.size) g.size a)
  earlier_moved a h =
      let o = right_geometry g s k.right in
      moved_spot (length s) (base_of g home L) (left * g.size) g.size a o.eight (rows_eight (get_or home L 0) g.size o.eight) (rows_eight left g.size o.eight) to_in h

  pub then_inside : stands (Unit.n (room_then g s home L)) ≤ g.size → SectorRoom g.size e (vacant (room_then g s home L).array) (room_then g s home L).low
  unfolding room_then
  then_inside l = once_inside g (home_in g s home L).room e l k.room

  pub left_few : left ≤ 64
  left_few = omega (arith, k.last, ok.few)

  pub home_few : get_or home L 0 ≤ 64
  home_few = omega (arith, k.table L k.below, ok.few)

  pub short : length s ≤ 65536
  short = omega (arith, ok.whole, ok.short)

  pub lent : homes.WholeUnit g (homes.unit_in g s (get_or home L 0))
  lent = lent_whole g s (get_or home L 0) ok (k.table L k.below)

  pub right_so : RightGeometry g s
  right_so = ok

  -- what a move asks, and what is read of the unit at `from` before it
  pub record Moves (from to : ℕ) : Type 0 where
    pub two : TwoUnits (length s) g.size from to
    pub least : 512 ≤ g.size
    pub most : g.size ≤ 4096
    pub number : L < 64
    pub copyable : is_copyable g (part s from g.size) ≡ true
    pub short : (from + g.size ≤ 65536) × (to + g.size ≤ 65536)
    pub lent : homes.WholeUnit g (take (from + g.size - from) (drop from s))
    pub once : room_once g (Unit.room_of g (take (from + g.size - from) (drop from s))) ≡ room_then g s home L

  pub moves : (n from to : ℕ) → n ≡ get_or home L 0 → from ≡ n * g.size → to ≡ left * g.size → Moves from to
  unfolding room_then home_in
  moves n from to i a t =
      let f = base_is g s home L n from i a in
      let u = lent_home g s home L n from i a in
      record {
        two = rw (f, t) two;
        least = ok.large;
        most = ok.small;
        number = omega (arith, k.below, ok.few);
        copyable = rw f k.copyable;
        short = (omega (arith, f, from_in, short), omega (arith, t, to_in, short));
        lent = rw u lent;
        once = ap (λ (v : Bytes). room_once g (Unit.room_of g v)) u;
      }

-- the two jobs, one after the other
module _ (g : Geometry) (s : Bytes) (home : List ℕ) (left tag : ℕ) (content : Bytes) (a L from to position offset before : ℕ)
    (f : from ≡ base_of g home L) (t : to ≡ left * g.size) (p : position ≡ vacant (room_then g s home L).array)
    (o : offset ≡ (room_then g s home L).low - (length content + length content % 2)) (b : before ≡ moved_if from to g.size a) where
  abbrev moving : List Step
  moving = move g L (physical from (part s from g.size)) (physical to (part s to g.size))

  abbrev filling : List Step
  filling = fill_in (to + stands position) to offset tag content ++ become_at old (one_at before)

  jobs_are : moving ++ filling ≡ after_job g s home left tag content a L
  unfolding after_job new_at size_for
  jobs_are =
      ap (λ (x : ℕ). moving ++ (fill_in (to + stands position) to offset tag content ++ become_at old (one_at x))) b
      ∙ (λ i. move g L (physical (f i) (part s (f i) g.size)) (physical (t i) (part s (t i) g.size)) ++ (fill_in (t i + stands (p i)) (t i) (o i) tag content ++ become_at old (one_at (moved_if (f i) (t i) g.size a))))

  pub after_run : (x : State) {y z : State} → y ≡ run moving x → z ≡ run filling y → z ≡ run (after_job g s home left tag content a L) x
  after_run x e h = run_on moving filling x e h ∙ ap (λ (j : List Step). run j x) jobs_are

  pub answer_then : (k : ℕ) (r : Run) (x : Answer) → x ≡ answer_of (record { unit = L; position = position }) k r → x ≡ answer_of (handle_then g s home L) k r
  unfolding handle_then
  answer_then k r x e = e ∙ ap (λ (q : ℕ). answer_of (record { unit = L; position = q }) k r) p
