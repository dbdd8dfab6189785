-- One turn of each loop of a move, and what each run leaves of the old home.
use Rattle.std.specs.Prelude.{◌≡◌, refl, true, false, cond, ◌&&◌, ℕ, ◌+◌, ◌-◌, ◌*◌, ◌%◌, ◌≤◌, ◌<◌, leb, eqb, length, take, drop}
use Rattle.std.proofs.Math.Path.{sym, ap}
use Rattle.std.proofs.Common.{◌∙◌, ⊎_elim, leb-true, length-take, length-drop}
use mathlib.Core.List.{List, [], ◌∷◌, ◌++◌, append_assoc}
use native.Mathlib.Omega.{arith}
use Rattle.std.proofs.Math.Nat.{sub-zero, add-sub_cancel_left}
use Rattle.rules.specs.Lists.{all}
use Rattle.rules.specs.Flash.{Bytes, word, Step, program, State, step, run, programs, words}
use Rattle.rules.specs.Unit
use Rattle.rules.specs.Unit.{Descriptor, stands, header_bytes, descriptor_bytes, room_of, n}
use Rattle.rules.specs.Copy.{is_kept, packed, copies, kept_size, is_movable, is_copyable, fill}
use Rattle.laws.specs.Tests.{either, all_uncons, and_inv}
use Rattle.laws.specs.Lists.{Every, every_append}
use Rattle.laws.specs.Copies.{four, moved, sector_of, size_even, packed_kept, packed_left, copies_kept, copies_left}
use Rattle.laws.specs.Copied.{words_length}
use Rattle.laws.specs.Words.{word_bytes, word_take, word_drop, part_long}
use Rattle.laws.specs.Runs.{run_append}
use Rattle.rules.specs.declared.Geometry.{Geometry}
use Rattle.flash.specs.Laws.{word_from, word_pair, words_turn, words_end}
use Rattle.unit.specs.declared.Room.{Room}
use Rattle.unit.specs.Shapes
use Rattle.unit.specs.Shapes.{descriptor_at, array_of}
use Rattle.unit.specs.Laws.{table_turn, table_end}
use Rattle.unit.specs.BridgeRoom.{room_gives, array_is}
use Rattle.unit.specs.LoopTurns.{from}
use Rattle.step_new.specs.Leaves.{LeavesRead, part_before, part_behind}
use Rattle.step_move.specs.Copying.{TwoUnits, part, copied, Packs}

-- ---- the old home is left as it is
module _ {bytes k f t : ℕ} (two : TwoUnits bytes k f t) where
  pub program_leaves : (a v : ℕ) → t ≤ a → a + 2 ≤ t + k → LeavesRead (λ (s : Bytes). part s f k) (program a v)
  program_leaves a v h l = ⊎_elim (λ b. part_behind a v f k (omega arith)) (λ b. part_before a v f k (omega arith)) two.apart

  pub programs_leave : (a : ℕ) (ws : List ℕ) → t ≤ a → a + 2 * length ws ≤ t + k → Every (LeavesRead (λ (s : Bytes). part s f k)) (programs a ws)
  unfolding programs
  programs_leave a [] h l = tt
  programs_leave a (w ∷ ws) h l = (program_leaves a w h (omega arith), programs_leave (a + 2) ws (omega arith) (omega arith))

-- ---- the bytes of a moved descriptor
pub put_is : (d : Descriptor) (low : ℕ) → (d.flags ∷ low ∷ d.len ∷ d.tag ∷ []) ≡ four (moved low d)
unfolding four moved
put_is d low = refl

-- ---- the data words
abbrev pub sector : Bytes → ℕ → ℕ → ℕ → ℕ → Bytes
sector s f k o m = take m (drop o (part s f k))

module _ (s₀ s : Bytes) (f k o m i : ℕ) (same : part s f k ≡ part s₀ f k) (in_unit : o + m ≤ k) (in_image : f + k ≤ length s₀) where
  pub sector_length : length (sector s₀ f k o m) ≡ m
  sector_length = simp (length-take, length-drop) (omega arith)

  -- the word read in the old home is the next of the sector
  pub sector_word : i + 2 ≤ m → word s (f + (o + i)) ≡ word_from (drop i (sector s₀ f k o m))
  sector_word h =
      let h₁ : o + i + 2 ≤ k = omega arith in
      let h₂ : i + 1 < length (sector s₀ f k o m) = omega (arith, sector_length) in
      sym (word_drop f s (o + i)) ∙ sym (word_take k (drop f s) (o + i) h₁) ∙ ap (λ (u : Bytes). word u (o + i)) same
      ∙ sym (word_drop o (part s₀ f k) i) ∙ sym (word_take m (drop o (part s₀ f k)) i h) ∙ word_bytes (sector s₀ f k o m) i
      ∙ sym (word_pair (sector s₀ f k o m) i h₂)

  -- and programmed in the copy
  pub carry_turn : i + 2 ≤ m → (a w : ℕ) → w ≡ word s (f + (o + i)) → (x y : State) → y ≡ step (program a w) x
      → run (programs (a + 2) (words (drop (i + 2) (sector s₀ f k o m)))) y ≡ run (programs a (words (drop i (sector s₀ f k o m)))) x
  carry_turn h a w e x y q = words_turn (sector s₀ f k o m) i a w x y (omega (arith, sector_length)) (e ∙ sector_word h) q

  pub carry_end : m ≤ i → (a : ℕ) (x : State) → run (programs a (words (drop i (sector s₀ f k o m)))) x ≡ x
  carry_end h a x = words_end (sector s₀ f k o m) i a x (omega (arith, sector_length))

pub sector_is : (u v : Bytes) (d : Descriptor) (o m : ℕ) → v ≡ u → o ≡ d.offset → m ≡ Unit.size d → words (take m (drop o v)) ≡ sector_of u d
unfolding sector_of
sector_is u v d o m e f h = rw (e, f, h)

-- ---- one position
module _ (u : Bytes) (to p : ℕ) (d : Descriptor) (low : ℕ) where
  pub copied_none : is_kept d ≡ false → copied u to p d low ≡ []
  unfolding copied
  copied_none h = rw h

  pub copied_some : is_kept d ≡ true → copied u to p d low ≡ programs (to + stands p) (four (moved low d)) ++ programs (to + low) (sector_of u d)
  unfolding copied
  copied_some h = rw h

-- the copied words lie in the copy
four_length : (d : Descriptor) (low : ℕ) → length (four (moved low d)) ≡ 4
unfolding four moved
four_length d low = refl

sector_words : (u : Bytes) (d : Descriptor) → 2 * length (sector_of u d) ≤ Unit.size d
unfolding sector_of
sector_words u d =
    let e = words_length (take (Unit.size d) (drop d.offset u)) in
    let l : length (take (Unit.size d) (drop d.offset u)) ≤ Unit.size d = simp length-take (omega arith) in
    omega (arith, size_even d)

module _ {bytes k f t : ℕ} (two : TwoUnits bytes k f t) (u : Bytes) (p : ℕ) (d : Descriptor) (low : ℕ) (h : stands p + 8 ≤ k) where
  pub put_leaves : Every (LeavesRead (λ (s : Bytes). part s f k)) (programs (t + stands p) (four (moved low d)))
  put_leaves = programs_leave two (t + stands p) (four (moved low d)) (omega arith) (omega (arith, four_length d low))

  pub copied_leaves : (is_kept d ≡ true → low + Unit.size d ≤ k) → Every (LeavesRead (λ (s : Bytes). part s f k)) (copied u t p d low)
  copied_leaves l =
      either (is_kept d)
      (λ b. let m = l b in rw (copied_some u t p d low b)
      (every_append (LeavesRead (λ (s : Bytes). part s f k)) (programs (t + stands p) (four (moved low d))) (programs (t + low) (sector_of u d)) put_leaves
      (programs_leave two (t + low) (sector_of u d) (omega arith) (omega (arith, sector_words u d)))))
      (λ b. rw (copied_none u t p d low b) tt)

-- ---- the positions, one after the other
-- a kept descriptor that can be copied lies in its unit
movable_in : (g : Geometry) (d : Descriptor) → is_movable g d ≡ true → is_kept d ≡ true → d.offset + Unit.size d ≤ g.size
unfolding is_movable
movable_in g d h k =
    let e : (leb d.len 256 && eqb (d.offset % 2) 0 && leb (d.offset + Unit.size d) g.size) ≡ true = rw k at h in
    leb-true (d.offset + Unit.size d) g.size (and_inv (leb d.len 256 && eqb (d.offset % 2) 0) (leb (d.offset + Unit.size d) g.size) e).1

-- where the sector of d comes to lie, those before it lying from low on
abbrev pub below : Descriptor → ℕ → ℕ
below d low = cond (is_kept d) (low - Unit.size d) low

module _ (u : Bytes) (to p low : ℕ) (d : Descriptor) (ds : List Descriptor) where
  abbrev CopySplit : Type 0
  CopySplit =
      copies to u (stands p) (d ∷ ds) (packed low (d ∷ ds))
      ≡ copied u to p d (below d low) ++ copies to u (stands p + descriptor_bytes) ds (packed (below d low) ds)

  split_kept : (o : ℕ) → o ≡ low - Unit.size d → is_kept d ≡ true → CopySplit
  unfolding moved
  split_kept o q k =
      let b : below d low ≡ o = rw (k, q) in
      ap (copies to u (stands p) (d ∷ ds)) (rw q (packed_kept d ds low k))
      ∙ copies_kept d ds to u (stands p) (moved o d) (packed o ds) k
      ∙ sym (append_assoc (programs (to + stands p) (four (moved o d))) (programs (to + o) (sector_of u d)) (copies to u (stands p + descriptor_bytes) ds (packed o ds)))
      ∙ ap (λ (l : List Step). l ++ copies to u (stands p + descriptor_bytes) ds (packed o ds)) (sym (copied_some u to p d o k))
      ∙ ap (λ (x : ℕ). copied u to p d x ++ copies to u (stands p + descriptor_bytes) ds (packed x ds)) (sym b)

  split_left : is_kept d ≡ false → CopySplit
  split_left k =
      let b : below d low ≡ low = rw k in
      ap (copies to u (stands p) (d ∷ ds)) (packed_left d ds low k)
      ∙ copies_left d ds to u (stands p) Unit.blank (packed low ds) k
      ∙ ap (λ (l : List Step). l ++ copies to u (stands p + descriptor_bytes) ds (packed low ds)) (sym (copied_none u to p d low k))
      ∙ ap (λ (x : ℕ). copied u to p d x ++ copies to u (stands p + descriptor_bytes) ds (packed x ds)) (sym b)

  split : CopySplit
  split = either (is_kept d) (split_kept (low - Unit.size d) refl) split_left

-- a descriptor of a lent unit that is as it was
pub lent_descriptor : (s₀ s : Bytes) (f k p : ℕ) (d : Descriptor) → part s f k ≡ part s₀ f k → d ≡ descriptor_at (take (f + k - f) (drop f s)) (stands p) → d ≡ descriptor_at (part s₀ f k) (stands p)
lent_descriptor s₀ s f k p d same e =
    e ∙ ap (λ (j : ℕ). descriptor_at (part s f j) (stands p)) (add-sub_cancel_left f k) ∙ ap (λ (u : Bytes). descriptor_at u (stands p)) same

module _ (g : Geometry) (u : Bytes) (n p low : ℕ) (d : Descriptor) (h : p < n) (e : d ≡ descriptor_at u (stands p)) where
  next : from u n p ≡ d ∷ from u n (p + 1)
  next = rw (table_turn u n p h, e)

  module _ (packs : Packs g u n p low) where
    here : (is_movable g d ≡ true) × (all (is_movable g) (from u n (p + 1)) ≡ true)
    here = all_uncons (is_movable g) d (from u n (p + 1)) (rw next at packs.movable)

    fitting : stands n + (cond (is_kept d) (Unit.size d) 0 + kept_size (from u n (p + 1))) ≤ low
    unfolding kept_size
    fitting = rw next at packs.room

    pub kept_low : is_kept d ≡ true → Unit.size d ≤ low
    kept_low k = let r = rw k at fitting in omega arith

    pub kept_in_lem : is_kept d ≡ true → (d.offset + Unit.size d ≤ g.size) × (below d low + Unit.size d ≤ g.size)
    kept_in_lem k =
        let l = kept_low k in
        let t = packs.top in
        (movable_in g d here.0 k, rw k (omega arith))

    pub packs_turn : Packs g u n (p + 1) (below d low)
    packs_turn =
        either (is_kept d)
        (λ k. let r = rw k at fitting in rw k (record { movable = here.1; room = omega arith; top = omega (arith, packs.top) }))
        (λ k. let r = rw k at fitting in rw k (record { movable = here.1; room = omega arith; top = packs.top }))

  later : stands (p + 1) ≡ stands p + descriptor_bytes
  unfolding stands
  later = omega arith

  -- one position more is copied
  pub copy_turn : (to : ℕ) (x y : State) → y ≡ run (copied u to p d (below d low)) x
      → run (copies to u (stands (p + 1)) (from u n (p + 1)) (packed (below d low) (from u n (p + 1)))) y
      ≡ run (copies to u (stands p) (from u n p) (packed low (from u n p))) x
  copy_turn to x y f =
      sym (ap (λ (ds : List Descriptor). run (copies to u (stands p) ds (packed low ds)) x) next
      ∙ ap (λ (l : List Step). run l x) (split u to p low d (from u n (p + 1)))
      ∙ ap (λ (a : ℕ). run (copied u to p d (below d low) ++ copies to u a (from u n (p + 1)) (packed (below d low) (from u n (p + 1)))) x) (sym later)
      ∙ run_append (copied u to p d (below d low)) (copies to u (stands (p + 1)) (from u n (p + 1)) (packed (below d low) (from u n (p + 1)))) x
      ∙ ap (run (copies to u (stands (p + 1)) (from u n (p + 1)) (packed (below d low) (from u n (p + 1))))) (sym f))

pub copy_end : (u : Bytes) (n p low to : ℕ) (x : State) → n ≤ p → run (copies to u (stands p) (from u n p) (packed low (from u n p))) x ≡ x
unfolding run copies
copy_end u n p low to x h = rw (table_end u n p h)

-- ---- the whole
pub copy_start : (g : Geometry) (u : Bytes) (to : ℕ) (x : State) (n : ℕ)
    → run (copies to u (stands 0) (from u n 0) (packed g.size (from u n 0))) x ≡ run (copies to u header_bytes (array_of n u) (packed g.size (array_of n u))) x
unfolding array_of stands
copy_start g u to x n = rw sub-zero

pub packs_all : (g : Geometry) (u : Bytes) (m : ℕ) → m ≡ (Shapes.room_of g.size u).n → is_copyable g u ≡ true → Packs g u m 0 g.size
unfolding is_copyable stands
packs_all g u m e h =
    let f = and_inv (all (is_movable g) (room_of g u).array) (leb (stands (n (room_of g u)) + kept_size (room_of g u).array) g.size) h in
    let r : stands (n (room_of g u)) + kept_size (room_of g u).array ≤ g.size = leb-true _ _ f.1 in
    let a : from u m 0 ≡ (room_of g u).array = rw (sub-zero, e) (array_first g u) in
    let k : m ≡ n (room_of g u) = e ∙ (room_gives g u).n in
    record { movable = rw a f.0; room = rw (a, k) r; top = omega arith }
  where
    array_first : (g : Geometry) (u : Bytes) → Shapes.table (Shapes.room_of g.size u).n (drop (stands 0) u) ≡ (room_of g u).array
    array_first g u = unfold array_of in array_is g u

pub fill_is : (g : Geometry) (u : Bytes) (to L m : ℕ) → m ≡ (Shapes.room_of g.size u).n
    → program to L ∷ copies to u header_bytes (array_of m u) (packed g.size (array_of m u)) ≡ fill g to L u
unfolding fill
fill_is g u to L m e = rw (e, array_is g u)

pub room_is : (s : Bytes) (f k : ℕ) (r : Room) → f + k ≤ length s → r ≡ Shapes.room_of (length (take (f + k - f) (drop f s))) (take (f + k - f) (drop f s)) → r.n ≡ (Shapes.room_of k (part s f k)).n
room_is s f k r h e =
    ap (λ (x : Room). x.n) e ∙ ap (λ (j : ℕ). (Shapes.room_of j (take (f + k - f) (drop f s))).n) (part_long s f k h)
    ∙ ap (λ (j : ℕ). (Shapes.room_of k (take j (drop f s))).n) (add-sub_cancel_left f k)
