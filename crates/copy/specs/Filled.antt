-- What the copying steps leave is a complete copy, wherever the sectors can be copied.
use Prim.Native.Nat.{ℕ, zero, suc, ◌+◌, ◌*◌, ◌-◌, ◌/◌, ◌%◌, ◌≤◌, ◌<◌}
use native.Mathlib.Omega.{arith}
use Rattle.std.specs.Prelude.{◌≡◌, Bool, Some, cond, take, drop}
use Rattle.std.proofs.Math.Path.{refl, ap}
use Rattle.std.proofs.Common.{sym, ◌∙◌, subst, get_or-take, length-take-le}
use Rattle.std.proofs.Math.Bool.{true, false}
use mathlib.Core.List.{List, [], ◌∷◌, ◌++◌}
use borrow.Author.Tests.{eq-eqb}
use Rattle.std.proofs.Math.Dec.{eqb}
use Rattle.std.proofs.Math.ListN.{length, get_or, length-drop}
use Rattle.std.proofs.Math.Seq.{get_or-drop}
use Rattle.rules.specs.Lists.{all}
use Rattle.rules.specs.Flash.{Bytes, word, Step, finish, programs, words}
use Rattle.rules.specs.Unit.{Descriptor, descriptor, stands, descriptor_bytes, size, is_empty}
use Rattle.rules.specs.Copy.{is_kept, packed, copies, kept_size, is_movable}
use Rattle.laws.specs.Words.{word_drop, word_same, word_lt}
use Rattle.laws.specs.Frames.{Blank}
use Rattle.laws.specs.Runs.{finish_append}
use Rattle.laws.specs.Tests.{all_uncons}
use Rattle.laws.specs.Copies.{moved, packed_kept, packed_left}
use Rattle.rules.specs.declared.Geometry.{Geometry}
use Rattle.unit.specs.Shapes.{descriptor_at, table}
use Rattle.unit.specs.Laws.{next_place}
use Rattle.copy.specs.Stream.{agree, same_four, placed, past, copy_from}
use Rattle.copy.specs.Within.{holds_same, kept_stands, left_stands}
use Rattle.copy.specs.Small.{small_drop}
use Rattle.copy.specs.Sector.{Sector, agree_same, movable_sector, sector_movable, kept_size_lem}
use Rattle.copy.specs.Written.{WordsWritten, word_free, program_words, Words, words_are, free_erased}

-- ---- one position after the other
module _ (g : Geometry) (src : Bytes) (ls : length src ≡ g.size) (by : (i : ℕ) → get_or src i 0 < 256) (fit : g.size ≤ 4096)
    (n : ℕ) (hn : stands n ≤ g.size) where
  abbrev the : ℕ → Descriptor
  the p = descriptor_at src (stands p)

  abbrev rest : ℕ → ℕ → List Descriptor
  rest k p = table k (drop (stands p) src)

  abbrev steps : ℕ → ℕ → ℕ → List Step
  steps k p low = copies 0 src (stands p) (rest k p) (packed low (rest k p))

  rest_cons : (k p : ℕ) → rest (suc k) p ≡ the p ∷ rest k (p + 1)
  unfolding table
  rest_cons k p = rw (next_place src p)

  pub record Filled (m : Bytes) (k p low : ℕ) (c : Bytes) : Type 0 where
    pub long : length c ≡ g.size
    pub copy : copy_from true src c (stands n) k p low ≡ true
    pub before : (b : ℕ) → b < stands p → get_or c b 0 ≡ get_or m b 0
    pub after : (b : ℕ) → low ≤ b → get_or c b 0 ≡ get_or m b 0

  copy_step : (c : Bytes) (k p low o : ℕ) → placed true src c (stands n) low (the p) (descriptor_at c (stands p)) ≡ Some o → copy_from true src c (stands n) k (p + 1) o ≡ true
      → copy_from true src c (stands n) (suc k) p low ≡ true
  unfolding copy_from past
  copy_step c k p low o e r = rw (copy_from, e) r

  -- the copy of one kept position: its four words, then its sector below low
  module _ (m : Bytes) (p low : ℕ) (lm : length m ≡ g.size) (hp : p < n) (hl : low ≤ g.size) (ev : low % 2 ≡ 0)
      (t : Sector g.size (the p)) (room : stands n + size (the p) ≤ low) (free : Blank m (stands p) low) where
    abbrev o : ℕ
    o = low - size (the p)

    abbrev four_words : List ℕ
    four_words = (the p).flags ∷ o ∷ (the p).len ∷ (the p).tag ∷ []

    abbrev m1 : Bytes
    m1 = finish (programs (0 + stands p) four_words) m

    abbrev m2 : Bytes
    m2 = finish (programs (0 + o) (words (take (size (the p)) (drop (the p).offset src)))) m1

    four_small : (i : ℕ) → i < 4 → get_or four_words i 0 < 65536
    unfolding descriptor
    four_small zero l = word_lt (drop (stands p) src) (small_drop (stands p) src by) 0
    four_small (suc zero) l = omega arith
    four_small (suc (suc zero)) l = word_lt (drop (stands p) src) (small_drop (stands p) src by) 4
    four_small (suc (suc (suc zero))) l = word_lt (drop (stands p) src) (small_drop (stands p) src by) 6
    four_small (suc (suc (suc (suc i)))) l = absurd (omega arith)

    first : WordsWritten m m1 (stands p) 4 (λ (i : ℕ). get_or four_words i 0)
    unfolding stands
    first =
        let z : 0 + stands p ≡ stands p = omega arith in
        rw z (program_words four_words m (stands p) (omega arith) four_small (λ i x y. free i x (omega arith)))

    half : size (the p) ≡ 2 * (size (the p) / 2)
    unfolding size
    half = omega arith

    sector_words : Words (size (the p) / 2) (take (size (the p)) (drop (the p).offset src))
    sector_words =
        words_are (size (the p) / 2) (take (size (the p)) (drop (the p).offset src))
        (length-take-le (size (the p)) (drop (the p).offset src) (simp length-drop (omega (arith, t.inside))) ∙ half)

    sector_word : (i : ℕ) → i < size (the p) / 2 → get_or (words (take (size (the p)) (drop (the p).offset src))) i 0 ≡ word src ((the p).offset + 2 * i)
    sector_word i l =
        sector_words.each i l
        ∙ word_same (take (size (the p)) (drop (the p).offset src)) (drop (the p).offset src) (2 * i) (2 * i)
        (get_or-take (size (the p)) (drop (the p).offset src) (2 * i) 0 (omega (arith, half)))
        (get_or-take (size (the p)) (drop (the p).offset src) (2 * i + 1) 0 (omega (arith, half)))
        ∙ word_drop (the p).offset src (2 * i)

    second : WordsWritten m1 m2 o (size (the p) / 2) (λ (i : ℕ). word src ((the p).offset + 2 * i))
    unfolding stands
    second = go (words (take (size (the p)) (drop (the p).offset src))) sector_words.long sector_word
      where
        go : (ws : List ℕ) → length ws ≡ size (the p) / 2 → ((i : ℕ) → i < size (the p) / 2 → get_or ws i 0 ≡ word src ((the p).offset + 2 * i))
            → WordsWritten m1 (finish (programs (0 + o) ws) m1) o (size (the p) / 2) (λ (i : ℕ). word src ((the p).offset + 2 * i))
        go ws l e =
            let z : 0 + o ≡ o = omega arith in
            let w = program_words ws m1 o (rw first.long (omega (arith, half))) (λ i k. rw (e i (omega arith)) (word_lt src by ((the p).offset + 2 * i)))
            (λ i x y. first.after i (omega arith) ∙ free i (omega arith) (omega (arith, half))) in
            rw z (record {
              long = w.long;
              there = λ i k. w.there i (omega arith) ∙ e i k;
              before = w.before;
              after = λ b k. w.after b (omega arith);
            })

    -- what is left is copied below, and touches neither
    module _ (k : ℕ) (c : Bytes) (f : Filled m2 k (p + 1) o c) where
      low_words : (b : ℕ) → b + 2 ≤ stands p + 8 → word c b ≡ word m1 b
      unfolding stands
      low_words b l =
          word_same c m2 b b (f.before b (omega arith)) (f.before (b + 1) (omega arith))
          ∙ word_same m2 m1 b b (second.before b (omega arith)) (second.before (b + 1) (omega arith))

      four_there : (i : ℕ) → i < 4 → word c (stands p + 2 * i) ≡ get_or four_words i 0
      four_there i l = low_words (stands p + 2 * i) (omega arith) ∙ first.there i l

      same : same_four true (moved o (the p)) (descriptor_at c (stands p)) ≡ true
      unfolding same_four descriptor moved
      same =
          let at : (i : ℕ) → i < 4 → word (drop (stands p) c) (2 * i) ≡ get_or four_words i 0 = λ i l. word_drop (stands p) c (2 * i) ∙ four_there i l in
          rw (
            holds_same true (the p).flags (word (drop (stands p) c) 0) (at 0 (omega arith)),
            holds_same true o (word (drop (stands p) c) 2) (at 1 (omega arith)),
            holds_same true (the p).len (word (drop (stands p) c) 4) (at 2 (omega arith)),
          ) (holds_same true (the p).tag (word (drop (stands p) c) 6) (at 3 (omega arith)))

      data_there : agree true (size (the p) / 2) (drop (the p).offset src) (drop o c) ≡ true
      data_there =
          agree_same (size (the p) / 2) (drop (the p).offset src) (drop o c)
          (λ i l.
          word_drop o c (2 * i)
          ∙ word_same c m2 (o + 2 * i) (o + 2 * i) (f.after (o + 2 * i) (omega arith)) (f.after (o + 2 * i + 1) (omega arith))
          ∙ second.there i l
          ∙ sym (word_drop (the p).offset src (2 * i)))

      placed_here : is_kept (the p) ≡ true → placed true src c (stands n) low (the p) (descriptor_at c (stands p)) ≡ Some o
      placed_here e = kept_stands true src c (stands n) low (the p) (descriptor_at c (stands p)) (record { kept = e; movable = rw ls (sector_movable g.size (the p) (stands n) low t room); four = same; words = data_there })

      pub kept_filled : is_kept (the p) ≡ true → Filled m (suc k) p low c
      unfolding stands
      kept_filled e =
          record {
            long = f.long;
            copy = copy_step c k p low o (placed_here e) f.copy;
            before = λ b l. f.before b (omega arith) ∙ second.before b (omega arith) ∙ first.before b l;
            after = λ b l. f.after b (omega arith) ∙ second.after b (omega (arith, half)) ∙ first.after b (omega arith);
          }

  -- a position that is not kept stays empty
  other_filled : (m : Bytes) (k p low : ℕ) (c : Bytes) → p < n → stands n ≤ low → low ≤ g.size → is_kept (the p) ≡ false → Blank m (stands p) low
      → Filled m k (p + 1) low c → Filled m (suc k) p low c
  unfolding stands is_empty descriptor
  other_filled m k p low c hp hl top e free f =
      record {
        long = f.long;
        copy = copy_step c k p low low here f.copy;
        before = λ b l. f.before b (omega arith);
        after = f.after;
      }
    where
      ff : (k : ℕ) → k + 2 ≤ 8 → eqb (word (drop (stands p) c) k) 0xFFFF ≡ true
      ff k y =
          eq-eqb (word (drop (stands p) c) k) 0xFFFF
          (word_drop (stands p) c k
          ∙ word_free c (stands p + k) (f.before (stands p + k) (omega arith) ∙ free (stands p + k) (omega arith) (omega arith)) (f.before (stands p + k + 1) (omega arith) ∙ free (stands p + k + 1) (omega arith) (omega arith)))

      empty : is_empty (descriptor_at c (stands p)) ≡ true
      empty = rw (ff 0 (omega arith), ff 6 (omega arith), ff 2 (omega arith)) (ff 4 (omega arith))

      here : placed true src c (stands n) low (the p) (descriptor_at c (stands p)) ≡ Some low
      here = left_stands true src c (stands n) low (the p) (descriptor_at c (stands p)) (record { left = e; empty = empty })

  next_stands : (p : ℕ) → stands p + descriptor_bytes ≡ stands (p + 1)
  unfolding stands
  next_stands p = omega arith

  -- the steps of one position, then the others'
  module _ (p low : ℕ) (ds : List Descriptor) where
    abbrev d : Descriptor
    d = the p

    abbrev o' : ℕ
    o' = low - size (the p)

    steps_kept : is_kept d ≡ true
        → copies 0 src (stands p) (d ∷ ds) (packed low (d ∷ ds))
        ≡ programs (0 + stands p) ((the p).flags ∷ o' ∷ (the p).len ∷ (the p).tag ∷ [])
        ++ (programs (0 + o') (words (take (size (the p)) (drop (the p).offset src))) ++ copies 0 src (stands (p + 1)) ds (packed o' ds))
    unfolding copies
    steps_kept e = ap (copies 0 src (stands p) (d ∷ ds)) pack ∙ rw (e, next_stands p)
      where
        pack : packed low (d ∷ ds) ≡ record { flags = (the p).flags; offset = o'; len = (the p).len; tag = (the p).tag } ∷ packed o' ds
        pack = unfold moved in packed_kept d ds low e

    steps_other : is_kept d ≡ false → copies 0 src (stands p) (d ∷ ds) (packed low (d ∷ ds)) ≡ copies 0 src (stands (p + 1)) ds (packed low ds)
    unfolding copies
    steps_other e = ap (copies 0 src (stands p) (d ∷ ds)) (packed_left d ds low e) ∙ rw (e, next_stands p)

  filled_none : (p low : ℕ) (m : Bytes) → p ≡ n → low ≤ g.size → length m ≡ g.size → Blank m (stands p) low → Filled m 0 p low (finish (steps 0 p low) m)
  unfolding copies finish table copy_from
  filled_none p low m e hl lm free =
      record {
        long = lm;
        copy = free_erased (low - stands n) (drop (stands n) m) (λ i x y. get_or-drop (stands n) m i 0 ∙ free (stands n + i) (rw e (omega arith)) (omega arith)) (simp length-drop (omega arith));
        before = λ b l. refl;
        after = λ b l. refl;
      }

  -- one position, with what is said of the others at hand
  module _ (k p low : ℕ) (m : Bytes) (hp : p < n) (hl : low ≤ g.size) (ev : low % 2 ≡ 0) (lm : length m ≡ g.size) (free : Blank m (stands p) low)
      (rec : (low : ℕ) (m : Bytes) → low ≤ g.size → low % 2 ≡ 0 → length m ≡ g.size → Blank m (stands (p + 1)) low → stands n + kept_size (rest k (p + 1)) ≤ low
      → Filled m k (p + 1) low (finish (steps k (p + 1) low) m)) where
    abbrev all_steps : List Step
    all_steps = copies 0 src (stands p) (the p ∷ rest k (p + 1)) (packed low (the p ∷ rest k (p + 1)))

    filled_kept : is_kept (the p) ≡ true → is_movable g (the p) ≡ true → stands n + (size (the p) + kept_size (rest k (p + 1))) ≤ low
        → Filled m (suc k) p low (finish all_steps m)
    unfolding stands
    filled_kept e mv room =
        let t = movable_sector g (the p) e mv in
        let r : stands n + size (the p) ≤ low = omega arith in
        let a = first m p low lm hp hl ev t r free in
        let b = second m p low lm hp hl ev t r free in
        let h = half m p low lm hp hl ev t r free in
        let M = m2 m p low lm hp hl ev t r free in
        let f = rec (low - size (the p)) (m2 m p low lm hp hl ev t r free) (omega arith) (omega (arith, h)) (b.long ∙ a.long ∙ lm)
        (λ i x y. b.before i y ∙ a.after i (omega arith) ∙ free i (omega arith) (omega arith)) (omega arith) in
        let q : finish all_steps m ≡ finish (steps k (p + 1) (low - size (the p))) (m2 m p low lm hp hl ev t r free) =
        ap (λ (xs : List Step). finish xs m) (steps_kept p low (rest k (p + 1)) e)
        ∙ finish_append (programs (0 + stands p) ((the p).flags ∷ (low - size (the p)) ∷ (the p).len ∷ (the p).tag ∷ []))
        (programs (0 + (low - size (the p))) (words (take (size (the p)) (drop (the p).offset src))) ++ steps k (p + 1) (low - size (the p))) m
        ∙ finish_append (programs (0 + (low - size (the p))) (words (take (size (the p)) (drop (the p).offset src)))) (steps k (p + 1) (low - size (the p))) (m1 m p low lm hp hl ev t r free) in
        rw q (kept_filled m p low lm hp hl ev t r free k (finish (steps k (p + 1) (low - size (the p))) (m2 m p low lm hp hl ev t r free)) f e)

    filled_other : is_kept (the p) ≡ false → stands n + kept_size (rest k (p + 1)) ≤ low → Filled m (suc k) p low (finish all_steps m)
    unfolding stands
    filled_other e room =
        let f = rec low m hl ev lm (λ i x y. free i (omega arith) y) room in
        rw (steps_other p low (rest k (p + 1)) e) (other_filled m k p low (finish (steps k (p + 1) low) m) hp (omega arith) hl e free f)

  pub filled : (k p low : ℕ) (m : Bytes) → p + k ≡ n → low ≤ g.size → low % 2 ≡ 0 → length m ≡ g.size → Blank m (stands p) low
      → all (is_movable g) (rest k p) ≡ true → stands n + kept_size (rest k p) ≤ low
      → Filled m k p low (finish (steps k p low) m)
  filled zero p low m pk hl ev lm free mv room = filled_none p low m (omega arith) hl lm free
  filled (suc k) p low m pk hl ev lm free mv room =
      let i = all_uncons (is_movable g) (the p) (rest k (p + 1)) (subst (λ (ds : List Descriptor). all (is_movable g) ds ≡ true) (rest_cons k p) mv) in
      let r : stands n + (cond (is_kept (the p)) (size (the p)) 0 + kept_size (rest k (p + 1))) ≤ low =
      kept_size_lem (the p) (rest k (p + 1)) (stands n) low (subst (λ (ds : List Descriptor). stands n + kept_size ds ≤ low) (rest_cons k p) room) in
      rw (rest_cons k p)
      (go (λ low m a b c d e. filled k (p + 1) low m (omega arith) a b c d i.1 e) (is_kept (the p)) refl i.0 r)
    where
      go : ((low : ℕ) (m : Bytes) → low ≤ g.size → low % 2 ≡ 0 → length m ≡ g.size → Blank m (stands (p + 1)) low → stands n + kept_size (rest k (p + 1)) ≤ low
          → Filled m k (p + 1) low (finish (steps k (p + 1) low) m))
          → (x : Bool) → is_kept (the p) ≡ x → is_movable g (the p) ≡ true
          → stands n + (cond x (size (the p)) 0 + kept_size (rest k (p + 1))) ≤ low
          → Filled m (suc k) p low (finish (copies 0 src (stands p) (the p ∷ rest k (p + 1)) (packed low (the p ∷ rest k (p + 1)))) m)
      go rec true e mv room = filled_kept k p low m (omega arith) hl ev lm free rec e mv room
      go rec false e mv room = filled_other k p low m (omega arith) hl ev lm free rec e (omega arith)
