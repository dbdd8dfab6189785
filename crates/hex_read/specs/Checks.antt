-- The check of a text, line by line, with marks for what is named.
use Rattle.std.specs.Prelude.{◌≡◌, refl, true, false, not, eqb, Some, None, is_some, MatchOption, Result, Ok, Err, IsOk, List, [], ◌∷◌, ℕ, ◌+◌, ◌-◌, ◌≤◌, ◌<◌, length, get_or, set, replicate}
use Rattle.std.proofs.Common.{sym, ap, ◌∙◌, subst, arith, get_or-set_other}
use Rattle.std.proofs.Math.Decide.{ℕ_discrete}
use borrow.Author.Tests.{not-true, not-false, eqb-true}
use Rattle.std.proofs.lemmas.Bool.{eqb-false}
use Rattle.hex_lines.specs.Sets.{sets_more}
use Rattle.std.specs.Prelude as std
use Rattle.std.proofs.Math.Option.{Option, none}
use denote.Ref.{Bor}
use Rattle.std.proofs.lemmas.List.{length-replicate, get_or-replicate, replicate-append-replicate}
use Rattle.std.proofs.lemmas.List.Edits.{sets}
use Rattle.std.proofs.Math.Seq.{length-sets}
use Rattle.rules.specs.Flash.{Bytes}
use Rattle.rules.specs.Lists.{is_none}
use Rattle.hex_lines.specs.declared.Record.TheVariants.{End, Data}
use Rattle.hex_lines.specs.declared.HexFault.{HexFault}
use Rattle.hex_lines.specs.declared.HexFault.TheVariants.{BadLine, Outside, NamedTwice, NoEnd}
use Rattle.hex_lines.specs.Records.{record_of, data_of, lines_of}
use Rattle.hex_lines.specs.Reads.{Cells, reading, read_text, name}
use Rattle.hex_lines.specs.Data.{data_formed, data_counted, data_length}
use Rattle.hex_lines.specs.Steps.{reading_bad, reading_end, reading_outside, reading_taken, reading_on, is_outside_lem, is_inside}
use Rattle.hex_read.specs.Cells.{mark_of, Marks, none_taken, some_taken, name_marks, name_length}

-- The lines ls come to what the whole text comes to, with what was named before them; the marks m are of that.
pub record Tracked (t : Bytes) (size : ℕ) (ls : List Bytes) (m : Bytes) : Type 0 where
  pub cells : Cells
  pub sized : length cells ≡ size
  pub same : read_text t size ≡ reading ls cells
  pub wide : length m ≡ 65536
  pub marks : Marks m cells

-- What the n addresses from a on come to, from the marks m to u.
pub data Naming (size a n : ℕ) (m u : Bytes) : Result (Unit {0}) HexFault → Type 0 where
  outside : 0 < n → size < a + n → Naming size a n m u (Err Outside)
  twice : (k : ℕ) → a ≤ k → k < a + n → a + n ≤ size → (get_or m k 0 ≡ 0 → ⊥) → Naming size a n m u (Err NamedTwice)
  fresh : (0 < n → a + n ≤ size) → ((k : ℕ) → a ≤ k → k < a + n → get_or m k 0 ≡ 0) → u ≡ sets m a (replicate n 1) → Naming size a n m u (Ok tt)

pub tracked_first : (t : Bytes) (size : ℕ) → size ≤ 65536 → Tracked t size (lines_of t) (replicate 65536 0)
unfolding read_text
tracked_first t size h =
    record {
      cells = replicate size none;
      sized = length-replicate size none;
      same = refl;
      wide = length-replicate {A = ℕ} 65536 0;
      marks = λ j l. let k : j < size = omega (arith, length-replicate {A = Option ℕ} size none) in get_or-replicate {A = ℕ} 65536 j 0 0 (omega arith) ∙ sym (ap mark_of (get_or-replicate size j none none k));
    }

-- what `next` tells of the lines that are left
pub left : (o : std.Option (Bor Bytes)) (ls rs : List Bytes) → MatchOption o ((ls ≡ []) × (rs ≡ [])) (λ x. ls ≡ x.now ∷ rs) → is_none ls ≡ not (is_some o)
unfolding is_none
left None ls rs h = rw h.0
left (Some x) ls rs h = rw h

module _ (t : Bytes) (size : ℕ) (m : Bytes) where
  pub checked_none : Tracked t size [] m → read_text t size ≡ Err NoEnd
  unfolding reading
  checked_none k = k.same

  module _ (l : Bytes) (ls : List Bytes) (k : Tracked t size (l ∷ ls) m) where
    pub checked_bad : (e : HexFault) → record_of l ≡ Err e → read_text t size ≡ Err e
    checked_bad e q = k.same ∙ reading_bad l ls k.cells e q

    module _ (q : record_of l ≡ Ok End) where
      pub checked_end : is_none ls ≡ true → IsOk (read_text t size)
      checked_end e = rw (k.same ∙ reading_end l ls k.cells q, e)

      pub checked_after : is_none ls ≡ false → read_text t size ≡ Err BadLine
      checked_after e = k.same ∙ reading_end l ls k.cells q ∙ rw e

    module _ (a n : ℕ) (q : record_of l ≡ Ok (Data a n)) (u : Bytes) where
      pub named_refused : (e : HexFault) → Naming size a n m u (Err e) → read_text t size ≡ Err e
      named_refused e (outside z o) = k.same ∙ reading_outside l ls k.cells a n q (is_outside_lem a n k.cells z (omega (arith, k.sized)))
      named_refused e (twice j x y o z) =
          let i : a + n ≤ length k.cells = omega (arith, k.sized) in
          k.same ∙ reading_taken l ls k.cells a n q (is_inside a n k.cells (λ h. i)) (some_taken m k.cells k.marks n a j i x y z)

      long : length (data_of l) ≡ n
      long = data_length l (data_formed l a n q) ∙ data_counted l a n q

      pub named_fresh : size ≤ 65536 → Naming size a n m u (Ok tt) → Tracked t size ls u
      named_fresh b (fresh o f e) =
          let i : 0 < n → a + n ≤ length k.cells = λ (h : 0 < n). omega (arith, k.sized, o h) in
          record {
            cells = name a (data_of l) k.cells;
            sized = name_length a (data_of l) k.cells ∙ k.sized;
            same = k.same ∙ reading_on l ls k.cells a n q (is_inside a n k.cells i) (none_taken m k.cells k.marks n a i f);
            wide = ap length e ∙ length-sets m a (replicate n 1) ∙ k.wide;
            marks = subst (λ (x : Bytes). Marks x (name a (data_of l) k.cells)) (ap (λ (j : ℕ). sets m a (replicate j 1)) long ∙ sym e) (name_marks (data_of l) m k.cells a (rw long i) (omega (arith, k.sized, k.wide)) k.marks);
          }

-- ---- marking so many addresses
-- The addresses from a up to k are marked, none of which was; the others are as they were.
pub record Noted (m : Bytes) (a k : ℕ) (u : Bytes) : Type 0 where
  pub done : u ≡ sets m a (replicate (k - a) 1)
  pub fresh : (j : ℕ) → a ≤ j → j < k → get_or m j 0 ≡ 0
  pub rest : (j : ℕ) → k ≤ j → get_or u j 0 ≡ get_or m j 0

pub noted_none : (m : Bytes) (a : ℕ) → Noted m a a m
noted_none m a =
    let z : a - a ≡ 0 = omega arith in
    record { done = rw z; fresh = λ j h l. absurd (omega arith); rest = λ j h. refl }

pub noted_more : (m u v : Bytes) (a k : ℕ) → a ≤ k → Noted m a k u → not (eqb (get_or u k 0) 0) ≡ false → v ≡ set u k 1 → Noted m a (k + 1) v
noted_more m u v a k h n w e =
    let i : k + 1 - a ≡ k - a + 1 = omega arith in
    let l : a + length (replicate {A = ℕ} (k - a) 1) ≡ k = omega (arith, length-replicate {A = ℕ} (k - a) 1) in
    record {
      done =
          e ∙ ap (λ (s : Bytes). set s k 1) n.done ∙ rw l at (sets_more (replicate (k - a) 1) (1 ∷ []) m a) ∙ ap (sets m a) (replicate-append-replicate {A = ℕ} (k - a) 1 1) ∙ rw i;
      fresh = λ j x y. go j x y (ℕ_discrete j k);
      rest = λ j x. ap (λ (s : Bytes). get_or s j 0) e ∙ get_or-set_other u k j 1 0 (λ q. omega arith) ∙ n.rest j (omega arith);
    }
  where
    z : get_or u k 0 ≡ 0
    z = eqb-true (get_or u k 0) 0 (not-false (eqb (get_or u k 0) 0) w)

    go : (j : ℕ) → a ≤ j → j < k + 1 → Dec (j ≡ k) → get_or m j 0 ≡ 0
    go j x y (yes q) = ap (λ (i : ℕ). get_or m i 0) q ∙ sym (n.rest k (omega arith)) ∙ z
    go j x y (no q) = n.fresh j x (omega arith)

pub noted_all : (size a n k : ℕ) (m u : Bytes) → a ≤ k → k ≡ a + n → (0 < n → a + n ≤ size) → Noted m a k u → Naming size a n m u (Ok tt)
noted_all size a n k m u h q l d =
    let i : k - a ≡ n = omega arith in
    fresh l (λ j x y. d.fresh j x (omega arith)) (d.done ∙ ap (λ (j : ℕ). sets m a (replicate j 1)) i)

pub noted_twice : (size a n k : ℕ) (m u v : Bytes) → a ≤ k → k < a + n → (0 < n → a + n ≤ size) → Noted m a k u → not (eqb (get_or u k 0) 0) ≡ true → Naming size a n m v (Err NamedTwice)
noted_twice size a n k m u v h q l d w =
    twice k h q (l (omega arith)) (λ e. eqb-false (get_or u k 0) 0 (not-true (eqb (get_or u k 0) 0) w) (d.rest k (omega arith) ∙ e))
