-- Entries alike: one handle, kind, file, length and content, wherever they stand. A move leaves such entries.
use Rattle.std.specs.Prelude.{Bool, false, true, ◌≡◌, ◌%◌, ◌+◌, ◌-◌, ◌/◌, ◌≤◌, suc, zero, ℕ, eqb, length, replicate, take}
use Rattle.std.proofs.Math.Bool.{cond}
use mathlib.Core.List.{List, [], ◌++◌, ◌∷◌, append_assoc}
use Rattle.std.proofs.Common.{◌∙◌, ap₂, arith, length-append}
use Rattle.std.proofs.Math.Path.{ap, refl, sym}
use Rattle.std.proofs.Math.ListN.{drop}
use Rattle.std.proofs.Math.Seq.{drop-append_seam, take-append-le, take-take}
use Rattle.rules.specs.Copy.{is_kept, kept_size, packed}
use Rattle.rules.specs.Flash.{Bytes}
use Rattle.rules.specs.Lists.{all, filter}
use Rattle.rules.specs.Settled.{Entry, of_file, pairs, pick}
use Rattle.rules.specs.Unit.{Descriptor, blank, file_of, has_sector, is_allocated, is_current, is_data, is_old, is_pending, is_placed, size, trim}
use Rattle.rules.specs.declared.Geometry.{Geometry}
use Rattle.laws.specs.Copied.{kept_sector}
use Rattle.theory.specs.Base.Facts.{all_uncons, append-nil, filter_append, true_false}
use Rattle.theory.specs.Images.Layout.{are_bytes}
use Rattle.theory.specs.Images.Sectors.{AllAbove, content_over}
use Rattle.theory.specs.Images.Model.{home_entries, entry_at}
use Rattle.theory.specs.Images.Located.{in_append}
use Rattle.theory.specs.Tidying.Sorted.{data_only, num, views}
use Rattle.theory.specs.Moves.Copied.{moved}
use Rattle.theory.specs.Storing.Stores.{p}
use Rattle.theory.specs.Images.Packing.{Lying, lying}
use Rattle.theory.specs.Moves.Packed.{Trimmed, trimmed}
use Rattle.theory.specs.Moves.Gather.{gather, sector_length, sector_over}

pub record SameButPlace (e f : Entry) : Type 0 where
  pub handle : e.at ≡ f.at
  pub flags : e.descriptor.flags ≡ f.descriptor.flags
  pub len : e.descriptor.len ≡ f.descriptor.len
  pub tag : e.descriptor.tag ≡ f.descriptor.tag
  pub content : e.content ≡ f.content

pub data AllAlike : List Entry → List Entry → Type 0 where
  neither : AllAlike [] []
  pair : {e f : Entry} {es fs : List Entry} → SameButPlace e f → AllAlike es fs → AllAlike (e ∷ es) (f ∷ fs)

pub alike_self : (es : List Entry) → AllAlike es es
alike_self [] = neither
alike_self (e ∷ es) = pair (record { handle = refl; flags = refl; len = refl; tag = refl; content = refl }) (alike_self es)

pub alike_append : {a b c d : List Entry} → AllAlike a b → AllAlike c d → AllAlike (a ++ c) (b ++ d)
alike_append neither k = k
alike_append (pair h t) k = pair h (alike_append t k)

pub alike_length : {a b : List Entry} → AllAlike a b → length a ≡ length b
alike_length neither = refl
alike_length (pair h t) = ap suc (alike_length t)

file_same : {e f : Entry} → SameButPlace e f → num e ≡ num f
unfolding file_of
file_same a = ap (λ (n : ℕ). n % 256) a.tag

pub alike_file : {a b : List Entry} → AllAlike a b → (f : ℕ) → AllAlike (filter (of_file f) a) (filter (of_file f) b)
unfolding filter of_file
alike_file neither f = neither
alike_file (pair {e = e} {f = x} {es = es} {fs = fs} h t) f = go (of_file f e) (of_file f x) (ap (λ (n : ℕ). eqb n f) (file_same h)) (alike_file t f)
  where
    go : (b c : Bool) → b ≡ c → AllAlike (filter (of_file f) es) (filter (of_file f) fs) → AllAlike (cond b (e ∷ filter (of_file f) es) (filter (of_file f) es)) (cond c (x ∷ filter (of_file f) fs) (filter (of_file f) fs))
    go true true q r = pair h r
    go false false q r = r
    go true false q r = true_false true refl q
    go false true q r = true_false false q refl

pub alike_pairs : {a b : List Entry} → AllAlike a b → pairs a ≡ pairs b
unfolding pairs
alike_pairs neither = refl
alike_pairs (pair {e = e} {f = x} {es = es} {fs = fs} h t) =
    ap₂ (λ (x y : ℕ). x + y) (ap (λ (n : ℕ). length (filter (of_file n) es)) (file_same h) ∙ alike_length (alike_file t (num x))) (alike_pairs t)

pub alike_data : {a b : List Entry} → AllAlike a b → data_only a ≡ data_only b
unfolding all is_data
alike_data neither = refl
alike_data (pair {e = e} {f = x} {es = es} {fs = fs} h t) = ap₂ (λ (n : ℕ) (r : Bool). elim (eqb (n / 256) 16) as (λ j. Bool) [ true ↦ r | false ↦ false ]) h.tag (alike_data t)

pub alike_views : {a b : List Entry} → AllAlike a b → views a ≡ views b
alike_views neither = refl
alike_views (pair h t) = λ i. record { at = h.handle i; content = h.content i } ∷ alike_views t i

-- ---- the entries of a packed home
-- a test of flags and tag that is met by kept ones alone
pub record MetByKept (p : Descriptor → Bool) : Type 0 where
  pub moves : (o : ℕ) (d : Descriptor) → p (moved o d) ≡ p d
  pub kept : (d : Descriptor) → p d ≡ true → is_kept d ≡ true
  pub blank' : p blank ≡ false

-- one that no kept one meets
pub record NotOf (p : Descriptor → Bool) : Type 0 where
  pub moves : (o : ℕ) (d : Descriptor) → p (moved o d) ≡ p d
  pub kept : (d : Descriptor) → is_kept d ≡ true → p d ≡ false
  pub blank' : p blank ≡ false

gather_over : (g : Geometry) (rest : Bytes) (ds : List Descriptor) (r : Bytes) → gather g rest ds r ≡ gather g rest ds [] ++ r
gather_over g rest [] r = refl
gather_over g rest (d ∷ ds) r = go (is_kept d) (gather_over g rest ds)
  where
    S : Bytes
    S = sector_over g rest d

    go : (k : Bool) → ((x : Bytes) → gather g rest ds x ≡ gather g rest ds [] ++ x) → gather g rest ds (cond k (S ++ r) r) ≡ gather g rest ds (cond k (S ++ []) []) ++ r
    go true f = f (S ++ r) ∙ sym (append_assoc (gather g rest ds []) S r) ∙ ap (λ (x : Bytes). (gather g rest ds [] ++ x) ++ r) (sym (append-nil S)) ∙ ap (λ (x : Bytes). x ++ r) (sym (f (S ++ [])))
    go false f = f r

module _ (g : Geometry) (rest : Bytes) (floor from : ℕ) (bytes : are_bytes rest ≡ true) (fits' : floor + length rest ≡ g.size) (R : Bytes) where
  -- a kept sector's content, in the copy
  content_kept : (d : Descriptor) (ds : List Descriptor) (low : ℕ) (r : Bytes) → Lying g from d → floor ≤ d.offset → has_sector d ≡ true → low + length r ≡ g.size → size d ≤ low
      → R ≡ gather g rest ds (sector_over g rest d ++ r) → content_over g R (moved (low - size d) d) ≡ content_over g rest d
  unfolding has_sector size is_allocated is_pending is_current is_old
  content_kept d ds low r y a s sum l q =
      ap (λ (b : Bool). cond b (take d.len (drop (length R + (low - size d) - g.size) R)) []) s
      ∙ ap (take d.len) (ap₂ (λ (n : ℕ) (x : Bytes). drop n x) at whole ∙ drop-append_seam X (S ++ r))
      ∙ take-append-le d.len S r (omega (arith, len))
      ∙ take-take d.len (size d) (drop (length rest + d.offset - g.size) rest) (omega arith)
      ∙ sym (ap (λ (b : Bool). cond b (take d.len (drop (length rest + d.offset - g.size) rest)) []) s)
    where
      S : Bytes
      S = sector_over g rest d

      X : Bytes
      X = gather g rest ds []

      len : length S ≡ size d
      len = sector_length g rest floor bytes fits' from d y a

      whole : R ≡ X ++ (S ++ r)
      whole = q ∙ gather_over g rest ds (S ++ r)

      at : length R + (low - size d) - g.size ≡ length X
      at = omega (arith, ap length whole, length-append X (S ++ r), length-append S r, len, sum, l)

  pub packed_alike : (p : Descriptor → Bool) → MetByKept p → (L k k' i low : ℕ) (ds : List Descriptor) (r : Bytes) → low + length r ≡ g.size → kept_size ds ≤ low → all (is_placed g from) ds ≡ true → AllAbove floor ds
      → R ≡ gather g rest ds r → AllAlike (pick p (home_entries g L k R i (packed low ds))) (pick p (home_entries g L k' rest i ds))
  unfolding pick filter packed kept_size
  packed_alike p o L k k' i low [] r sum l h a q = neither
  packed_alike p o L k k' i low (d ∷ ds) r sum l h a q =
      go (is_kept d) refl l q
      (λ low' r' s' l' q'. packed_alike p o L k k' (suc i) low' ds r' s' l' (all_uncons (is_placed g from) d ds h).1 a.1 q')
    where
      rest' : List Entry
      rest' = pick p (home_entries g L k' rest (suc i) ds)

      both_ways : (e f : Entry) (es fs : List Entry) (b c : Bool) → b ≡ c → (c ≡ true → SameButPlace e f) → AllAlike es fs → AllAlike (cond b (e ∷ es) es) (cond c (f ∷ fs) fs)
      both_ways e f es fs true true z w t = pair (w refl) t
      both_ways e f es fs false false z w t = t
      both_ways e f es fs true false z w t = true_false true refl z
      both_ways e f es fs false true z w t = true_false false z refl

      go : (b : Bool) → is_kept d ≡ b → cond b (size d) 0 + kept_size ds ≤ low → R ≡ gather g rest ds (cond b (sector_over g rest d ++ r) r)
          → ((low' : ℕ) (r' : Bytes) → low' + length r' ≡ g.size → kept_size ds ≤ low' → R ≡ gather g rest ds r' → AllAlike (pick p (home_entries g L k R (suc i) (packed low' ds))) (pick p (home_entries g L k' rest (suc i) ds)))
          → AllAlike (pick p (home_entries g L k R i (elim b as (λ j. List Descriptor) [ true ↦ moved (low - size d) d ∷ packed (low - size d) ds | false ↦ blank ∷ packed low ds ]))) (pick p (home_entries g L k' rest i (d ∷ ds)))
      go true e m z f =
          both_ways (entry_at g L k R i (moved (low - size d) d)) (entry_at g L k' rest i d) (pick p (home_entries g L k R (suc i) (packed (low - size d) ds))) rest' (p (moved (low - size d) d)) (p d) (o.moves (low - size d) d)
          (λ t. record { handle = refl; flags = refl; len = refl; tag = refl; content = content_kept d ds low r y (a.0 (kept_sector d e)) (kept_sector d e) sum (omega arith) z })
          (f (low - size d) (sector_over g rest d ++ r) (omega (arith, sum, length-append (sector_over g rest d) r, sector_length g rest floor bytes fits' from d y (a.0 (kept_sector d e)))) (omega arith) z)
        where
          y : Lying g from d
          y = lying g from d (all_uncons (is_placed g from) d ds h).0 (kept_sector d e)
      go false e m z f = both_ways (entry_at g L k R i blank) (entry_at g L k' rest i d) (pick p (home_entries g L k R (suc i) (packed low ds))) rest' (p blank) (p d) (o.blank' ∙ sym not_p) (λ t. true_false (p d) t not_p) (f low r sum (omega arith) z)
        where
          case : (b : Bool) → p d ≡ b → p d ≡ false
          case true t = true_false (is_kept d) (o.kept d t) e
          case false t = t

          not_p : p d ≡ false
          not_p = case (p d) refl

-- none of a packed home's is torn or allocated
pub packed_none : (g : Geometry) (p : Descriptor → Bool) → NotOf p → (L k i low : ℕ) (R : Bytes) (ds : List Descriptor) → pick p (home_entries g L k R i (packed low ds)) ≡ []
unfolding pick filter packed
packed_none g p o L k i low R [] = refl
packed_none g p o L k i low R (d ∷ ds) = go (is_kept d) refl (packed_none g p o L k (suc i) (low - size d) R ds) (packed_none g p o L k (suc i) low R ds)
  where
    skip : (e : Entry) (es : List Entry) → p e.descriptor ≡ false → pick p es ≡ [] → pick p (e ∷ es) ≡ []
    skip e es n h = ap (λ (b : Bool). cond b (e ∷ pick p es) (pick p es)) n ∙ h

    go : (b : Bool) → is_kept d ≡ b → pick p (home_entries g L k R (suc i) (packed (low - size d) ds)) ≡ [] → pick p (home_entries g L k R (suc i) (packed low ds)) ≡ []
        → pick p (home_entries g L k R i (elim b as (λ j. List Descriptor) [ true ↦ moved (low - size d) d ∷ packed (low - size d) ds | false ↦ blank ∷ packed low ds ])) ≡ []
    go true e h j = skip (entry_at g L k R i (moved (low - size d) d)) (home_entries g L k R (suc i) (packed (low - size d) ds)) (o.moves (low - size d) d ∙ o.kept d e) h
    go false e h j = skip (entry_at g L k R i blank) (home_entries g L k R (suc i) (packed low ds)) o.blank' j

-- the blanks at the end show nothing
pub trim_pick : (g : Geometry) (p : Descriptor → Bool) → p blank ≡ false → (L k : ℕ) (R : Bytes) (es : List Descriptor) → pick p (home_entries g L k R 0 (trim es)) ≡ pick p (home_entries g L k R 0 es)
unfolding pick filter
trim_pick g p n L k R es =
    sym (append-nil (pick p (home_entries g L k R 0 (trim es))))
    ∙ ap (λ (l : List Entry). pick p (home_entries g L k R 0 (trim es)) ++ l) (sym (none (length T.rest) (0 + length (trim es)) ∙ refl) ∙ ap (λ (l : List Descriptor). pick p (home_entries g L k R (0 + length (trim es)) l)) (sym T.blanks))
    ∙ sym (filter_append (λ (e : Entry). p e.descriptor) (home_entries g L k R 0 (trim es)) (home_entries g L k R (0 + length (trim es)) T.rest))
    ∙ ap (pick p) (sym (in_append g L k R 0 (trim es) T.rest))
    ∙ ap (λ (l : List Descriptor). pick p (home_entries g L k R 0 l)) (sym T.whole)
  where
    T : Trimmed es
    T = trimmed es

    none : (m i : ℕ) → pick p (home_entries g L k R i (replicate m blank)) ≡ []
    none zero i = refl
    none (suc m) i = ap (λ (b : Bool). cond b (entry_at g L k R i blank ∷ pick p (home_entries g L k R (suc i) (replicate m blank))) (pick p (home_entries g L k R (suc i) (replicate m blank)))) n ∙ none m (suc i)

pub alike_sym : {a b : List Entry} → AllAlike a b → AllAlike b a
alike_sym neither = neither
alike_sym (pair h t) = pair (record { handle = sym h.handle; flags = sym h.flags; len = sym h.len; tag = sym h.tag; content = sym h.content }) (alike_sym t)
