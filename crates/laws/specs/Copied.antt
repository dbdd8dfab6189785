-- What copying leaves in an erased unit: the packed descriptors, a gap of FF below their sectors, and nothing outside.
use Rattle.std.specs.Prelude.{◌≡◌, true, false, take, drop, get_or, eqb}
use Rattle.std.proofs.Math.Path.{refl, subst}
use Rattle.std.proofs.Common.{sym, ap, ◌∙◌, arith, eqb-true, length-take}
use mathlib.Core.List.{List, [], ◌∷◌, ◌++◌}
use Prim.Native.Nat.{ℕ, suc, ◌+◌, ◌-◌, ◌*◌, ◌%◌, ◌≤◌, ◌<◌}
use Rattle.std.proofs.Math.ListN.{length}
use Rattle.rules.specs.Flash.{Bytes, word, Step, finish, programs, words}
use Rattle.rules.specs.Unit.{Descriptor, blank, descriptor_bytes, pending, current, is_empty, is_pending, is_current, is_allocated, is_old, has_sector, size, lower, lowest, trim}
use Rattle.rules.specs.Copy.{is_kept, packed, copies}
use Rattle.laws.specs.Tests.{either, one, clash}
use Rattle.laws.specs.Lists.{Every, every_append}
use Rattle.laws.specs.Words.{word_same}
use Rattle.laws.specs.Runs.{finish_append}
use Rattle.laws.specs.Copies.{moved, four, sector_of, size_even, packed_kept, packed_left, copies_kept, copies_left}
use Rattle.laws.specs.Rooms.{lower_sector, lower_none, lowest_le, erased_none, trim_full, trim_none, trim_more}
use Rattle.laws.specs.Frames.{StepInside, inside_wider, programs_inside, inside_length, inside_byte, inside_below, Blank, blank_word, two_written}

-- ---- a kept descriptor
-- Its flags are FFFC or FFF8.
kept_flags : (d : Descriptor) {A : Type 0} → is_kept d ≡ true → (d.flags ≡ 0xFFFC → A) → (d.flags ≡ 0xFFF8 → A) → A
unfolding is_kept is_pending is_current
kept_flags d e f g = one (eqb d.flags pending) (eqb d.flags current) e (λ t. f (eqb-true d.flags pending t)) (λ t. g (eqb-true d.flags current t))

module _ (d : Descriptor) (e : is_kept d ≡ true) where
  -- They are a word.
  pub kept_small : d.flags < 65536
  kept_small = kept_flags d e (λ q. omega arith) (λ q. omega arith)

  -- Wherever it is put, it is not empty.
  pub kept_full : (o : ℕ) → is_empty (moved o d) ≡ false
  unfolding is_empty moved
  kept_full o = kept_flags d e (λ q. rw q) (λ q. rw q)

  -- It has a sector,
  pub kept_sector : has_sector d ≡ true
  unfolding has_sector is_allocated is_pending is_current is_old
  kept_sector = kept_flags d e (λ q. rw q) (λ q. rw q)

  -- wherever that is put.
  pub moved_sector : (o : ℕ) → has_sector (moved o d) ≡ true
  unfolding has_sector is_allocated is_pending is_current is_old moved
  moved_sector o = kept_sector

-- ---- the packed array
-- A blank one is empty.
pub blank_empty : is_empty blank ≡ true
unfolding is_empty blank
blank_empty = refl

blank_none : has_sector blank ≡ false
unfolding blank
blank_none = erased_none blank refl

module _ (d : Descriptor) (ds : List Descriptor) (low : ℕ) where
  -- Below a kept sector the others lie.
  pub lowest_kept : is_kept d ≡ true → lowest low (packed low (d ∷ ds)) ≡ lowest (low - size d) (packed (low - size d) ds)
  unfolding lowest
  lowest_kept e = rw (packed_kept d ds low e) (ap (λ (l : ℕ). lowest l (packed (low - size d) ds)) here)
    where
      here : lower low (moved (low - size d) d) ≡ low - size d
      here = lower_sector low (moved (low - size d) d) (moved_sector d e (low - size d)) ∙ (unfold moved in omega arith)

  -- What is not kept does nothing to low.
  pub lowest_left : is_kept d ≡ false → lowest low (packed low (d ∷ ds)) ≡ lowest low (packed low ds)
  unfolding lowest
  lowest_left e = rw (packed_left d ds low e) (ap (λ (l : ℕ). lowest l (packed low ds)) (lower_none low blank blank_none))

  -- A kept one is not trimmed.
  pub trim_kept : is_kept d ≡ true → trim (packed low (d ∷ ds)) ≡ moved (low - size d) d ∷ trim (packed (low - size d) ds)
  trim_kept e = rw (packed_kept d ds low e) (trim_full (moved (low - size d) d) (packed (low - size d) ds) (kept_full d e (low - size d)))

-- Where no position is left, nothing is copied.
none_copied : (base : ℕ) (u : Bytes) (at low : ℕ) (ds : List Descriptor) → trim (packed low ds) ≡ [] → copies base u at ds (packed low ds) ≡ []
none_copied base u at low [] h = unfold copies in refl
none_copied base u at low (d ∷ ds) h =
    either (is_kept d)
    (λ e. let q : moved (low - size d) d ∷ trim (packed (low - size d) ds) ≡ [] = sym (trim_kept d ds low e) ∙ h in clash (cc))
    (λ e.
    rw (packed_left d ds low e, copies_left d ds base u at blank (packed low ds) e)
    (none_copied base u (at + descriptor_bytes) low ds (go (trim (packed low ds)) refl (rw (packed_left d ds low e) at h))))
  where
    go : (ts : List Descriptor) → trim (packed low ds) ≡ ts → trim (blank ∷ packed low ds) ≡ [] → trim (packed low ds) ≡ []
    go [] q k = q
    go (t ∷ ts) q k = let p : blank ∷ (t ∷ ts) ≡ [] = sym (trim_more blank t (packed low ds) ts q) ∙ k in clash (cc)

-- ---- the copy
-- The words of a content take its length rounded up to even.
pub words_length : (c : Bytes) → 2 * length (words c) ≡ length c + length c % 2
unfolding words
words_length [] = refl
words_length (a ∷ []) = refl
words_length (a ∷ (b ∷ c)) = omega (arith, words_length c)

sector_fits : (u : Bytes) (d : Descriptor) → 2 * length (sector_of u d) ≤ size d
unfolding sector_of
sector_fits u d = omega (arith, words_length c, length-take (size d) (drop d.offset u), size_even d)
  where
    c : Bytes
    c = take (size d) (drop d.offset u)

-- From offset a on stand the flags and offsets of these descriptors.
abbrev pub HoldsDescriptors : Bytes → ℕ → List Descriptor → Type 0
HoldsDescriptors s a [] = Unit {0}
HoldsDescriptors s a (e ∷ es) = (word s a ≡ e.flags) × (word s (a + 2) ≡ e.offset) × HoldsDescriptors s (a + descriptor_bytes) es

-- They stand wherever the same bytes stand.
pub holds_same : (s t : Bytes) (a b : ℕ) (es : List Descriptor)
    → ((x y i : ℕ) → x ≡ a + i → y ≡ b + i → i < descriptor_bytes * length es → get_or t y 0 ≡ get_or s x 0) → HoldsDescriptors s a es → HoldsDescriptors t b es
holds_same s t a b [] f h = tt
holds_same s t a b (e ∷ es) f h = (
  word_same t s b a (f a b 0 (omega arith) (omega arith) (omega arith)) (f (a + 1) (b + 1) 1 refl refl (omega arith)) ∙ h.0,
  word_same t s (b + 2) (a + 2) (f (a + 2) (b + 2) 2 refl refl (omega arith)) (f (a + 2 + 1) (b + 2 + 1) 3 (omega arith) (omega arith) (omega arith)) ∙ h.1,
  holds_same s t (a + descriptor_bytes) (b + descriptor_bytes) es (λ x y i p q l. f x y (descriptor_bytes + i) (omega arith) (omega arith) (omega arith)) h.2,
)

-- Steps that stay between `at` and low of the unit at `base`, and leave these descriptors at `at` and FF from there up to `top`.
pub record Leave (base at low : ℕ) (xs : List Step) (ts : List Descriptor) (top : ℕ) (s : Bytes) : Type 0 where
  pub inside : Every (StepInside (base + at) (base + low)) xs
  pub holds : HoldsDescriptors (finish xs s) (base + at) ts
  pub clear : Blank (finish xs s) (base + at + descriptor_bytes * length ts) (base + top)

leave_none : (base at low top : ℕ) (s : Bytes) → top ≤ low → Blank s (base + at) (base + low) → Leave base at low [] [] top s
leave_none base at low top s l b = unfold finish in record { inside = tt; holds = tt; clear = λ i p q. b i (omega arith) (omega arith) }

-- An empty position before them.
leave_left : (base at low : ℕ) (xs : List Step) (ts : List Descriptor) (top : ℕ) (s : Bytes) → Blank s (base + at) (base + low) → at + descriptor_bytes ≤ low
    → Leave base (at + descriptor_bytes) low xs ts top s → Leave base at low xs (blank ∷ ts) top s
unfolding blank
leave_left base at low xs ts top s b l h =
    record {
      inside = inside_wider _ _ (base + at) (base + low) (omega arith) (omega arith) xs h.inside;
      holds = (
        stays (base + at) (omega arith) ∙ erased (base + at) (omega arith) (omega arith),
        stays (base + at + 2) (omega arith) ∙ erased (base + at + 2) (omega arith) (omega arith),
        rw next h.holds,
      );
      clear = λ i p q. h.clear i (omega arith) q;
    }
  where
    next : base + at + descriptor_bytes ≡ base + (at + descriptor_bytes)
    next = omega arith

    stays : (i : ℕ) → i + 2 ≤ base + (at + descriptor_bytes) → word (finish xs s) i ≡ word s i
    stays i k = inside_below (base + (at + descriptor_bytes)) (base + low) i k xs s h.inside

    erased : (i : ℕ) → base + at ≤ i → i + 2 ≤ base + low → word s i ≡ 0xFFFF
    erased = blank_word s (base + at) (base + low) b

-- A descriptor and its sector before them.
module _ (base at low o : ℕ) (e : Descriptor) (ws : List ℕ) (xs : List Step) (ts : List Descriptor) (top : ℕ) (s : Bytes)
    (is : e.offset ≡ o) (flags : e.flags < 65536) (small : low < 65536) (above : at + descriptor_bytes ≤ top) (under : top ≤ o) (fit : o + 2 * length ws ≤ low)
    (b : Blank s (base + at) (base + low)) (l : base + low ≤ length s) where
  abbrev here : List Step
  here = programs (base + at) (four e)

  abbrev contents : List Step
  contents = programs (base + e.offset) ws

  abbrev s₁ : Bytes
  s₁ = finish here s

  abbrev s₂ : Bytes
  s₂ = finish contents s₁

  here_inside : Every (StepInside (base + at) (base + at + descriptor_bytes)) here
  unfolding four
  here_inside = programs_inside (base + at) (base + at + descriptor_bytes) (base + at) (e.flags ∷ e.offset ∷ e.len ∷ e.tag ∷ []) (omega arith) (omega arith)

  contents_inside : Every (StepInside (base + o) (base + low)) contents
  contents_inside = programs_inside (base + o) (base + low) (base + e.offset) ws (omega arith) (omega arith)

  kept_blank : Blank s₂ (base + (at + descriptor_bytes)) (base + o)
  kept_blank i p q =
      inside_byte (base + o) (base + low) i (λ x y z. omega arith) contents s₁ contents_inside
      ∙ inside_byte (base + at) (base + at + descriptor_bytes) i (λ x y z. omega arith) here s here_inside
      ∙ b i (omega arith) (omega arith)

  kept_length : length s₂ ≡ length s
  kept_length = inside_length (base + o) (base + low) contents s₁ contents_inside ∙ inside_length (base + at) (base + at + descriptor_bytes) here s here_inside

  leave_kept : ((r : Bytes) → Blank r (base + (at + descriptor_bytes)) (base + o) → base + o ≤ length r → Leave base (at + descriptor_bytes) o xs ts top r)
      → Leave base at low (here ++ (contents ++ xs)) (e ∷ ts) top s
  leave_kept k =
      record {
        inside =
            every_append (StepInside (base + at) (base + low)) here (contents ++ xs)
            (inside_wider _ _ (base + at) (base + low) (omega arith) (omega arith) here here_inside)
            (every_append (StepInside (base + at) (base + low)) contents xs
            (inside_wider _ _ (base + at) (base + low) (omega arith) (omega arith) contents contents_inside)
            (inside_wider _ _ (base + at) (base + low) (omega arith) (omega arith) xs h.inside));
        holds = (
          rw fin (stays (base + at) (omega arith) ∙ written.0),
          rw fin (stays (base + at + 2) (omega arith) ∙ written.1),
          subst (λ (r : Bytes). HoldsDescriptors r (base + at + descriptor_bytes) ts) (sym fin) (subst (λ (n : ℕ). HoldsDescriptors (finish xs s₂) n ts) (sym next) h.holds),
        );
        clear = λ i p q. rw fin (h.clear i (omega arith) q);
      }
    where
      h : Leave base (at + descriptor_bytes) o xs ts top s₂
      h = k s₂ kept_blank (omega (arith, kept_length))

      fin : finish (here ++ (contents ++ xs)) s ≡ finish xs s₂
      fin = finish_append here (contents ++ xs) s ∙ finish_append contents xs s₁

      next : base + at + descriptor_bytes ≡ base + (at + descriptor_bytes)
      next = omega arith

      stays : (i : ℕ) → i + 2 ≤ base + (at + descriptor_bytes) → word (finish xs s₂) i ≡ word s₁ i
      stays i k =
          inside_below (base + (at + descriptor_bytes)) (base + o) i k xs s₂ h.inside
          ∙ inside_below (base + o) (base + low) i (omega arith) contents s₁ contents_inside

      written : (word s₁ (base + at) ≡ e.flags) × (word s₁ (base + at + 2) ≡ e.offset)
      written =
          unfold four in
          two_written (base + at) e.flags e.offset (e.len ∷ e.tag ∷ []) s (λ i p q. b i p (omega arith)) (omega arith) flags (omega arith)

-- Copying into erased bytes, where the sectors fit above the array, leaves the packed array and FF up to the lowest sector.
pub copied : (base : ℕ) (u : Bytes) (at low : ℕ) (ds : List Descriptor) (s : Bytes)
    → at + descriptor_bytes * length (trim (packed low ds)) ≤ lowest low (packed low ds) → Blank s (base + at) (base + low) → base + low ≤ length s → low < 65536
    → Leave base at low (copies base u at ds (packed low ds)) (trim (packed low ds)) (lowest low (packed low ds)) s
copied base u at low [] s f b l h = unfold copies packed trim in leave_none base at low _ s (lowest_le low (packed low [])) b
copied base u at low (d ∷ ds) s f b l h =
    either (is_kept d)
    (λ k.
    let o = low - size d in
    let e = moved o d in
    let fk : at + descriptor_bytes * suc (length (trim (packed o ds))) ≤ lowest o (packed o ds) = rw (lowest_kept d ds low k, trim_kept d ds low k) at f in
    let under : lowest o (packed o ds) ≤ low - size d = lowest_le o (packed o ds) in
    rw (lowest_kept d ds low k, trim_kept d ds low k, packed_kept d ds low k, copies_kept d ds base u at e (packed o ds) k)
    (leave_kept base at low o e (sector_of u d) (copies base u (at + descriptor_bytes) ds (packed o ds)) (trim (packed o ds)) (lowest o (packed o ds)) s
    (unfold moved in refl) (unfold moved in kept_small d k) h (omega arith) under (omega (arith, sector_fits u d)) b l
    (λ r br lr. copied base u (at + descriptor_bytes) o ds r (omega arith) br lr (omega arith))))
    (λ k.
    rw (lowest_left d ds low k, packed_left d ds low k, copies_left d ds base u at blank (packed low ds) k)
    (go (trim (packed low ds)) refl (rw (lowest_left d ds low k, packed_left d ds low k) at f)
    (λ x. copied base u (at + descriptor_bytes) low ds s x (λ i p q. b i (omega arith) q) l h)))
  where
    go : (ts : List Descriptor) → trim (packed low ds) ≡ ts → at + descriptor_bytes * length (trim (blank ∷ packed low ds)) ≤ lowest low (packed low ds)
        → (at + descriptor_bytes + descriptor_bytes * length (trim (packed low ds)) ≤ lowest low (packed low ds)
        → Leave base (at + descriptor_bytes) low (copies base u (at + descriptor_bytes) ds (packed low ds)) (trim (packed low ds)) (lowest low (packed low ds)) s)
        → Leave base at low (copies base u (at + descriptor_bytes) ds (packed low ds)) (trim (blank ∷ packed low ds)) (lowest low (packed low ds)) s
    go [] q f ih =
        rw (none_copied base u (at + descriptor_bytes) low ds q, trim_none blank (packed low ds) blank_empty q)
        (leave_none base at low (lowest low (packed low ds)) s (lowest_le low (packed low ds)) b)
    go (t ∷ ts) q f ih =
        let f₁ : at + descriptor_bytes * suc (suc (length ts)) ≤ lowest low (packed low ds) = rw (trim_more blank t (packed low ds) ts q) at f in
        rw (trim_more blank t (packed low ds) ts q)
        (leave_left base at low (copies base u (at + descriptor_bytes) ds (packed low ds)) (t ∷ ts) (lowest low (packed low ds)) s b
        (omega (arith, lowest_le low (packed low ds))) (rw q at (ih (rw q (omega arith)))))
