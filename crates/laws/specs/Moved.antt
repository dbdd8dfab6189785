-- What a finished move leaves: the copy in the spare unit, live; the old home without a number; every other unit as it was. Which words of the two
-- headers the move writes beside number and state plays no part.
use Rattle.std.specs.Prelude.{◌≡◌, ◌≢◌, ◌⊎◌, ℕ, ◌+◌, ◌-◌, ◌*◌, ◌≤◌, ◌<◌}
use Rattle.std.proofs.Math.Path.{refl, ap₂}
use Rattle.std.proofs.Common.{sym, ap, ◌∙◌, inl, inr, mul-le-mul_right, arith}
use mathlib.Core.List.{List, [], ◌∷◌, ◌++◌}
use Rattle.std.proofs.Math.Decide.{dec_lt}
use Rattle.std.proofs.Math.ListN.{length, get_or}
use Rattle.rules.specs.Flash.{Bytes, word, Step, program, erase, apply, idle, made, finish}
use Rattle.rules.specs.Unit.{Descriptor, header_bytes, descriptor_bytes, receiving, live, retired, room_of, lowest, trim}
use Rattle.rules.specs.Copy.{packed, copies, due, fill}
use Rattle.rules.specs.Settled.{Physical}
use Rattle.rules.specs.Jobs.{label, seal, emptied, after_erase, move}
use Rattle.laws.specs.Words.{word_same, word_kept, byte_made, length_made, byte_erased, byte_outside}
use Rattle.laws.specs.Runs.{finish_append, made_applied}
use Rattle.laws.specs.Rooms.{lowest_le}
use Rattle.laws.specs.Frames.{StepInside, programs_inside, Blank, blank_word, blank_made, inside_length, inside_byte, inside_below}
use Rattle.laws.specs.Lists.{Every}
use Rattle.laws.specs.Copied.{HoldsDescriptors, holds_same, Leave, copied}
use Rattle.rules.specs.declared.Geometry.{Geometry}

-- Units of S bytes do not share a byte.
pub units_apart : (S j k i x : ℕ) → j ≢ k → j * S ≤ i → i < j * S + S → k * S ≤ x → x < k * S + S → i ≢ x
units_apart S j k i x n a b c d e = go (dec_lt j k)
  where
    go : Dec (j < k) → ⊥
    go (yes l) = omega (arith, mul-le-mul_right S l)
    go (no m) = let l : k < j = omega arith in omega (arith, mul-le-mul_right S l)

-- An erase that is reached is always made.
made_erase : (a k : ℕ) (s : Bytes) → made (erase a k) s ≡ apply (erase a k) s
made_erase a k s = made_applied (erase a k) s (unfold idle in refl)

-- ---- the spare unit filled
-- The unit at T can take a copy: no number, no state, and FF from its first position on. What else its header holds plays no part.
abbrev pub CanReceive : Geometry → Bytes → ℕ → Type 0
CanReceive g s T = (word s T ≡ 0xFFFF) × (word s (T + 2) ≡ receiving) × Blank s (T + header_bytes) (T + g.size)

-- The unit at T holds L's number, no state yet, these descriptors, and FF from there up to `top`; s is the image before, r the one after.
record CopyFilled (g : Geometry) (L T : ℕ) (ts : List Descriptor) (top : ℕ) (s r : Bytes) : Type 0 where
  long : length r ≡ length s
  logical : word r T ≡ L
  state : word r (T + 2) ≡ receiving
  holds : HoldsDescriptors r (T + header_bytes) ts
  clear : Blank r (T + header_bytes + descriptor_bytes * length ts) (T + top)
  aside : (i : ℕ) → ((x : ℕ) → T ≤ x → x < T + g.size → i ≢ x) → get_or r i 0 ≡ get_or s i 0

module _ (g : Geometry) (s : Bytes) (T L : ℕ) (u : Bytes) (b : CanReceive g s T) (l : T + g.size ≤ length s) (small : L < 65536)
    (least : 512 ≤ g.size) (most : g.size ≤ 4096) where
  abbrev ds : List Descriptor
  ds = (room_of g u).array

  abbrev es : List Descriptor
  es = packed g.size ds

  abbrev xs : List Step
  xs = copies T u header_bytes ds es

  abbrev named : Bytes
  named = made (program T L) s

  filled : header_bytes + descriptor_bytes * length (trim es) ≤ lowest g.size es → CopyFilled g L T (trim es) (lowest g.size es) s (finish (fill g T L u) s)
  unfolding fill finish
  filled fit =
      record {
        long = inside_length (T + header_bytes) (T + g.size) xs named c.inside ∙ length_made (program T L) s tt;
        logical = below T (omega arith) ∙ blank_made T L s b.0 (omega arith) small;
        state = below (T + 2) (omega arith) ∙ word_kept T L s (T + 2) (omega arith) (omega arith) (omega arith) ∙ b.1;
        holds = c.holds;
        clear = c.clear;
        aside = λ i out.
            inside_byte (T + header_bytes) (T + g.size) i (λ x p q. out x (omega arith) q) xs named c.inside
            ∙ byte_made T L s i (out T (omega arith) (omega arith)) (out (T + 1) (omega arith) (omega arith));
      }
    where
      c : Leave T header_bytes g.size xs (trim es) (lowest g.size es) named
      c =
          copied T u header_bytes g.size ds named fit
          (λ i p q. byte_made T L s i (omega arith) (omega arith) ∙ b.2 i p q)
          (omega (arith, length_made (program T L) s tt)) (omega arith)

      below : (i : ℕ) → i + 2 ≤ T + header_bytes → word (finish xs named) i ≡ word named i
      below i h = inside_below (T + header_bytes) (T + g.size) i h xs named c.inside

-- ---- words of a header
-- The step programs a word of a header, behind the logical number and the state of the unit at `base`.
abbrev InHeader : ℕ → Step → Type 0
InHeader base = StepInside (base + 4) (base + header_bytes)

-- The same of the unit at a or of the one at b.
abbrev InHeaders : ℕ → ℕ → Step → Type 0
InHeaders a b x = InHeader a x ⊎ InHeader b x

-- What the copy's header is to hold are such words.
label_inside : (to : ℕ) → Every (InHeader to) (label to)
unfolding label
label_inside to = programs_inside (to + 4) (to + header_bytes) (to + 4) due (omega arith) (unfold due in omega arith)

-- And so is what follows the erase.
after_inside : (from to : Physical) (a b : ℕ) → from.base ≡ a → to.base ≡ b → Every (InHeaders a b) (after_erase from to)
unfolding after_erase
after_inside from to a b e f = tt

-- They leave every other byte as it is.
module _ (a b : ℕ) where
  headers_byte : (i : ℕ) → ((x : ℕ) → a + 4 ≤ x → x < a + header_bytes → i ≢ x) → ((x : ℕ) → b + 4 ≤ x → x < b + header_bytes → i ≢ x)
      → (xs : List Step) (s : Bytes) → Every (InHeaders a b) xs → get_or (finish xs s) i 0 ≡ get_or s i 0
  unfolding finish
  headers_byte i m n [] s h = refl
  headers_byte i m n (x ∷ xs) s h = headers_byte i m n xs (made x s) h.1 ∙ one x h.0
    where
      one : (x : Step) → InHeaders a b x → get_or (made x s) i 0 ≡ get_or s i 0
      one x (inl k) = inside_byte (a + 4) (a + header_bytes) i m (x ∷ []) s (k, tt)
      one x (inr k) = inside_byte (b + 4) (b + header_bytes) i n (x ∷ []) s (k, tt)

  headers_length : (xs : List Step) (s : Bytes) → Every (InHeaders a b) xs → length (finish xs s) ≡ length s
  unfolding finish
  headers_length [] s h = refl
  headers_length (x ∷ xs) s h = headers_length xs (made x s) h.1 ∙ one x h.0
    where
      one : (x : Step) → InHeaders a b x → length (made x s) ≡ length s
      one x (inl k) = inside_length (a + 4) (a + header_bytes) (x ∷ []) s (k, tt)
      one x (inr k) = inside_length (b + 4) (b + header_bytes) (x ∷ []) s (k, tt)

-- The copy gets its header's words.
labelled : (g : Geometry) (L T : ℕ) (ts : List Descriptor) (top : ℕ) (s r : Bytes) → 512 ≤ g.size → CopyFilled g L T ts top s r
    → (xs : List Step) → Every (InHeader T) xs → CopyFilled g L T ts top s (finish xs r)
labelled g L T ts top s r least c xs h =
    record {
      long = inside_length (T + 4) (T + header_bytes) xs r h ∙ c.long;
      logical = inside_below (T + 4) (T + header_bytes) T (omega arith) xs r h ∙ c.logical;
      state = inside_below (T + 4) (T + header_bytes) (T + 2) (omega arith) xs r h ∙ c.state;
      holds =
          holds_same r (finish xs r) (T + header_bytes) (T + header_bytes) ts
          (λ x y i p q l. ap (λ (z : ℕ). get_or (finish xs r) z 0) (q ∙ sym p) ∙ same x (λ z a b. omega arith))
          c.holds;
      clear = λ i p q. same i (λ z a b. omega arith) ∙ c.clear i p q;
      aside = λ i out. same i (λ z a b. out z (omega arith) (omega arith)) ∙ c.aside i out;
    }
  where
    same : (i : ℕ) → ((x : ℕ) → T + 4 ≤ x → x < T + header_bytes → i ≢ x) → get_or (finish xs r) i 0 ≡ get_or r i 0
    same i n = inside_byte (T + 4) (T + header_bytes) i n xs r h

-- ---- the move finished
-- The unit f is moved to the unit t: what the image r holds then, s being the image before.
pub record Moved (g : Geometry) (L f t : ℕ) (ts : List Descriptor) (top : ℕ) (s r : Bytes) : Type 0 where
  pub long : length r ≡ length s
  pub logical : word r (t * g.size) ≡ L
  pub state : word r (t * g.size + 2) ≡ live
  pub holds : HoldsDescriptors r (t * g.size + header_bytes) ts
  pub clear : Blank r (t * g.size + header_bytes + descriptor_bytes * length ts) (t * g.size + top)
  pub gone : word r (f * g.size) ≡ 0xFFFF
  pub others : (j : ℕ) → j ≢ f → j ≢ t → (i : ℕ) → j * g.size ≤ i → i < j * g.size + g.size → get_or r i 0 ≡ get_or s i 0

module _ (g : Geometry) (s r : Bytes) (L f t : ℕ) (ts : List Descriptor) (top : ℕ) (least : 512 ≤ g.size) (hf : f * g.size + g.size ≤ length s)
    (ht : t * g.size + g.size ≤ length s) (n : f ≢ t) (fit : header_bytes + descriptor_bytes * length ts ≤ top) (high : top ≤ g.size)
    (h : CopyFilled g L (t * g.size) ts top s r) where
  abbrev F : ℕ
  F = f * g.size

  abbrev T : ℕ
  T = t * g.size

  abbrev r₁ : Bytes
  r₁ = made (program (F + 2) retired) r

  abbrev r₂ : Bytes
  r₂ = made (program (T + 2) live) r₁

  abbrev r₃ : Bytes
  r₃ = made (erase F g.size) r₂

  same_length : length r₂ ≡ length s
  same_length = length_made (program (T + 2) live) r₁ tt ∙ length_made (program (F + 2) retired) r tt ∙ h.long

  -- A byte of another unit than f is as before the erase.
  unerased : (j : ℕ) → j ≢ f → (i : ℕ) → j * g.size ≤ i → i < j * g.size + g.size → get_or r₃ i 0 ≡ get_or r₂ i 0
  unerased j m i a b =
      ap (λ (z : Bytes). get_or z i 0) (made_erase F g.size r₂)
      ∙ byte_outside F g.size r₂ (omega (arith, same_length)) i (λ x p q. units_apart g.size j f i x m a b p q)

  -- And before the old home is retired.
  unretired : (j : ℕ) → j ≢ f → (i : ℕ) → j * g.size ≤ i → i < j * g.size + g.size → get_or r₁ i 0 ≡ get_or r i 0
  unretired j m i a b =
      byte_made (F + 2) retired r i
      (units_apart g.size j f i (F + 2) m a b (omega arith) (omega arith)) (units_apart g.size j f i (F + 2 + 1) m a b (omega arith) (omega arith))

  t≢f : t ≢ f
  t≢f e = n (sym e)

  kept : (i : ℕ) → T ≤ i → i < T + g.size → i ≢ T + 2 → i ≢ T + 2 + 1 → get_or r₃ i 0 ≡ get_or r i 0
  kept i a b c d = unerased t t≢f i a b ∙ byte_made (T + 2) live r₁ i c d ∙ unretired t t≢f i a b

  sealed : Moved g L f t ts top s r₃
  sealed =
      record {
        long = length_made (erase F g.size) r₂ (omega (arith, same_length)) ∙ same_length;
        logical =
            word_same r₃ r T T
            (kept T (omega arith) (omega arith) (omega arith) (omega arith))
            (kept (T + 1) (omega arith) (omega arith) (omega arith) (omega arith))
            ∙ h.logical;
        state =
            word_same r₃ r₂ (T + 2) (T + 2) (unerased t t≢f (T + 2) (omega arith) (omega arith)) (unerased t t≢f (T + 2 + 1) (omega arith) (omega arith))
            ∙ blank_made (T + 2) live r₁ receives (omega (arith, length_made (program (F + 2) retired) r tt, h.long)) (omega arith);
        holds =
            holds_same r r₃ (T + header_bytes) (T + header_bytes) ts
            (λ x y i p q l. ap (λ (z : ℕ). get_or r₃ z 0) (q ∙ sym p) ∙ kept x (omega arith) (omega arith) (omega arith) (omega arith))
            h.holds;
        clear = λ i p q. kept i (omega arith) (omega arith) (omega arith) (omega arith) ∙ h.clear i p q;
        gone = blank_word r₃ F (F + g.size) (λ i p q. ap (λ (z : Bytes). get_or z i 0) (made_erase F g.size r₂) ∙ wiped i p q) F (omega arith) (omega arith);
        others = λ j a b i p q.
            unerased j a i p q
            ∙ byte_made (T + 2) live r₁ i
            (units_apart g.size j t i (T + 2) b p q (omega arith) (omega arith))
            (units_apart g.size j t i (T + 2 + 1) b p q (omega arith) (omega arith))
            ∙ unretired j a i p q
            ∙ h.aside i (λ x c d. units_apart g.size j t i x b p q c d);
      }
    where
      receives : word r₁ (T + 2) ≡ receiving
      receives =
          word_same r₁ r (T + 2) (T + 2) (unretired t t≢f (T + 2) (omega arith) (omega arith)) (unretired t t≢f (T + 2 + 1) (omega arith) (omega arith))
          ∙ h.state

      wiped : (i : ℕ) → F ≤ i → i < F + g.size → get_or (apply (erase F g.size) r₂) i 0 ≡ 255
      wiped i p q =
          let e : i ≡ F + (i - F) = omega arith in
          ap (λ (z : ℕ). get_or (apply (erase F g.size) r₂) z 0) e ∙ byte_erased F g.size r₂ (omega (arith, same_length)) (i - F) (omega arith)

-- What follows the erase changes none of this.
module _ (g : Geometry) (s r : Bytes) (L f t : ℕ) (ts : List Descriptor) (top : ℕ) (least : 512 ≤ g.size) (n : f ≢ t)
    (fit : header_bytes + descriptor_bytes * length ts ≤ top) (high : top ≤ g.size) (c : Moved g L f t ts top s r)
    (xs : List Step) (h : Every (InHeaders (f * g.size) (t * g.size)) xs) where
  abbrev from_at : ℕ
  from_at = f * g.size

  abbrev to_at : ℕ
  to_at = t * g.size

  -- A byte of the copy that is in no such word.
  copy : (i : ℕ) → to_at ≤ i → i < to_at + g.size → (to_at + 4 ≤ i → to_at + header_bytes ≤ i) → get_or (finish xs r) i 0 ≡ get_or r i 0
  copy i p q out =
      headers_byte from_at to_at i
      (λ x y z. units_apart g.size t f i x (λ e. n (sym e)) p q (omega arith) (omega arith))
      (λ x y z e. let w : to_at + header_bytes ≤ i = out (omega arith) in omega arith) xs r h

  -- A byte of the old home's logical number.
  old : (i : ℕ) → from_at ≤ i → i < from_at + 2 → get_or (finish xs r) i 0 ≡ get_or r i 0
  old i p q = headers_byte from_at to_at i (λ x y z. omega arith) (λ x y z. units_apart g.size f t i x n p (omega arith) (omega arith) (omega arith)) xs r h

  after_all_lem : Moved g L f t ts top s (finish xs r)
  after_all_lem =
      record {
        long = headers_length from_at to_at xs r h ∙ c.long;
        logical = word_same (finish xs r) r to_at to_at (copy to_at (omega arith) (omega arith) (λ a. omega arith)) (copy (to_at + 1) (omega arith) (omega arith) (λ a. omega arith)) ∙ c.logical;
        state =
            word_same (finish xs r) r (to_at + 2) (to_at + 2)
            (copy (to_at + 2) (omega arith) (omega arith) (λ a. omega arith)) (copy (to_at + 2 + 1) (omega arith) (omega arith) (λ a. omega arith))
            ∙ c.state;
        holds =
            holds_same r (finish xs r) (to_at + header_bytes) (to_at + header_bytes) ts
            (λ x y i p q l. ap (λ (z : ℕ). get_or (finish xs r) z 0) (q ∙ sym p) ∙ copy x (omega arith) (omega arith) (λ a. omega arith))
            c.holds;
        clear = λ i p q. copy i (omega arith) (omega arith) (λ a. omega arith) ∙ c.clear i p q;
        gone = word_same (finish xs r) r from_at from_at (old from_at (omega arith) (omega arith)) (old (from_at + 1) (omega arith) (omega arith)) ∙ c.gone;
        others = λ j a b i p q.
            headers_byte from_at to_at i
            (λ x y z. units_apart g.size j f i x a p q (omega arith) (omega arith))
            (λ x y z. units_apart g.size j t i x b p q (omega arith) (omega arith)) xs r h
            ∙ c.others j a b i p q;
      }

-- A finished move of the unit f to a unit t that can take it, where the packed sectors fit above the array.
pub moved_is : (g : Geometry) (s : Bytes) (L f t : ℕ) (from to : Physical) → from.base ≡ f * g.size → to.base ≡ t * g.size → f ≢ t
    → 512 ≤ g.size → g.size ≤ 4096 → L < 65536 → f * g.size + g.size ≤ length s → t * g.size + g.size ≤ length s
    → CanReceive g s (t * g.size)
    → header_bytes + descriptor_bytes * length (trim (packed g.size (room_of g from.bytes).array)) ≤ lowest g.size (packed g.size (room_of g from.bytes).array)
    → Moved g L f t (trim (packed g.size (room_of g from.bytes).array)) (lowest g.size (packed g.size (room_of g from.bytes).array)) s (finish (move g L from to) s)
moved_is g s L f t from to ef et n least most small lf lt b fit =
    rw (
      whole,
      finish_append (fill g (t * g.size) L from.bytes) (label (t * g.size) ++ (steps ++ after_erase from to)) s,
      finish_append (label (t * g.size)) (steps ++ after_erase from to) (finish (fill g (t * g.size) L from.bytes) s),
      finish_append steps (after_erase from to) r,
    )
    (after_all_lem g s (finish steps r) L f t ts top least n fit (lowest_le g.size _) moved (after_erase from to) (after_inside from to (f * g.size) (t * g.size) ef et))
  where
    ts : List Descriptor
    ts = trim (packed g.size (room_of g from.bytes).array)

    top : ℕ
    top = lowest g.size (packed g.size (room_of g from.bytes).array)

    steps : List Step
    steps = program (f * g.size + 2) retired ∷ (program (t * g.size + 2) live ∷ (erase (f * g.size) g.size ∷ []))

    -- The image once the copy has its header's words.
    r : Bytes
    r = finish (label (t * g.size)) (finish (fill g (t * g.size) L from.bytes) s)

    moved : Moved g L f t ts top s (finish steps r)
    moved =
        unfold finish in
        sealed g s r L f t ts top least lf lt n fit (lowest_le g.size _)
        (labelled g L (t * g.size) ts top s (finish (fill g (t * g.size) L from.bytes) s) least
        (filled g s (t * g.size) L from.bytes b lt small least most fit) (label (t * g.size)) (label_inside (t * g.size)))

    whole : move g L from to ≡ fill g (t * g.size) L from.bytes ++ (label (t * g.size) ++ (steps ++ after_erase from to))
    whole =
        unfold move seal emptied in
        ap₂ (λ (x y : ℕ). fill g y L from.bytes ++ (label y ++ (program (x + 2) retired ∷ (program (y + 2) live ∷ (erase x g.size ∷ after_erase from to))))) ef et
