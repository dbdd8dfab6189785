-- An array read upward: where the descriptors that it meets have even offsets and FF stands between them and their sectors, low is even.
use Rattle.std.specs.Prelude.{◌≡◌, refl, true, false, List, [], ◌∷◌, ℕ, zero, suc, ◌+◌, ◌*◌, ◌%◌, ◌≤◌, length, drop, leb}
use Rattle.std.proofs.Common.{ap, ◌∙◌, add-zero, arith, leb-true, drop-drop}
use Rattle.rules.specs.Flash.{Bytes, word}
use Rattle.rules.specs.Unit.{Descriptor, descriptor, descriptor_bytes, has_sector, is_allocated, is_pending, is_current, is_old, lower, lowest, upward}
use Rattle.laws.specs.Tests.{either}
use Rattle.laws.specs.Words.{word_drop}
use Rattle.laws.specs.Lists.{Every}
use Rattle.laws.specs.Rooms.{EvenSector, lower_none, erased_none, lowest_even}
use Rattle.laws.specs.Frames.{Blank, blank_word}
use Rattle.laws.specs.Copied.{HoldsDescriptors}

-- ---- one position
module _ (k : ℕ) (r : Bytes) (at low : ℕ) where
  -- A position is read where its eight bytes do not pass the lowest offset seen so far.
  pub upward_more : leb (at + descriptor_bytes) low ≡ true → upward (suc k) r at low ≡ descriptor r ∷ upward k (drop descriptor_bytes r) (at + descriptor_bytes) (lower low (descriptor r))
  unfolding upward
  upward_more e = rw (e, upward)

  -- Else reading ends.
  pub upward_end : leb (at + descriptor_bytes) low ≡ false → upward (suc k) r at low ≡ []
  unfolding upward
  upward_end e = rw (e, upward)

flags_at : (u : Bytes) (at : ℕ) → (descriptor (drop at u)).flags ≡ word u at
unfolding descriptor
flags_at u at = word_drop at u 0 ∙ ap (word u) (add-zero at)

offset_at : (u : Bytes) (at : ℕ) → (descriptor (drop at u)).offset ≡ word u (at + 2)
unfolding descriptor
offset_at u at = word_drop at u 2

lowest_cons : (low : ℕ) (d : Descriptor) (ds : List Descriptor) → lowest low (d ∷ ds) ≡ lowest (lower low d) ds
unfolding lowest
lowest_cons low d ds = refl

-- Low goes by flags and offset alone.
lower_same : (low : ℕ) (d e : Descriptor) → d.flags ≡ e.flags → d.offset ≡ e.offset → lower low d ≡ lower low e
unfolding lower has_sector is_allocated is_pending is_current is_old
lower_same low d e p q = rw (p, q)

-- ---- the whole array
-- Where the array holds these descriptors, with even offsets, and FF stands from there to the lowest, low is even.
pub read_even : (k : ℕ) (u : Bytes) (at low top : ℕ) (ts : List Descriptor) → HoldsDescriptors u at ts → Blank u (at + descriptor_bytes * length ts) top → lowest low ts ≡ top
    → low % 2 ≡ 0 → Every EvenSector ts → lowest low (upward k (drop at u) at low) % 2 ≡ 0
unfolding lowest
read_even zero u at low top ts h b t e v = unfold upward in e
read_even (suc k) u at low top [] h b t e v =
    either (leb (at + descriptor_bytes) low)
    (λ m.
    let l : at + descriptor_bytes ≤ low = leb-true (at + descriptor_bytes) low m in
    let none : lower low (descriptor (drop at u)) ≡ low =
    lower_none low (descriptor (drop at u)) (erased_none (descriptor (drop at u)) (flags_at u at ∙ blank_word u at top (λ i p q. b i (omega arith) q) at (omega arith) (omega arith))) in
    rw (upward_more k (drop at u) at low m, lowest_cons, none, drop-drop descriptor_bytes at u)
    (read_even k u (at + descriptor_bytes) low top [] tt (λ i p q. b i (omega arith) q) t e tt))
    (λ m. rw (upward_end k (drop at u) at low m) e)
read_even (suc k) u at low top (x ∷ ts) h b t e v =
    either (leb (at + descriptor_bytes) low)
    (λ m.
    let same : lower low (descriptor (drop at u)) ≡ lower low x = lower_same low (descriptor (drop at u)) x (flags_at u at ∙ h.0) (offset_at u at ∙ h.1) in
    rw (upward_more k (drop at u) at low m, lowest_cons, same, drop-drop descriptor_bytes at u)
    (read_even k u (at + descriptor_bytes) (lower low x) top ts h.2 (λ i p q. b i (omega arith) q) t (lowest_even low (x ∷ []) e (v.0, tt)) v.1))
    (λ m. rw (upward_end k (drop at u) at low m) e)
