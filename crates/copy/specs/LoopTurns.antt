-- One turn of each loop of the comparison.
use Rattle.std.specs.Prelude.{ℕ, zero, suc, ◌+◌, ◌*◌, ◌-◌, ◌≤◌, ◌<◌, ◌≡◌, refl, Bool, true, false, ◌&&◌, Some, None, List, take, drop}
use Rattle.std.specs.List.{list_all, range_with_len}
use native.Mathlib.Omega.{arith}
use Rattle.std.proofs.Math.Path.{ap}
use Rattle.std.proofs.Common.{ap₂, ◌∙◌, drop-drop}
use Rattle.rules.specs.Flash.{Bytes, word, erased}
use Rattle.rules.specs.Unit.{stands}
use Rattle.laws.specs.Words.{word_drop}
use Rattle.unit.specs.Shapes.{descriptor_at}
use Rattle.copy.specs.Stream.{holds, agree, placed, past, copy_from}

-- k words, from the j-th on
module _ (whole : Bool) (src : Bytes) (a : ℕ) (dst : Bytes) (b : ℕ) where
  abbrev here : ℕ → Bool
  here i = holds whole (word src (a + 2 * i)) (word dst (b + 2 * i))

  at : (s : Bytes) (x i : ℕ) → word (drop (x + 2 * i) s) 0 ≡ word s (x + 2 * i)
  at s x i =
      let e : x + 2 * i + 0 ≡ x + 2 * i = omega arith in
      word_drop (x + 2 * i) s 0 ∙ ap (word s) e

  next : (s : Bytes) (x i : ℕ) → drop 2 (drop (x + 2 * i) s) ≡ drop (x + 2 * (i + 1)) s
  next s x i =
      let e : x + 2 * i + 2 ≡ x + 2 * (i + 1) = omega arith in
      drop-drop 2 (x + 2 * i) s ∙ ap (λ (n : ℕ). drop n s) e

  each : (k j : ℕ) → list_all here (range_with_len j k) ≡ agree whole k (drop (a + 2 * j) src) (drop (b + 2 * j) dst)
  unfolding agree
  each zero j = refl
  each (suc k) j =
      go (here j) (holds whole (word (drop (a + 2 * j) src) 0) (word (drop (b + 2 * j) dst) 0)) (ap₂ (holds whole) (at src a j) (at dst b j))
      (rw (next src a j, next dst b j) (each k (j + 1)))
    where
      go : (x y : Bool) → y ≡ x → {r r' : Bool} → r ≡ r' → (x && r) ≡ (elim y as (λ (z : Bool). Bool) [ true ↦ r' | false ↦ false ])
      go true y e q = rw e q
      go false y e q = rw e

  pub agree_is : (k : ℕ) → list_all here (range_with_len 0 k) ≡ agree whole k (drop a src) (drop b dst)
  agree_is k =
      let z : (x : ℕ) → x + 2 * 0 ≡ x = λ x. omega arith in
      rw (z a, z b) at (each k 0)

-- the positions
module _ (whole : Bool) (src dst : List ℕ) (floor n p low : ℕ) where
  module _ (h : p < n) where
    one_left : n - p ≡ suc (n - (p + 1))
    one_left = omega arith

    pub copy_turn : (o : ℕ) → placed whole src dst floor low (descriptor_at src (stands p)) (descriptor_at dst (stands p)) ≡ Some o
        → copy_from whole src dst floor (n - p) p low ≡ copy_from whole src dst floor (n - (p + 1)) (p + 1) o
    unfolding copy_from past
    copy_turn o e = rw one_left (rw (copy_from, e))

    pub copy_stop : placed whole src dst floor low (descriptor_at src (stands p)) (descriptor_at dst (stands p)) ≡ None
        → copy_from whole src dst floor (n - p) p low ≡ false
    unfolding copy_from past
    copy_stop e = rw one_left (rw (copy_from, e))

  pub copy_end : n ≤ p → copy_from whole src dst floor (n - p) p low ≡ erased (take (low - floor) (drop floor dst))
  unfolding copy_from
  copy_end h =
      let e : n - p ≡ 0 = omega arith in
      rw e
