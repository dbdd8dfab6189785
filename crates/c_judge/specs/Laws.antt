-- The sum byte by byte.
use Rattle.std.specs.Prelude.{◌≡◌, ℕ, ◌+◌, ◌%◌, ◌^◌, ◌<◌, ◌≤◌, length, drop, slice_index}
use Rattle.std.proofs.Math.Path.{sym, ap}
use Rattle.std.proofs.Common.{◌∙◌, add-one, drop_of_length-le, drop-cons}
use Rattle.rules.specs.Flash.{Bytes}
use Rattle.c_judge.specs.First.{sum}

pub sum_turn : (s : Bytes) (i m t : ℕ) → i < length s → t ≡ (m + slice_index s i) % 2 ^ 32 → sum t (drop (i + 1) s) ≡ sum m (drop i s)
unfolding sum
sum_turn s i m t h e = ap (λ (x : ℕ). sum x (drop (i + 1) s)) e ∙ ap (λ (x : ℕ). sum ((m + slice_index s i) % 4294967296) (drop x s)) (add-one i) ∙ sym (ap (sum m) (drop-cons s i 0 h))

pub sum_end : (s : Bytes) (i m : ℕ) → length s ≤ i → m ≡ sum m (drop i s)
unfolding sum
sum_end s i m h = sym (ap (sum m) (drop_of_length-le s h))
