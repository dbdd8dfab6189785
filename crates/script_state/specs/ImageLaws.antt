-- A byte set in the first bytes of a buffer.
use Rattle.std.specs.Prelude.{◌≡◌, Some, ℕ, ◌<◌, ◌≤◌, length, set, take}
use Rattle.std.proofs.Common.{arith, length-take-le}
use borrow.Author.Tests.{lt-ltb, le-ltb}
use Rattle.std.proofs.Math.Seq.{take-set-lt}
use Rattle.rules.specs.Flash.{Bytes}
use Rattle.script_state.specs.Images.{put_at}

pub put_inside : (s : Bytes) (n i b : ℕ) → n ≤ length s → i < n → b < 256 → put_at i b (take n s) ≡ Some (take n (set s i b))
unfolding put_at
put_inside s n i b l h k = rw (length-take-le n s l, lt-ltb i n h, le-ltb 255 b (omega arith), take-set-lt n s i b h)
