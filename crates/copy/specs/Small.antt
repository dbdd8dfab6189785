-- Parts of bytes are bytes, and programming leaves bytes bytes.
use Rattle.std.specs.Prelude.{ℕ, ◌+◌, List, [], ◌∷◌, drop}
use Rattle.std.proofs.Common.{get_or-drop}
use Rattle.rules.specs.Flash.{Bytes, Step, made, finish}
use Rattle.laws.specs.Words.{AreBytes, made_cases, bytes_apply}

pub small_drop : (n : ℕ) (xs : Bytes) → AreBytes xs → AreBytes (drop n xs)
small_drop n xs a i = rw (get_or-drop n xs i 0) (a (n + i))

pub small_made : (x : Step) (m : Bytes) → AreBytes m → AreBytes (made x m)
small_made x m s = made_cases AreBytes x m (λ e. s) (λ e. bytes_apply x m s)

pub small_finish : (xs : List Step) (m : Bytes) → AreBytes m → AreBytes (finish xs m)
unfolding finish
small_finish [] m s = s
small_finish (x ∷ xs) m s = small_finish xs (made x m) (small_made x m s)
