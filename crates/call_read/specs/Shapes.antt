-- What a read answers, by the place of the descriptor that it shows; and the part of an image that a content is.
use Rattle.std.specs.Prelude.{cond, [], ◌≡◌, ℕ, ◌+◌, ◌-◌, ◌≤◌, length, take, drop, ltb, eqb, Ok, Err}
use Rattle.rules.specs.Flash.{Bytes}
use Rattle.rules.specs.Unit.{header_bytes, descriptor_bytes, file_of}
use Rattle.rules.specs.Answers.{origin, Answer}
use Rattle.rules.specs.declared.Geometry.{Geometry}
use Rattle.rules.specs.declared.Handle.{Handle}
use Rattle.rules.specs.declared.Origin.{Origin}
use Rattle.rules.specs.declared.Origin.TheVariants.{NotSaid, Before, Opened}
use Rattle.rules.specs.declared.Given.{Given}
use Rattle.rules.specs.declared.NotDone.TheVariants.{Absent, BadHandle}
use Rattle.index.specs.Shapes.{descriptor_in, base_at, start_at, handle_at}

-- A place, unless it is none, is one at which a descriptor can stand.
pub record CanStand (g : Geometry) (s : Bytes) (a : ℕ) : Type 0 where
  pub large : 1 ≤ g.size
  pub inside : (a ≡ 0 → ⊥) → a + descriptor_bytes ≤ length s
  pub high : (a ≡ 0 → ⊥) → header_bytes ≤ a - base_at g a

unfoldable pub given_at : Geometry → Bytes → Handle → ℕ → ℕ → Origin → Given
given_at g s h f a w =
    let m = (descriptor_in s a).len in
    record { steps = 0; at = h; file = f; start = cond (eqb m 0) 0 (start_at g s a); len = m; from = w }

-- by the place of what is pending of the file
unfoldable pub origin_at : ℕ → Origin
origin_at a = cond (eqb a 0) Before Opened

unfoldable pub by_file : Geometry → Bytes → ℕ → Origin → Answer
by_file g s a w = cond (eqb a 0) (Err (Absent w)) (Ok (given_at g s (handle_at g s a) 0 a w))

unfoldable pub by_handle : Geometry → Bytes → ℕ → Answer
by_handle g s a = cond (eqb a 0) (Err BadHandle) (Ok (given_at g s origin (file_of (descriptor_in s a)) a NotSaid))

-- the m bytes from a on, or none where they do not lie in s
unfoldable pub part_of : Bytes → ℕ → ℕ → Bytes
part_of s a m = cond (ltb (length s) a) [] (cond (ltb (length s - a) m) [] (take m (drop a s)))

-- where in s they stand; of none, the beginning
unfoldable pub start_of : Bytes → ℕ → ℕ → ℕ
start_of s a m = cond (ltb (length s) a) 0 (cond (ltb (length s - a) m) 0 a)
