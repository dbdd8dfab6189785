-- Histories: the images that calls leave one after the other, each with the plain store that it stands for. What is promised of
-- them are theorems; here is what they speak of.
use Rattle.std.specs.Prelude.{◌≡◌, Bool, true, false, cond, List, [], ◌∷◌, ℕ, ◌+◌, ◌-◌, ◌*◌, ◌/◌, ltb, eqb}
use Rattle.std.proofs.Math.Option.{Option, none, some}
use Rattle.rules.specs.Lists.{all}
use Rattle.rules.specs.Flash.{Bytes}
use Rattle.rules.specs.Settled.{survey}
use Rattle.rules.specs.Answers.{Outcome, number, given}
use Rattle.rules.specs.Calls.{Call, format, mount, begin, commit, abort, write, delete, read, read_open, read_at, has_none, outcome}
use Rattle.rules.specs.declared.Geometry.{Geometry}

-- The plain store is a map from file numbers to contents, absent being different from empty ...
abbrev pub Files : Type 0
Files = ℕ → Option Bytes

-- ... and over it at most one transaction, a map from file numbers to a content or a deletion.
abbrev pub Changes : Type 0
Changes = ℕ → Option (Option Bytes)

pub record Plain : Type 0 where
  pub files : Files
  pub changes : Option Changes

unfoldable pub no_files : Plain
no_files = record { files = λ f. none; changes = none }

unfoldable pub no_changes : Changes
no_changes = λ f. none

-- A file's content, or its deletion, put into the transaction; and the transaction laid down.
unfoldable pub changed : ℕ → Option Bytes → Changes → Changes
changed f x o h = cond (eqb h f) (some x) (o h)

unfoldable pub unless : Option (Option Bytes) → Option Bytes → Option Bytes
unless none x = x
unless (some y) x = y

unfoldable pub laid_down : Changes → Files → Files
laid_down o m f = unless (o f) (m f)

module _ (m : Plain) where
  unfoldable pub begun : Plain
  begun = record { files = m.files; changes = some no_changes }

  unfoldable pub dropped : Plain
  dropped = record { files = m.files; changes = none }

  unfoldable pub changed_to : ℕ → Option Bytes → Option Changes → Plain
  changed_to f x none = m
  changed_to f x (some o) = record { files = m.files; changes = some (changed f x o) }

  unfoldable pub committed : Option Changes → Plain
  committed none = m
  committed (some o) = record { files = laid_down o m.files; changes = none }

unfoldable pub is_done : Outcome → Bool
is_done o = eqb (number o.answer) 0

unfoldable pub is_format : Call → Bool
is_format (format k) = true
is_format (mount k) = false
is_format (begin q k) = false
is_format (commit k) = false
is_format (abort k) = false
is_format (write q f c k) = false
is_format (delete q f k) = false
is_format (read f) = false
is_format (read_open f) = false
is_format (read_at L p) = false

-- A content is a list of bytes.
unfoldable pub is_content : Bytes → Bool
is_content c = all (λ (b : ℕ). ltb b 256) c

unfoldable pub takes_bytes : Call → Bool
takes_bytes (format k) = true
takes_bytes (mount k) = true
takes_bytes (begin q k) = true
takes_bytes (commit k) = true
takes_bytes (abort k) = true
takes_bytes (write q f c k) = is_content c
takes_bytes (delete q f k) = true
takes_bytes (read f) = true
takes_bytes (read_open f) = true
takes_bytes (read_at L p) = true

-- What a call may leave, finished, stopped or refused: the image that its steps leave, and no other.
pub data MayLeave (g : Geometry) (c : Call) (s : Bytes) : Bytes → Type 0 where
  as_made : MayLeave g c s (outcome g c s).image

-- What a call makes of the plain store. A stopped call other than format leaves the map, and any open transaction, as before it,
-- save a commit whose commit step was made (its first) and an abort or mount that made the transaction FFF0 (none is open then).
module _ (g : Geometry) where
  unfoldable pub ended_in : Outcome → Plain → Plain
  ended_in o m = cond (has_none (survey g o.image)) (dropped m) m

  unfoldable pub follow : Call → Outcome → Plain → Plain
  follow (format k) o m = m
  follow (mount k) o m = ended_in o m
  follow (abort k) o m = ended_in o m
  follow (begin q k) o m = cond (is_done o) (begun m) m
  follow (commit k) o m = cond (ltb 0 (given o.answer).steps) (committed m m.changes) m
  follow (write q f c k) o m = cond (is_done o) (changed_to m f (some c) m.changes) m
  follow (delete q f k) o m = cond (is_done o) (changed_to m f none m.changes) m
  follow (read f) o m = m
  follow (read_open f) o m = m
  follow (read_at L p) o m = m

  -- A history begins with a finished format of any image (a stopped format begins none) and goes on by any calls other than
  -- format, each with any inputs and any allowance, from any image that the call before may leave.
  pub data Reached : Bytes → Plain → Type 0 where
    formatted : (s : Bytes) (k : ℕ) → number (outcome g (format k) s).answer ≡ 0 → Reached (outcome g (format k) s).image no_files
    called : {s t : Bytes} {m : Plain} (c : Call) → is_format c ≡ false → takes_bytes c ≡ true → Reached s m → MayLeave g c s t
        → Reached t (follow c (outcome g c s) m)

  -- The steps of mounts one after the other, with these allowances and no other changing call between.
  unfoldable pub mounting : List ℕ → Bytes → ℕ
  mounting [] s = 0
  mounting (k ∷ ks) s = let o = outcome g (mount k) s in (given o.answer).steps + mounting ks o.image

  -- The image that they leave, whatever each of them answers.
  unfoldable pub after_mounts : List ℕ → Bytes → Bytes
  after_mounts [] s = s
  after_mounts (k ∷ ks) s = after_mounts ks (outcome g (mount k) s).image

  -- The most steps of a move.
  unfoldable pub move_bound : ℕ
  move_bound = g.size / 2 + 1

  -- The most steps of the tidying: one for each descriptor that the homes have room for.
  unfoldable pub tidy_bound : ℕ
  tidy_bound = (g.units - 1) * (g.size - 16) / 8

  -- The most steps that restarts make again: none.
  unfoldable pub repeat_bound : ℕ
  repeat_bound = 0

  -- A mount takes at most S/2 + 1 + (U-1)(S-16)/8 steps, over all restarts together.
  unfoldable pub mount_bound : ℕ
  mount_bound = move_bound + tidy_bound + repeat_bound
