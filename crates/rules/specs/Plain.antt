-- What the plain store itself answers: document 01's table of numbers, in its order, from the plain store alone and what of the
-- image an answer may depend on. It knows nothing of units, steps or images.
use Rattle.std.specs.Prelude.{◌≡◌, Bool, true, false, not, cond, ◌&&◌, ◌||◌, [], ◌∷◌, ◌++◌, ℕ, zero, suc, ◌+◌, length, leb, ltb, eqb}
use Rattle.std.proofs.Math.Option.{Option, none, some}
use Rattle.rules.specs.Lists.{filter, first}
use Rattle.rules.specs.Flash.{Bytes}
use Rattle.rules.specs.Unit.{file_of, is_current_file}
use Rattle.rules.specs.Settled.{Entry, Survey, survey, select}
use Rattle.rules.specs.Sound.{standing}
use Rattle.rules.specs.Jobs.{Place, as_it_stands, once_reclaimed, no_room, size_for, place}
use Rattle.rules.specs.Answers.{Outcome, number, given, content}
use Rattle.rules.specs.Calls.{Call, format, mount, begin, commit, abort, write, delete, read, read_open, read_at, is_bad_file, is_too_long, has_none, is_at, allowance, list_of, outcome}
use Rattle.rules.specs.Histories.{Files, Changes, Plain, laid_down, begun, dropped, changed_to, committed, is_format, takes_bytes, MayLeave, follow}
use Rattle.rules.specs.Text.{text, lf, decimal}
use Rattle.rules.specs.Listing.{keyed}
use Rattle.rules.specs.declared.Geometry.{Geometry}
use Rattle.rules.specs.declared.Handle.{Handle}
use Rattle.rules.specs.declared.Origin.{Origin}
use Rattle.rules.specs.declared.Origin.TheVariants.{NotSaid, Before, Opened}
use Rattle.rules.specs.declared.Standing.{Standing}
use Rattle.rules.specs.declared.Standing.TheVariants.{Settled, Sound, Neither}

-- What of the image an answer may depend on: whether it is settled (4), whether there is room (10), whether the allowance
-- suffices (1), the file of which a handle shows the current data (11), and of a stopped call whether it ended the transaction.
pub record Seen : Type 0 where
  pub settled : Bool
  pub room : Bool
  pub enough : Bool
  pub file : Option ℕ
  pub ended : Bool

-- No transaction is open; a file is not in the view.
unfoldable pub is_shut : Option Changes → Bool
is_shut none = true
is_shut (some o) = false

unfoldable pub is_absent_in : Option Bytes → Bool
is_absent_in none = true
is_absent_in (some c) = false

-- The transaction view lays the changes over the files.
unfoldable pub in_view : Option Changes → Files → Files
in_view none m = m
in_view (some o) m = laid_down o m

unfoldable pub bytes_in : Option Bytes → Bytes
bytes_in none = []
bytes_in (some c) = c

unfoldable pub given_by : Option ℕ → ℕ
given_by none = 0
given_by (some f) = f

unfoldable pub is_change : Option (Option Bytes) → Bool
is_change none = false
is_change (some x) = true

-- Whether the transaction has a change of file f.
unfoldable pub has_change : ℕ → Option Changes → Bool
has_change f none = false
has_change f (some o) = is_change (o f)

module _ (m : Plain) (x : Seen) where
  -- 0 DONE, or 1 STOPPED, which comes last; 4 UNSETTLED; 10 NO ROOM.
  unfoldable pub ending : ℕ
  ending = cond x.enough 0 1

  unfoldable pub when_settled : ℕ → ℕ
  when_settled n = cond x.settled n 4

  unfoldable pub stored : ℕ
  stored = cond x.room ending 10

  -- 5 BAD FILE, 6 TOO LONG, 7 NO TRANSACTION, 8 OPEN, 9 ABSENT, 11 BAD HANDLE. Never 2 BAD GEOMETRY or 3 BAD IMAGE.
  unfoldable pub plain_number : Call → ℕ
  plain_number (format k) = ending
  plain_number (mount k) = ending
  plain_number (begin q k) = when_settled (cond (is_shut m.changes) stored 8)
  plain_number (commit k) = when_settled (cond (is_shut m.changes) 7 ending)
  plain_number (abort k) = when_settled (cond (is_shut m.changes) 7 ending)
  plain_number (write q f c k) = when_settled (cond (is_bad_file f) 5 (cond (is_too_long c) 6 (cond (is_shut m.changes) 7 stored)))
  plain_number (delete q f k) =
      when_settled (cond (is_bad_file f) 5 (cond (is_shut m.changes) 7 (cond (is_absent_in (in_view m.changes m.files f)) 9 stored)))
  plain_number (read f) = when_settled (cond (is_bad_file f) 5 (cond (is_absent_in (m.files f)) 9 0))
  plain_number (read_open f) =
      when_settled (cond (is_bad_file f) 5 (cond (is_shut m.changes) 7 (cond (is_absent_in (in_view m.changes m.files f)) 9 0)))
  plain_number (read_at L p) = when_settled (elim x.file [ none ↦ 11 | some f ↦ 0 ])

  -- A DONE read gives the file's content, in its view; a DONE handle read also the file. All else gives an empty content and file 0.
  unfoldable pub content_by : Call → Bytes
  content_by (format k) = []
  content_by (mount k) = []
  content_by (begin q k) = []
  content_by (commit k) = []
  content_by (abort k) = []
  content_by (write q f c k) = []
  content_by (delete q f k) = []
  content_by (read f) = bytes_in (m.files f)
  content_by (read_open f) = bytes_in (in_view m.changes m.files f)
  content_by (read_at L p) = elim x.file [ none ↦ [] | some f ↦ bytes_in (m.files f) ]

  unfoldable pub plain_content : Call → Bytes
  plain_content c = cond (eqb (plain_number c) 0) (content_by c) []

  unfoldable pub plain_file : Call → ℕ
  plain_file c = cond (eqb (plain_number c) 0) (given_by x.file) 0

  -- A read of the transaction view that is DONE or 9, and a delete that is 9, say whether the open transaction has a change of the
  -- file, written or deleted. All else says nothing of it.
  unfoldable pub plain_origin : ℕ → Origin
  plain_origin f = cond (has_change f m.changes) Opened Before

  unfoldable pub from_by : Call → ℕ → Origin
  from_by (format k) n = NotSaid
  from_by (mount k) n = NotSaid
  from_by (begin q k) n = NotSaid
  from_by (commit k) n = NotSaid
  from_by (abort k) n = NotSaid
  from_by (write q f c k) n = NotSaid
  from_by (delete q f k) n = cond (eqb n 9) (plain_origin f) NotSaid
  from_by (read f) n = NotSaid
  from_by (read_open f) n = cond (eqb n 0 || eqb n 9) (plain_origin f) NotSaid
  from_by (read_at L p) n = NotSaid

  unfoldable pub plain_from : Call → Origin
  plain_from c = from_by c (plain_number c)

  -- What a call makes of the plain store where it is DONE ...
  unfoldable pub plainly : Call → Plain
  plainly (format k) = m
  plainly (mount k) = dropped m
  plainly (begin q k) = begun m
  plainly (commit k) = committed m m.changes
  plainly (abort k) = dropped m
  plainly (write q f c k) = changed_to m f (some c) m.changes
  plainly (delete q f k) = changed_to m f none m.changes
  plainly (read f) = m
  plainly (read_open f) = m
  plainly (read_at L p) = m

  -- ... and where it is STOPPED: nothing, save a commit whose commit step was made and an abort or mount that ended the transaction.
  unfoldable pub cut_short : Call → Plain
  cut_short (format k) = m
  cut_short (mount k) = cond x.ended (dropped m) m
  cut_short (begin q k) = m
  cut_short (commit k) = cond x.ended (committed m m.changes) m
  cut_short (abort k) = cond x.ended (dropped m) m
  cut_short (write q f c k) = m
  cut_short (delete q f k) = m
  cut_short (read f) = m
  cut_short (read_open f) = m
  cut_short (read_at L p) = m

  -- A refused call makes nothing of it.
  unfoldable pub plain_after : Call → Plain
  plain_after c = let n = plain_number c in cond (eqb n 0) (plainly c) (cond (eqb n 1) (cut_short c) m)

-- ---- what is seen of an image
unfoldable pub is_settled : Standing → Bool
is_settled Settled = true
is_settled Sound = false
is_settled Neither = false

unfoldable pub is_room : Place → Bool
is_room (as_it_stands L) = true
is_room (once_reclaimed L) = true
is_room no_room = false

unfoldable pub file_in : Option Entry → Option ℕ
file_in none = none
file_in (some e) = some (file_of e.descriptor)

module _ (g : Geometry) where
  -- For the content, and for a delete mark and a transaction, which have length 0.
  unfoldable pub room_in : Survey → Call → Bool
  room_in v (format k) = true
  room_in v (mount k) = true
  room_in v (begin q k) = is_room (place g q (size_for []) v)
  room_in v (commit k) = true
  room_in v (abort k) = true
  room_in v (write q f c k) = is_room (place g q (size_for c) v)
  room_in v (delete q f k) = is_room (place g q (size_for []) v)
  room_in v (read f) = true
  room_in v (read_open f) = true
  room_in v (read_at L p) = true

  unfoldable pub file_at : Survey → Call → Option ℕ
  file_at v (format k) = none
  file_at v (mount k) = none
  file_at v (begin q k) = none
  file_at v (commit k) = none
  file_at v (abort k) = none
  file_at v (write q f c k) = none
  file_at v (delete q f k) = none
  file_at v (read f) = none
  file_at v (read_open f) = none
  file_at v (read_at L p) = file_in (first (filter (is_at L p) (select is_current_file v)))

  -- The commit step is a commit's first; an abort or a mount ended the transaction where none is open after it.
  unfoldable pub ends_in : Call → Outcome → Bool
  ends_in (format k) o = false
  ends_in (mount k) o = has_none (survey g o.image)
  ends_in (begin q k) o = false
  ends_in (commit k) o = ltb 0 k
  ends_in (abort k) o = has_none (survey g o.image)
  ends_in (write q f c k) o = false
  ends_in (delete q f k) o = false
  ends_in (read f) o = false
  ends_in (read_open f) o = false
  ends_in (read_at L p) o = false

  unfoldable pub seen : Call → Bytes → Seen
  seen c s =
      let v = survey g s in
      record {
        settled = is_settled (standing g v);
        room = room_in v c;
        enough = leb (length (list_of g c s)) (allowance c);
        file = file_at v c;
        ended = ends_in c (outcome g c s);
      }

-- ---- calls one after the other
-- A call leaves file f unchanged, save a commit of a change of it whose commit step was made.
unfoldable pub is_unchanged : ℕ → Call → Outcome → Plain → Bool
is_unchanged f (format k) o m = true
is_unchanged f (mount k) o m = true
is_unchanged f (begin q k) o m = true
is_unchanged f (commit k) o m = not (ltb 0 (given o.answer).steps && has_change f m.changes)
is_unchanged f (abort k) o m = true
is_unchanged f (write q h c k) o m = true
is_unchanged f (delete q h k) o m = true
is_unchanged f (read h) o m = true
is_unchanged f (read_open h) o m = true
is_unchanged f (read_at L p) o m = true

-- A call neither writes nor deletes file f.
unfoldable pub is_other : ℕ → Call → Outcome → Plain → Bool
is_other f (format k) o m = true
is_other f (mount k) o m = true
is_other f (begin q k) o m = true
is_other f (commit k) o m = true
is_other f (abort k) o m = true
is_other f (write q h c k) o m = not (eqb h f)
is_other f (delete q h k) o m = not (eqb h f)
is_other f (read h) o m = true
is_other f (read_open h) o m = true
is_other f (read_at L p) o m = true

-- Any further calls of a history, of each of which `ok` holds: from one image and its plain store to another.
pub data Onward (g : Geometry) (ok : Call → Outcome → Plain → Bool) (s : Bytes) (m : Plain) : Bytes → Plain → Type 0 where
  here : Onward g ok s m s m
  onward : {t u : Bytes} {n : Plain} (c : Call) → is_format c ≡ false → takes_bytes c ≡ true → ok c (outcome g c t) n ≡ true → Onward g ok s m t n → MayLeave g c t u
      → Onward g ok s m u (follow g c (outcome g c t) n)

-- A handle read is DONE, and gives file f and the bytes x.
pub record Gives (g : Geometry) (s : Bytes) (L p f : ℕ) (x : Bytes) : Type 0 where
  pub done : number (outcome g (read_at L p) s).answer ≡ 0
  pub file : (given (outcome g (read_at L p) s).answer).file ≡ f
  pub bytes : content (outcome g (read_at L p) s) ≡ x

-- ---- the listing program
-- The files from f on, and of each that is there its number, its length and its handle, which is the image's.
unfoldable pub count_from : ℕ → ℕ → Files → ℕ
count_from zero f m = 0
count_from (suc k) f m = cond (is_absent_in (m f)) 0 1 + count_from k (suc f) m

unfoldable pub plain_line : ℕ → Option Bytes → Handle → Bytes
plain_line f none h = []
plain_line f (some c) h =
    text "file=" ++ (decimal f ++ (text " length=" ++ (decimal (length c)
    ++ (text " at=" ++ (decimal h.unit ++ (text ":" ++ (decimal h.position ++ (lf ∷ []))))))))

unfoldable pub plain_lines : ℕ → ℕ → Files → (ℕ → Handle) → Bytes
plain_lines zero f m at = []
plain_lines (suc k) f m at = plain_line f (m f) (at f) ++ plain_lines k (suc f) m at

unfoldable pub plain_listing : Geometry → Plain → (ℕ → Handle) → Bytes
plain_listing g m at =
    keyed "unit=" g.size ++ (keyed "units=" g.units ++ (keyed "open=" (cond (is_shut m.changes) 0 1)
    ++ (keyed "files=" (count_from 256 0 m.files) ++ plain_lines 256 0 m.files at)))
