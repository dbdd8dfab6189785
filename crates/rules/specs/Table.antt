-- Request L1: a lent table of 256 entries kept beside the image, so that reads need no search.
use Rattle.std.specs.Prelude.{Bool, true, false, not, cond, ◌&&◌, ◌||◌, List, [], ◌∷◌, ℕ, zero, suc, length, get_or, set, eqb}
use Rattle.std.proofs.Math.Option.{Option, none, some}
use Rattle.rules.specs.Lists.{first}
use Rattle.rules.specs.Flash.{Bytes}
use Rattle.rules.specs.Unit.{Descriptor, n, stands, blank, is_data, is_current, is_pending_file, file_of, lies}
use Rattle.rules.specs.Settled.{Home, Entry, Survey, entries_in, survey, select}
use Rattle.rules.specs.Sound.{home_at}
use Rattle.rules.specs.Views.{committed_view, unless_mark}
use Rattle.rules.specs.Answers.{Answer, Outcome, Plan, refuses, makes, shows, number, origin, carry_out}
use Rattle.rules.specs.Calls.{Call, format, mount, begin, commit, abort, write, delete, read, read_open, read_at, refuse, is_bad_file, in_geometry, in_settled, plan, allowance}
use Rattle.rules.specs.declared.Geometry.{Geometry}
use Rattle.rules.specs.declared.TableEntry.{TableEntry}
use Rattle.rules.specs.declared.Origin.TheVariants.{NotSaid}
use Rattle.rules.specs.declared.NotDone.TheVariants.{BadGeometry, BadFile, Absent, StaleTable}

abbrev pub Table : Type 0
Table = List TableEntry

-- ---- the entries: per file, presence in the committed view, handle and length
-- State 1: no file.
unfoldable pub no_file : TableEntry
no_file = record { state = 1; unit = 0; position = 0; len = 0 }

-- State 2: a file, also an empty one.
unfoldable pub a_file : Entry → TableEntry
a_file e = record { state = 2; unit = e.at.unit; position = e.at.position; len = e.descriptor.len }

unfoldable pub entry_of : Option Entry → TableEntry
entry_of none = no_file
entry_of (some e) = a_file e

-- Unusable, marked in its first entry: a state that no usable table has there.
unfoldable pub mark : TableEntry
mark = record { state = 0; unit = 0; position = 0; len = 0 }

unfoldable pub says_none : TableEntry → Bool
says_none x = eqb x.state 1

unfoldable pub says_file : TableEntry → Bool
says_file x = eqb x.state 2

unfoldable pub is_usable : Table → Bool
is_usable t = let x = get_or t 0 mark in says_none x || says_file x

-- ---- the table filled afresh, mended, marked
-- The entries of the k files from f on.
unfoldable pub entries_from : ℕ → ℕ → Survey → Table
entries_from zero f v = []
entries_from (suc k) f v = entry_of (committed_view f v) ∷ entries_from k (suc f) v

unfoldable pub fresh : Geometry → Bytes → Table
fresh g s = entries_from 256 0 (survey g s)

-- Commit mends only the entries it touches: for each pending descriptor, its file's. A delete mark: no file.
unfoldable pub mended : List Entry → Table → Table
mended [] t = t
mended (e ∷ es) t = mended es (set t (file_of e.descriptor) (entry_of (unless_mark e)))

-- Mount and format fill it.
unfoldable pub fills : Call → Bool
fills (format k) = true
fills (mount k) = true
fills (begin q k) = false
fills (commit k) = false
fills (abort k) = false
fills (write q f c k) = false
fills (delete q f k) = false
fills (read f) = false
fills (read_open f) = false
fills (read_at L p) = false

unfoldable pub mends : Call → Bool
mends (format k) = false
mends (mount k) = false
mends (begin q k) = false
mends (commit k) = true
mends (abort k) = false
mends (write q f c k) = false
mends (delete q f k) = false
mends (read f) = false
mends (read_open f) = false
mends (read_at L p) = false

-- What a finished call makes of it, from the image s to the image u: begin, write, delete and abort leave it as it is.
unfoldable pub table_done : Geometry → Call → Bytes → Bytes → Table → Table
table_done g c s u t = cond (fills c) (fresh g u) (cond (mends c) (mended (select is_pending_file (survey g s)) t) t)

-- A stopped call, also one of 0 steps, leaves the table unusable; a refused one leaves it unchanged.
unfoldable pub table_after : Answer → Table → Table → Table
table_after a done t = let k = number a in cond (eqb k 0) done (cond (eqb k 1) (set t 0 mark) t)

-- ---- the calls through the table
-- What a call through the table answers, and the image and the table afterwards.
pub record TableOutcome : Type 0 where
  pub answer : Answer
  pub image : Bytes
  pub table : Table

unfoldable pub without_table : TableOutcome → Outcome
without_table o = record { answer = o.answer; image = o.image }

unfoldable pub with_table : Outcome → Table → Table → TableOutcome
with_table o done t = record { answer = o.answer; image = o.image; table = table_after o.answer done t }

-- 2 for a table of other length.
unfoldable pub of_length : Table → Plan → Plan
of_length t p = refuse (not (eqb (length t) 256)) BadGeometry p

module _ (g : Geometry) (s : Bytes) (t : Table) where
  -- 12 STALE TABLE, after 4; mount and format never give it.
  unfoldable pub plan_through : Call → Plan
  plan_through c = of_length t (cond (is_usable t || fills c) (plan g s c) (in_settled g s λ v. refuses StaleTable))

  -- Format, mount, begin, write, delete, commit and abort through the table.
  unfoldable pub through : Call → TableOutcome
  through c = let o = carry_out (plan_through c) (allowance c) s in with_table o (table_done g c s o.image t) t

  -- Fill makes no step and never gives 12.
  unfoldable pub fill_through : TableOutcome
  fill_through = with_table (carry_out (of_length t (in_settled g s λ v. makes origin [])) 0 s) (fresh g s) t

-- ---- the read through the table
-- The descriptor bears out an entry of file f: current data of that file with that length, whose sector lies in its home.
unfoldable pub bears_out : Geometry → Home → TableEntry → ℕ → Descriptor → Bool
bears_out g h x f d = is_current d && is_data d && eqb (file_of d) f && eqb d.len x.len && lies g (stands (n h.room)) d

-- What an entry of file f shows: the descriptor at its position in its unit's home, where it bears the entry out. A unit over U-2 has no
-- home, and a position not below n is blank.
unfoldable pub shown_by : Geometry → Survey → TableEntry → ℕ → Option Entry
shown_by g v x f =
    let h = home_at v.homes x.unit in
    let d = get_or h.room.array x.position blank in
    cond (says_file x && bears_out g h x f d) (first (entries_in x.unit h.unit x.position (d ∷ []))) none

-- What a usable table has of a file not over 255.
unfoldable pub said_of : Table → ℕ → TableEntry
said_of t f = cond (is_usable t && not (is_bad_file f)) (get_or t f mark) mark

unfoldable pub showing_or : Plan → Option Entry → Plan
showing_or p none = p
showing_or p (some e) = shows e.at 0 e NotSaid

module _ (g : Geometry) (s : Bytes) (t : Table) where
  -- Where the table gives no answer the image is judged: 3, 4, then 12 of an unusable table, 5, and 12 of an entry that the image contradicts.
  unfoldable pub judged : ℕ → Plan
  judged f = in_settled g s λ v. refuse (not (is_usable t)) StaleTable (refuse (is_bad_file f) BadFile (refuses StaleTable))

  -- 9 where the table says that there is no file; the content where it says that there is one and the image bears it out.
  unfoldable pub plan_read : ℕ → Plan
  plan_read f =
      let x = said_of t f in
      of_length t (in_geometry g s (refuse (says_none x) (Absent NotSaid) (showing_or (judged f) (shown_by g (survey g s) x f))))

  -- A read changes nothing.
  unfoldable pub read_through : ℕ → TableOutcome
  read_through f = with_table (carry_out (plan_read f) 0 s) t t
