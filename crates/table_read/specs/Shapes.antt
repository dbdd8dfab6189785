-- A read through a table in the code's shape. `Reads.antt` has the law that it is the definition's.
use Rattle.std.specs.Prelude.{Option, Some, None, Ok, Err, not, cond, ◌&&◌, ℕ, ◌-◌, ◌*◌, slice_get, length, ltb, eqb}
use Rattle.rules.specs.Flash.{Bytes, is_geometry}
use Rattle.rules.specs.Answers.{refuses, carry_out, Answer}
use Rattle.rules.specs.Calls.{is_bad_file, refuse, in_settled}
use Rattle.rules.specs.Table.{mark, says_none, says_file}
use Rattle.rules.specs.declared.Geometry.{Geometry}
use Rattle.rules.specs.declared.TableEntry.{TableEntry}
use Rattle.rules.specs.declared.Given.{Given}
use Rattle.rules.specs.declared.Origin.TheVariants.{NotSaid}
use Rattle.rules.specs.declared.NotDone.TheVariants.{BadGeometry, BadFile, Absent, StaleTable}
use Rattle.home_table.specs.Bridge.{unit_at, candidates}
use Rattle.table_entries.specs.Says.{usable_by}
use Rattle.table_borne.specs.Shapes.{shown_in}

-- the home of a logical number
unfoldable pub home_for : ℕ → ℕ → Bytes → ℕ → Option ℕ
home_for S U s L = slice_get (candidates S U s L) 0

-- what an entry of a file shows of the unit that stands h-th, if there is a home
unfoldable pub shown_home : Geometry → Bytes → TableEntry → ℕ → Option ℕ → Option Given
shown_home g s x f None = None
shown_home g s x f (Some h) = shown_in g (h * g.size) (unit_at g.size s h) x f

-- what an entry of a file shows
unfoldable pub shown_at : Geometry → Bytes → TableEntry → ℕ → Option Given
shown_at g s x f = cond (says_file x && ltb x.unit (g.units - 1)) (shown_home g s x f (home_for g.size g.units s x.unit)) None

-- what a usable table says of a file, if there is such a file
unfoldable pub said_by : TableEntry → TableEntry → ℕ → TableEntry
said_by first x f = cond (usable_by first && not (is_bad_file f)) x mark

-- what is answered where the table gives no answer
unfoldable pub judged_answer : Geometry → Bytes → TableEntry → ℕ → Answer
judged_answer g s first f =
    (carry_out (in_settled g s λ v. refuse (not (usable_by first)) StaleTable (refuse (is_bad_file f) BadFile (refuses StaleTable))) 0 s).answer

-- what an entry shows, else another answer
unfoldable pub shown_or : Answer → Option Given → Answer
shown_or a None = a
shown_or a (Some r) = Ok r

-- a read of a file, by the table's length, its first entry and the file's
unfoldable pub read_answer : Geometry → Bytes → ℕ → TableEntry → TableEntry → ℕ → Answer
read_answer g s n first entry f =
    let x = said_by first entry f in
    cond (eqb n 256 && is_geometry g (length s))
    (cond (says_none x) (Err (Absent NotSaid)) (shown_or (judged_answer g s first f) (shown_at g s x f)))
    (Err BadGeometry)
