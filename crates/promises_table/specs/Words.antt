-- What the promises on the read table speak of: calls through one table, and the read with 12 after 4.
use Rattle.std.specs.Prelude.{◌≡◌, true, false, not, ℕ, ◌≤◌}
use Rattle.rules.specs.Flash.{Bytes}
use Rattle.rules.specs.Views.{committed_view}
use Rattle.rules.specs.Answers.{Plan, number}
use Rattle.rules.specs.Calls.{Call, in_settled, is_bad_file, refuse, showing}
use Rattle.rules.specs.Histories.{MayLeave, takes_bytes}
use Rattle.rules.specs.Table.{Table, TableOutcome, fills, fill_through, is_usable, of_length, read_through, through}
use Rattle.rules.specs.declared.NotDone.TheVariants.{BadFile, StaleTable}
use Rattle.rules.specs.declared.Geometry.{Geometry}
use Rattle.rules.specs.declared.Origin.TheVariants.{NotSaid}
use Rattle.theory.specs.Images.Layout.{are_bytes}

-- The plain committed read with L1's refusals in their places: 2 also for a table of other length, and 12 after 4.
unfoldable pub exactly : Geometry → Bytes → Table → ℕ → Plan
exactly g s t f = of_length t (in_settled g s λ v. refuse (not (is_usable t)) StaleTable (refuse (is_bad_file f) BadFile (showing NotSaid (committed_view f v))))

-- What a call through a table may leave of the image, finished, stopped or refused: where it is taken, what the plain call may leave; where it
-- is refused, the image as it was.
pub data MayLeaveThrough (g : Geometry) (s : Bytes) (t : Table) (c : Call) : Bytes → Type 0 where
  as_plain : {u : Bytes} → number (through g s t c).answer ≤ 1 → MayLeave g c s u → MayLeaveThrough g s t c u
  as_before : 2 ≤ number (through g s t c).answer → MayLeaveThrough g s t c s

-- An image of bytes and a table last left by the same call: at first an unusable table beside any image, or what a finished format, mount
-- or fill leaves of any; then any calls through the table, with any inputs and any allowance, finished, stopped or refused, from any image
-- that the call before may leave. A plain read changes neither.
pub data Beside (g : Geometry) : Bytes → Table → Type 0 where
  unusable : (s : Bytes) (t : Table) → are_bytes s ≡ true → is_usable t ≡ false → Beside g s t
  ended : (c : Call) (s : Bytes) (t : Table) → are_bytes s ≡ true → fills c ≡ true → number (through g s t c).answer ≡ 0 → Beside g (through g s t c).image (through g s t c).table
  filled : (s : Bytes) (t : Table) → are_bytes s ≡ true → number (fill_through g s t).answer ≡ 0 → Beside g (fill_through g s t).image (fill_through g s t).table
  called : {s u : Bytes} {t : Table} (c : Call) → takes_bytes c ≡ true → Beside g s t → MayLeaveThrough g s t c u → Beside g u (through g s t c).table
  refilled : {s : Bytes} {t : Table} → Beside g s t → Beside g (fill_through g s t).image (fill_through g s t).table
  looked : {s : Bytes} {t : Table} (f : ℕ) → Beside g s t → Beside g (read_through g s t f).image (read_through g s t f).table

-- What the contract of a call through the table says of an outcome: its answer, its image and its table are the definition's.
pub record MeetsThrough (d o : TableOutcome) : Type 0 where
  pub answer : o.answer ≡ d.answer
  pub image : o.image ≡ d.image
  pub table : o.table ≡ d.table
