-- What is promised of the read table. A call through it is `through`, a fill `fill_through`, a read `read_through_lem` (rules: Table.antt). `Beside g s t`
-- says that image s and table t were last left by the same call: from an unusable table beside any image of bytes, or from a finished format,
-- mount or fill of any, by any calls through the table, finished, stopped or refused (Words.antt).
use Rattle.std.specs.Prelude.{◌≡◌, ◌↔◌, ◌≢◌, false, true, ◌||◌, [], ◌+◌, ◌≤◌, ℕ, get_or, set}
use Rattle.std.proofs.Math.Path.{ap}
use Rattle.std.proofs.Common.{sym, ◌∙◌}
use Rattle.std.proofs.Math.ListN.{length}
use Rattle.rules.specs.Flash.{Bytes, is_geometry}
use Rattle.rules.specs.Lists.{filter}
use Rattle.rules.specs.Unit.{is_pending_file}
use Rattle.rules.specs.Settled.{of_file, select, survey}
use Rattle.rules.specs.Sound.{standing}
use Rattle.rules.specs.Answers.{Plan, carry_out, content, given, number}
use Rattle.rules.specs.Calls.{Call, allowance, commit, outcome, read}
use Rattle.rules.specs.Histories.{Plain, Reached, follow, is_format, takes_bytes}
use Rattle.rules.specs.Table.{Table, TableOutcome, fills, fill_through, fresh, is_usable, mark, read_through, through, with_table, without_table}
use Rattle.rules.specs.declared.Geometry.{Geometry}
use Rattle.rules.specs.declared.TableEntry.{TableEntry}
use Rattle.rules.specs.declared.Standing.TheVariants.{Settled}
use Rattle.theory.specs.Base.Facts.{true_false}
use Rattle.theory.specs.Images.Layout.{are_bytes}
use Rattle.promises_table.specs.Words.{Beside, MeetsThrough, exactly}
use Rattle.promises_table.specs.Through.{as_plain_lem, marked_unusable, stopped_table}
use Rattle.promises_table.specs.Reading.{OnlyWhereDue, done_inside, done_right, fresh_length, plan_exactly, read_keeps}
use Rattle.promises_table.specs.Reading as reading
use Rattle.promises_table.specs.Kept.{beside_holds, filling, goes_on_lem, through_done, through_refused}
use Rattle.promises_table.specs.Stale.{Stale, commit_touches, exactly_plain, stale_when, when_stale}

-- ---- The table is kept.
-- After every finished call it equals the table filled afresh from the image after it: of any image of bytes, for a call that fills with any
-- table, for the others with the fresh one of the image before. Dropped: a table that was kept might miss a file, or name an old handle.
pub fresh_after : (g : Geometry) (s : Bytes) (t : Table) (c : Call) → are_bytes s ≡ true → takes_bytes c ≡ true → (fills c ≡ false → t ≡ fresh g s) → number (through g s t c).answer ≡ 0
    → (through g s t c).table ≡ fresh g (through g s t c).image
fresh_after g s t c bytes by e z = (through_done g s t c bytes by e z).1

-- Along all calls through one table: it is unusable, or the image is settled and the table the fresh one. Dropped: a table might look usable
-- after a stop.
pub kept : (g : Geometry) (s : Bytes) (t : Table) → Beside g s t → is_usable t ≡ true → (standing g (survey g s) ≡ Settled) × (t ≡ fresh g s)
kept g s t r = (beside_holds g r).usable

-- ---- Reads of a table and an image last left by the same call.
module _ (g : Geometry) (s : Bytes) (t : Table) (r : Beside g s t) (f : ℕ) where
  -- Each number exactly where document 01's table has it, with 12 after 4, and what is given with it. Dropped: 12 might be given for 4 after
  -- a stop, or 9 for a file that is there.
  pub reads_exactly : without_table (read_through g s t f) ≡ carry_out (exactly g s t f) 0 s
  unfolding without_table read_through with_table
  reads_exactly = ap (λ (p : Plan). carry_out p 0 s) (plan_exactly g s t f (kept g s t r))

  -- Where the table is usable: the plain committed read, its number, handle, content and all. Dropped: a read through it might show another.
  pub reads_as_plain : is_usable t ≡ true → without_table (read_through g s t f) ≡ outcome g (read f) s
  unfolding outcome allowance
  reads_as_plain u = reads_exactly ∙ ap (λ (p : Plan). carry_out p 0 s) (exactly_plain g s t f (ap (λ (x : Table). length x) (kept g s t r u).1 ∙ fresh_length g s) u)

-- ---- Reads of any table and any image.
module _ (g : Geometry) (s : Bytes) (t : Table) (f : ℕ) where
  -- Of a settled image DONE is the plain read's answer, whatever the table. Dropped: a stale table might show old bytes.
  pub done_is_right : standing g (survey g s) ≡ Settled → number (read_through g s t f).answer ≡ 0 → (read_through g s t f).answer ≡ (outcome g (read f) s).answer
  done_is_right = done_right g s t f

  -- The content lies in the image, and has at most 256 bytes. Dropped: a damaged table might make the caller read past its image.
  pub stays_inside : number (read_through g s t f).answer ≡ 0 → ((given (read_through g s t f).answer).start + (given (read_through g s t f).answer).len ≤ length s) × ((given (read_through g s t f).answer).len ≤ 256)
  stays_inside = done_inside g s t f

  -- 2, 3, 4, 5 and 12 only where they are due. Dropped: a good image might be called bad.
  pub only_where_due : OnlyWhereDue g s t f (number (read_through g s t f).answer)
  only_where_due = reading.only_where_due g s t f

  -- A read changes neither. Dropped: a read might mark the table.
  pub reads_change_nothing : ((read_through g s t f).image ≡ s) × ((read_through g s t f).table ≡ t)
  reads_change_nothing = read_keeps g s t f

-- ---- Calls through any table, on any image.
module _ (g : Geometry) (s : Bytes) (t : Table) (c : Call) where
  -- Through a usable table of 256 entries, and of format and mount through any of 256, the answer and the image are the plain call's: what is
  -- demanded of the store holds of it. Dropped: a call through the table might do something else.
  pub as_without : length t ≡ 256 → is_usable t || fills c ≡ true → without_table (through g s t c) ≡ outcome g c s
  as_without = as_plain_lem g s t c

  -- And a history goes on by it: of an image that a history reaches, it leaves one that a history reaches, with the plain store that the plain
  -- call makes where the call was taken, and the same where it was refused. Dropped: no demand might be said of it.
  pub history_goes_on : (m : Plain) → Reached g s m → is_format c ≡ false → takes_bytes c ≡ true
      → (n : Plain) × Reached g (through g s t c).image n × (number (through g s t c).answer ≤ 1 → n ≡ follow g c (outcome g c s) m) × (2 ≤ number (through g s t c).answer → n ≡ m)
  history_goes_on m r n by = goes_on_lem g s m t c r n by

  -- A stopped call, also one of 0 steps, marks the first entry and no other; the table is unusable then. Dropped: a table might be read that
  -- the image has left behind.
  pub stop_marks : number (through g s t c).answer ≡ 1 → ((through g s t c).table ≡ set t 0 mark) × (is_usable (through g s t c).table ≡ false)
  stop_marks z = (stopped_table g s t c z, ap is_usable (stopped_table g s t c z) ∙ marked_unusable t)

  -- A refused call changes no byte of image or table, makes no step and gives no content. Dropped: a refusal might spoil the table.
  pub refusal_keeps : 2 ≤ number (through g s t c).answer → ((through g s t c).image ≡ s) × ((through g s t c).table ≡ t) × ((given (through g s t c).answer).steps ≡ 0) × (content (without_table (through g s t c)) ≡ [])
  refusal_keeps = through_refused g s t c

  -- 12 exactly where the table is unusable, the call does not fill it, and neither 2, 3 nor 4 is due. Dropped: begin might take an unusable table.
  pub stale_exactly : number (through g s t c).answer ≡ 12 ↔ Stale g s t c
  stale_exactly = (when_stale g s t c, stale_when g s t c)

-- Mount, format and fill never give 12. Dropped: nothing might make the table usable again.
pub fills_never_stale : (g : Geometry) (s : Bytes) (t : Table) → ((c : Call) → fills c ≡ true → number (through g s t c).answer ≢ 12) × (number (fill_through g s t).answer ≤ 4)
fills_never_stale g s t = ((λ c f z. let a = when_stale g s t c z in true_false (fills c) f a.asks), (filling g s t).few)

-- Fill makes no step and changes no byte of the image. It is DONE exactly with a table of 256 entries beside a settled image of its geometry, and
-- leaves the fresh table then; else the table is as it was. Dropped: a fill might take what is not settled, or refuse everything.
pub fill_fills : (g : Geometry) (s : Bytes) (t : Table)
    → ((fill_through g s t).image ≡ s) × ((given (fill_through g s t).answer).steps ≡ 0)
    × (number (fill_through g s t).answer ≡ 0 ↔ (length t ≡ 256) × (is_geometry g (length s) ≡ true) × (standing g (survey g s) ≡ Settled))
    × (number (fill_through g s t).answer ≡ 0 → (fill_through g s t).table ≡ fresh g s)
    × (number (fill_through g s t).answer ≢ 0 → (fill_through g s t).table ≡ t)
fill_fills g s t = let k = filling g s t in (k.image, k.steps, ((λ z. ((k.long z).0, (k.long z).1, (k.done z).0)), λ h. k.takes h.0 h.1 h.2), (λ z. (k.done z).1), λ n. (k.refused n).0)

-- A DONE commit leaves the entry of every file that has no change, whatever the table. Dropped: commit might mend what it does not touch.
pub touches_only : (g : Geometry) (s : Bytes) (t : Table) (k : ℕ) → number (through g s t (commit k)).answer ≡ 0 → (f : ℕ) → filter (of_file f) (select is_pending_file (survey g s)) ≡ []
    → (x : TableEntry) → get_or (through g s t (commit k)).table f x ≡ get_or t f x
touches_only = commit_touches

-- Two outcomes that meet the contract of a call through the table are equal. Dropped: the contract might leave a choice.
pub one_outcome_through : (d o p : TableOutcome) → MeetsThrough d o → MeetsThrough d p → o ≡ p
one_outcome_through d o p h k = λ i. record { answer = (h.answer ∙ sym k.answer) i; image = (h.image ∙ sym k.image) i; table = (h.table ∙ sym k.table) i }
