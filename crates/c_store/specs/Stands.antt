-- What a read reports for C is safe to take: start and length lie in the caller's image, and the bytes there are the content.
use Rattle.std.specs.Prelude.{◌≡◌, ◌+◌, ◌≤◌, ℕ, drop, length, take}
use Rattle.std.proofs.Common.{◌∙◌, subst, sym}
use Rattle.rules.specs.Flash.{Bytes}
use Rattle.rules.specs.Answers.{content, given}
use Rattle.rules.specs.Calls.{Call, outcome, read, read_at, read_open}
use Rattle.laws.specs.Calls.{ReadingCall, reads, reads_at, reads_open}
use Rattle.rules.specs.declared.Geometry.{Geometry}
use Rattle.call_read.specs.Parts.{part_whole, read_content, read_inside}
use Rattle.c_report.specs.Exported.{exported}
use Rattle.c_report.specs.declared.Report.{Report}
use Rattle.c_store.specs.Reports.{ShowsRead, geometry}

-- Of every report that meets a read's contract; of any but DONE, start and length are 0.
abbrev ReadStands : Geometry → Call → Bytes → Type 0
ReadStands g c s = (r : Report) → ShowsRead g c s r → (r.start + r.len ≤ length s) × (take r.len (drop r.start s) ≡ content (outcome g c s))

stand : (g : Geometry) (c : Call) (s : Bytes) → ReadingCall c → ReadStands g c s
unfolding exported
stand g c s k r h =
    subst (λ (x : Report). (x.start + x.len ≤ length s) × (take x.len (drop x.start s) ≡ content (outcome g c s))) (sym h.report)
    (read_inside g s k, sym (part_whole s (given (outcome g c s).answer).start (given (outcome g c s).answer).len (read_inside g s k)) ∙ read_content g s k)

module _ (size units : ℕ) (s : Bytes) where
  pub us_read_stands : (f : ℕ) → ReadStands (geometry size units) (read f) s
  us_read_stands f = stand (geometry size units) (read f) s (reads f)

  pub us_read_open_stands : (f : ℕ) → ReadStands (geometry size units) (read_open f) s
  us_read_open_stands f = stand (geometry size units) (read_open f) s (reads_open f)

  pub us_read_at_stands : (L p : ℕ) → ReadStands (geometry size units) (read_at L p) s
  us_read_at_stands L p = stand (geometry size units) (read_at L p) s (reads_at L p)
