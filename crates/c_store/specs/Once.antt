-- One right outcome: two reports and images that meet the contract of a call for C are equal. (Of the calls in Rattle: `meets_unique`, laws/specs/Calls.antt.)
use Rattle.std.specs.Prelude.{◌≡◌, ℕ}
use Rattle.std.proofs.Common.{◌∙◌, sym}
use Rattle.rules.specs.Flash.{Bytes}
use Rattle.rules.specs.Calls.{Call, abort, begin, commit, delete, format, mount, read, read_at, read_open, write}
use Rattle.rules.specs.declared.Geometry.{Geometry}
use Rattle.rules.specs.declared.Rule.TheVariants.{Tightest, Lowest}
use Rattle.c_report.specs.declared.Report.{Report}
use Rattle.c_store.specs.Reports.{Reports, ShowsRead, geometry}

abbrev One : Geometry → Call → Bytes → Type 0
One g c s = (r q : Report) (t u : Bytes) → Reports g c s r t → Reports g c s q u → (r ≡ q) × (t ≡ u)

abbrev OneShown : Geometry → Call → Bytes → Type 0
OneShown g c s = (r q : Report) → ShowsRead g c s r → ShowsRead g c s q → r ≡ q

one : (g : Geometry) (c : Call) (s : Bytes) → One g c s
one g c s r q t u h k = (h.report ∙ sym k.report, h.image ∙ sym k.image)

one_shown : (g : Geometry) (c : Call) (s : Bytes) → OneShown g c s
one_shown g c s r q h k = h.report ∙ sym k.report

module _ (size units : ℕ) (s : Bytes) where
  pub us_format_once : (k : ℕ) → One (geometry size units) (format k) s
  us_format_once k = one (geometry size units) (format k) s

  pub us_mount_once : (k : ℕ) → One (geometry size units) (mount k) s
  us_mount_once k = one (geometry size units) (mount k) s

  pub us_begin_once : (k : ℕ) → One (geometry size units) (begin Tightest k) s
  us_begin_once k = one (geometry size units) (begin Tightest k) s

  pub us_begin_lowest_once : (k : ℕ) → One (geometry size units) (begin Lowest k) s
  us_begin_lowest_once k = one (geometry size units) (begin Lowest k) s

  pub us_write_once : (f : ℕ) (c : Bytes) (k : ℕ) → One (geometry size units) (write Tightest f c k) s
  us_write_once f c k = one (geometry size units) (write Tightest f c k) s

  pub us_write_lowest_once : (f : ℕ) (c : Bytes) (k : ℕ) → One (geometry size units) (write Lowest f c k) s
  us_write_lowest_once f c k = one (geometry size units) (write Lowest f c k) s

  pub us_delete_once : (f k : ℕ) → One (geometry size units) (delete Tightest f k) s
  us_delete_once f k = one (geometry size units) (delete Tightest f k) s

  pub us_delete_lowest_once : (f k : ℕ) → One (geometry size units) (delete Lowest f k) s
  us_delete_lowest_once f k = one (geometry size units) (delete Lowest f k) s

  pub us_commit_once : (k : ℕ) → One (geometry size units) (commit k) s
  us_commit_once k = one (geometry size units) (commit k) s

  pub us_abort_once : (k : ℕ) → One (geometry size units) (abort k) s
  us_abort_once k = one (geometry size units) (abort k) s

  pub us_read_once : (f : ℕ) → OneShown (geometry size units) (read f) s
  us_read_once f = one_shown (geometry size units) (read f) s

  pub us_read_open_once : (f : ℕ) → OneShown (geometry size units) (read_open f) s
  us_read_open_once f = one_shown (geometry size units) (read_open f) s

  pub us_read_at_once : (L p : ℕ) → OneShown (geometry size units) (read_at L p) s
  us_read_at_once L p = one_shown (geometry size units) (read_at L p) s
