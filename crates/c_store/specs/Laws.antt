-- From a call's two equations to what it reports for C.
use Rattle.rules.specs.Answers.{Answer}
use Rattle.std.specs.Prelude.{◌≡◌}
use Rattle.std.proofs.Common.{ap, ◌∙◌}
use Rattle.rules.specs.Flash.{Bytes}
use Rattle.rules.specs.Calls.{Call, outcome}
use Rattle.rules.specs.declared.Geometry.{Geometry}
use Rattle.c_report.specs.Exported.{exported}
use Rattle.c_report.specs.declared.Report.{Report}
use Rattle.c_store.specs.Reports.{Reports, ShowsRead}

module _ (g h : Geometry) (c : Call) (s : Bytes) (a : Answer) (r : Report) (e : h ≡ g) (p : a ≡ (outcome h c s).answer) (q : r ≡ exported a) where
  pub shows : ShowsRead g c s r
  shows = record { report = q ∙ ap exported (p ∙ ap (λ (x : Geometry). (outcome x c s).answer) e) }

  pub reports : (t : Bytes) → t ≡ (outcome h c s).image → Reports g c s r t
  reports t i = record { report = shows.report; image = i ∙ ap (λ (x : Geometry). (outcome x c s).image) e }
