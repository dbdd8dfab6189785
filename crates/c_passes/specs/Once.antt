-- One right outcome: two reports and images that meet a call's contract are equal.
use Rattle.std.specs.Prelude.{◌≡◌, ℕ}
use Rattle.std.proofs.Common.{◌∙◌, sym}
use Rattle.rules.specs.Flash.{Bytes}
use Rattle.c_store.specs.Reports.{geometry}
use Rattle.pass_rules.specs.Give.{register_look, register_report, staff_look, staff_report}
use Rattle.pass_rules.specs.declared.PassReport.{PassReport}
use Rattle.pass_rules.specs.declared.RegisterReport.{RegisterReport}
use Rattle.pass_rules.specs.declared.StaffReport.{StaffReport}
use Rattle.c_passes.specs.Shapes.{GivesPass}

module _ (size units : ℕ) (s : Bytes) where
  pub us_give_once : (first second k : ℕ) (r q : PassReport) (t u : Bytes) → GivesPass (geometry size units) first second k s r t → GivesPass (geometry size units) first second k s q u → (r ≡ q) × (t ≡ u)
  us_give_once first second k r q t u h w = (h.report ∙ sym w.report, h.image ∙ sym w.image)

  pub us_staff_once : (r q : StaffReport) → r ≡ staff_report (staff_look (geometry size units) s) → q ≡ staff_report (staff_look (geometry size units) s) → r ≡ q
  us_staff_once r q h w = h ∙ sym w

  pub us_register_once : (r q : RegisterReport) → r ≡ register_report (register_look (geometry size units) s) → q ≡ register_report (register_look (geometry size units) s) → r ≡ q
  us_register_once r q h w = h ∙ sym w
