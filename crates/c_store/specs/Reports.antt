-- What a call for C reports and leaves: the outcome that document 01 gives.
use Rattle.std.specs.Prelude.{◌≡◌, ℕ}
use Rattle.rules.specs.Flash.{Bytes}
use Rattle.rules.specs.Calls.{Call, outcome}
use Rattle.rules.specs.declared.Geometry.{Geometry}
use Rattle.c_report.specs.Exported.{exported}
use Rattle.c_report.specs.declared.Report.{Report}

abbrev pub geometry : ℕ → ℕ → Geometry
geometry size units = record { size = size; units = units }

-- A changing call: its report, and the image afterwards.
pub record Reports (g : Geometry) (c : Call) (s : Bytes) (r : Report) (t : Bytes) : Type 0 where
  pub report : r ≡ exported (outcome g c s).answer
  pub image : t ≡ (outcome g c s).image

-- A read, which changes no byte.
pub record ShowsRead (g : Geometry) (c : Call) (s : Bytes) (r : Report) : Type 0 where
  pub report : r ≡ exported (outcome g c s).answer
