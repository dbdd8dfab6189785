-- What the two calls for C report and leave; two reports that meet a call's statement are equal.
use Rattle.std.specs.Prelude.{◌≡◌, ℕ}
use Rattle.std.proofs.Common.{sym, ◌∙◌}
use Rattle.rules.specs.Flash.{Bytes}
use Rattle.rules.specs.declared.Geometry.{Geometry}
use Rattle.hex_lines.specs.Reads.{ReadAnswer}
use Rattle.hex_lines.specs.Writes.{Output}
use Rattle.c_hex.specs.declared.HexReport.{HexReport}

abbrev pub geometry : ℕ → ℕ → Geometry
geometry size units = record { size = size; units = units }

pub record ReadReport (x : ReadAnswer) (r : HexReport) (s : Bytes) : Type 0 where
  pub report : r ≡ record { number = x.number; len = 0 }
  pub image : s ≡ x.image

pub record WriteReport (x : Output) (r : HexReport) (s : Bytes) : Type 0 where
  pub report : r ≡ record { number = x.number; len = x.length }
  pub text : s ≡ x.buffer

-- ---- one right outcome
pub read_once : (x : ReadAnswer) (r q : HexReport) (t u : Bytes) → ReadReport x r t → ReadReport x q u → (r ≡ q) × (t ≡ u)
read_once x r q t u h k = (h.report ∙ sym k.report, h.image ∙ sym k.image)

pub write_once : (x : Output) (r q : HexReport) (t u : Bytes) → WriteReport x r t → WriteReport x q u → (r ≡ q) × (t ≡ u)
write_once x r q t u h k = (h.report ∙ sym k.report, h.text ∙ sym k.text)
