use Rattle.std.proofs.Common.{◌≡◌, ◌∷◌, ◌++◌, ◌-◌, ◌*◌, take, replicate}
use Rattle.rules.specs.Text.{lf}
use Rattle.hex_lines.specs.Records.{colon}
use Rattle.hex_lines.specs.Writes.{digits_of}
use Rattle.hex_write.proofs.put_row.Given as goal

abbrev pub invariant-loop-k : goal.invariant-loop-k
invariant-loop-k l = l.line ≡ colon ∷ (digits_of (take l.k l.«record») ++ replicate (43 - 2 * l.k) lf)
