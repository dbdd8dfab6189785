use Rattle.std.proofs.Common.{◌≡◌, ◌++◌, ◌*◌, ◌≤◌, length, take, drop}
use Rattle.hex_write.specs.Rows.{lines_of_rows}
use Rattle.hex_write.proofs.put_rows.Given as goal

abbrev pub invariant-loop-n : goal.invariant-loop-n
invariant-loop-n l = record { len : l.at ≡ length (lines_of_rows 0 (take l.n l.rows)); room : l.at ≤ 44 * l.n; text : l.text ≡ lines_of_rows 0 (take l.n l.rows) ++ drop l.at l.initial.text }
