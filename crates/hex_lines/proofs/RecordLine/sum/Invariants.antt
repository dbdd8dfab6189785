use Rattle.std.proofs.Common.{◌≡◌, ◌%◌, take}
use Rattle.hex_lines.specs.Records.{record_bytes, sum}
use Rattle.hex_lines.proofs.RecordLine.sum.Given as goal

abbrev pub invariant-loop-k : goal.invariant-loop-k
invariant-loop-k l = l.sum ≡ sum (take l.k (record_bytes l.self.line.now)) % 256
