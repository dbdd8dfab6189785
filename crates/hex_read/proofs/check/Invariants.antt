use Rattle.hex_lines.specs.Records.{lines_of}
use Rattle.hex_read.specs.Checks.{Tracked}
use Rattle.hex_read.proofs.check.Given as goal

abbrev pub invariant-loop-line : goal.invariant-loop-line
invariant-loop-line l = Tracked l.text l.size (lines_of l.lines.0.now) l.named
