use Rattle.std.proofs.Common.{length}
use Rattle.hex_lines.specs.Records.{lines_of}
use Rattle.hex_read.specs.Fills.{OnTheWay}
use Rattle.hex_read.proofs.fill.Given as goal

abbrev pub invariant-loop-line : goal.invariant-loop-line
invariant-loop-line l = OnTheWay l.text (length l.initial.image) (lines_of l.line-iterator.0.now) l.image
