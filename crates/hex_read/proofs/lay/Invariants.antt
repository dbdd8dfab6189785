use Rattle.std.proofs.Common.{◌≡◌, take}
use Rattle.std.proofs.lemmas.List.Edits.{sets}
use Rattle.hex_lines.specs.Records.{data_of}
use Rattle.hex_read.proofs.lay.Given as goal

abbrev pub invariant-loop-k : goal.invariant-loop-k
invariant-loop-k l = l.image ≡ sets l.initial.image l.a (take l.k (data_of l.line.line.now))
