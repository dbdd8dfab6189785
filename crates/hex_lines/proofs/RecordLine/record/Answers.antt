use Rattle.std.proofs.Common.{arith}
use Rattle.hex_lines.specs.Data.{formed_length}
use Rattle.hex_lines.proofs.RecordLine.record.Goals as goal

pub byte-kind-requires : goal.byte-kind-requires
byte-kind-requires c = omega (arith, formed_length c.args.self.now.line.now c.args.self.now.formed)
