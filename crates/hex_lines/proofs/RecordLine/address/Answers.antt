use Rattle.std.proofs.Common.{arith}
use Rattle.hex_lines.specs.Data.{formed_length}
use Rattle.hex_lines.proofs.RecordLine.address.Goals as goal

pub byte-requires : goal.byte-requires
byte-requires c = omega (arith, formed_length c.args.self.now.line.now c.args.self.now.formed)

pub byte-requires-2 : goal.byte-requires-2
byte-requires-2 c = omega (arith, formed_length c.args.self.now.line.now c.args.self.now.formed)
