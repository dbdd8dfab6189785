use Rattle.std.proofs.Common.{◌≡◌, ◌+◌, ◌*◌, ◌∙◌, arith}
use Rattle.hex_lines.specs.Data.{formed_pair}
use Rattle.hex_lines.specs.Digits.{some_given, byte_there}
use Rattle.hex_lines.proofs.RecordLine.byte.Goals as goal

pub unwrap-requires : goal.unwrap-requires
unwrap-requires c = some_given c.byte_of.result _ c.byte_of.ensures (formed_pair c.args.self.now.line.now c.args.self.now.formed c.args.k c.requires)

pub returns : goal.returns
returns c =
    let n : 2 * c.args.k + 1 + 1 ≡ 2 * c.args.k + 2 = omega arith in
    (rw c.unwrap.ensures at c.byte_of.ensures).1 ∙ rw n at (byte_there c.args.self.now.line.now c.args.k c.requires)
