use Rattle.std.proofs.Common.{refl, arith}
use Rattle.hex_lines.specs.Data.{formed_length, record_length}
use Rattle.hex_lines.specs.Digits.{sum_turn, sum_end}
use Rattle.hex_lines.specs.Records.{record_bytes, sum}
use Rattle.hex_lines.proofs.RecordLine.sum.Goals as goal

pub loop-k-init : goal.loop-k-init
unfolding sum
loop-k-init c = refl

pub byte-sum-requires : goal.byte-sum-requires
byte-sum-requires c = let h = formed_length c.args.self.now.line.now c.args.self.now.formed in omega arith

pub loop-k-preserved : goal.loop-k-preserved
loop-k-preserved c =
    let h = formed_length c.args.self.now.line.now c.args.self.now.formed in
    let n = record_length c.args.self.now.line.now c.args.self.now.formed in
    sum_turn (record_bytes c.args.self.now.line.now) c.loop-k.k c.loop-k.sum c.byte-sum.result (omega arith) c.loop-k.invariant c.byte-sum.ensures

pub returns : goal.returns
returns c =
    let h = formed_length c.args.self.now.line.now c.args.self.now.formed in
    let n = record_length c.args.self.now.line.now c.args.self.now.formed in
    sum_end (record_bytes c.args.self.now.line.now) c.loop-k.k c.loop-k.sum (omega arith) c.loop-k.invariant
