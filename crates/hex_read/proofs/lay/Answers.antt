use Rattle.std.proofs.Common.{◌∙◌, arith}
use Rattle.hex_lines.specs.Records.{data_of}
use Rattle.hex_lines.specs.Data.{formed_length, data_length, data_at}
use Rattle.hex_lines.specs.Sets.{sets_turn, sets_end}
use Rattle.hex_read.proofs.lay.Goals as goal

pub byte-requires : goal.byte-requires
byte-requires c = omega (arith, c.requires.counted, formed_length c.args.line.now.line.now c.args.line.now.formed)

pub loop-k-preserved : goal.loop-k-preserved
loop-k-preserved c =
    let l = c.args.line.now.line.now in
    let f = c.args.line.now.formed in
    sets_turn c.args.image.now c.loop-k.image (data_of l) c.args.a c.loop-k.k c.byte.result (omega (arith, c.requires.counted, data_length l f)) (c.byte.ensures ∙ data_at l f c.loop-k.k (omega (arith, c.requires.counted))) c.loop-k.invariant

pub returns : goal.returns
returns c =
    let l = c.args.line.now.line.now in
    sets_end c.args.image.now c.loop-k.image (data_of l) c.args.a c.loop-k.k (omega (arith, c.requires.counted, data_length l c.args.line.now.formed)) c.loop-k.invariant
