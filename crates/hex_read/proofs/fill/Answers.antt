use Rattle.std.proofs.Common.{length}
use Rattle.hex_read.specs.Fills.{fill_inside, fill_more, fills_last}
use Rattle.hex_read.proofs.fill.Goals as goal

pub loop-line-init : goal.loop-line-init
loop-line-init c = rw c.into_iter-line-iterator.ensures.into_iter_gives c.requires

pub fill_line-requires : goal.fill_line-requires
fill_line-requires c =
    rw c.loop-line.auto.image (fill_inside c.args.text.now (length c.args.image.now) c.loop-line.image _ _ c.loop-line.auto.image (rw c.in-Some.ensures.steps at c.loop-line.invariant))

pub loop-line-preserved : goal.loop-line-preserved
loop-line-preserved c =
    rw c.fill_line.ensures (fill_more c.args.text.now (length c.args.image.now) c.loop-line.image _ _ (rw c.in-Some.ensures.steps at c.loop-line.invariant))

pub returns : goal.returns
returns c = fills_last c.args.text.now (length c.args.image.now) c.loop-line.image (rw ((rw c.in-None.is at c.next.ensures.steps).0) at c.loop-line.invariant)
