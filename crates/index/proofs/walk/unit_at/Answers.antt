use Rattle.std.proofs.Common.{arith}
use Rattle.laws.specs.Units.{right_geometry}
use Rattle.home_table.specs.Bridge.{lent, lent_long}
use Rattle.index.specs.Lent.{within}
use Rattle.index.proofs.walk.unit_at.Goals as goal

pub base-base-requires : goal.base-base-requires
base-base-requires c = let o = right_geometry c.args.g c.args.image.now c.requires.right in (omega arith, omega arith)

pub overflow_add-result : goal.overflow_add-result
overflow_add-result c = let w = within c.args.g c.args.image.now c.args.n c.requires.right c.requires.below in omega (arith, c.base-base.ensures)

pub returns : goal.returns
returns c =
    let w = within c.args.g c.args.image.now c.args.n c.requires.right c.requires.below in
    record {
      unit = lent c.args.g.size c.args.image.now c.args.n c.base-base.result c.base-base.ensures;
      within = w;
      long = lent_long c.args.g.size c.args.image.now c.args.n c.base-base.result c.base-base.ensures w.inside;
    }

pub slice_bounds-result-end : goal.slice_bounds-result-end
slice_bounds-result-end c = let w = within c.args.g c.args.image.now c.args.n c.requires.right c.requires.below in omega (arith, c.base-base.ensures)
