use Rattle.rules.specs.Calls.{write}
use Rattle.rules.specs.declared.Rule.TheVariants.{Tightest}
use Rattle.c_store.specs.Reports.{geometry}
use Rattle.c_store.specs.Allowances.{writes}
use Rattle.c_passes.specs.Parts.{part_after, steps_within}
use Rattle.c_passes.proofs.giving.Giving.write.Goals as goal

pub after-requires : goal.after-requires
after-requires c =
    let x = c.args.self in
    let p = c.us_write-part in
    steps_within (geometry x.sizes.size x.sizes.units) x.allowance x.made c.args.image.now (writes Tightest c.args.file c.args.content.now) p.result p.new.image x.within (rw (c.left.ensures, c.alone-bytes.ensures) at p.ensures)

pub returns : goal.returns
returns c =
    let p = c.us_write-part in
    part_after c.args.self (write Tightest c.args.file c.args.content.now) c.args.image.now p.result p.new.image c.after.new.image c.after.result
    (rw (c.left.ensures, c.alone-bytes.ensures) at p.ensures) c.after.ensures
