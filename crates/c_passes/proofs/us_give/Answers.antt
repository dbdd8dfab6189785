use Rattle.c_store.specs.Reports.{geometry}
use Rattle.c_passes.specs.Low.{give_low}
use Rattle.c_passes.specs.Parts.{give_done, give_refused, give_stopped}
use Rattle.c_passes.specs.Shapes.{number_of}
use Rattle.c_passes.proofs.us_give.Goals as goal

pub returns-in-Err : goal.returns-in-Err
returns-in-Err c =
    rw c.number.ensures (give_refused (geometry c.args.size c.args.units) c.args.allowance c.args.first c.args.second c.args.image.now (number_of c.in-Err.refusal) c.in-Err.ensures)

pub invariant_of-give : goal.invariant_of-give
invariant_of-give c =
    record { fits = give_low (geometry c.args.size c.args.units) c.args.image.now c.args.first c.args.second c.in-Ok.n c.in-Ok.ensures }

pub returns-in-Ok-give : goal.returns-in-Ok-give
returns-in-Ok-give c =
    give_done (geometry c.args.size c.args.units) c.args.allowance c.args.first c.args.second c.args.image.now c.in-Ok.n c.in-Ok.ensures c.in-Ok-give.steps c.give.new.image c.in-Ok-give.ensures

pub returns-in-Err-give : goal.returns-in-Err-give
returns-in-Err-give c =
    let e = c.in-Err-give.stop in
    give_stopped (geometry c.args.size c.args.units) c.args.allowance c.args.first c.args.second c.args.image.now c.in-Ok.n c.in-Ok.ensures e.number e.steps c.give.new.image e.early c.in-Err-give.ensures
