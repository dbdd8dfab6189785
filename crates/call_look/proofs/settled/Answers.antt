use Rattle.call_look.specs.Looks.{bad_geometry, bad_image, unsettled, passing}
use Rattle.call_look.proofs.settled.Goals as goal

pub returns-in_default : goal.returns-in_default
returns-in_default c = bad_geometry c.args.g c.args.image.now c.in_default.ensures

pub returns-in-Neither : goal.returns-in-Neither
returns-in-Neither c = bad_image c.args.g c.args.image.now c.in-Some.look c.in-Some.ensures c.in-Neither.is

pub returns-in-Sound : goal.returns-in-Sound
returns-in-Sound c = unsettled c.args.g c.args.image.now c.in-Some.look c.in-Some.ensures c.in-Sound.is

pub returns-in-Settled : goal.returns-in-Settled
returns-in-Settled c = passing c.args.g c.args.image.now c.in-Some.look c.in-Some.ensures c.in-Settled.is
