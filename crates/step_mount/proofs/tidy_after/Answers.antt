use Rattle.std.proofs.Common.{ap, sym, ◌∙◌}
use Rattle.rules.specs.Flash.{state}
use Rattle.rules.specs.Settled.{survey}
use Rattle.rules.specs.Jobs.{tidy}
use Rattle.laws.specs.Units.{right_geometry}
use Rattle.step_mount.specs.Mounting.{cut_run, mendable_after, not_housed, there}
use Rattle.step_mount.proofs.tidy_after.Goals as goal

pub returns-in_err-left : goal.returns-in_err-left
returns-in_err-left c =
    ap (state c.args.image.now) (c.from_residual.ensures ∙ sym c.in_err-left.was)
    ∙ cut_run (tidy (survey c.args.g c.args.image.now)) c.args.image.now c.args.was c.in_err-left.was

pub invariant_of-homes_of : goal.invariant_of-homes_of
invariant_of-homes_of c = record { right = right_geometry c.args.g c.args.image.now c.requires.0 }

pub unwrap-homes-requires : goal.unwrap-homes-requires
unwrap-homes-requires c = there c.homes_of.result _ c.homes_of.ensures (not_housed c.args.g c.args.image.now c.requires.0 (c.requires.1 _ c.in_ok-left.was))

pub tidy_up-requires : goal.tidy_up-requires
tidy_up-requires c = let m = rw c.unwrap-homes.ensures at c.homes_of.ensures in mendable_after c.args.g c.args.image.now c.unwrap-homes.result.at m.2 c.requires.0 (c.requires.1 _ c.in_ok-left.was)
