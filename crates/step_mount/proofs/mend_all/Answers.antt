use Rattle.std.specs.Prelude.{Some}
use mathlib.Core.Path.{◌≡◌, sym, ap, ◌∙◌, subst}
use mathlib.Core.List.{List}
use mathlib.Core.Bool.{true}
use Prim.Native.Nat.{ℕ}
use lib.ListN.{length}
use Rattle.rules.specs.Flash.{Step, is_geometry, state, run}
use Rattle.step_mount.specs.Moving.{finish_none}
use Rattle.step_mount.specs.Mounting.{sighted_mendable, mount_still, sound_after, mount_run}
use borrow.Author.Rules.{rules}
use Rattle.step_mount.proofs.mend_all.Goals as goal

pub tidy_up-requires : goal.tidy_up-requires
tidy_up-requires c = sighted_mendable c.args.g c.args.image.now c.args.look.now c.requires

pub returns-in-Spare : goal.returns-in-Spare
returns-in-Spare c = c.tidy_up.ensures ∙ sym (ap (λ (xs : List Step). run xs (state c.args.image.now (Some c.args.allowance))) (mount_still c.args.g c.args.image.now (finish_none c.args.g c.args.image.now c.args.look.now c.requires c.in-Spare.is)))

pub tidy_after-requires : goal.tidy_after-requires
tidy_after-requires c = let e : length c.finish_move-r.new.image ≡ length c.args.image.now = search rules in (subst (λ (n : ℕ). is_geometry c.args.g n ≡ true) (sym e) c.requires.right, sound_after c.args.g c.args.image.now c.args.allowance c.finish_move-r.new.image c.finish_move-r.result c.finish_move-r.ensures c.requires.right c.requires.small c.requires.sound)

pub returns : goal.returns
returns c = mount_run c.args.g c.args.image.now c.args.allowance c.finish_move-r.new.image c.finish_move-r.result c.finish_move-r.ensures c.tidy_after.new.image c.tidy_after.result c.tidy_after.ensures
