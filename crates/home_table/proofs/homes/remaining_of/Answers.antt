use Rattle.std.proofs.Common.{◌-◌, ◌≡◌, ◌∙◌, sym, arith}
use Rattle.home_table.specs.LoopTurns.{left_turn, left_here, left_end}
use Rattle.home_table.proofs.homes.remaining_of.Goals as goal

pub returns-then-not-is_home : goal.returns-then-not-is_home
returns-then-not-is_home c = (sym (left_here c.args.store.g.size c.args.store.image.now (c.args.store.g.units - 1) c.args.store.g.units c.loop-u.u c.args.at.now (omega arith) (sym c.is_home.ensures ∙ c.if-not-is_home.true)) ∙ c.loop-u.invariant, omega arith)

pub loop-u-preserved : goal.loop-u-preserved
loop-u-preserved c = sym (left_turn c.args.store.g.size c.args.store.image.now (c.args.store.g.units - 1) c.args.store.g.units c.loop-u.u c.args.at.now (omega arith) (sym c.is_home.ensures ∙ c.if-not-is_home.false)) ∙ c.loop-u.invariant

pub returns : goal.returns
returns c = let e : c.args.store.g.units ≡ c.loop-u.u = omega arith in (e ∙ sym (left_end c.args.store.g.size c.args.store.image.now (c.args.store.g.units - 1) c.args.store.g.units c.loop-u.u c.args.at.now (omega arith)) ∙ c.loop-u.invariant, omega arith)
