use Rattle.std.proofs.Common.{◌-◌, ◌≡◌, ◌∙◌, sym, arith}
use Rattle.std.proofs.lemmas.Grind.{common_steps}
use Rattle.home_table.specs.Units.{logical_of, state_of}
use Rattle.home_table.specs.Places.{claimed}
use Rattle.home_table.specs.LoopTurns.{claims_turn, claims_end}
use Rattle.home_table.proofs.homes.claim_all.Goals as goal

pub loop-u-preserved : goal.loop-u-preserved
unfolding claimed
loop-u-preserved c =
    let e : c.if-l-numbers.claims ≡ claimed (c.args.store.g.units - 1) c.args.state c.loop-u.claims (logical_of c.args.store.g.size c.args.store.image.now c.loop-u.u) (state_of c.args.store.g.size c.args.store.image.now c.loop-u.u) c.loop-u.u = grind (arith, common_steps) in
    rw e (sym (claims_turn c.args.store.g.size c.args.store.image.now (c.args.store.g.units - 1) c.args.store.g.units c.loop-u.u c.args.state c.loop-u.claims (omega arith)) ∙ c.loop-u.invariant)

pub returns : goal.returns
returns c = sym (claims_end c.args.store.g.size c.args.store.image.now (c.args.store.g.units - 1) c.args.store.g.units c.loop-u.u c.args.state c.loop-u.claims (omega arith)) ∙ c.loop-u.invariant
