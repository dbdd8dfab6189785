use Prim.Native.Nat.{ℕ}
use mathlib.Core.Path.{sym, ap, ◌∙◌}
use Rattle.rules.specs.Flash.{program, state, step}
use Rattle.step_new.specs.Laws.{become_turn, become_end}
use Rattle.step_new.proofs.become_all.Goals as goal

pub loop-place-preserved : goal.loop-place-preserved
loop-place-preserved c =
    become_turn c.args.flags c.args.places.now c.loop-place.place-index c.loop-place-test.true (state c.loop-place.image c.loop-place.r) (state c.become_one-r.new.image c.become_one-r.result)
    (c.become_one-r.ensures ∙ ap (λ (a : ℕ). step (program a c.args.flags) (state c.loop-place.image c.loop-place.r)) c.from.ensures)
    ∙ c.loop-place.invariant

pub returns : goal.returns
returns c = sym (become_end c.args.flags c.args.places.now c.loop-place.place-index c.loop-place-test.false (state c.loop-place.image c.loop-place.r)) ∙ c.loop-place.invariant
