use Rattle.std.proofs.Common.{◌≡◌, ◌-◌, ◌∙◌, sym, arith}
use Rattle.std.proofs.lemmas.Grind.{common_steps}
use Rattle.unit.specs.Shapes.{array_of}
use Rattle.judge.specs.Round.{with_unit, descriptors_of}
use Rattle.judge.specs.LoopTurns.{round_headless, round_fault, round_turn, round_end}
use Rattle.judge.proofs.round.go_round.Goals as goal

pub returns-then-not-has_header : goal.returns-then-not-has_header
returns-then-not-has_header c =
    let h = c.args.homes.now in
    sym (round_headless h.store.g h.store.image.now h.at (h.store.g.units - 1) c.loop-l.l c.loop-l.retired c.loop-l.counting (omega arith) c.home-u.result.now c.home-u.ensures.0 (sym c.has_header.ensures ∙ c.if-not-has_header.true)) ∙ c.loop-l.invariant.1

pub returns-then-not-is_home : goal.returns-then-not-is_home
returns-then-not-is_home c =
    let h = c.args.homes.now in
    sym (round_fault h.store.g h.store.image.now h.at (h.store.g.units - 1) c.loop-l.l c.loop-l.retired c.loop-l.counting (omega arith) c.home-u.result.now c.home-u.ensures.0 (sym c.has_header.ensures ∙ c.if-not-has_header.false) (sym c.is_home.ensures ∙ c.if-not-is_home.true)) ∙ c.loop-l.invariant.1

pub loop-l-preserved : goal.loop-l-preserved
loop-l-preserved c =
    let h = c.args.homes.now in
    let u = c.home-u.result.now in
    let others : c.if-not-is_live.retired ≡ with_unit u c.loop-l.retired = grind (arith, common_steps) in
    let ds : array_of c.room_of-r.result.n u ≡ descriptors_of h.store.g.size u = rw (c.room_of-r.ensures.0, c.home-u.ensures.1) in
    (omega arith, rw (c.count.ensures, others, ds) (sym (round_turn h.store.g h.store.image.now h.at (h.store.g.units - 1) c.loop-l.l c.loop-l.retired c.loop-l.counting (omega arith) u c.home-u.ensures.0 (sym c.has_header.ensures ∙ c.if-not-has_header.false) (sym c.is_home.ensures ∙ c.if-not-is_home.false)) ∙ c.loop-l.invariant.1))

pub returns : goal.returns
returns c =
    let h = c.args.homes.now in
    rw c.tally.ensures (sym (round_end h.store.g h.store.image.now h.at (h.store.g.units - 1) c.loop-l.l c.loop-l.retired c.loop-l.counting (omega arith)) ∙ c.loop-l.invariant.1)
