use Rattle.std.proofs.Common.{◌≡◌, length, sym, ap, ◌∙◌, arith}
use borrow.Author.Tests.{not-true, not-false}
use Rattle.rules.specs.Unit.{stands, is_empty}
use Rattle.unit.specs.Shapes.{descriptor_at}
use Rattle.unit.specs.Laws.{used_next, used_here, used_end}
use Rattle.unit.proofs.used_from.Goals as goal

pub returns-then-not-is_empty : goal.returns-then-not-is_empty
unfolding stands
returns-then-not-is_empty c =
    let u = c.args.unit.now in
    let p = c.loop-first.p in
    let e : c.is_empty.result ≡ is_empty (descriptor_at u (stands p)) = c.is_empty.ensures ∙ ap is_empty c.descriptor.ensures in
    sym (used_here u (length u) p c.args.low (omega arith) (omega arith) (sym e ∙ not-true _ c.if-not-is_empty.true-raw)) ∙ c.loop-first.invariant.1

pub loop-first-preserved : goal.loop-first-preserved
unfolding stands
loop-first-preserved c =
    let u = c.args.unit.now in
    let p = c.loop-first.p in
    let e : c.is_empty.result ≡ is_empty (descriptor_at u (stands p)) = c.is_empty.ensures ∙ ap is_empty c.descriptor.ensures in
    (omega arith, sym (used_next u (length u) p c.args.low (omega arith) (omega arith) (sym e ∙ not-false _ c.if-not-is_empty.false-raw)) ∙ c.loop-first.invariant.1)

pub returns : goal.returns
unfolding stands
returns c = let u = c.args.unit.now in
    sym (used_end u (length u) c.loop-first.p c.args.low (omega arith)) ∙ c.loop-first.invariant.1
