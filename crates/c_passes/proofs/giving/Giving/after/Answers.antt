use Rattle.std.proofs.Common.{◌+◌, arith}
use Rattle.c_store.specs.Reports.{geometry}
use Rattle.c_store.specs.Allowances.{aborts}
use Rattle.c_passes.specs.Parts.{abort_ended, abort_stopped, broken_midway, broken_stopped, steps_within}
use Rattle.c_passes.proofs.giving.Giving.after.Goals as goal
use Rattle.c_passes.proofs.giving.Giving.after.Goals.{then-abort-eq-STOPPED, else-abort-eq-STOPPED}

pub overflow_add-result : goal.overflow_add-result
overflow_add-result c =
    let x = c.args.self in
    let j = x.made + c.args.part.steps in
    let h = rw c.left.ensures at c.us_abort-abort.ensures in
    omega (arith, steps_within (geometry x.sizes.size x.sizes.units) x.allowance j c.args.image.now aborts c.us_abort-abort.result c.us_abort-abort.new.image c.requires h)

pub returns-in-1 : goal.returns-in-1
returns-in-1 c =
    let x = c.args.self in
    (broken_stopped (geometry x.sizes.size x.sizes.units) x.allowance (x.made + c.args.part.steps) c.args.image.now c.args.part.number c.in-1.is, λ z. omega arith)

pub returns-after-abort-eq-STOPPED : goal.returns-after-abort-eq-STOPPED
returns-after-abort-eq-STOPPED c =
    let x = c.args.self in
    let g = geometry x.sizes.size x.sizes.units in
    let j = x.made + c.args.part.steps in
    let n = c.args.part.number in
    let a = c.us_abort-abort in
    let h = rw c.left.ensures at a.ensures in (
      broken_midway g x.allowance j c.args.image.now n (λ z. grind (arith, c.in_default)) (elim c.if-abort-eq-STOPPED.branch [
        | then-abort-eq-STOPPED w ↦ rw w.result-is (abort_stopped g x.allowance j c.args.image.now n a.result a.new.image h w.if-abort-eq-STOPPED.true)
        | else-abort-eq-STOPPED w ↦ rw w.result-is (abort_ended g x.allowance j c.args.image.now n a.result a.new.image h w.if-abort-eq-STOPPED.false)
      ]),
      λ z. grind (arith, c.in_default),
    )
