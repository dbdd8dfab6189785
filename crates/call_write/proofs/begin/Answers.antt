use native.Mathlib.Omega.{arith}
use mathlib.Core.Path.{refl, sym, ◌∙◌}
use Rattle.rules.specs.Calls.{begin}
use Rattle.rules.specs.Unit.{transaction_tag}
use Rattle.call_look.specs.Guards.{begins}
use Rattle.call_look.specs.Looks.{passed_up}
use Rattle.theory_sound.specs.Reading.{from_bytes}
use Rattle.call_write.specs.Plans.{begin_open, begin_stores}
use Rattle.call_write.proofs.begin.Goals as goal

pub returns-in_err-look : goal.returns-in_err-look
returns-in_err-look c = passed_up c.in_err-look.ensures _ c.from_residual.ensures.1 (begins c.args.rule c.args.allowance)

pub returns-then-is_open : goal.returns-then-is_open
returns-then-is_open c =
    let found = c.in_ok-look.ensures.passed _ refl in
    begin_open found.known c.args.rule c.args.allowance (sym (c.is_open.ensures ∙ found.opened) ∙ c.if-is_open.true)

pub returns : goal.returns
unfolding transaction_tag
returns c =
    let found = c.in_ok-look.ensures.passed _ refl in
    c.store.ensures (begin c.args.rule c.args.allowance)
    (begin_stores found.known c.args.rule c.args.allowance (from_bytes c.args.image.now (λ i. omega (arith, c.slice_known-1.given i))) (sym (c.is_open.ensures ∙ found.opened) ∙ c.if-is_open.false))
