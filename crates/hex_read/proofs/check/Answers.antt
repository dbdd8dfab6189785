use Rattle.std.proofs.Common.{sym, ap, ◌∙◌, Ok, not}
use Rattle.std.proofs.lemmas.Result.{err_from_is_err_and}
use Rattle.hex_lines.specs.Data.{data_address, data_count}
use Rattle.hex_read.specs.Checks.{tracked_first, left, checked_none, checked_bad, checked_end, checked_after, named_refused, named_fresh}
use Rattle.hex_read.proofs.check.Goals as goal

pub loop-line-init : goal.loop-line-init
loop-line-init c = rw c.none-named.ensures (tracked_first c.args.text.now c.args.size c.requires)

pub returns-in_err-record_of : goal.returns-in_err-record_of
returns-in_err-record_of c =
    let k = rw c.in-Some.ensures.steps at c.loop-line.invariant in
    let p = err_from_is_err_and c.from_residual.result c.from_residual.ensures.1 in
    rw (p.1, p.2) (checked_bad c.args.text.now c.args.size _ _ _ k _ (sym c.record_of.ensures ∙ c.in_err-record_of.was))

pub returns-then-is_some : goal.returns-then-is_some
returns-then-is_some c =
    let k = rw c.in-Some.ensures.steps at c.loop-line.invariant in
    checked_after c.args.text.now c.args.size _ _ _ k (sym c.record_of.ensures ∙ c.in_ok-record_of.was ∙ ap (λ r. Ok r) c.in-End.is) (left c.next-in-End.result _ _ c.next-in-End.ensures.steps ∙ ap not (sym c.is_some.ensures ∙ c.if-is_some.true))

pub returns-in-End : goal.returns-in-End
returns-in-End c =
    let k = rw c.in-Some.ensures.steps at c.loop-line.invariant in
    checked_end c.args.text.now c.args.size _ _ _ k (sym c.record_of.ensures ∙ c.in_ok-record_of.was ∙ ap (λ r. Ok r) c.in-End.is) (left c.next-in-End.result _ _ c.next-in-End.ensures.steps ∙ ap not (sym c.is_some.ensures ∙ c.if-is_some.false))

pub name-requires : goal.name-requires
name-requires c =
    let e = sym c.record_of.ensures ∙ c.in_ok-record_of.was ∙ ap (λ r. Ok r) c.in-Data.is in
    (c.requires, data_address c.in-Some.line.now c.in-Data.address c.in-Data.count e, data_count c.in-Some.line.now c.in-Data.address c.in-Data.count e)

pub loop-line-preserved : goal.loop-line-preserved
loop-line-preserved c =
    let k = rw c.in-Some.ensures.steps at c.loop-line.invariant in
    named_fresh c.args.text.now c.args.size _ _ _ k c.in-Data.address c.in-Data.count (sym c.record_of.ensures ∙ c.in_ok-record_of.was ∙ ap (λ r. Ok r) c.in-Data.is) _ c.requires (rw c.in_ok-name-in-Data.was at c.name.ensures)

pub returns-in_err-name-in-Data : goal.returns-in_err-name-in-Data
returns-in_err-name-in-Data c =
    let k = rw c.in-Some.ensures.steps at c.loop-line.invariant in
    let p = err_from_is_err_and c.from_residual-in_err-name-in-Data.result c.from_residual-in_err-name-in-Data.ensures.1 in
    rw (p.1, p.2) (named_refused c.args.text.now c.args.size _ _ _ k c.in-Data.address c.in-Data.count (sym c.record_of.ensures ∙ c.in_ok-record_of.was ∙ ap (λ r. Ok r) c.in-Data.is) _ _ (rw c.in_err-name-in-Data.was at c.name.ensures))

pub returns : goal.returns
returns c = checked_none c.args.text.now c.args.size _ (rw ((rw c.in_default.is at c.next.ensures.steps).0) at c.loop-line.invariant)
