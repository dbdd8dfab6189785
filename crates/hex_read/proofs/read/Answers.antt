use Rattle.std.proofs.Common.{◌≡◌, length, replicate, sym, ◌∙◌, rules}
use Rattle.std.proofs.lemmas.Result.{err_from_is_err_and}
use Rattle.hex_lines.specs.Sizes.{rows_whole}
use Rattle.hex_read.specs.Fills.{fills_cleared, filled_cleared, read_other, read_refused, read_done}
use Rattle.hex_read.proofs.read.Goals as goal

pub returns-then-not-check : goal.returns-then-not-check
returns-then-not-check c = read_other c.args.g c.args.text.now c.args.image.now (sym c.check.ensures ∙ c.if-not-check.true)

pub check-requires-2 : goal.check-requires-2
check-requires-2 c = (rows_whole c.args.g (length c.args.image.now) (sym c.check.ensures ∙ c.if-not-check.false)).1

pub returns-in_err-check : goal.returns-in_err-check
returns-in_err-check c =
    let p = err_from_is_err_and c.from_residual.result c.from_residual.ensures.1 in
    rw (p.1, p.2) (read_refused c.args.g c.args.text.now c.args.image.now (sym c.check.ensures ∙ c.if-not-check.false) _ c.in_err-check.ensures)

pub fill-requires-2 : goal.fill-requires-2
fill-requires-2 c =
    let e : c.fill.new.self ≡ replicate (length c.args.image.now) 255 = search rules in
    fills_cleared c.args.text.now c.args.image.now _ e (search rules)

pub returns : goal.returns
returns c =
    let e : c.fill.new.self ≡ replicate (length c.args.image.now) 255 = search rules in
    read_done c.args.g c.args.text.now c.args.image.now (sym c.check.ensures ∙ c.if-not-check.false) _ (filled_cleared c.args.text.now c.args.image.now _ e _ c.fill-2.ensures)
