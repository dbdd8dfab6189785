use Rattle.std.proofs.Common.{◌*◌, ◌++◌, length, drop, ap, sym, ◌∙◌, arith, length-append, take_at}
use Rattle.std.proofs.lemmas.Result.{err_from_is_err_and}
use Rattle.hex_lines.specs.Sizes.{rows_whole}
use Rattle.hex_lines.specs.Faults.{number}
use Rattle.hex_input.specs.Programs.{refusal}
use Rattle.hex_input.specs.Texts.{printed_as, from_refused, from_rest}
use Rattle.hex_input.specs.Images.{image_bad, part_refused, part_done}
use Rattle.hex_input.proofs.image_of.Goals as goal

pub returns-in_err-g : goal.returns-in_err-g
returns-in_err-g c =
    let p = err_from_is_err_and c.from_residual.result c.from_residual.ensures.1 in
    rw (p.1, p.2) (ap (λ e. refusal (number e)) c.in_err-g.ensures.0 ∙ from_refused c.args.input.now c.in_err-g.ensures.1)

pub returns-then-not-check : goal.returns-then-not-check
returns-then-not-check c =
    image_bad c.in_ok-g.g c.headed.new.input.now (sym c.check.ensures ∙ c.if-not-check.true) ∙ from_rest c.args.input.now c.in_ok-g.ensures.0 c.in_ok-g.g _ c.in_ok-g.ensures.1

pub slice_bounds-read-end : goal.slice_bounds-read-end
slice_bounds-read-end c =
    let w = (rows_whole c.in_ok-g.g (c.in_ok-g.g.units * c.in_ok-g.g.size) (sym c.check.ensures ∙ c.if-not-check.false)).1 in
    omega (arith, length-append c.copy_from_slice.new.self (drop c.len-start.result c.args.out.now))

pub returns-in_err-read : goal.returns-in_err-read
returns-in_err-read c =
    let g = c.in_ok-g.g in
    let b = c.copy_from_slice.new.self ++ drop c.len-start.result c.args.out.now in
    let e = sym c.check.ensures ∙ c.if-not-check.false in
    let w = (rows_whole g (g.units * g.size) e).1 in
    let p = err_from_is_err_and c.from_residual-in_err-read.result c.from_residual-in_err-read.ensures.1 in
    rw (p.1, p.2)
    (part_refused g c.headed.new.input.now b c.len-start.result e (omega (arith, w, length-append c.copy_from_slice.new.self (drop c.len-start.result c.args.out.now))) _ (rw c.in_err-read.was at c.read.ensures.0)
    ∙ from_rest c.args.input.now c.in_ok-g.ensures.0 c.in_ok-g.g _ c.in_ok-g.ensures.1)

pub returns : goal.returns
returns c =
    let g = c.in_ok-g.g in
    let b = c.copy_from_slice.new.self ++ drop c.len-start.result c.args.out.now in
    let e = sym c.check.ensures ∙ c.if-not-check.false in
    let w = (rows_whole g (g.units * g.size) e).1 in
    let a = c.copy_from_slice.ensures.after ∙ c.as_slice.ensures.value in
    let h = take_at c.copy_from_slice.new.self _ c.len-start.result (ap length a ∙ sym c.len-start.ensures.value) ∙ a ∙ c.header_of-lines.ensures in
    printed_as (from_rest c.args.input.now c.in_ok-g.ensures.0 c.in_ok-g.g _ c.in_ok-g.ensures.1)
    (part_done g c.headed.new.input.now b c.len-start.result e (omega (arith, w, length-append c.copy_from_slice.new.self (drop c.len-start.result c.args.out.now))) c.read.new.image h (rw c.in_ok-read.was at c.read.ensures.0) c.read.ensures.1 c.read.auto.image)
