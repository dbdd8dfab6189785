use Rattle.std.proofs.Common.{◌∙◌, ap}
use Rattle.std.proofs.lemmas.Result.{err_from_is_err_and}
use Rattle.hex_lines.specs.Faults.{number}
use Rattle.hex_input.specs.Programs.{refusal}
use Rattle.hex_input.specs.Texts.{prints_as, to_refused, to_rest, text_prints}
use Rattle.hex_input.proofs.text_of.Goals as goal

pub returns-in_err-g : goal.returns-in_err-g
returns-in_err-g c =
    let p = err_from_is_err_and c.from_residual.result c.from_residual.ensures.1 in
    rw (p.1, p.2) (ap (λ e. refusal (number e)) c.in_err-g.ensures.0 ∙ to_refused c.args.input.now c.in_err-g.ensures.1)

pub returns : goal.returns
returns c =
    prints_as c.write.new.text c.write.result (to_rest c.args.input.now c.in_ok-g.ensures.0 c.in_ok-g.g _ c.in_ok-g.ensures.1)
    (text_prints c.in_ok-g.g c.headed.new.input.now c.args.out.now c.requires c.write.result c.write.new.text c.write.ensures.0 c.write.ensures.1 c.write.ensures.2)
