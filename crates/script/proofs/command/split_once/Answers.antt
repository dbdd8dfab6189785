use Rattle.std.proofs.Common.{rules, arith, sym, ◌∙◌}
use Rattle.std.proofs.lemmas.Grind.{common_steps}
use Rattle.std.proofs.lemmas.Iterator.{YieldsList-from_slice}
use Rattle.std.proofs.lemmas.Iterator.Search.{position_from_yields_List}
use borrow.Author.Tests.{tests}
use Rattle.script.specs.CommandLaws.{space, one_word, first_word}
use Rattle.script.proofs.command.split_once.Goals as goal

pub returns-in_err-at : goal.returns-in_err-at
returns-in_err-at c =
    let at = position_from_yields_List space _ _ c.position.result c.position.ensures.ran (YieldsList-from_slice c.args.line.now cc) (λ x b q k. search (rules, tests)) in
    rw c.from_residual.ensures (one_word c.args.line.now (sym at ∙ c.in_err-at.was))

pub returns : goal.returns
returns c =
    let at = position_from_yields_List space _ _ c.position.result c.position.ensures.ran (YieldsList-from_slice c.args.line.now cc) (λ x b q k. search (rules, tests)) in
    let first = first_word c.args.line.now c.in_ok-at.at (sym at ∙ c.in_ok-at.was) in
    grind (arith, common_steps)
