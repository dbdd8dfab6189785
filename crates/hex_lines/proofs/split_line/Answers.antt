use Rattle.std.proofs.Common.{sym, ap, ◌∙◌, rules, tests, take, eqb, refl, length}
use borrow.Author.Tests.{eqb-true}
use Rattle.std.proofs.lemmas.Iterator.{YieldsList-from_slice}
use Rattle.std.proofs.lemmas.Iterator.Search.{position_from_yields_List}
use Rattle.hex_lines.specs.Lines.{no_line, line_alone, line_ended, stripped_as}
use Rattle.hex_lines.proofs.split_line.Goals as goal

pub returns-then-is_empty : goal.returns-then-is_empty
returns-then-is_empty c = no_line c.args.text.now (eqb-true (length c.args.text.now) 0 (sym c.is_empty.ensures ∙ c.if-is_empty.true))

pub returns-in_default : goal.returns-in_default
returns-in_default c =
    let p = position_from_yields_List (λ c. eqb c 10) _ _ c.position.result c.position.ensures.ran (YieldsList-from_slice c.args.text.now cc) (λ x b q k. search (rules, tests)) in
    line_alone c.args.text.now (sym p ∙ c.in_default.is) (sym c.is_empty.ensures ∙ c.if-is_empty.false)

pub returns : goal.returns
returns c =
    let p = position_from_yields_List (λ c. eqb c 10) _ _ c.position.result c.position.ensures.ran (YieldsList-from_slice c.args.text.now cc) (λ x b q k. search (rules, tests)) in
    line_ended c.args.text.now c.unwrap_or.result.now c.in-Some.n (sym p ∙ c.in-Some.is) (ap (λ r. r.now) c.unwrap_or.ensures ∙ stripped_as (take c.in-Some.n c.args.text.now) c.strip_suffix.result _ refl c.strip_suffix.ensures.cases)
