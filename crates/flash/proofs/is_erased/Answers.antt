use Rattle.std.proofs.Common.{◌≡◌, arith, rules, tests, ap, ◌∙◌}
use Rattle.std.proofs.lemmas.Iterator.{YieldsList-from_slice}
use Rattle.std.proofs.lemmas.Iterator.Consumers.{fold_from_yields_List}
use Rattle.std.specs.Int.Bits.{bit_and}
use Rattle.std.specs.List.{fold}
use Rattle.std.proofs.Math.Dec.{eqb}
use Rattle.flash.specs.Laws.{erased_fold, erased_first}
use Rattle.flash.proofs.is_erased.Goals as goal

pub returns-in-len1-up : goal.returns-in-len1-up
returns-in-len1-up c = erased_first c.args.s.now c.in-len1-up.len_at_least c.if-first.true

pub returns-in_default : goal.returns-in_default
returns-in_default c =
    let e : c.fold.result ≡ fold bit_and 255 c.args.s.now = fold_from_yields_List _ bit_and 255 c.fold.result c.fold.ensures.ran (YieldsList-from_slice c.args.s.now cc) (λ a x b q k. search (rules, tests)) in
    ap (λ a. eqb a 255) e ∙ erased_fold c.args.s.now (λ i. omega (arith, c.type_inv.s i))
