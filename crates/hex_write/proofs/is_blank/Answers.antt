use Rattle.std.proofs.Common.{eqb, rules, tests}
use Rattle.std.proofs.lemmas.Iterator.{YieldsList-from_slice}
use Rattle.std.proofs.lemmas.Iterator.Search.{all_from_yields_List}
use Rattle.hex_write.specs.Rows.{erased_all}
use Rattle.hex_write.proofs.is_blank.Goals as goal

pub returns : goal.returns
returns c =
    erased_all c.args.row.now c.all.result (all_from_yields_List (λ b. eqb b 255) _ _ c.all.result c.all.ensures.ran (YieldsList-from_slice c.args.row.now c.iter.ensures.rest) (λ x b q k. search (rules, tests)))
