use Prim.Native.Nat.{ℕ, ◌+◌, ◌*◌}
use Rattle.std.proofs.Common.{rules, tests, arith, refl, ◌∙◌}
use Rattle.std.proofs.lemmas.Iterator.{YieldsList-from_range}
use Rattle.std.proofs.lemmas.Iterator.Search.{all_from_yields_List}
use Rattle.rules.specs.Flash.{word}
use Rattle.copy.specs.Stream.{holds}
use Rattle.copy.specs.LoopTurns.{agree_is}
use Rattle.copy.proofs.Copying.has_words.Goals as goal

pub returns : goal.returns
returns c =
    let s = c.args.self.now in
    all_from_yields_List (λ (i : ℕ). holds s.whole (word s.src.now (c.args.a + 2 * i)) (word s.dst.now (c.args.b + 2 * i))) _ _ c.all.result c.all.ensures.ran (YieldsList-from_range 0 c.args.k c.args.k refl (omega arith)) (λ x b q k. search (rules, tests))
    ∙ agree_is s.whole s.src.now c.args.a s.dst.now c.args.b c.args.k
