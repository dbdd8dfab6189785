use Rattle.std.proofs.Common.{◌≡◌, ◌+◌, add-zero, refl, sym, ◌∙◌, arith}
use Rattle.rules.specs.Flash.{state}
use Rattle.flash.specs.Laws.{words_turn, words_end}
use Rattle.flash.proofs.words_on.Goals as goal

pub loop-i-init : goal.loop-i-init
loop-i-init c = record { even = refl; left = rw add-zero refl }

pub loop-i-preserved : goal.loop-i-preserved
loop-i-preserved c =
    let a = c.args.base + (c.args.at + c.loop-i.i) in
    let e : c.args.base + (c.args.at + (c.loop-i.i + 2)) ≡ a + 2 = omega arith in
    record {
      even = omega arith;
      left = rw e (words_turn c.args.content.now c.loop-i.i a c.word_of.result (state c.loop-i.image c.loop-i.r) (state c.program_on-r.new.image c.program_on-r.result) (omega arith) c.word_of.ensures c.program_on-r.ensures ∙ c.loop-i.invariant.left);
    }

pub returns : goal.returns
returns c = sym (words_end c.args.content.now c.loop-i.i (c.args.base + (c.args.at + c.loop-i.i)) (state c.loop-i.image c.loop-i.r) (omega arith)) ∙ c.loop-i.invariant.left

pub returns-2 : goal.returns-2
returns-2 c =
    let a = c.args.base + (c.args.at + c.loop-i.i) in
    let after = state c.program_on-r.new.image c.program_on-r.result in
    sym (words_end c.args.content.now (c.loop-i.i + 2) (a + 2) after (omega arith))
    ∙ words_turn c.args.content.now c.loop-i.i a c.word_of.result (state c.loop-i.image c.loop-i.r) after (omega arith) c.word_of.ensures c.program_on-r.ensures
    ∙ c.loop-i.invariant.left
