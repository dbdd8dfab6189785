use Prim.Native.Nat.{ℕ, ◌+◌}
use mathlib.Core.Path.{sym, ap, ◌∙◌}
use lib.Bits.{bit_and}
use Rattle.flash.specs.Laws.{step_idle, step_cut, step_made}
use Rattle.flash.proofs.spend_word.Goals as goal

pub returns-then-old-value : goal.returns-then-old-value
returns-then-old-value c = step_idle (c.args.base + c.args.at) c.args.value c.args.image.now c.args.left (ap (λ (w : ℕ). bit_and w c.args.value) (sym c.word-old.ensures) ∙ c.if-old-value.true ∙ c.word-old.ensures)

pub returns-in_err-fewer : goal.returns-in_err-fewer
returns-in_err-fewer c = rw c.from_residual.ensures (step_cut (c.args.base + c.args.at) c.args.value c.args.image.now c.args.left (rw (← c.word-old.ensures) c.if-old-value.false) c.in_err-fewer.ensures)

pub returns : goal.returns
returns c = rw (c.program_in.ensures, c.in_ok-fewer.ensures.1) (step_made (c.args.base + c.args.at) c.args.value c.args.image.now c.args.left (rw (← c.word-old.ensures) c.if-old-value.false) c.in_ok-fewer.ensures.0)
