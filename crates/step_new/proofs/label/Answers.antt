use Prim.Native.Nat.{ℕ}
use mathlib.Core.Path.{ap, ◌∙◌}
use Rattle.rules.specs.Flash.{program, state, step}
use Rattle.flash.specs.Laws.{run_by, run_last}
use Rattle.rules.specs.Jobs.{headers}
use native.Mathlib.Nat.{add-zero}
use Rattle.step_new.proofs.label.Goals as goal

pub returns : goal.returns
unfolding headers
returns c = run_by _ _ _ (c.program_on-r.ensures ∙ ap (λ (a : ℕ). step (program a c.args.number) (state c.args.image.now c.args.was)) (add-zero c.args.base)) (run_last _ _ c.program_on.ensures)
