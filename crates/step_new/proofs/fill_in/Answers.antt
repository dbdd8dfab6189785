use mathlib.Core.Path.{ap, ◌∙◌}
use Rattle.rules.specs.Flash.{Step, state, run}
use Rattle.flash.specs.Laws.{run_by, run_on, run_last}
use mathlib.Core.List.{List}
use Rattle.step_new.specs.Laws.{fill_in_is}
use Rattle.step_new.proofs.fill_in.Goals as goal

pub returns : goal.returns
returns c = run_by _ _ _ c.program_on-a.ensures (run_by _ _ _ c.program_on-b.ensures (run_by _ _ _ c.program_on-c.ensures (run_by _ _ _ c.program_on-d.ensures
    (run_on _ _ _ c.words_on-e.ensures (run_last _ _ c.program_on.ensures)))))
    ∙ ap (λ (l : List Step). run l (state c.args.image.now c.args.was)) (fill_in_is c.args.base c.args.new.at.position c.offset-descriptor.result c.args.new.offset c.args.new.tag c.args.content.now c.offset-descriptor.ensures)
