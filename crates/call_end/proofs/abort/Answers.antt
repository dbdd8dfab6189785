use mathlib.Core.Path.{refl}
use Rattle.call_look.specs.Guards.{aborts}
use Rattle.call_look.specs.Looks.{passed_up}
use Rattle.call_end.proofs.abort.Goals as goal

pub returns-in_err-look : goal.returns-in_err-look
returns-in_err-look c = passed_up c.in_err-look.ensures _ c.from_residual.ensures.1 (aborts c.args.allowance)

pub end_settled-requires : goal.end_settled-requires
end_settled-requires c = (c.in_ok-look.ensures.passed _ refl).known
