use mathlib.Core.Path.{sym, ◌∙◌}
use borrow.Author.Tests.{not-true, not-false}
use Rattle.rules.specs.Jobs.{format_job}
use Rattle.rules.specs.Answers.{origin}
use Rattle.laws.specs.Units.{right_geometry}
use Rattle.call_answer.specs.Laws.{run_within}
use Rattle.call_end.specs.Ends.{format_refused, format_made}
use Rattle.call_end.proofs.format.Goals as goal

pub returns-then-not-check : goal.returns-then-not-check
returns-then-not-check c = format_refused c.args.g c.args.image.now c.args.allowance (sym c.check.ensures ∙ not-true c.check.result c.if-not-check.true-raw)

pub format-r-requires : goal.format-r-requires
format-r-requires c = right_geometry c.args.g c.args.image.now (sym c.check.ensures ∙ not-false c.check.result c.if-not-check.false-raw)

pub answer_of-requires : goal.answer_of-requires
answer_of-requires c = run_within (format_job c.args.g c.args.image.now) c.args.allowance c.args.image.now c.format-r.new.image c.format-r.result c.format-r.ensures

pub returns : goal.returns
unfolding origin
returns c = format_made c.args.g c.args.image.now c.args.allowance (sym c.check.ensures ∙ not-false c.check.result c.if-not-check.false-raw) c.format-r.new.image c.format-r.result c.format-r.ensures c.answer_of.result c.answer_of.ensures
