use mathlib.Core.Path.{refl, ap, ◌∙◌}
use Rattle.table_entries.specs.Says.{stale_report, stale_refused, stale_passed}
use Rattle.rules.specs.declared.Geometry.{Geometry}
use Rattle.table_entries.proofs.stale.Goals as goal

pub returns-in-Ok : goal.returns-in-Ok
returns-in-Ok c = c.refused.ensures ∙ stale_passed c.in-Ok.ensures c.in-Ok.field-0 refl ∙ ap (λ (h : Geometry). stale_report h c.args.image.now) c.geometry_of-g.ensures

pub returns-in-Err : goal.returns-in-Err
returns-in-Err c = c.refused-in-Err.ensures ∙ stale_refused c.in-Err.ensures c.in-Err.reason refl ∙ ap (λ (h : Geometry). stale_report h c.args.image.now) c.geometry_of-g.ensures
