use Rattle.std.proofs.Common.{◌≡◌, Ok, sym, ap, ◌∙◌, rules}
use Rattle.hex_lines.specs.declared.Record.TheVariants.{End}
use Rattle.hex_lines.specs.Records.{record_of}
use Rattle.hex_lines.specs.Data.{unformed, data_counted}
use Rattle.hex_read.specs.Fills.{IsInside, laid_fault, laid_end, laid_data}
use Rattle.hex_read.proofs.fill_line.Goals as goal

pub returns-in_default : goal.returns-in_default
returns-in_default c = laid_fault c.args.line.now c.args.image.now _ (unformed c.args.line.now c.in_default.ensures.formed)

pub returns-in_default-record : goal.returns-in_default-record
returns-in_default-record c =
    let e : c.in_default-record.field-0 ≡ End = search rules in
    sym (laid_end c.args.line.now c.args.image.now (ap record_of (sym c.in-Some.ensures.same) ∙ sym c.record.ensures ∙ c.in_default-record.is ∙ ap (λ r. Ok r) e))

pub returns-in_default-record-2 : goal.returns-in_default-record-2
returns-in_default-record-2 c =
    laid_fault c.args.line.now c.args.image.now _ (ap record_of (sym c.in-Some.ensures.same) ∙ sym c.record.ensures ∙ c.in_default-record.is)

pub lay-requires-clause-counted : goal.lay-requires-clause-counted
lay-requires-clause-counted c =
    data_counted c.in-Some.line.line.now c.in-Ok-Data.address c.in-Ok-Data.count (sym c.record.ensures ∙ c.in-Ok-Data.is ∙ ap (λ r. Ok r) c.in-Ok-Data.field-0-is)

pub lay-requires-clause-inside : goal.lay-requires-clause-inside
unfolding IsInside
lay-requires-clause-inside c =
    c.requires c.in-Ok-Data.address c.in-Ok-Data.count (ap record_of (sym c.in-Some.ensures.same) ∙ sym c.record.ensures ∙ c.in-Ok-Data.is ∙ ap (λ r. Ok r) c.in-Ok-Data.field-0-is)

pub returns : goal.returns
returns c =
    let e = ap record_of (sym c.in-Some.ensures.same) ∙ sym c.record.ensures ∙ c.in-Ok-Data.is ∙ ap (λ r. Ok r) c.in-Ok-Data.field-0-is in
    rw c.in-Some.ensures.same at c.lay.ensures ∙ sym (laid_data c.args.line.now c.args.image.now c.in-Ok-Data.address c.in-Ok-Data.count e)
