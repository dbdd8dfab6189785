use Rattle.std.proofs.Common.{◌∙◌, sym, lt-ltb, le-ltb, inl, inr}
use Rattle.table_read.specs.Reads.{judged_refused, judged_passed}
use Rattle.rules.specs.Calls.{is_bad_file}
use Rattle.table_read.proofs.judged.Goals as goal

pub returns-in_err-settled : goal.returns-in_err-settled
returns-in_err-settled c = judged_refused c.args.first c.args.file c.in_err-settled.ensures _ c.from_residual.ensures.1

pub returns-then-file-gt-LAST_FILE : goal.returns-then-file-gt-LAST_FILE
unfolding is_bad_file
returns-then-file-gt-LAST_FILE c =
    rw (sym c.is_usable.ensures ∙ c.if-is_usable.true, lt-ltb 255 c.args.file c.if-file-gt-LAST_FILE.true)
    at (judged_passed c.args.first c.args.file c.in_ok-settled.ensures)

pub returns : goal.returns
unfolding is_bad_file
returns c =
    let p = judged_passed c.args.first c.args.file c.in_ok-settled.ensures in
    elim c.else-is_usable.either [ inl w ↦ rw (sym c.is_usable.ensures ∙ w.0, le-ltb 255 c.args.file w.1) at p | inr w ↦ rw (sym c.is_usable.ensures ∙ w) at p ]
