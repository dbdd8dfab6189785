use native.Mathlib.Omega.{arith}
use mathlib.Core.Path.{refl, sym, ◌∙◌}
use Rattle.rules.specs.Settled.{survey}
use borrow.Author.Tests.{not-true, not-false}
use Rattle.rules.specs.Calls.{write, has_none}
use Rattle.rules.specs.Unit.{data_tag}
use Rattle.call_look.specs.Guards.{writes}
use Rattle.call_look.specs.Looks.{passed_up}
use Rattle.theory_sound.specs.Reading.{from_bytes}
use Rattle.call_write.specs.Plans.{earlier_behind, write_bad_file, write_too_long, write_none, write_stores}
use Rattle.call_write.proofs.write.Goals as goal

pub returns-in_err-look : goal.returns-in_err-look
returns-in_err-look c = passed_up c.in_err-look.ensures _ c.from_residual.ensures.1 (writes c.args.rule c.args.file c.args.content.now c.args.allowance)

pub returns-then-file-gt-LAST_FILE : goal.returns-then-file-gt-LAST_FILE
returns-then-file-gt-LAST_FILE c =
    let found = c.in_ok-look.ensures.passed _ refl in
    write_bad_file found.known c.args.rule c.args.file c.args.content.now c.args.allowance c.if-file-gt-LAST_FILE.true

pub returns-then-content-gt-LONGEST_CONTENT : goal.returns-then-content-gt-LONGEST_CONTENT
returns-then-content-gt-LONGEST_CONTENT c =
    let found = c.in_ok-look.ensures.passed _ refl in
    write_too_long found.known c.args.rule c.args.file c.args.content.now c.args.allowance (omega (arith, c.if-file-gt-LAST_FILE.false)) c.if-content-gt-LONGEST_CONTENT.true

pub returns-then-not-is_open : goal.returns-then-not-is_open
returns-then-not-is_open c =
    let found = c.in_ok-look.ensures.passed _ refl in
    let none = not-false (has_none (survey c.args.g c.args.image.now)) (sym (c.is_open.ensures ∙ found.opened) ∙ not-true c.is_open.result c.if-not-is_open.true-raw) in
    write_none found.known c.args.rule c.args.file c.args.content.now c.args.allowance (omega (arith, c.if-file-gt-LAST_FILE.false)) (omega (arith, c.if-content-gt-LONGEST_CONTENT.false)) none

pub store-requires : goal.store-requires
store-requires c =
    let found = c.in_ok-look.ensures.passed _ refl in
    (found.known, found.remaining, (λ n. (earlier_behind found.known c.args.file c.from.result (c.from.ensures ∙ c.seek-found.ensures.pending) n).spot), omega (arith, c.if-content-gt-LONGEST_CONTENT.false))

pub returns : goal.returns
unfolding data_tag
returns c =
    let found = c.in_ok-look.ensures.passed _ refl in
    let some = not-true (has_none (survey c.args.g c.args.image.now)) (sym (c.is_open.ensures ∙ found.opened) ∙ not-false c.is_open.result c.if-not-is_open.false-raw) in
    c.store.ensures (write c.args.rule c.args.file c.args.content.now c.args.allowance)
    (write_stores found.known c.args.rule c.args.file c.args.content.now c.args.allowance (omega (arith, c.if-file-gt-LAST_FILE.false)) (omega (arith, c.if-content-gt-LONGEST_CONTENT.false))
    (from_bytes c.args.image.now (λ i. omega (arith, c.slice_known-1.given i))) some c.from.result (c.from.ensures ∙ c.seek-found.ensures.pending) c.tag_of.result c.tag_of.ensures)
