use native.Mathlib.Omega.{arith}
use mathlib.Core.Path.{refl, sym, ◌∙◌}
use Rattle.rules.specs.Settled.{survey}
use borrow.Author.Tests.{not-true, not-false}
use Rattle.rules.specs.Calls.{delete, has_none}
use Rattle.rules.specs.Unit.{mark_tag}
use Rattle.call_look.specs.Guards.{deletes}
use Rattle.call_look.specs.Looks.{passed_up}
use Rattle.theory_sound.specs.Reading.{from_bytes}
use Rattle.call_write.specs.Plans.{earlier_behind, delete_bad_file, delete_none, delete_absent, delete_stores}
use Rattle.call_write.proofs.delete.Goals as goal

pub returns-in_err-look : goal.returns-in_err-look
returns-in_err-look c = passed_up c.in_err-look.ensures _ c.from_residual.ensures.1 (deletes c.args.rule c.args.file c.args.allowance)

pub returns-then-file-gt-LAST_FILE : goal.returns-then-file-gt-LAST_FILE
returns-then-file-gt-LAST_FILE c =
    let found = c.in_ok-look.ensures.passed _ refl in
    delete_bad_file found.known c.args.rule c.args.file c.args.allowance c.if-file-gt-LAST_FILE.true

pub returns-then-not-is_open : goal.returns-then-not-is_open
returns-then-not-is_open c =
    let found = c.in_ok-look.ensures.passed _ refl in
    let none = not-false (has_none (survey c.args.g c.args.image.now)) (sym (c.is_open.ensures ∙ found.opened) ∙ not-true c.is_open.result c.if-not-is_open.true-raw) in
    delete_none found.known c.args.rule c.args.file c.args.allowance (omega (arith, c.if-file-gt-LAST_FILE.false)) none

pub returns-then-found-eq-NO_PLACE : goal.returns-then-found-eq-NO_PLACE
returns-then-found-eq-NO_PLACE c =
    let found = c.in_ok-look.ensures.passed _ refl in
    let some = not-true (has_none (survey c.args.g c.args.image.now)) (sym (c.is_open.ensures ∙ found.opened) ∙ not-false c.is_open.result c.if-not-is_open.false-raw) in
    delete_absent found.known c.args.rule c.args.file c.args.allowance (omega (arith, c.if-file-gt-LAST_FILE.false)) some c.seek-found.result.shown c.seek-found.ensures.shown c.if-found-eq-NO_PLACE.true
    c.seek-found.result.pending c.seek-found.ensures.pending c.origin_of.result c.origin_of.ensures

pub store-requires : goal.store-requires
store-requires c =
    let found = c.in_ok-look.ensures.passed _ refl in
    (found.known, found.remaining, (λ n. (earlier_behind found.known c.args.file c.from.result (c.from.ensures ∙ c.seek-found.ensures.pending) n).spot), omega arith)

pub returns : goal.returns
unfolding mark_tag
returns c =
    let found = c.in_ok-look.ensures.passed _ refl in
    let some = not-true (has_none (survey c.args.g c.args.image.now)) (sym (c.is_open.ensures ∙ found.opened) ∙ not-false c.is_open.result c.if-not-is_open.false-raw) in
    c.store.ensures (delete c.args.rule c.args.file c.args.allowance)
    (delete_stores found.known c.args.rule c.args.file c.args.allowance (omega (arith, c.if-file-gt-LAST_FILE.false)) some
    (from_bytes c.args.image.now (λ i. omega (arith, c.slice_known-1.given i))) c.seek-found.result.shown c.seek-found.ensures.shown c.if-found-eq-NO_PLACE.false c.from.result
    (c.from.ensures ∙ c.seek-found.ensures.pending) c.tag_of.result c.tag_of.ensures)
