use Rattle.std.proofs.Common.{◌∙◌, refl, arith}
use Rattle.call_look.specs.Guards.{reads_open}
use Rattle.call_look.specs.Looks.{passed_up}
use Rattle.call_read.proofs.ReadLaws.{open_bad_file, open_none, open_placed, open_shows}
use Rattle.call_read.proofs.read_open.Goals as goal

pub returns-in_err-look : goal.returns-in_err-look
returns-in_err-look c = (passed_up c.in_err-look.ensures _ c.from_residual.ensures.1 (reads_open c.args.file)).0

pub seek-found-requires : goal.seek-found-requires
seek-found-requires c = (c.in_ok-look.ensures.passed _ refl).known.homed

pub returns-then-file-gt-LAST_FILE : goal.returns-then-file-gt-LAST_FILE
returns-then-file-gt-LAST_FILE c =
    let found = c.in_ok-look.ensures.passed _ refl in
    open_bad_file found.known c.args.file c.if-file-gt-LAST_FILE.true

pub returns-then-found-eq-NO_PLACE : goal.returns-then-found-eq-NO_PLACE
returns-then-found-eq-NO_PLACE c =
    let found = c.in_ok-look.ensures.passed _ refl in
    open_none found.known c.args.file (omega arith) c.seek-found.result.opened c.seek-found.ensures.opened c.if-found-eq-NO_PLACE.true

pub by_file-requires : goal.by_file-requires
by_file-requires c =
    let found = c.in_ok-look.ensures.passed _ refl in
    open_placed found.known c.args.file (omega arith) c.seek-found.result.shown c.seek-found.ensures.shown

pub returns : goal.returns
returns c =
    let found = c.in_ok-look.ensures.passed _ refl in
    c.by_file.ensures
    ∙ open_shows found.known c.args.file (omega arith) c.seek-found.result.opened c.seek-found.ensures.opened c.if-found-eq-NO_PLACE.false c.seek-found.result.shown c.seek-found.ensures.shown
    c.seek-found.result.pending c.seek-found.ensures.pending c.origin_of.result c.origin_of.ensures
