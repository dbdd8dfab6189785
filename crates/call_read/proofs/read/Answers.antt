use Rattle.std.proofs.Common.{◌∙◌, refl, arith}
use Rattle.call_look.specs.Guards.{reads}
use Rattle.call_look.specs.Looks.{passed_up}
use Rattle.call_read.proofs.ReadLaws.{read_bad_file, read_placed, read_shows}
use Rattle.call_read.proofs.read.Goals as goal

pub returns-in_err-look : goal.returns-in_err-look
returns-in_err-look c = (passed_up c.in_err-look.ensures _ c.from_residual.ensures.1 (reads c.args.file)).0

pub seek-found-requires : goal.seek-found-requires
seek-found-requires c = (c.in_ok-look.ensures.passed _ refl).known.homed

pub returns-then-file-gt-LAST_FILE : goal.returns-then-file-gt-LAST_FILE
returns-then-file-gt-LAST_FILE c =
    let found = c.in_ok-look.ensures.passed _ refl in
    read_bad_file found.known c.args.file c.if-file-gt-LAST_FILE.true

pub by_file-requires : goal.by_file-requires
by_file-requires c =
    let found = c.in_ok-look.ensures.passed _ refl in
    read_placed found.known c.args.file (omega arith) c.seek-found.result.current c.seek-found.ensures.current

pub returns : goal.returns
returns c =
    let found = c.in_ok-look.ensures.passed _ refl in
    c.by_file.ensures ∙ read_shows found.known c.args.file (omega arith) c.seek-found.result.current c.seek-found.ensures.current
