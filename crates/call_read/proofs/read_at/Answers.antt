use Rattle.std.proofs.Common.{◌∙◌, refl}
use Rattle.call_look.specs.Guards.{reads_at}
use Rattle.call_look.specs.Looks.{passed_up}
use Rattle.call_read.proofs.ReadLaws.{at_placed, at_shows}
use Rattle.call_read.proofs.read_at.Goals as goal

pub returns-in_err-look : goal.returns-in_err-look
returns-in_err-look c =
    (passed_up c.in_err-look.ensures _ c.from_residual.ensures.1 (reads_at c.args.at.unit c.args.at.position)).0

pub place_at-requires : goal.place_at-requires
place_at-requires c = (c.in_ok-look.ensures.passed _ refl).known.homed

pub by_handle-requires : goal.by_handle-requires
by_handle-requires c =
    let found = c.in_ok-look.ensures.passed _ refl in
    at_placed found.known c.args.at.unit c.args.at.position c.place_at.result c.place_at.ensures

pub returns : goal.returns
returns c =
    let found = c.in_ok-look.ensures.passed _ refl in
    c.by_handle.ensures ∙ at_shows found.known c.args.at.unit c.args.at.position c.place_at.result c.place_at.ensures
