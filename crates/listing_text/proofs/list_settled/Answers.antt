use Rattle.std.proofs.Common.{arith}
use Rattle.std.proofs.lemmas.List.Sums.{count_by-le-length}
use Rattle.laws.specs.Units.{right_geometry}
use Rattle.call_look.specs.Known.{known_few}
use Rattle.listing_text.specs.Files.{is_place}
use Rattle.listing_text.specs.Known.{listable, settled_is}
use Rattle.listing_text.proofs.list_settled.Goals as goal

pub note_all-requires : goal.note_all-requires
note_all-requires c = (c.requires.homed, known_few c.requires, c.new-index.ensures)

pub put_head-requires : goal.put_head-requires
put_head-requires c =
    let o = right_geometry c.args.g c.args.image.now c.requires.homed.right in
    (c.clear.ensures, o.small, o.few, omega (arith, count_by-le-length is_place c.note_all.new.self.current, c.files.ensures.count, c.files.ensures.all))

pub put_files-requires : goal.put_files-requires
put_files-requires c = (omega arith, listable c.args.g c.args.image.now c.args.home c.requires c.note_all.new.self c.note_all.ensures)

pub returns : goal.returns
returns c = rw (c.put_files.ensures, c.put_head.ensures.lines, c.files.ensures.count) (settled_is c.args.g c.args.image.now c.args.home c.requires c.note_all.new.self c.note_all.ensures c.files.ensures.all)
