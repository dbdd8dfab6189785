use Rattle.std.proofs.Common.{arith, sym, ap, append-nil, length, length-append}
use Rattle.listing_text.specs.Lines.{line_of, line_some, line_none, line_short}
use Rattle.listing_text.proofs.put_line.Goals as goal

pub returns-then-place-ne-NO_PLACE-clause-line : goal.returns-then-place-ne-NO_PLACE-clause-line
returns-then-place-ne-NO_PLACE-clause-line c =
    rw (line_some c.args.g c.args.image.now c.args.file c.args.place c.if-place-ne-NO_PLACE.true, ← c.len_at-len.ensures.0, ← c.handle_at-handle.ensures) c.put_file.ensures

pub returns-then-place-ne-NO_PLACE-clause-short : goal.returns-then-place-ne-NO_PLACE-clause-short
returns-then-place-ne-NO_PLACE-clause-short c =
    let x = line_of c.args.file c.len_at-len.result c.handle_at-handle.result in
    omega (
      arith,
      ap length c.put_file.ensures,
      length-append c.args.out.now x,
      line_short c.args.file c.len_at-len.result c.handle_at-handle.result (omega arith) (omega arith) (rw c.handle_at-handle.ensures (c.requires.2.near c.if-place-ne-NO_PLACE.true)),
    )

pub returns-else-place-ne-NO_PLACE-clause-line : goal.returns-else-place-ne-NO_PLACE-clause-line
returns-else-place-ne-NO_PLACE-clause-line c = rw (line_none c.args.g c.args.image.now c.args.file c.args.place c.if-place-ne-NO_PLACE.false) (sym (append-nil c.args.out.now))
