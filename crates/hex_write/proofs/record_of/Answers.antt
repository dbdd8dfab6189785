use Rattle.std.proofs.Common.{◌≡◌, ◌/◌, ◌%◌, ◌∙◌, arith}
use Rattle.hex_write.specs.Rows.{record_built}
use Rattle.hex_write.proofs.record_of.Goals as goal

pub returns : goal.returns
returns c =
    let h : c.args.a / 256 % 256 ≡ c.args.a / 256 = omega arith in
    record_built c.args.a c.checksum.result c.args.row.now c.copy_from_slice.new.self c.copy_from_slice-2.new.self c.told-row (c.copy_from_slice.ensures.after ∙ rw (c.to_be_bytes.ensures, h)) c.copy_from_slice-2.ensures.after c.checksum.ensures
