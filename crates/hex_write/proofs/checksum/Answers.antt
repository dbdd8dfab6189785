use Rattle.std.proofs.Common.{◌≡◌, ◌+◌, ◌%◌, fold, rules}
use Rattle.hex_write.specs.Rows.{checksum_is}
use Rattle.hex_write.proofs.checksum.Goals as goal

pub returns : goal.returns
returns c =
    let e : c.fold.result ≡ fold (λ s b. (s + b) % 256) 0 c.args.bytes.now = search rules in
    checksum_is c.args.bytes.now c.fold.result c.wrapping_neg.result e c.fold.type_inv c.wrapping_neg.type_inv c.wrapping_neg.ensures
