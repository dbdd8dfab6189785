use Rattle.std.proofs.Common.{◌≡◌, ◌/◌, ◌%◌, arith}
use Rattle.std.proofs.lemmas.Nat.{and_le_l}
use Rattle.std.specs.Int.Bits.{bit_and}
use Rattle.rules.specs.Flash.{apply}
use Rattle.laws.specs.Words.{lay_bytes}
use Rattle.flash.proofs.program.Goals as goal

pub returns : goal.returns
unfolding apply
returns c =
    let w = bit_and c.word.result c.args.value in
    let e : w / 256 % 256 ≡ w / 256 = omega (arith, and_le_l c.word.result c.args.value) in
    rw (lay_bytes, ← c.word.ensures, c.to_le_bytes.ensures, e)
