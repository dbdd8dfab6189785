use Rattle.std.proofs.Common.{◌≡◌, ◌++◌, take}
use Rattle.text.proofs.Text.put.Given as goal

abbrev pub invariant-loop-byte : goal.invariant-loop-byte
invariant-loop-byte g l = l.self ≡ l.initial.self ++ take l.byte-index l.text
