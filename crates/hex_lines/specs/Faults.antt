-- The numbers of the refusals.
use Rattle.std.specs.Prelude.{ℕ, Result, Ok, Err}
use Rattle.hex_lines.specs.declared.HexFault.{HexFault}
use Rattle.hex_lines.specs.declared.HexFault.TheVariants.{BadGeometry, BadLine, BadChecksum, BadType, Outside, NamedTwice, NoEnd}

-- The request's number of a refusal: 2 GEOMETRY, 30 BAD LINE, 31 BAD CHECKSUM, 32 BAD TYPE, 33 OUTSIDE, 34 NAMED TWICE, 35 NO END.
abbrev pub number : HexFault → ℕ
number BadGeometry = 2
number BadLine = 30
number BadChecksum = 31
number BadType = 32
number Outside = 33
number NamedTwice = 34
number NoEnd = 35

-- The number that an outcome is reported by: 0 where it is DONE.
abbrev pub number_of : {T : Type 0} → Result T HexFault → ℕ
number_of (Ok x) = 0
number_of (Err e) = number e

-- The length that the outcome of a write is reported with: 0 where it is refused.
abbrev pub length_of : Result ℕ HexFault → ℕ
length_of (Ok n) = n
length_of (Err e) = 0
