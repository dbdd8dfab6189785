-- A unit as it stands in an image, and the header of the unit that stands u-th.
use Rattle.std.specs.Prelude.{ℕ, ◌+◌, ◌*◌, take, drop}
use Rattle.rules.specs.Flash.{Bytes, word}

-- the unit that stands u-th
abbrev pub unit_at : ℕ → Bytes → ℕ → Bytes
unit_at S s u = take S (drop (u * S) s)

-- its logical number
abbrev pub logical_of : ℕ → Bytes → ℕ → ℕ
logical_of S s u = word s (u * S)

-- its state
abbrev pub state_of : ℕ → Bytes → ℕ → ℕ
state_of S s u = word s (u * S + 2)
