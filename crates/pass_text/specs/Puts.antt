-- How long a number's text is.
use Rattle.std.specs.Prelude.{ℕ, ◌^◌, ◌≤◌, ◌<◌, length}
use Rattle.rules.specs.Text.{decimal}
use Rattle.text.specs.Put.{decimal_within}

-- A number below 10 to the 10 has at most ten digits.
pub decimal_ten : (m : ℕ) → m < 10 ^ 10 → length (decimal m) ≤ 10
decimal_ten m h = decimal_within 9 m h
