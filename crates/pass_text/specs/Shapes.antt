-- What the code answers, for what the definitions read.
use Rattle.std.specs.Prelude.{◌≡◌, Bool, ◌||◌, List, ℕ, length, MatchOption, None, Some, Option as Maybe}
use Rattle.std.proofs.Math.Option.{Option, none, some}
use Rattle.rules.specs.Text.{Parsed}
use Rattle.rules.specs.Flash.{Bytes}
use Rattle.pass_rules.specs.Texts.{StaffList}
use Rattle.pass_rules.specs.Give.{is_on}
use Rattle.pass_text.specs.declared.BothOn.{BothOn}
use Rattle.pass_text.specs.declared.Roster.{Roster}

-- What a line tells is the number of `o`, and the rest behind it; or `o` has none.
abbrev pub Tells : Option Parsed → Maybe ℕ → Bytes → Type 0
Tells o r rest = MatchOption r (o ≡ none) (λ v. o ≡ some (record { value = v; rest = rest }))

-- Whether two people are among these, or were found before.
unfoldable pub found_in : ℕ → ℕ → Bool → Bool → Option (List ℕ) → Maybe BothOn
found_in x y a b none = None
found_in x y a b (some people) = Some (record { first = a || is_on x people; second = b || is_on y people })

unfoldable pub staff_of : ℕ → ℕ → Option StaffList → Maybe Roster
staff_of x y none = None
staff_of x y (some l) = Some (record { night = l.night; zone = l.zone; people = length l.people; on = record { first = is_on x l.people; second = is_on y l.people } })

unfoldable pub count_of : Option ℕ → Maybe ℕ
count_of none = None
count_of (some n) = Some n
