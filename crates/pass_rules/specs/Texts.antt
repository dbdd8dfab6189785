-- The three texts: a staff list, a manual pass, the register; and how a list and a register are read back.
use Rattle.std.specs.Prelude.{Bool, true, false, ◌&&◌, List, [], ◌∷◌, ◌++◌, ℕ, zero, suc, leb, ltb, length}
use Rattle.std.proofs.Math.Option.{Option, none, some}
use Rattle.rules.specs.Flash.{Bytes}
use Rattle.rules.specs.Lists.{is_none}
use Rattle.rules.specs.Listing.{keyed}
use Rattle.rules.specs.Text.{text, behind, Parsed, number_of}

-- What a staff list says.
pub record StaffList : Type 0 where
  pub night : ℕ
  pub zone : ℕ
  pub people : List ℕ

-- One `person=` line each.
unfoldable pub person_lines : List ℕ → Bytes
person_lines [] = []
person_lines (x ∷ xs) = keyed "person=" x ++ person_lines xs

-- key=value lines in fixed order: `night=`, `zone=`, `people=` count, then one `person=` line each.
unfoldable pub staff_text : StaffList → Bytes
staff_text l = keyed "night=" l.night ++ (keyed "zone=" l.zone ++ (keyed "people=" (length l.people) ++ person_lines l.people))

-- Strictly ascending numbers, above the one before, to 65,535.
unfoldable pub is_ascending : ℕ → List ℕ → Bool
is_ascending before [] = true
is_ascending before (x ∷ xs) = ltb before x && leb x 65535 && is_ascending x xs

-- Night and zone are 0 to 999; at most 16 people; numbers 1 to 65,535.
unfoldable pub is_staff_list : StaffList → Bool
is_staff_list l = leb l.night 999 && leb l.zone 999 && leb (length l.people) 16 && is_ascending 0 l.people

-- A manual pass is a file with `pass=` n, `first=`, `second=`.
unfoldable pub pass_text : ℕ → ℕ → ℕ → Bytes
pass_text n first second = keyed "pass=" n ++ (keyed "first=" first ++ keyed "second=" second)

-- The register is a file with `count=`.
unfoldable pub register_text : ℕ → Bytes
register_text n = keyed "count=" n

-- ---- read back
-- A number up to a bound.
unfoldable pub within : ℕ → Option Parsed → Option Parsed
within bound none = none
within bound (some p) = elim (leb p.value bound) [ true ↦ some p | false ↦ none ]

-- The number 0 where it stands, and else a number without leading zeros.
unfoldable pub zero_or : Option Bytes → Option Parsed → Option Parsed
zero_or none o = o
zero_or (some rest) o = some (record { value = 0; rest = rest })

unfoldable pub value_in : ℕ → Option Bytes → Option Parsed
value_in bound none = none
value_in bound (some s) = within bound (zero_or (behind (text "0\n") s) (number_of s))

-- A line `key=` with a number up to a bound, 0 among them.
unfoldable pub line_in : Bytes → ℕ → Bytes → Option Parsed
line_in key bound s = value_in bound (behind key s)

-- What a number and the rest behind it give, where there is one.
unfoldable pub after : {A : Type 0} → Option Parsed → (ℕ → Bytes → Option A) → Option A
after none f = none
after (some p) f = f p.value p.rest

-- Greater than the one before.
unfoldable pub above : {A : Type 0} → ℕ → ℕ → Option A → Option A
above before x o = elim (ltb before x) [ true ↦ o | false ↦ none ]

unfoldable pub joined : ℕ → Option (List ℕ) → Option (List ℕ)
joined x none = none
joined x (some xs) = some (x ∷ xs)

-- So many `person=` lines, and no byte behind them.
unfoldable pub people_in : ℕ → ℕ → Bytes → Option (List ℕ)
people_in zero before s = elim (is_none s) [ true ↦ some [] | false ↦ none ]
people_in (suc k) before s = after (line_in (text "person=") 65535 s) (λ x rest. above before x (joined x (people_in k x rest)))

unfoldable pub staff_of : ℕ → ℕ → Option (List ℕ) → Option StaffList
staff_of night zone none = none
staff_of night zone (some people) = some (record { night = night; zone = zone; people = people })

-- The list that a content is the text of, if it is one.
unfoldable pub staff_in : Bytes → Option StaffList
staff_in s =
    after (line_in (text "night=") 999 s) λ night s1.
    after (line_in (text "zone=") 999 s1) λ zone s2.
    after (line_in (text "people=") 16 s2) λ count s3.
    staff_of night zone (people_in count 0 s3)

-- The count that a content is the text of, if it is one up to 126.
unfoldable pub register_in : Bytes → Option ℕ
register_in s = after (line_in (text "count=") 126 s) λ count rest. elim (is_none rest) [ true ↦ some count | false ↦ none ]
