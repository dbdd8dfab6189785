-- What is a staff list and a register, and what is none: one statement over one table.
use Rattle.std.specs.Prelude.{Bool, true, false, ◌&&◌, List, [], ◌∷◌, ℕ, T, eqb, length}
use Rattle.std.proofs.Math.Option.{Option, none, some}
use Prim.Native.String.{String}
use Rattle.rules.specs.Lists.{all}
use Rattle.rules.specs.Sound.{is_same}
use Rattle.rules.specs.Text.{text}
use Rattle.rules.specs.Opened.{opened}
use Rattle.pass_rules.specs.Texts.{StaffList, pass_text, register_in, staff_in, staff_text}
use Rattle.pass_rules.specs.Opened.{passes}

-- A list's text with what it says; a text that is no list; a register's with its count; a text that is none; a pass and its text.
pub data TextRow : Type 0 where
  staff : String → ℕ → ℕ → List ℕ → TextRow
  no_staff : String → TextRow
  register : String → ℕ → TextRow
  no_register : String → TextRow
  pass : ℕ → ℕ → ℕ → String → TextRow

unfoldable pub is_list : Option StaffList → ℕ → ℕ → List ℕ → Bool
is_list none night zone people = false
is_list (some l) night zone people = eqb l.night night && eqb l.zone zone && is_same l.people people

unfoldable pub is_no_list : Option StaffList → Bool
is_no_list none = true
is_no_list (some l) = false

unfoldable pub is_count : Option ℕ → ℕ → Bool
is_count none n = false
is_count (some m) n = eqb m n

unfoldable pub is_no_count : Option ℕ → Bool
is_no_count none = true
is_no_count (some n) = false

unfoldable pub holds : TextRow → Bool
holds (staff t night zone people) =
    is_list (staff_in (text t)) night zone people && is_same (staff_text (record { night = night; zone = zone; people = people })) (text t)
holds (no_staff t) = is_no_list (staff_in (text t))
holds (register t n) = is_count (register_in (text t)) n
holds (no_register t) = is_no_count (register_in (text t))
holds (pass n a b t) = is_same (pass_text n a b) (text t)

abbrev pub rows : List TextRow
rows =
    -- lists: that of the figures, one of no people, one person, the greatest numbers and sixteen people
    staff "night=14\nzone=3\npeople=3\nperson=5\nperson=9\nperson=65535\n" 14 3 (5 ∷ 9 ∷ 65535 ∷ [])
    ∷ staff "night=0\nzone=0\npeople=0\n" 0 0 []
    ∷ staff "night=1\nzone=2\npeople=1\nperson=7\n" 1 2 (7 ∷ [])
    ∷ staff
    "night=999\nzone=999\npeople=16\nperson=1\nperson=2\nperson=3\nperson=4\nperson=5\nperson=6\nperson=7\nperson=8\nperson=9\nperson=10\nperson=11\nperson=12\nperson=13\nperson=14\nperson=15\nperson=65535\n"
    999
    999
    (1 ∷ 2 ∷ 3 ∷ 4 ∷ 5 ∷ 6 ∷ 7 ∷ 8 ∷ 9 ∷ 10 ∷ 11 ∷ 12 ∷ 13 ∷ 14 ∷ 15 ∷ 65535 ∷ [])
    -- an empty content is none, nor is one that is cut, has no last line feed, or bytes behind its last line
    ∷ no_staff ""
    ∷ no_staff "night=14\nzone=3\npeople=3\nperson=5\nperson=9\n"
    ∷ no_staff "night=14\nzone=3\npeople=2\nperson=5\nperson=9"
    ∷ no_staff "night=14\nzone=3\npeople=1\nperson=5\nperson=9\n"
    ∷ no_staff "night=14\nzone=3\npeople=1\nperson=5\n\n"
    ∷ no_staff "night=14\nzone=3\npeople=0\nperson=5\n"
    -- leading zeros, and people that do not ascend
    ∷ no_staff "night=014\nzone=3\npeople=1\nperson=5\n"
    ∷ no_staff "night=14\nzone=3\npeople=00\n"
    ∷ no_staff "night=14\nzone=3\npeople=2\nperson=5\nperson=5\n"
    ∷ no_staff "night=14\nzone=3\npeople=2\nperson=9\nperson=5\n"
    -- out of range
    ∷ no_staff "night=1000\nzone=3\npeople=0\n"
    ∷ no_staff "night=14\nzone=1000\npeople=0\n"
    ∷ no_staff "night=14\nzone=3\npeople=1\nperson=0\n"
    ∷ no_staff "night=14\nzone=3\npeople=1\nperson=65536\n"
    ∷ no_staff
    "night=1\nzone=1\npeople=17\nperson=1\nperson=2\nperson=3\nperson=4\nperson=5\nperson=6\nperson=7\nperson=8\nperson=9\nperson=10\nperson=11\nperson=12\nperson=13\nperson=14\nperson=15\nperson=16\nperson=17\n"
    -- another order, a blank, a carriage return, capitals, a key without its number
    ∷ no_staff "zone=3\nnight=14\npeople=0\n"
    ∷ no_staff "night= 14\nzone=3\npeople=0\n"
    ∷ no_staff "night=14\r\nzone=3\r\npeople=0\r\n"
    ∷ no_staff "Night=14\nzone=3\npeople=0\n"
    ∷ no_staff "night=\nzone=3\npeople=0\n"
    -- registers
    ∷ register "count=0\n" 0
    ∷ register "count=9\n" 9
    ∷ register "count=126\n" 126
    ∷ no_register ""
    ∷ no_register "count=127\n"
    ∷ no_register "count=01\n"
    ∷ no_register "count=00\n"
    ∷ no_register "count=5"
    ∷ no_register "count=5\n\n"
    -- passes: the order in which the caller names the people
    ∷ pass 0 5 9 "pass=0\nfirst=5\nsecond=9\n"
    ∷ pass 125 65535 9 "pass=125\nfirst=65535\nsecond=9\n"
    ∷ []

-- All 35 rows hold.
pub texts_hold : T (eqb (length rows) 35 && all holds rows)
unfolding opened passes is_list is_no_list is_count is_no_count holds
texts_hold = tt
