-- What the code answers, for what the definitions say.
use Rattle.std.specs.Prelude.{◌≡◌, ℕ, ◌-◌, ◌≤◌, length, take, drop, MatchOption, MatchResult, Some, Option as Maybe, Result}
use Rattle.std.proofs.Math.Option.{some}
use Rattle.rules.specs.Flash.{Bytes}
use Rattle.rules.specs.Calls.{read}
use Rattle.rules.specs.declared.Geometry.{Geometry}
use Rattle.pass_rules.specs.Texts.{StaffList}
use Rattle.pass_rules.specs.Give.{Looked, finds, give, give_look, next, not_full, pass_report, read_by, refuses, register_look, staff_look, two_of}
use Rattle.pass_rules.specs.declared.PassReport.{PassReport}
use Rattle.pass_text.specs.Shapes.{staff_of}
use Rattle.pass_text.specs.declared.Roster.{Roster}
use Rattle.c_passes.specs.declared.FileContent.{FileContent}
use Rattle.c_passes.specs.declared.PassRefusal.{PassRefusal}
use Rattle.c_passes.specs.declared.PassRefusal.TheVariants.{Open, NoList, BadList, NotOnList, SamePerson, BadRegister, RegisterFull, Store}

-- A refusal's number.
abbrev pub number_of : PassRefusal → ℕ
number_of Open = 8
number_of NoList = 20
number_of BadList = 21
number_of NotOnList = 22
number_of SamePerson = 23
number_of BadRegister = 24
number_of RegisterFull = 25
number_of (Store n) = n

-- Where the file's content stands in s, nothing where it is absent, or the number of what else a read says.
abbrev pub ReadsFile : Geometry → ℕ → Bytes → Result (Maybe FileContent) PassRefusal → Type 0
ReadsFile g f s r =
    let q = read_by g (read f) s in
    MatchResult r
    (λ o. MatchOption o (q.number ≡ 9) (λ c. (q.number ≡ 0) × (c.start ≤ c.end) × (c.end ≤ length s) × (q.content ≡ take (c.end - c.start) (drop c.start s))))
    (λ e. (number_of e ≡ q.number) × (q.number ≡ 0 → ⊥) × (q.number ≡ 9 → ⊥))

-- The list that a look finds, and whether x and y are on it; or the number of its refusal.
abbrev pub ShowsList : ℕ → ℕ → Looked StaffList → Result Roster PassRefusal → Type 0
ShowsList x y k r = MatchResult r (λ t. (l : StaffList) × (k ≡ finds l) × (Some t ≡ staff_of x y (some l))) (λ e. k ≡ refuses (number_of e))

-- The count that a look finds, or the number of its refusal.
abbrev pub ShowsCount : Looked ℕ → Result ℕ PassRefusal → Type 0
ShowsCount k r = MatchResult r (λ n. k ≡ finds n) (λ e. k ≡ refuses (number_of e))

-- What give decides once none is open.
unfoldable pub people_look : Geometry → Bytes → ℕ → ℕ → Looked ℕ
people_look g s first second = next (staff_look g s) λ l. two_of first second l.people (next (register_look g s) not_full)

-- What us_give reports, and the image it leaves.
pub record GivesPass (g : Geometry) (first second allowance : ℕ) (s : Bytes) (r : PassReport) (t : Bytes) : Type 0 where
  pub report : r ≡ pass_report (give_look g s first second) (give g allowance first second s)
  pub image : t ≡ (give g allowance first second s).image
