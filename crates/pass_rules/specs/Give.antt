-- Giving a pass, and its two looks, of any bytes: every access to the store is a public call.
use Rattle.std.specs.Prelude.{Bool, true, false, cond, ◌&&◌, ◌||◌, List, [], ◌∷◌, ℕ, ◌+◌, ◌-◌, eqb, length}
use Rattle.std.proofs.Math.Option.{Option, none, some}
use Rattle.rules.specs.Flash.{Bytes}
use Rattle.rules.specs.Lists.{is_none}
use Rattle.rules.specs.Answers.{number, given, content}
use Rattle.rules.specs.Calls.{Call, begin, write, commit, abort, read, read_open, outcome}
use Rattle.rules.specs.declared.Geometry.{Geometry}
use Rattle.rules.specs.declared.Rule.TheVariants.{Tightest}
use Rattle.pass_rules.specs.Texts.{StaffList, pass_text, register_text, staff_in, register_in}
use Rattle.pass_rules.specs.declared.PassReport.{PassReport}
use Rattle.pass_rules.specs.declared.StaffReport.{StaffReport}
use Rattle.pass_rules.specs.declared.RegisterReport.{RegisterReport}

-- A refusal's number, or what a look finds.
pub data Looked (A : Type 0) : Type 0 where
  refuses : ℕ → Looked A
  finds : A → Looked A

unfoldable pub next : {A B : Type 0} → Looked A → (A → Looked B) → Looked B
next (refuses r) f = refuses r
next (finds x) f = f x

-- A read of a file: its number and its content. The list is file 0, the register 1, the pass given at count n is file 2 + n.
pub record FileRead : Type 0 where
  pub number : ℕ
  pub content : Bytes

unfoldable pub read_by : Geometry → Call → Bytes → FileRead
read_by g c s = let o = outcome g c s in record { number = number o.answer; content = content o }

-- 20 NO LIST: absent or `people=0`. 21 BAD LIST.
unfoldable pub listed : Option StaffList → Looked StaffList
listed none = refuses 21
listed (some l) = elim (is_none l.people) [ true ↦ refuses 20 | false ↦ finds l ]

unfoldable pub list_from : FileRead → Looked StaffList
list_from r =
    elim (eqb r.number 0) [
      | true ↦ listed (staff_in r.content)
      | false ↦ elim (eqb r.number 9) [ true ↦ refuses 20 | false ↦ refuses r.number ]
    ]

-- Absent meaning 0. 24 BAD REGISTER.
unfoldable pub counted : Option ℕ → Looked ℕ
counted none = refuses 24
counted (some n) = finds n

unfoldable pub count_from : FileRead → Looked ℕ
count_from r =
    elim (eqb r.number 0) [
      | true ↦ counted (register_in r.content)
      | false ↦ elim (eqb r.number 9) [ true ↦ finds 0 | false ↦ refuses r.number ]
    ]

-- 8 OPEN, after the store's 2, 3 and 4: the transaction view, of which only the number counts.
unfoldable pub shut : {A : Type 0} → ℕ → Looked A → Looked A
shut n x = elim (eqb n 7) [ true ↦ x | false ↦ elim (eqb n 0 || eqb n 9) [ true ↦ refuses 8 | false ↦ refuses n ] ]

unfoldable pub is_on : ℕ → List ℕ → Bool
is_on x [] = false
is_on x (y ∷ ys) = eqb x y || is_on x ys

-- 22 NOT ON LIST, 23 SAME PERSON.
unfoldable pub two_of : {A : Type 0} → ℕ → ℕ → List ℕ → Looked A → Looked A
two_of first second people x =
    elim (is_on first people && is_on second people) [ true ↦ elim (eqb first second) [ true ↦ refuses 23 | false ↦ x ] | false ↦ refuses 22 ]

-- 25 REGISTER FULL at 126.
unfoldable pub not_full : ℕ → Looked ℕ
not_full n = elim (eqb n 126) [ true ↦ refuses 25 | false ↦ finds n ]

module _ (g : Geometry) (s : Bytes) where
  unfoldable pub staff_look : Looked StaffList
  staff_look = list_from (read_by g (read 0) s)

  unfoldable pub register_look : Looked ℕ
  register_look = count_from (read_by g (read 1) s)

  -- What give decides before it makes a step: a refusal, or the count at which the pass is given.
  unfoldable pub give_look : ℕ → ℕ → Looked ℕ
  give_look first second =
      shut (number (outcome g (read_open 0) s).answer)
      (next staff_look λ l. two_of first second l.people (next register_look not_full))

-- What giving leaves: its number and steps, the image, and the changing calls of the store that it made, in order.
pub record Went : Type 0 where
  pub number : ℕ
  pub steps : ℕ
  pub image : Bytes
  pub calls : List Call

unfoldable pub ends : ℕ → ℕ → Bytes → Went
ends r j s = record { number = r; steps = j; image = s; calls = [] }

unfoldable pub noting : Call → Went → Went
noting c w = record { number = w.number; steps = w.steps; image = w.image; calls = c ∷ w.calls }

-- A pass and the raised register count in one transaction: what follows its begin, each with what is left of the allowance.
unfoldable pub parts : ℕ → ℕ → ℕ → List (ℕ → Call)
parts n first second = write Tightest (2 + n) (pass_text n first second) ∷ write Tightest 1 (register_text (n + 1)) ∷ commit ∷ []

-- j steps of the allowance k are made.
module _ (g : Geometry) (k : ℕ) where
  -- Where the store refuses midway it aborts: that refusal alone reports steps, and it is STOPPED if the abort is.
  unfoldable pub midway : ℕ → ℕ → Bytes → Went
  midway r j s =
      let o = outcome g (abort (k - j)) s in
      noting (abort (k - j)) (ends (cond (eqb (number o.answer) 1) 1 r) (j + (given o.answer).steps) o.image)

  -- After STOPPED nothing more.
  unfoldable pub broken : ℕ → ℕ → Bytes → Went
  broken r j s = elim (eqb r 1) [ true ↦ ends 1 j s | false ↦ midway r j s ]

  -- The parts one behind the other.
  unfoldable pub goes_on : List (ℕ → Call) → ℕ → Bytes → Went
  goes_on [] j s = ends 0 j s
  goes_on (c ∷ cs) j s =
      let o = outcome g (c (k - j)) s in
      let r = number o.answer in
      let i = j + (given o.answer).steps in
      noting (c (k - j)) (elim (eqb r 0) [ true ↦ goes_on cs i o.image | false ↦ broken r i o.image ])

  -- A begin that is refused or STOPPED is the answer.
  unfoldable pub starts : List (ℕ → Call) → Bytes → Went
  starts cs s =
      let o = outcome g (begin Tightest k) s in
      let r = number o.answer in
      noting (begin Tightest k) (elim (eqb r 0) [ true ↦ goes_on cs (given o.answer).steps o.image | false ↦ ends r (given o.answer).steps o.image ])

  unfoldable pub gives_at : ℕ → ℕ → Looked ℕ → Bytes → Went
  gives_at first second (refuses r) s = ends r 0 s
  gives_at first second (finds n) s = starts (parts n first second) s

  unfoldable pub give : ℕ → ℕ → Bytes → Went
  give first second s = gives_at first second (give_look g s first second) s

-- ---- for C
-- DONE gives the pass's number; all else gives 0 there.
unfoldable pub pass_at : ℕ → Looked ℕ → ℕ
pass_at r (refuses x) = 0
pass_at r (finds n) = cond (eqb r 0) n 0

unfoldable pub pass_report : Looked ℕ → Went → PassReport
pass_report x w = record { number = w.number; steps = w.steps; pass = pass_at w.number x }

unfoldable pub staff_report : Looked StaffList → StaffReport
staff_report (refuses r) = record { number = r; night = 0; zone = 0; people = 0 }
staff_report (finds l) = record { number = 0; night = l.night; zone = l.zone; people = length l.people }

unfoldable pub register_report : Looked ℕ → RegisterReport
register_report (refuses r) = record { number = r; count = 0 }
register_report (finds n) = record { number = 0; count = n }
