-- A table of gives. A row is a call of the store, or a give, on the image that an earlier row left, what it must answer, and facts
-- of the image it leaves.
use Rattle.std.specs.Prelude.{Bool, true, false, ◌&&◌, List, [], ◌∷◌, ◌++◌, ℕ, eqb, get_or}
use Rattle.rules.specs.Lists.{all}
use Rattle.rules.specs.Flash.{Bytes}
use Rattle.rules.specs.Sound.{is_same}
use Rattle.rules.specs.Answers.{content, given, number}
use Rattle.rules.specs.Calls.{Call, outcome, read, read_open}
use Rattle.rules.specs.declared.Geometry.{Geometry}
use Rattle.pass_rules.specs.Give.{give, give_look, pass_report, register_look, register_report, staff_look, staff_report}

pub data Act : Type 0 where
  call : Call → Act
  -- two people and the allowance
  gives : ℕ → ℕ → ℕ → Act

-- The number, steps and pass of an act, and the image it leaves.
pub record ActDone : Type 0 where
  pub numbers : List ℕ
  pub image : Bytes

unfoldable pub act : Geometry → Act → Bytes → ActDone
act g (call c) s = let o = outcome g c s in record { numbers = number o.answer ∷ (given o.answer).steps ∷ 0 ∷ []; image = o.image }
act g (gives a b k) s =
    let w = give g k a b s in
    let r = pass_report (give_look g s a b) w in
    record { numbers = r.number ∷ r.steps ∷ r.pass ∷ []; image = w.image }

pub data PassFact : Type 0 where
  -- a committed file's handle and content; a file that is absent
  file_is : ℕ → ℕ → ℕ → Bytes → PassFact
  absent_is : ℕ → PassFact
  -- the number that a read of the transaction view gives: 4 unsettled, 7 none open, 0 or 9 one open
  open_is : ℕ → PassFact
  -- the two looks: number and count; number, night, zone and people
  register_is : ℕ → ℕ → PassFact
  staff_is : ℕ → ℕ → ℕ → ℕ → PassFact
  -- the steps of each changing call of a give of two people with an allowance
  steps_are : ℕ → ℕ → ℕ → List ℕ → PassFact

-- The steps of calls one behind the other.
unfoldable pub steps_of : Geometry → List Call → Bytes → List ℕ
steps_of g [] s = []
steps_of g (c ∷ cs) s = let o = outcome g c s in (given o.answer).steps ∷ steps_of g cs o.image

module _ (g : Geometry) (s : Bytes) where
  unfoldable pub holds : PassFact → Bool
  holds (file_is f L p c) =
      let o = outcome g (read f) s in
      let r = given o.answer in
      eqb (number o.answer) 0 && eqb r.at.unit L && eqb r.at.position p && is_same (content o) c
  holds (absent_is f) = eqb (number (outcome g (read f) s).answer) 9
  holds (open_is n) = eqb (number (outcome g (read_open 0) s).answer) n
  holds (register_is n k) = let r = register_report (register_look g s) in eqb r.number n && eqb r.count k
  holds (staff_is n night zone people) =
      let r = staff_report (staff_look g s) in
      eqb r.number n && eqb r.night night && eqb r.zone zone && eqb r.people people
  holds (steps_are a b k ks) = is_same (steps_of g (give g k a b s).calls s) ks

-- Row `on k act numbers facts`: made on image k, it answers these numbers and leaves the next image.
pub record PassRow : Type 0 where
  pub image : ℕ
  pub what : Act
  pub numbers : List ℕ
  pub facts : List PassFact

unfoldable pub on : ℕ → Act → ℕ → ℕ → ℕ → List PassFact → PassRow
on k a number steps pass fs = record { image = k; what = a; numbers = number ∷ steps ∷ pass ∷ []; facts = fs }

module _ (g : Geometry) where
  unfoldable pub hold_all : List PassRow → List Bytes → Bool
  hold_all [] images = true
  hold_all (r ∷ rs) images =
      let d = act g r.what (get_or images r.image []) in
      elim (is_same d.numbers r.numbers && all (holds g d.image) r.facts)
      [ true ↦ hold_all rs (images ++ (d.image ∷ [])) | false ↦ false ]

  -- The image of a number, once the rows are made.
  unfoldable pub image_of : ℕ → List PassRow → List Bytes → Bytes
  image_of n [] images = get_or images n []
  image_of n (r ∷ rs) images = image_of n rs (images ++ ((act g r.what (get_or images r.image [])).image ∷ []))

-- The definitions of tables, for whoever computes with them.
unfoldable pub tables : Unit {0}
unfolding act steps_of holds on hold_all image_of
tables = tt
