-- What give decides from the looks.
use Rattle.std.specs.Prelude.{◌≡◌, true, false, ◌&&◌, ◌⊎◌, ℕ, Some}
use Rattle.std.proofs.Common.{sym, ap, ◌∙◌, arith, eq-eqb, ne_eqb}
use Rattle.std.proofs.lemmas.Bool.Decides.{nat_tests}
use Rattle.std.proofs.Math.Option.{some}
use Rattle.rules.specs.Flash.{Bytes}
use Rattle.rules.specs.Calls.{read_open}
use Rattle.rules.specs.declared.Geometry.{Geometry}
use Rattle.c_report.specs.declared.Report.{Report}
use Rattle.c_store.specs.Reports.{ShowsRead}
use Rattle.pass_rules.specs.Texts.{StaffList}
use Rattle.pass_rules.specs.Give.{Looked, finds, give_look, next, not_full, read_by, refuses, register_report, shut, staff_report, two_of}
use Rattle.pass_text.specs.Shapes.{staff_of}
use Rattle.pass_text.specs.declared.Roster.{Roster}
use Rattle.c_passes.specs.Shapes.{people_look}
use Rattle.c_passes.specs.Looks.{shows_number}

module _ (x y : ℕ) (k : Looked StaffList) (r : Looked ℕ) where
  abbrev people_of : Looked ℕ
  people_of = next k λ l. two_of x y l.people (next r not_full)

  pub list_refused : (n : ℕ) → k ≡ refuses n → people_of ≡ refuses n
  unfolding next
  list_refused n e = rw e

  module _ (l : StaffList) (t : Roster) (e : k ≡ finds l) (f : Some t ≡ staff_of x y (some l)) where
    pub not_on : t.on.first && t.on.second ≡ false → people_of ≡ refuses 22
    unfolding next two_of staff_of
    not_on h = grind (arith, nat_tests)

    pub same_person : t.on.first && t.on.second ≡ true → x ≡ y → people_of ≡ refuses 23
    unfolding next two_of staff_of
    same_person h z = grind (arith, nat_tests)

    module _ (h : t.on.first && t.on.second ≡ true) (z : x ≡ y → ⊥) where
      two_people : people_of ≡ next r not_full
      unfolding next two_of staff_of
      two_people = grind (arith, nat_tests)

      pub count_refused : (n : ℕ) → r ≡ refuses n → people_of ≡ refuses n
      unfolding next
      count_refused n e = two_people ∙ ap (λ (q : Looked ℕ). next q not_full) e

      pub count_full : (n : ℕ) → r ≡ finds n → n ≡ 126 → people_of ≡ refuses 25
      unfolding next not_full
      count_full n e w = two_people ∙ ap (λ (q : Looked ℕ). next q not_full) e ∙ rw (eq-eqb n 126 w, not_full)

      pub count_found : (n : ℕ) → r ≡ finds n → (n ≡ 126 → ⊥) → people_of ≡ finds n
      unfolding next not_full
      count_found n e w = two_people ∙ ap (λ (q : Looked ℕ). next q not_full) e ∙ rw (ne_eqb n 126 w, not_full)

-- ---- whether none is open
module _ (g : Geometry) (s : Bytes) (x y : ℕ) (r : Report) (h : ShowsRead g (read_open 0) s r) where
  pub looks : give_look g s x y ≡ shut r.number (people_look g s x y)
  unfolding give_look people_look read_by
  looks = ap (λ (n : ℕ). shut n (people_look g s x y)) (sym (shows_number g (read_open 0) s r h))

pub none_open : (n : ℕ) (x : Looked ℕ) → n ≡ 7 → shut n x ≡ x
unfolding shut
none_open n x e = rw (e, shut)

pub one_open : (n : ℕ) (x : Looked ℕ) → (n ≡ 0) ⊎ (n ≡ 9) → shut n x ≡ refuses 8
unfolding shut
one_open n x e = grind (arith, nat_tests)

pub other_open : (n : ℕ) (x : Looked ℕ) → (n ≡ 0 → ⊥) → (n ≡ 9 → ⊥) → (n ≡ 7 → ⊥) → shut n x ≡ refuses n
unfolding shut
other_open n x a b c = grind (arith, nat_tests)

-- ---- for C
pub staff_refused : (k : Looked StaffList) (n : ℕ) → k ≡ refuses n → record { number = n; night = 0; zone = 0; people = 0 } ≡ staff_report k
unfolding staff_report
staff_refused k n e = sym (ap staff_report e)

pub staff_found : (x y : ℕ) (k : Looked StaffList) (l : StaffList) (t : Roster) → k ≡ finds l → Some t ≡ staff_of x y (some l)
    → record { number = 0; night = t.night; zone = t.zone; people = t.people } ≡ staff_report k
unfolding staff_report staff_of
staff_found x y k l t e f = let w : record { number = 0; night = t.night; zone = t.zone; people = t.people } ≡ staff_report (finds l) = cc in w ∙ sym (ap staff_report e)

pub register_refused : (k : Looked ℕ) (n : ℕ) → k ≡ refuses n → record { number = n; count = 0 } ≡ register_report k
unfolding register_report
register_refused k n e = sym (ap register_report e)

pub register_found : (k : Looked ℕ) (n : ℕ) → k ≡ finds n → record { number = 0; count = n } ≡ register_report k
unfolding register_report
register_found k n e = sym (ap register_report e)
