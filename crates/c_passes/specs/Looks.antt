-- A look, from what the store's read reports.
use Rattle.std.specs.Prelude.{◌≡◌, ℕ, ◌+◌, ◌-◌, ◌≤◌, true, false, List, [], ◌∷◌, drop, take, length, None, Some}
use Rattle.std.specs.Option.{ok_or}
use Rattle.std.proofs.Common.{refl, ap, sym, ◌∙◌, arith, ne_eqb}
use Rattle.std.proofs.Math.Option.{Option, none, some}
use Rattle.rules.specs.Lists.{is_none}
use Rattle.rules.specs.Flash.{Bytes}
use Rattle.rules.specs.Calls.{Call, read}
use Rattle.rules.specs.declared.Geometry.{Geometry}
use Rattle.c_report.specs.Exported.{exported}
use Rattle.c_report.specs.declared.Report.{Report}
use Rattle.c_store.specs.Reports.{ShowsRead, geometry}
use Rattle.c_store.specs.Stands.{us_read_stands}
use Rattle.pass_rules.specs.Texts.{StaffList, register_in, staff_in}
use Rattle.pass_rules.specs.Give.{FileRead, Looked, count_from, counted, finds, list_from, listed, read_by, refuses}
use Rattle.pass_text.specs.Shapes.{count_of, staff_of}
use Rattle.pass_text.specs.declared.Roster.{Roster}
use Rattle.c_passes.specs.Shapes.{ShowsCount}
use Rattle.c_passes.specs.declared.PassRefusal.TheVariants.{BadRegister}

-- ---- a read's number and content
module _ (g : Geometry) (c : Call) (s : Bytes) (r : Report) (h : ShowsRead g c s r) where
  pub shows_number : r.number ≡ (read_by g c s).number
  unfolding exported read_by
  shows_number = ap (λ (q : Report). q.number) h.report

pub part_content : (size units : ℕ) (s : Bytes) (f : ℕ) (r : Report) → ShowsRead (geometry size units) (read f) s r
    → take (r.start + r.len - r.start) (drop r.start s) ≡ (read_by (geometry size units) (read f) s).content
unfolding read_by
part_content size units s f r h =
    let e : r.start + r.len - r.start ≡ r.len = omega arith in
    ap (λ (n : ℕ). take n (drop r.start s)) e ∙ (us_read_stands size units s f r h).1

pub part_inside : (size units : ℕ) (s : Bytes) (f : ℕ) (r : Report) → ShowsRead (geometry size units) (read f) s r → r.start + r.len ≤ length s
part_inside size units s f r h = (us_read_stands size units s f r h).0

-- ---- what is found in it
module _ (q : FileRead) where
  pub refused_list : (q.number ≡ 0 → ⊥) → (q.number ≡ 9 → ⊥) → list_from q ≡ refuses q.number
  unfolding list_from
  refused_list a b = rw (ne_eqb q.number 0 a, list_from) (rw (ne_eqb q.number 9 b))

  pub absent_list : q.number ≡ 9 → list_from q ≡ refuses 20
  unfolding list_from
  absent_list e = ap (λ (n : ℕ). list_from (record { number = n; content = q.content })) e

  pub there_list : (c : Bytes) → q.number ≡ 0 → q.content ≡ c → list_from q ≡ listed (staff_in c)
  unfolding list_from
  there_list c e f = rw (e, list_from) (rw f)

  pub refused_count : (q.number ≡ 0 → ⊥) → (q.number ≡ 9 → ⊥) → count_from q ≡ refuses q.number
  unfolding count_from
  refused_count a b = rw (ne_eqb q.number 0 a, count_from) (rw (ne_eqb q.number 9 b))

  pub absent_count : q.number ≡ 9 → count_from q ≡ finds 0
  unfolding count_from
  absent_count e = ap (λ (n : ℕ). count_from (record { number = n; content = q.content })) e

  pub there_count : (c : Bytes) → q.number ≡ 0 → q.content ≡ c → count_from q ≡ counted (register_in c)
  unfolding count_from
  there_count c e f = rw (e, count_from) (rw f)

-- The register that a content says.
pub counts : (o : Option ℕ) → ShowsCount (counted o) (ok_or (count_of o) BadRegister)
unfolding counted count_of
counts none = refl
counts (some n) = refl

-- No list, or the list that a content says.
pub bad_list : (x y : ℕ) (o : Option StaffList) → staff_of x y o ≡ None → listed o ≡ refuses 21
unfolding listed staff_of
bad_list x y none e = refl
bad_list x y (some l) e = cc

module _ (x y : ℕ) (t : Roster) where
  pub empty_list : (o : Option StaffList) → staff_of x y o ≡ Some t → t.people ≡ 0 → listed o ≡ refuses 20
  unfolding listed staff_of is_none
  empty_list none e z = cc
  empty_list (some l) e z =
      let n : length l.people ≡ t.people = cc in
      go l.people (n ∙ z)
    where
      go : (ps : List ℕ) → length ps ≡ 0 → (elim (is_none ps) as (λ j. Looked StaffList) [ true ↦ refuses 20 | false ↦ finds l ]) ≡ refuses 20
      go [] k = refl
      go (v ∷ vs) k = absurd (omega arith)

  pub found_list : (o : Option StaffList) → staff_of x y o ≡ Some t → (t.people ≡ 0 → ⊥) → (l : StaffList) × (listed o ≡ finds l) × (Some t ≡ staff_of x y (some l))
  unfolding listed staff_of is_none
  found_list none e z = cc
  found_list (some l) e z =
      let n : length l.people ≡ t.people = cc in
      (l, go l.people (λ k. z (sym n ∙ k)), sym e)
    where
      go : (ps : List ℕ) → (length ps ≡ 0 → ⊥) → (elim (is_none ps) as (λ j. Looked StaffList) [ true ↦ refuses 20 | false ↦ finds l ]) ≡ finds l
      go [] k = absurd (k refl)
      go (v ∷ vs) k = refl
