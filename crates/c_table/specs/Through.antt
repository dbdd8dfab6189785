-- What a call for C through a table reports and leaves: the definition's answer, image and table.
use Rattle.std.specs.Prelude.{◌≡◌, Bool, ℕ, eqb, length, get_or, set}
use Rattle.std.proofs.Math.Path.{refl, sym, ap}
use Rattle.std.proofs.Common.{◌∙◌, eqb-true}
use Rattle.std.proofs.Math.Bool.{true, false, cond}
use Rattle.rules.specs.Flash.{Bytes}
use Rattle.rules.specs.Answers.{Outcome, Plan, number, carry_out, Answer}
use Rattle.rules.specs.Calls.{Call, allowance}
use Rattle.rules.specs.Table.{Table, mark, fills, mends, table_done, table_after, with_table, plan_through, through}
use Rattle.rules.specs.declared.Geometry.{Geometry}
use Rattle.rules.specs.declared.TableEntry.{TableEntry}
use Rattle.c_report.specs.Exported.{exported}
use Rattle.c_report.specs.declared.Report.{Report}
use Rattle.table_entries.specs.declared.TableCall.{TableCall}
use Rattle.table_entries.specs.declared.TableCall.TheVariants.{Begin, Write, Delete, Abort}
use Rattle.table_entries.specs.Says.{MakesBy, outcome_by, plan_by, plan_by_lem, change_call, change_fills}
use Rattle.c_table.specs.Blank.{blank, mark_is, stopped}

-- A changing call: its report, the image and the table afterwards.
pub record Through (g : Geometry) (c : Call) (s : Bytes) (t : Table) (r : Report) (u : Bytes) (w : Table) : Type 0 where
  pub report : r ≡ exported (through g s t c).answer
  pub image : u ≡ (through g s t c).image
  pub table : w ≡ (through g s t c).table

module _ (g : Geometry) (c : Call) (s : Bytes) (t : Table) where
  outcome_is : carry_out (plan_through g s t c) (allowance c) s ≡ outcome_by g s (length t) (get_or t 0 blank) c
  unfolding outcome_by
  outcome_is = ap (λ (p : Plan). carry_out p (allowance c) s) (plan_by_lem g s t c ∙ ap (λ (x : TableEntry). plan_by g s (length t) (get_or t 0 x) c) mark_is)

  number_is : (r : Report) (a : Answer) → r ≡ exported a → r.number ≡ number a
  unfolding exported
  number_is r a e = ap (λ (x : Report). x.number) e

  -- What was laid where it is DONE, and what a stop leaves of it.
  after : (k : ℕ) (done laid w : Table) → laid ≡ cond (eqb k 0) done t → w ≡ stopped k laid → w ≡ cond (eqb k 0) done (cond (eqb k 1) (set t 0 mark) t)
  after k done laid w l q = q ∙ ap (stopped k) l ∙ go (eqb k 0) refl
    where
      marked : (y : Bool) → cond y (set t 0 blank) t ≡ cond y (set t 0 mark) t
      marked y = ap (λ (m : TableEntry). cond y (set t 0 m) t) (sym mark_is)

      go : (x : Bool) → eqb k 0 ≡ x → cond (eqb k 1) (set (cond x done t) 0 blank) (cond x done t) ≡ cond x done (cond (eqb k 1) (set t 0 mark) t)
      go true h = ap (λ (n : ℕ). cond (eqb n 1) (set done 0 blank) done) (eqb-true k 0 h)
      go false h = marked (eqb k 1)

  -- Through the table, from what the call made and what was laid.
  pub laid_through : (x : TableEntry) (r : Report) (u : Bytes) (laid w : Table) → x ≡ get_or t 0 blank → MakesBy g c (length t) x s r u → laid ≡ cond (eqb r.number 0) (table_done g c s u t) t → w ≡ stopped r.number laid
      → Through g c s t r u w
  unfolding through with_table table_after
  laid_through x r u laid w e h l q =
      let same : outcome_by g s (length t) x c ≡ carry_out (plan_through g s t c) (allowance c) s = ap (λ (y : TableEntry). outcome_by g s (length t) y c) e ∙ sym outcome_is in
      let report : r ≡ exported (carry_out (plan_through g s t c) (allowance c) s).answer = h.report ∙ ap (λ (o : Outcome). exported o.answer) same in
      let image : u ≡ (carry_out (plan_through g s t c) (allowance c) s).image = h.image ∙ ap (λ (o : Outcome). o.image) same in
      let k : r.number ≡ number (carry_out (plan_through g s t c) (allowance c) s).answer = number_is r _ report in
      record {
        report = report;
        image = image;
        table = after r.number (table_done g c s u t) laid w l q
            ∙ ap (λ (n : ℕ). cond (eqb n 0) (table_done g c s u t) (cond (eqb n 1) (set t 0 mark) t)) k
            ∙ ap (λ (z : Bytes). cond (eqb (number (carry_out (plan_through g s t c) (allowance c) s).answer) 0) (table_done g c s z t) (cond (eqb (number (carry_out (plan_through g s t c) (allowance c) s).answer) 1) (set t 0 mark) t)) image;
      }

  -- A call that leaves the table as it is or marks it.
  pub makes_through : fills c ≡ false → mends c ≡ false → (x : TableEntry) (r : Report) (u : Bytes) (w : Table) → x ≡ get_or t 0 blank → MakesBy g c (length t) x s r u → w ≡ stopped r.number t → Through g c s t r u w
  unfolding table_done
  makes_through f m x r u w e h q = laid_through x r u t w e h (rw (f, m) (sym (same (eqb r.number 0)))) q
    where
      same : (b : Bool) → cond b t t ≡ t
      same true = refl
      same false = refl

change_mends : (c : TableCall) (k : ℕ) → mends (change_call c k) ≡ false
unfolding change_call mends
change_mends Begin k = refl
change_mends (Write f content) k = refl
change_mends (Delete f) k = refl
change_mends Abort k = refl

pub change_through : (g : Geometry) (c : TableCall) (k : ℕ) (s : Bytes) (t : Table) (x : TableEntry) (r : Report) (u : Bytes) (w : Table) → x ≡ get_or t 0 blank → MakesBy g (change_call c k) (length t) x s r u → w ≡ stopped r.number t → Through g (change_call c k) s t r u w
change_through g c k s t x r u w e h q = makes_through g (change_call c k) s t (change_fills c k) (change_mends c k) x r u w e h q
