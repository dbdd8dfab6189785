-- The calls that fill a table or mend it: from what is laid to the definition's table.
use Rattle.std.specs.Prelude.{◌≡◌, Bool, not, cond, [], ℕ, length, get_or, set}
use Rattle.std.proofs.Math.Path.{refl, sym, ap}
use Rattle.std.proofs.Common.{◌∙◌}
use Rattle.std.proofs.Math.Bool.{true, false}
use Rattle.std.proofs.Math.Dec.{eqb}
use Rattle.rules.specs.Flash.{Bytes, is_geometry, run}
use Rattle.rules.specs.Settled.{survey}
use Rattle.rules.specs.Sound.{standing}
use Rattle.rules.specs.Answers.{Plan, refuses, makes, origin, number, ended, carry_out}
use Rattle.rules.specs.Calls.{commit, refuse, when_settled, in_geometry, in_settled}
use Rattle.rules.specs.Table.{Table, mark, fresh, of_length, table_done, table_after, with_table, fill_through}
use Rattle.rules.specs.declared.Geometry.{Geometry}
use Rattle.rules.specs.declared.TableEntry.{TableEntry}
use Rattle.rules.specs.declared.Standing.{Standing}
use Rattle.rules.specs.declared.Standing.TheVariants.{Settled, Sound, Neither}
use Rattle.rules.specs.declared.NotDone.TheVariants.{BadGeometry}
use Rattle.c_report.specs.Exported.{exported}
use Rattle.c_report.specs.declared.Report.{Report}
use Rattle.c_store.specs.Reports.{geometry}
use Rattle.table_entries.specs.Puts.{laid_in}
use Rattle.table_renew.specs.declared.FillCall.{FillCall}
use Rattle.table_renew.specs.Settles.{fill_call}
use Rattle.table_renew.specs.Fresh.{cleared}
use Rattle.table_renew.specs.Renews.{Renewed, Renews, Refills, LaysIf, Fills, fill_fills}
use Rattle.c_table.specs.Blank.{blank, stopped}
use Rattle.c_table.specs.Through.{Through, laid_through}

-- ---- format and mount: the table is cleared, and what is current is laid
module _ (size units k : ℕ) (s : Bytes) (t : Table) (r : Report) (c : Renewed) (u : Bytes) (v w z : Table) where
  abbrev g : Geometry
  g = geometry size units

  refilled : (which : FillCall) → Refills g (fill_call which k) (length t) s r u → LaysIf g u r c → v ≡ cleared r.number t → w ≡ laid_in size u c.places (length c.places) v → w ≡ cond (eqb r.number 0) (table_done g (fill_call which k) s u t) t
  unfolding table_done
  refilled which h a e l = l ∙ ap (laid_in size u c.places (length c.places)) e ∙ a.table t h.long ∙ sym (rw (fill_fills which k))

  pub refill_through : (which : FillCall) → Refills g (fill_call which k) (length t) s r u → LaysIf g u r c → v ≡ cleared r.number t → w ≡ laid_in size u c.places (length c.places) v → z ≡ stopped r.number w → Through g (fill_call which k) s t r u z
  refill_through which h a e l q = laid_through g (fill_call which k) s t (get_or t 0 blank) r u w z refl (h.makes (get_or t 0 blank)) (refilled which h a e l) q

-- ---- commit: what was pending is laid
pub commit_through : (size units k : ℕ) (s : Bytes) (t : Table) (x : TableEntry) (c : Renewed) (u : Bytes) (w z : Table) → x ≡ get_or t 0 blank → Renews (geometry size units) (commit k) (length t) x s c u
    → w ≡ laid_in size u c.places (length c.places) t → z ≡ stopped c.report.number w → Through (geometry size units) (commit k) s t c.report u z
commit_through size units k s t x c u w z e h l q = laid_through (geometry size units) (commit k) s t x c.report u w z e h.makes (l ∙ h.table t refl) q

-- Fill for C: its report, and the table afterwards.
pub record FillsTable (g : Geometry) (s : Bytes) (t : Table) (r : Report) (w : Table) : Type 0 where
  pub report : r ≡ exported (fill_through g s t).answer
  pub table : w ≡ (fill_through g s t).table

-- Fill is never STOPPED.
module _ (g : Geometry) (s : Bytes) (t : Table) where
  abbrev filling : Plan
  filling = refuse (not (eqb (length t) 256)) BadGeometry (in_settled g s λ v. makes origin [])

  not_stopped : eqb (number (carry_out filling 0 s).answer) 1 ≡ false
  unfolding refuse in_settled in_geometry when_settled carry_out number ended run
  not_stopped = go (not (eqb (length t) 256)) (not (is_geometry g (length s))) (standing g (survey g s))
    where
      go : (a b : Bool) (q : Standing) → eqb (number (carry_out (cond a (refuses BadGeometry) (cond b (refuses BadGeometry) (when_settled q (makes origin [])))) 0 s).answer) 1 ≡ false
      go true b q = refl
      go false true q = refl
      go false false Settled = refl
      go false false Sound = refl
      go false false Neither = refl

pub fill_through_lem : (size units : ℕ) (s : Bytes) (t : Table) (c : Renewed) (v w : Table) → Fills (geometry size units) (length t) s c → v ≡ cleared c.report.number t → w ≡ laid_in size s c.places (length c.places) v → FillsTable (geometry size units) s t c.report w
unfolding fill_through with_table of_length table_after exported
fill_through_lem size units s t c v w h e l =
    let k : c.report.number ≡ number (carry_out (filling (geometry size units) s t) 0 s).answer = ap (λ (r : Report). r.number) h.report in
    record {
      report = h.report;
      table = l ∙ ap (laid_in size s c.places (length c.places)) e ∙ h.table t refl ∙ ap (λ (n : ℕ). cond (eqb n 0) (fresh (geometry size units) s) t) k
          ∙ sym (ap (λ (b : Bool). cond (eqb (number (carry_out (filling (geometry size units) s t) 0 s).answer) 0) (fresh (geometry size units) s) (cond b (set t 0 mark) t)) (not_stopped (geometry size units) s t));
    }
