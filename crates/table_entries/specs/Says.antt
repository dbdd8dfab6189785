-- What the calls through a table decide, by its length and its first entry alone.
use Rattle.std.specs.Prelude.{◌≡◌, Bool, true, false, ◌||◌, ℕ, length, get_or, eqb, Result, Ok, Err}
use Rattle.std.proofs.Math.Path.{refl, ap}
use Rattle.std.proofs.Common.{sym, ◌∙◌}
use Rattle.std.proofs.Math.Bool.{not, cond}
use Rattle.rules.specs.Flash.{Bytes, is_geometry}
use Rattle.rules.specs.Settled.{survey}
use Rattle.rules.specs.Sound.{standing}
use Rattle.rules.specs.Answers.{Outcome, Plan, refuses, carry_out}
use Rattle.rules.specs.Calls.{Call, begin, write, delete, abort, refuse, when_settled, in_geometry, in_settled, plan, allowance, outcome}
use Rattle.rules.specs.declared.Rule.TheVariants.{Tightest}
use Rattle.rules.specs.Table.{Table, mark, says_none, says_file, is_usable, fills, of_length, plan_through}
use Rattle.rules.specs.declared.Geometry.{Geometry}
use Rattle.rules.specs.declared.TableEntry.{TableEntry}
use Rattle.rules.specs.declared.Standing.{Standing}
use Rattle.rules.specs.declared.Standing.TheVariants.{Settled, Sound, Neither}
use Rattle.rules.specs.declared.NotDone.{NotDone}
use Rattle.rules.specs.declared.NotDone.TheVariants.{BadGeometry, StaleTable}
use Rattle.judge.specs.declared.Look.{Look}
use Rattle.call_look.specs.Guards.{refuse_true, refuse_false}
use Rattle.call_look.specs.Known.{known_plan}
use Rattle.call_look.specs.Looks.{Settles}
use Rattle.c_report.specs.Exported.{exported}
use Rattle.c_report.specs.declared.Report.{Report}
use Rattle.c_store.specs.Reports.{Reports}
use Rattle.table_entries.specs.declared.TableCall.{TableCall}
use Rattle.table_entries.specs.declared.TableCall.TheVariants.{Begin, Write, Delete, Abort}

unfoldable pub usable_by : TableEntry → Bool
usable_by x = says_none x || says_file x

-- The plan of a call through a table of n entries whose first is x.
unfoldable pub plan_by : Geometry → Bytes → ℕ → TableEntry → Call → Plan
plan_by g s n x c = refuse (not (eqb n 256)) BadGeometry (cond (usable_by x || fills c) (plan g s c) (in_settled g s λ v. refuses StaleTable))

pub plan_by_lem : (g : Geometry) (s : Bytes) (t : Table) (c : Call) → plan_through g s t c ≡ plan_by g s (length t) (get_or t 0 mark) c
unfolding plan_through of_length plan_by is_usable usable_by
plan_by_lem g s t c = refl

unfoldable pub outcome_by : Geometry → Bytes → ℕ → TableEntry → Call → Outcome
outcome_by g s n x c = carry_out (plan_by g s n x c) (allowance c) s

-- What such a call reports, and the image afterwards.
pub record MakesBy (g : Geometry) (c : Call) (n : ℕ) (x : TableEntry) (s : Bytes) (r : Report) (u : Bytes) : Type 0 where
  pub report : r ≡ exported (outcome_by g s n x c).answer
  pub image : u ≡ (outcome_by g s n x c).image

unfoldable pub refusal : NotDone → Report
refusal a = exported (Err a)

-- 2, 3, 4, and else 12.
unfoldable pub stale_plan : Geometry → Bytes → Plan
stale_plan g s = in_settled g s λ v. refuses StaleTable

unfoldable pub stale_report : Geometry → Bytes → Report
stale_report g s = exported (carry_out (stale_plan g s) 0 s).answer

-- The call that it is, under an allowance.
unfoldable pub change_call : TableCall → ℕ → Call
change_call Begin k = begin Tightest k
change_call (Write f content) k = write Tightest f content.now k
change_call (Delete f) k = delete Tightest f k
change_call Abort k = abort k

-- ---- laws
-- A refusal, as a plan, is reported and changes nothing.
refused_out : (p : Plan) (a : NotDone) (k : ℕ) (s : Bytes) → p ≡ refuses a → carry_out p k s ≡ record { answer = Err a; image = s }
unfolding carry_out
refused_out p a k s e = ap (λ (q : Plan). carry_out q k s) e

-- ---- the report where the image is judged, and the table is stale
module _ {g : Geometry} {s : Bytes} {r : Result Look NotDone} (t : Settles g s r) where
  pub stale_refused : (a : NotDone) → r ≡ Err a → refusal a ≡ stale_report g s
  unfolding stale_report stale_plan refusal
  stale_refused a e = ap (λ (o : Outcome). exported o.answer) (sym (refused_out (stale_plan g s) a 0 s (t.plans a e (λ v. refuses StaleTable))))

  pub stale_passed : (look : Look) → r ≡ Ok look → refusal StaleTable ≡ stale_report g s
  unfolding stale_report stale_plan refusal
  stale_passed look e = ap (λ (o : Outcome). exported o.answer) (sym (refused_out (stale_plan g s) StaleTable 0 s (known_plan (t.passed look e).known (λ v. refuses StaleTable))))

-- ---- the calls
-- A plan behind 2, 3 and 4 that refuses in the end refuses at once.
stale_refuses : (g : Geometry) (s : Bytes) → (k : ℕ) → carry_out (stale_plan g s) k s ≡ record { answer = (carry_out (stale_plan g s) 0 s).answer; image = s }
unfolding stale_plan in_settled in_geometry refuse when_settled carry_out
stale_refuses g s k = go (not (is_geometry g (length s))) (standing g (survey g s))
  where
    go : (b : Bool) (t : Standing) → carry_out (cond b (refuses BadGeometry) (when_settled t (refuses StaleTable))) k s ≡ record { answer = (carry_out (cond b (refuses BadGeometry) (when_settled t (refuses StaleTable))) 0 s).answer; image = s }
    go true t = refl
    go false Settled = refl
    go false Sound = refl
    go false Neither = refl

module _ (g : Geometry) (c : Call) (n : ℕ) (x : TableEntry) (s : Bytes) where
  by_plan : (p : Plan) → plan_by g s n x c ≡ p → outcome_by g s n x c ≡ carry_out p (allowance c) s
  unfolding outcome_by
  by_plan p e = ap (λ (q : Plan). carry_out q (allowance c) s) e

  -- 2 for a table of other length
  pub makes_length : eqb n 256 ≡ false → (r : Report) → r ≡ refusal BadGeometry → MakesBy g c n x s r s
  unfolding refusal
  makes_length e r q =
      let o = by_plan (refuses BadGeometry) (unfold plan_by in refuse_true (not (eqb n 256)) BadGeometry _ (ap not e)) ∙ refused_out (refuses BadGeometry) BadGeometry (allowance c) s refl in
      record { report = q ∙ ap (λ (w : Outcome). exported w.answer) (sym o); image = ap (λ (w : Outcome). w.image) (sym o) }

  module _ (e : eqb n 256 ≡ true) where
    past_length : plan_by g s n x c ≡ cond (usable_by x || fills c) (plan g s c) (stale_plan g s)
    unfolding plan_by stale_plan
    past_length = refuse_false (not (eqb n 256)) BadGeometry _ (ap not e)

    -- 12, after 2, 3 and 4
    pub makes_stale : (usable_by x || fills c) ≡ false → (r : Report) → r ≡ stale_report g s → MakesBy g c n x s r s
    unfolding stale_report
    makes_stale u r q =
        let o = by_plan (stale_plan g s) (past_length ∙ ap (λ (b : Bool). cond b (plan g s c) (stale_plan g s)) u) ∙ stale_refuses g s (allowance c) in
        record { report = q ∙ ap (λ (w : Outcome). exported w.answer) (sym o); image = ap (λ (w : Outcome). w.image) (sym o) }

    -- else as without the table
    pub makes_plain : (usable_by x || fills c) ≡ true → (r : Report) (u : Bytes) → Reports g c s r u → MakesBy g c n x s r u
    unfolding outcome
    makes_plain b r u p =
        let o = by_plan (plan g s c) (past_length ∙ ap (λ (y : Bool). cond y (plan g s c) (stale_plan g s)) b) in
        record { report = p.report ∙ ap (λ (w : Outcome). exported w.answer) (sym o); image = p.image ∙ ap (λ (w : Outcome). w.image) (sym o) }

-- ---- usable or not
pub usable : (x : TableEntry) (c : Call) → usable_by x ≡ true → (usable_by x || fills c) ≡ true
usable x c e = rw e

pub unusable : (x : TableEntry) (c : Call) → usable_by x ≡ false → fills c ≡ false → (usable_by x || fills c) ≡ false
unusable x c e f = rw (e, f)

pub change_fills : (c : TableCall) (k : ℕ) → fills (change_call c k) ≡ false
unfolding change_call fills
change_fills Begin k = refl
change_fills (Write f content) k = refl
change_fills (Delete f) k = refl
change_fills Abort k = refl
