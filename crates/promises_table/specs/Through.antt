-- A call through the table by its answer: the plain call, a stop that marks, a refusal that keeps, and where 12 is given.
use Rattle.std.specs.Prelude.{◌≡◌, Bool, not, ◌||◌, [], ◌∷◌, ℕ, ◌≤◌, drop, length, set, take, Err}
use Rattle.std.proofs.Math.Path.{refl, ap}
use Rattle.std.proofs.Common.{◌∙◌}
use Rattle.std.proofs.Math.Bool.{true, false, cond}
use native.Mathlib.Omega.{arith}
use Rattle.std.proofs.Math.Dec.{eqb}
use Rattle.rules.specs.Flash.{Bytes}
use Rattle.rules.specs.Answers.{Plan, refuses, carry_out, content, given, nothing, number, Answer}
use Rattle.rules.specs.Calls.{Call, allowance, in_settled, outcome, plan, refuse}
use Rattle.rules.specs.Table.{Table, fills, is_usable, mark, of_length, plan_through, says_file, says_none, table_after, table_done, through, with_table, without_table}
use Rattle.laws.specs.Calls.{Untouched, call_refused, refused_given}
use Rattle.laws.specs.Plans.{in_settled_lem}
use Rattle.rules.specs.declared.NotDone.{NotDone}
use Rattle.rules.specs.declared.NotDone.TheVariants.{BadGeometry, StaleTable}
use Rattle.rules.specs.declared.Geometry.{Geometry}
use Rattle.rules.specs.declared.Given.{Given}
use Rattle.theory.specs.Base.Facts.{differ, eq_of}

-- ---- the table, by the number
pub after_done : (a : Answer) (done t : Table) → number a ≡ 0 → table_after a done t ≡ done
unfolding table_after
after_done a done t z = ap (λ (k : ℕ). cond (eqb k 0) done (cond (eqb k 1) (set t 0 mark) t)) z

pub after_stopped : (a : Answer) (done t : Table) → number a ≡ 1 → table_after a done t ≡ set t 0 mark
unfolding table_after
after_stopped a done t z = ap (λ (k : ℕ). cond (eqb k 0) done (cond (eqb k 1) (set t 0 mark) t)) z

pub after_refused : (a : Answer) (done t : Table) → 2 ≤ number a → table_after a done t ≡ t
unfolding table_after
after_refused a done t z =
    ap (λ (b : Bool). cond b done (cond (eqb (number a) 1) (set t 0 mark) t)) (differ (λ (e : number a ≡ 0). let w : ⊥ = omega arith in w))
    ∙ ap (λ (b : Bool). cond b (set t 0 mark) t) (differ (λ (e : number a ≡ 1). let w : ⊥ = omega arith in w))

-- a table with the mark in its first entry is unusable
pub marked_unusable : (t : Table) → is_usable (set t 0 mark) ≡ false
unfolding is_usable says_none says_file mark
marked_unusable [] = refl
marked_unusable (x ∷ t) = refl

-- ---- the plan
refused_is : (a : NotDone) (k : ℕ) (s : Bytes) → 2 ≤ number (Err a) → Untouched s (carry_out (refuses a) k s)
unfolding carry_out content nothing
refused_is a k s h =
    let e : given (Err a) ≡ nothing 0 (given (Err a)).from = refused_given (Err a) h in
    record { image = refl; steps = ap (λ (r : Given). r.steps) e; empty = ap (λ (r : Given). take r.len (drop r.start s)) e }

module _ (g : Geometry) (s : Bytes) (t : Table) (c : Call) where
  pub plan_as : length t ≡ 256 → is_usable t || fills c ≡ true → plan_through g s t c ≡ plan g s c
  unfolding plan_through of_length refuse
  plan_as n u =
      ap (λ (k : ℕ). cond (not (eqb k 256)) (refuses BadGeometry) (cond (is_usable t || fills c) (plan g s c) (in_settled g s λ v. refuses StaleTable))) n
      ∙ ap (λ (b : Bool). cond b (plan g s c) (in_settled g s λ v. refuses StaleTable)) u

  -- through a usable table of 256 entries, or one that is filled: the plain call's answer and image
  pub as_plain_lem : length t ≡ 256 → is_usable t || fills c ≡ true → without_table (through g s t c) ≡ outcome g c s
  unfolding without_table through with_table outcome
  as_plain_lem n u = ap (λ (p : Plan). carry_out p (allowance c) s) (plan_as n u)

  stale_refuses : (k : ℕ) → 2 ≤ number (carry_out (in_settled g s λ v. refuses StaleTable) k s).answer
  unfolding number
  stale_refuses k = in_settled_lem (λ (p : Plan). 2 ≤ number (carry_out p k s).answer) (λ a h. unfold carry_out in h) g s (λ v. refuses StaleTable) (λ e z. unfold carry_out in omega arith)

  -- what is not refused was taken
  pub taken : number (through g s t c).answer ≤ 1 → (length t ≡ 256) × (is_usable t || fills c ≡ true)
  unfolding through with_table plan_through of_length refuse carry_out number
  taken l = go (eqb (length t) 256) (is_usable t || fills c) refl refl l
    where
      go : (a b : Bool) → eqb (length t) 256 ≡ a → is_usable t || fills c ≡ b → number (carry_out (refuse (not a) BadGeometry (cond b (plan g s c) (in_settled g s λ v. refuses StaleTable))) (allowance c) s).answer ≤ 1
          → (length t ≡ 256) × (is_usable t || fills c ≡ true)
      go true true p q l = (eq_of (length t) 256 p, q)
      go true false p q l = absurd (let w : ⊥ = omega (arith, stale_refuses (allowance c), l) in w)
      go false b p q l = absurd (let w : ⊥ = omega arith in w)

  -- a stop marks
  pub stopped_table : number (through g s t c).answer ≡ 1 → (through g s t c).table ≡ set t 0 mark
  unfolding through with_table
  stopped_table z = after_stopped (through g s t c).answer (table_done g c s (through g s t c).image t) t z

  -- a refusal changes no byte, makes no step and gives no content
  pub refused_untouched : 2 ≤ number (through g s t c).answer → Untouched s (without_table (through g s t c))
  unfolding without_table through with_table plan_through of_length refuse
  refused_untouched l = go (eqb (length t) 256) (is_usable t || fills c) l
    where
      go : (a b : Bool) → 2 ≤ number (carry_out (refuse (not a) BadGeometry (cond b (plan g s c) (in_settled g s λ v. refuses StaleTable))) (allowance c) s).answer
          → Untouched s (carry_out (refuse (not a) BadGeometry (cond b (plan g s c) (in_settled g s λ v. refuses StaleTable))) (allowance c) s)
      go true true l = unfold outcome in call_refused g c s l
      go true false l = in_settled_lem (λ (p : Plan). Untouched s (carry_out p (allowance c) s)) (λ a h. refused_is a (allowance c) s h) g s (λ v. refuses StaleTable) (λ e z. refused_is StaleTable (allowance c) s (unfold number in omega arith))
      go false b l = refused_is BadGeometry (allowance c) s (unfold number in omega arith)
