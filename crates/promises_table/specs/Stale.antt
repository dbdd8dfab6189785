-- Where 12 is given; which entries a commit touches; the read beside its own image, as the plain read.
use Rattle.std.specs.Prelude.{◌≡◌, ◌≢◌, Bool, not, cond, ◌||◌, List, [], ◌∷◌, ℕ, zero, suc, ◌≤◌, eqb, get_or, length, set, None, Some, Err}
use Rattle.std.proofs.Math.Path.{refl, ap}
use Rattle.std.proofs.Common.{sym, ◌∙◌}
use Rattle.std.proofs.Math.Bool.{true, false}
use Rattle.std.proofs.Math.Option.{Option, none, some}
use native.Mathlib.Omega.{arith}
use Rattle.rules.specs.Flash.{Bytes, State, is_geometry, run, state}
use Rattle.rules.specs.Jobs.{store_job}
use Rattle.rules.specs.Lists.{filter}
use Rattle.rules.specs.Unit.{file_of, is_pending_file}
use Rattle.rules.specs.Settled.{Entry, Survey, of_file, select, survey}
use Rattle.rules.specs.Sound.{standing}
use Rattle.rules.specs.Views.{committed_view, unless_mark}
use Rattle.rules.specs.Answers.{Outcome, Plan, carry_out, ended, number, refuses}
use Rattle.rules.specs.Calls.{Call, abort, allowance, begin, commit, delete, format, in_geometry, in_settled, is_bad_file, mount, outcome, plan, read, read_at, read_open, refuse, showing, showing_at, storing, when_settled, write}
use Rattle.rules.specs.Table.{Table, entry_of, fills, is_usable, mended, mends, of_length, plan_through, table_done, through, with_table, without_table}
use Rattle.laws.specs.Calls.{format_numbers, mount_numbers}
use Rattle.laws.specs.Plans.{settled_cases, store_cases}
use Rattle.rules.specs.declared.NotDone.{NotDone}
use Rattle.rules.specs.declared.NotDone.TheVariants.{Absent, BadFile, BadGeometry, NoTransaction, Open, StaleTable, TooLong}
use Rattle.rules.specs.declared.Geometry.{Geometry}
use Rattle.rules.specs.declared.Handle.{Handle}
use Rattle.rules.specs.declared.Rule.{Rule}
use Rattle.rules.specs.declared.Origin.{Origin}
use Rattle.rules.specs.declared.Origin.TheVariants.{NotSaid}
use Rattle.rules.specs.declared.TableEntry.{TableEntry}
use Rattle.rules.specs.declared.Standing.{Standing}
use Rattle.rules.specs.declared.Standing.TheVariants.{Neither, Settled, Sound}
use Rattle.theory.specs.Base.Facts.{eq_of, eqb_same, true_false}
use Rattle.promises_table.specs.Words.{exactly}
use Rattle.promises_table.specs.Through.{after_done}

-- ---- no plain call answers 12
module _ (k : ℕ) (s : Bytes) where
  Low : Plan → Type 0
  Low p = number (carry_out p k s).answer ≤ 11

  low_ended : (h : Handle) (r : State) → number (ended h k r).answer ≤ 11
  unfolding ended number
  low_ended h (state t (Some j)) = omega arith
  low_ended h (state t None) = omega arith

  low_refuse : (b : Bool) (a : NotDone) (p : Plan) → number (Err a) ≤ 11 → Low p → Low (refuse b a p)
  unfolding Low refuse carry_out
  low_refuse true a p l h = l
  low_refuse false a p l h = h

  low_storing : (g : Geometry) (q : Rule) (tag : ℕ) (c : Bytes) (earlier : Survey → List Entry) (v : Survey) → Low (storing (store_job g q tag c earlier s v))
  unfolding Low carry_out number
  low_storing g q tag c earlier v = store_cases Low g q tag c earlier s v (omega arith) (λ r e. low_ended r.at (run r.job (state s (Some k))))

  low_showing : (w : Origin) (o : Option Entry) → Low (showing w o)
  unfolding Low showing carry_out number
  low_showing w none = omega arith
  low_showing w (some e) = omega arith

  low_at : (o : Option Entry) → Low (showing_at o)
  unfolding Low showing_at carry_out number
  low_at none = omega arith
  low_at (some e) = omega arith

  low_settled : (g : Geometry) (f : Survey → Plan) → Low (f (survey g s)) → Low (in_settled g s f)
  unfolding in_settled in_geometry number Low carry_out
  low_settled g f h =
      low_refuse (not (is_geometry g (length s))) BadGeometry (when_settled (standing g (survey g s)) (f (survey g s))) (omega arith)
      (settled_cases Low (standing g (survey g s)) (f (survey g s)) (omega arith) (omega arith) (λ e. h))

pub plain_low : (g : Geometry) (s : Bytes) (c : Call) → number (outcome g c s).answer ≤ 11
unfolding outcome plan allowance Low carry_out number
plain_low g s (format k) = omega (arith, format_numbers g k s)
plain_low g s (mount k) = omega (arith, mount_numbers g k s)
plain_low g s (begin q k) = low_settled k s g _ (low_refuse k s _ Open _ (omega arith) (low_storing k s g q _ _ _ _))
plain_low g s (commit k) = low_settled k s g _ (low_refuse k s _ NoTransaction _ (omega arith) (low_ended k s _ _))
plain_low g s (abort k) = low_settled k s g _ (low_refuse k s _ NoTransaction _ (omega arith) (low_ended k s _ _))
plain_low g s (write q f c k) = low_settled k s g _ (low_refuse k s _ BadFile _ (omega arith) (low_refuse k s _ TooLong _ (omega arith) (low_refuse k s _ NoTransaction _ (omega arith) (low_storing k s g q _ _ _ _))))
plain_low g s (delete q f k) = low_settled k s g _ (low_refuse k s _ BadFile _ (omega arith) (low_refuse k s _ NoTransaction _ (omega arith) (low_refuse k s _ (Absent _) _ (omega arith) (low_storing k s g q _ _ _ _))))
plain_low g s (read f) = low_settled 0 s g _ (low_refuse 0 s _ BadFile _ (omega arith) (low_showing 0 s _ _))
plain_low g s (read_open f) = low_settled 0 s g _ (low_refuse 0 s _ BadFile _ (omega arith) (low_refuse 0 s _ NoTransaction _ (omega arith) (low_showing 0 s _ _)))
plain_low g s (read_at L p) = low_settled 0 s g _ (low_at 0 s _)

-- ---- 12 exactly where the table is unusable, the call does not fill it, and 2, 3 and 4 are not due
module _ (g : Geometry) (s : Bytes) (t : Table) (c : Call) where
  pub record Stale : Type 0 where
    pub long : length t ≡ 256
    pub legal : is_geometry g (length s) ≡ true
    pub settled : standing g (survey g s) ≡ Settled
    pub unusable : is_usable t ≡ false
    pub asks : fills c ≡ false

  Out : Bool → Bool → Bool → Bool → Standing → Outcome
  Out n u f l d = carry_out (refuse (not n) BadGeometry (cond (u || f) (plan g s c) (refuse (not l) BadGeometry (when_settled d (refuses StaleTable))))) (allowance c) s

  is_out : without_table (through g s t c) ≡ Out (eqb (length t) 256) (is_usable t) (fills c) (is_geometry g (length s)) (standing g (survey g s))
  unfolding Out without_table through with_table plan_through of_length in_settled in_geometry
  is_out = refl

  pub stale_when : Stale → number (through g s t c).answer ≡ 12
  unfolding Out without_table refuse when_settled carry_out number
  stale_when h = ap (λ (o : Outcome). number o.answer) (is_out ∙ (λ i. Out (eqb (h.long i) 256) (h.unusable i) (h.asks i) (h.legal i) (h.settled i)))

  pub when_stale : number (through g s t c).answer ≡ 12 → Stale
  unfolding Out without_table refuse when_settled carry_out number
  when_stale z = go (eqb (length t) 256) (is_usable t) (fills c) (is_geometry g (length s)) (standing g (survey g s)) refl refl refl refl refl (ap (λ (o : Outcome). number o.answer) (sym is_out) ∙ z)
    where
      low : number (carry_out (plan g s c) (allowance c) s).answer ≤ 11
      low = unfold outcome in plain_low g s c

      go : (n u f l : Bool) (d : Standing) → eqb (length t) 256 ≡ n → is_usable t ≡ u → fills c ≡ f → is_geometry g (length s) ≡ l → standing g (survey g s) ≡ d → number (Out n u f l d).answer ≡ 12 → Stale
      go true false false true Settled p q r a b z = record { long = eq_of (length t) 256 p; legal = a; settled = b; unusable = q; asks = r }
      go true false false true Sound p q r a b z = absurd (let w : ⊥ = omega arith in w)
      go true false false true Neither p q r a b z = absurd (let w : ⊥ = omega arith in w)
      go true false false false d p q r a b z = absurd (let w : ⊥ = omega arith in w)
      go true false true l d p q r a b z = absurd (let w : ⊥ = omega (arith, z, low) in w)
      go true true f l d p q r a b z = absurd (let w : ⊥ = omega (arith, z, low) in w)
      go false u f l d p q r a b z = absurd (let w : ⊥ = omega arith in w)

-- ---- a commit touches the entries of what is pending alone
set_other : (t : Table) (i j : ℕ) (x y : TableEntry) → i ≢ j → get_or (set t i y) j x ≡ get_or t j x
set_other [] i j x y n = refl
set_other (z ∷ t) zero zero x y n = absurd (n refl)
set_other (z ∷ t) zero (suc j) x y n = refl
set_other (z ∷ t) (suc i) zero x y n = refl
set_other (z ∷ t) (suc i) (suc j) x y n = set_other t i j x y (λ e. n (ap suc e))

mended_other : (es : List Entry) (t : Table) (f : ℕ) (x : TableEntry) → filter (of_file f) es ≡ [] → get_or (mended es t) f x ≡ get_or t f x
unfolding mended filter of_file
mended_other [] t f x e = refl
mended_other (d ∷ es) t f x e = go (eqb (file_of d.descriptor) f) refl e (mended_other es (set t (file_of d.descriptor) (entry_of (unless_mark d))) f x)
  where
    go : (b : Bool) → eqb (file_of d.descriptor) f ≡ b → cond b (d ∷ filter (of_file f) es) (filter (of_file f) es) ≡ []
        → (filter (of_file f) es ≡ [] → get_or (mended es (set t (file_of d.descriptor) (entry_of (unless_mark d)))) f x ≡ get_or (set t (file_of d.descriptor) (entry_of (unless_mark d))) f x)
        → get_or (mended es (set t (file_of d.descriptor) (entry_of (unless_mark d)))) f x ≡ get_or t f x
    go true q e r = absurd (let z : ◌≡◌ {A = ℕ} 0 1 = cc in let w : ⊥ = omega arith in w)
    go false q e r = r e ∙ set_other t (file_of d.descriptor) f x (entry_of (unless_mark d)) (λ e. true_false (eqb (file_of d.descriptor) f) (ap (eqb (file_of d.descriptor)) (sym e) ∙ eqb_same (file_of d.descriptor)) q)

pub commit_touches : (g : Geometry) (s : Bytes) (t : Table) (k : ℕ) → number (through g s t (commit k)).answer ≡ 0 → (f : ℕ) → filter (of_file f) (select is_pending_file (survey g s)) ≡ []
    → (x : TableEntry) → get_or (through g s t (commit k)).table f x ≡ get_or t f x
unfolding through with_table table_done fills mends
commit_touches g s t k z f e x =
    ap (λ (y : Table). get_or y f x) (after_done (through g s t (commit k)).answer (mended (select is_pending_file (survey g s)) t) t z) ∙ mended_other (select is_pending_file (survey g s)) t f x e

-- ---- with a usable table of 256 entries, the exact read is the plain read
pub exactly_plain : (g : Geometry) (s : Bytes) (t : Table) (f : ℕ) → length t ≡ 256 → is_usable t ≡ true → exactly g s t f ≡ plan g s (read f)
unfolding exactly plan of_length refuse
exactly_plain g s t f n u = λ i. cond (not (eqb (n i) 256)) (refuses BadGeometry) (in_settled g s λ v. cond (not (u i)) (refuses StaleTable) (refuse (is_bad_file f) BadFile (showing NotSaid (committed_view f v))))
