-- What the calls that fill a table or mend it report, and what they lay into it.
use Rattle.std.specs.Prelude.{◌≡◌, Bool, true, false, ◌||◌, ℕ, ◌-◌, ◌≤◌, ◌<◌, eqb, length, get_or, Ok, Some, Result, Err}
use Rattle.std.proofs.Math.Path.{refl, sym, ap}
use Rattle.std.proofs.Common.{subst, ◌∙◌, arith}
use Rattle.std.proofs.Math.Seq.{take-length}
use Rattle.std.proofs.Math.Bool.{not, cond}
use mathlib.Core.List.{List, []}
use borrow.Author.Tests.{eq-eqb, eqb-true, eqb-false}
use Rattle.rules.specs.Flash.{Bytes, is_geometry, state, run, Run}
use Rattle.rules.specs.Unit.{is_pending_file}
use Rattle.rules.specs.Settled.{Entry, survey, pick, select}
use Rattle.rules.specs.Sound.{standing}
use Rattle.rules.specs.Jobs.{commit_job}
use Rattle.rules.specs.Answers.{Plan, refuses, makes, origin, number, ended, carry_out, Answer}
use Rattle.rules.specs.Calls.{Call, commit, refuse, when_settled, in_geometry, in_settled}
use Rattle.rules.specs.Table.{Table, fills, mends, mended, fresh, table_done}
use Rattle.laws.specs.Lists.{Every, every_filter}
use Rattle.rules.specs.declared.Geometry.{Geometry}
use Rattle.rules.specs.declared.Origin.TheVariants.{NotSaid}
use Rattle.rules.specs.declared.TableEntry.{TableEntry}
use Rattle.rules.specs.declared.Standing.{Standing}
use Rattle.rules.specs.declared.Standing.TheVariants.{Settled, Sound, Neither}
use Rattle.rules.specs.declared.NotDone.{NotDone}
use Rattle.rules.specs.declared.NotDone.TheVariants.{BadGeometry, NoTransaction, StaleTable}
use Rattle.laws.specs.Units.{right_geometry}
use Rattle.unit.specs.Spots.{places}
use Rattle.index.specs.Shapes.{EachEntry, end, and, Stood}
use Rattle.index.specs.Views.{select_stood}
use Rattle.c_report.specs.Exported.{exported}
use Rattle.c_report.specs.declared.Report.{Report}
use Rattle.c_store.specs.Reports.{Reports}
use Rattle.judge.specs.declared.Look.{Look}
use Rattle.call_look.specs.Guards.{Guarded, refuse_true, refuse_false}
use Rattle.call_look.specs.Known.{Known, settled_known, known_plan}
use Rattle.call_look.specs.Looks.{Settles}
use Rattle.home_table.specs.Places.{places_of, housed}
use Rattle.call_answer.specs.Laws.{MeetsCall}
use Rattle.step_mount.specs.Mounting.{not_housed}
use Rattle.theory.specs.Images.Stand.{not_neither}
use Rattle.table_entries.specs.Says.{MakesBy, usable_by, usable, makes_length, makes_plain, refusal, stale_plan, stale_report, stale_refused}
use Rattle.table_entries.specs.Puts.{laid_in, put_in, put_for, put_says, laid_mended}
use Rattle.table_renew.specs.Lists.{CurrentListed}
use Rattle.table_renew.specs.Fresh.{numbered, absent, everywhere, cleared, fresh_laid}
use Rattle.table_renew.specs.Keeps.{commit_alike}
use Rattle.table_renew.specs.declared.FillCall.{FillCall}
use Rattle.table_renew.specs.declared.FillCall.TheVariants.{Format, Mount}
use Rattle.table_renew.specs.Settles.{Fresh, fill_call, fill_settles}

-- What a call reports, and the places, in order, of which what they tell is laid into the table.
pub record Renewed : Type 0 where
  pub report : Report
  pub places : List ℕ

abbrev pub renewed : Report → List ℕ → Renewed
renewed r ps = record { report = r; places = ps }

abbrev pub none_laid : Report → Renewed
none_laid r = renewed r []

-- A commit's report and image, and what is laid into any table of n entries: all of it where it is DONE, nothing where it is not.
pub record Renews (g : Geometry) (c : Call) (n : ℕ) (x : TableEntry) (s : Bytes) (r : Renewed) (u : Bytes) : Type 0 where
  pub makes : MakesBy g c n x s r.report u
  pub few : length r.places < 258
  pub table : (t : Table) → length t ≡ n → laid_in g.size u r.places (length r.places) t ≡ cond (eqb r.report.number 0) (table_done g c s u t) t

-- What is laid from a settled image, into a table that has no file anywhere.
pub record Lays (g : Geometry) (s : Bytes) (r : Report) (w : Renewed) : Type 0 where
  pub report : w.report ≡ r
  pub few : length w.places < 258
  pub table : (t : Table) → length t ≡ 256 → laid_in g.size s w.places (length w.places) (everywhere absent t) ≡ fresh g s

pub lays : (g : Geometry) (s : Bytes) (r : Report) (ps : List ℕ) → CurrentListed g s ps → Lays g s r (record { report = r; places = ps })
lays g s r ps l =
    let few = l.few in
    record { report = refl; few = omega arith; table = λ t long. fresh_laid g s l.right l.settled l.stood (length ps) ps (omega arith) (take-length ps ∙ l.places) t long }

-- What is laid after a format or a mount with the report r: the table filled afresh where it is DONE, else nothing.
pub record LaysIf (g : Geometry) (s : Bytes) (r : Report) (w : Renewed) : Type 0 where
  pub few : length w.places < 258
  pub table : (t : Table) → (r.number ≡ 0 → length t ≡ 256) → laid_in g.size s w.places (length w.places) (cleared r.number t) ≡ cond (eqb r.number 0) (fresh g s) t

none_laid_lem : (size : ℕ) (u : Bytes) (ps : List ℕ) (t : Table) → laid_in size u ps 0 t ≡ t
unfolding laid_in
none_laid_lem size u ps t = refl

-- ---- a call that is not DONE lays nothing
pub renews_none : (g : Geometry) (c : Call) (n : ℕ) (x : TableEntry) (s u : Bytes) (r : Report) (w : Renewed) → w ≡ none_laid r → eqb r.number 0 ≡ false → MakesBy g c n x s r u → Renews g c n x s w u
renews_none g c n x s u r w same e m =
    rw same (record { makes = m; few = omega arith; table = λ t l. none_laid_lem g.size u [] t ∙ sym (ap (λ (b : Bool). cond b (table_done g c s u t) t) e) })

-- ---- numbers and reports
pub not_done : (a : NotDone) (r : Report) → r ≡ refusal a → eqb (number (Err a)) 0 ≡ false → eqb r.number 0 ≡ false
unfolding refusal exported
not_done a r e z = ap (λ (x : Report). eqb x.number 0) e ∙ z

pub stale_not_done : (g : Geometry) (s : Bytes) (r : Report) → r ≡ stale_report g s → eqb r.number 0 ≡ false
unfolding stale_report stale_plan exported number carry_out in_settled in_geometry refuse when_settled
stale_not_done g s r e = ap (λ (x : Report). eqb x.number 0) e ∙ go (not (is_geometry g (length s))) (standing g (survey g s))
  where
    go : (b : Bool) (q : Standing) → eqb (number (carry_out (cond b (refuses BadGeometry) (when_settled q (refuses StaleTable))) 0 s).answer) 0 ≡ false
    go true q = refl
    go false Settled = refl
    go false Sound = refl
    go false Neither = refl

pub guard_not_done : {g : Geometry} {s : Bytes} {r : Result Look NotDone} → Settles g s r → (a : NotDone) → r ≡ Err a → eqb (number (Err a)) 0 ≡ false
unfolding refusal exported
guard_not_done {g} {s} t a e = stale_not_done g s (refusal a) (stale_refused t a e)

pub bad_geometry_not_done : eqb (number (Err BadGeometry)) 0 ≡ false
unfolding number
bad_geometry_not_done = refl

pub no_transaction_not_done : eqb (number (Err NoTransaction)) 0 ≡ false
unfolding number
no_transaction_not_done = refl

-- ---- what is laid where a call is DONE, and where it is not
pub lays_none : (g : Geometry) (s : Bytes) (r : Report) (w : Renewed) → w ≡ none_laid r → eqb r.number 0 ≡ false → LaysIf g s r w
lays_none g s r w same e =
    rw same (record { few = omega arith; table = λ t h. none_laid_lem g.size s [] (cleared r.number t) ∙ ap (λ (b : Bool). cond b (everywhere absent t) t) e ∙ sym (ap (λ (b : Bool). cond b (fresh g s) t) e) })

pub lays_done : (g h : Geometry) → h ≡ g → (s : Bytes) (r : Report) (w : Renewed) → r.number ≡ 0 → Lays h s r w → LaysIf g s r w
lays_done g h same s r w z l =
    let m = subst (λ (x : Geometry). Lays x s r w) same l in
    let e : eqb r.number 0 ≡ true = eq-eqb r.number 0 z in
    record {
      few = m.few;
      table = λ t long. ap (λ (b : Bool). laid_in g.size s w.places (length w.places) (cond b (everywhere absent t) t)) e ∙ m.table t (long z) ∙ sym (ap (λ (b : Bool). cond b (fresh g s) t) e);
    }

-- ---- format and mount
-- A call's report and image through a table of n entries, whatever the first of them; DONE, the image is settled and the table has 256.
pub record Refills (g : Geometry) (c : Call) (n : ℕ) (s : Bytes) (r : Report) (u : Bytes) : Type 0 where
  pub makes : (x : TableEntry) → MakesBy g c n x s r u
  pub settled : r.number ≡ 0 → Fresh g u
  pub long : r.number ≡ 0 → n ≡ 256

pub fill_fills : (c : FillCall) (k : ℕ) → fills (fill_call c k) ≡ true
unfolding fill_call fills
fill_fills Format k = refl
fill_fills Mount k = refl

pub fill_usable : (x : TableEntry) (c : FillCall) (k : ℕ) → (usable_by x || fills (fill_call c k)) ≡ true
fill_usable x c k = rw (fill_fills c k) (go (usable_by x))
  where
    go : (b : Bool) → (b || true) ≡ true
    go true = refl
    go false = refl

pub refills_length : (g : Geometry) (c : FillCall) (k n : ℕ) (s : Bytes) → eqb n 256 ≡ false → (r : Report) → r ≡ refusal BadGeometry → Refills g (fill_call c k) n s r s
refills_length g c k n s e r q =
    let z : eqb r.number 0 ≡ false = not_done BadGeometry r q bad_geometry_not_done in
    record { makes = λ x. makes_length g (fill_call c k) n x s e r q; settled = λ h. absurd (eqb-false r.number 0 z h); long = λ h. absurd (eqb-false r.number 0 z h) }

pub refills_plain : (g : Geometry) (c : FillCall) (k n : ℕ) (s u : Bytes) (r : Report) → n ≡ 256 → Reports g (fill_call c k) s r u → (r.number ≡ 0 → Fresh g u) → Refills g (fill_call c k) n s r u
refills_plain g c k n s u r e m f =
    record { makes = λ x. makes_plain g (fill_call c k) n x s (eq-eqb n 256 e) (fill_usable x c k) r u m; settled = f; long = λ z. e }

-- ---- commit
-- What a commit of a settled image reports, and what it lays into any table.
pub record Mends (g : Geometry) (k : ℕ) (s : Bytes) (w : Renewed) (u : Bytes) : Type 0 where
  pub reports : Reports g (commit k) s w.report u
  pub few : length w.places < 258
  pub table : (t : Table) → laid_in g.size u w.places (length w.places) t ≡ cond (eqb w.report.number 0) (mended (select is_pending_file (survey g s)) t) t

pub mends_none : (g : Geometry) (k : ℕ) (s u : Bytes) (r : Report) (w : Renewed) → w ≡ none_laid r → eqb r.number 0 ≡ false → Reports g (commit k) s r u → Mends g k s w u
mends_none g k s u r w same e m =
    rw same (record { reports = m; few = omega arith; table = λ t. none_laid_lem g.size u [] t ∙ sym (ap (λ (b : Bool). cond b (mended (select is_pending_file (survey g s)) t) t) e) })

module _ (g : Geometry) (s : Bytes) (right : is_geometry g (length s) ≡ true) (stood : EachEntry (Stood g s) (survey g s).entries) (k : ℕ) (u : Bytes) (q : Run) (ran : state u q ≡ run (commit_job (survey g s)) (state s (Some k))) (long : length u ≡ length s) where
  each_put : {es : List Entry} → EachEntry (Stood g s) es → Every (λ (e : Entry). e.at.unit < g.units - 1) es → EachEntry (λ (e : Entry). (i : ℕ) → put_in g.size u i e.place ≡ put_for e) es
  each_put end h = end
  each_put (and {e} at more) h =
      let o = right_geometry g s right in
      let small : e.at.unit < 256 = omega (arith, h.0, o.few) in
      and (put_says g s u o e at small (commit_alike g s o stood k u q ran long e at)) (each_put more h.1)

  pending_put : EachEntry (λ (e : Entry). (i : ℕ) → put_in g.size u i e.place ≡ put_for e) (select is_pending_file (survey g s))
  unfolding select pick
  pending_put = each_put (select_stood g s stood is_pending_file) (every_filter (λ (e : Entry). e.at.unit < g.units - 1) (λ (e : Entry). is_pending_file e.descriptor) (survey g s).entries (numbered g s))

  pub mends_made : (ps left : List ℕ) (r : Report) → length ps ≤ 257 → ps ≡ places (select is_pending_file (survey g s)) → left ≡ cond (eqb r.number 0) ps [] → Reports g (commit k) s r u
      → Mends g k s (record { report = r; places = left }) u
  mends_made ps left r few e c h = rw c (go (eqb r.number 0) refl)
    where
      go : (b : Bool) → eqb r.number 0 ≡ b → Mends g k s (record { report = r; places = cond b ps [] }) u
      go true z =
          record {
            reports = h;
            few = omega arith;
            table = λ t. laid_mended g.size u ps (length ps) (select is_pending_file (survey g s)) t (omega arith) (take-length ps ∙ e) pending_put ∙ sym (ap (λ (y : Bool). cond y (mended (select is_pending_file (survey g s)) t) t) z);
          }
      go false z =
          record {
            reports = h;
            few = omega arith;
            table = λ t. none_laid_lem g.size u [] t ∙ sym (ap (λ (y : Bool). cond y (mended (select is_pending_file (survey g s)) t) t) z);
          }

pub renews_mended : (g : Geometry) (k n : ℕ) (x : TableEntry) (s u : Bytes) (w : Renewed) → eqb n 256 ≡ true → usable_by x ≡ true → Mends g k s w u → Renews g (commit k) n x s w u
unfolding table_done fills mends
renews_mended g k n x s u w e b m =
    record { makes = makes_plain g (commit k) n x s e (usable x (commit k) b) w.report u m.reports; few = m.few; table = λ t l. m.table t }

-- ---- fill
pub record Fills (g : Geometry) (n : ℕ) (s : Bytes) (w : Renewed) : Type 0 where
  pub report : w.report ≡ exported (carry_out (refuse (not (eqb n 256)) BadGeometry (in_settled g s λ v. makes origin [])) 0 s).answer
  pub few : length w.places < 258
  pub table : (t : Table) → length t ≡ n → laid_in g.size s w.places (length w.places) (cleared w.report.number t) ≡ cond (eqb w.report.number 0) (fresh g s) t

pub fills_none : (g : Geometry) (n : ℕ) (s : Bytes) (a : NotDone) (r : Report) (w : Renewed) → w ≡ none_laid r → r ≡ refusal a → eqb (number (Err a)) 0 ≡ false → refuse (not (eqb n 256)) BadGeometry (in_settled g s λ v. makes origin []) ≡ refuses a → Fills g n s w
unfolding refusal
fills_none g n s a r w same q z p =
    let e : eqb r.number 0 ≡ false = ap (λ (x : Report). eqb x.number 0) q ∙ unfold exported in z in
    rw same (record {
      report = q ∙ ap exported (sym (ap (λ (y : Plan). (carry_out y 0 s).answer) p ∙ unfold carry_out in refl));
      few = omega arith;
      table = λ t l. none_laid_lem g.size s [] (cleared r.number t) ∙ ap (λ (b : Bool). cond b (everywhere absent t) t) e ∙ sym (ap (λ (b : Bool). cond b (fresh g s) t) e);
    })

-- DONE, no step made, and nothing given.
unfoldable pub finished : Answer
finished = Ok (record { steps = 0; at = origin; file = 0; start = 0; len = 0; from = NotSaid })

pub fills_all : (g : Geometry) (n : ℕ) (s : Bytes) (r : Report) (w : Renewed) → r ≡ exported finished → eqb n 256 ≡ true → in_settled g s (λ v. makes origin []) ≡ makes origin [] → Lays g s r w → Fills g n s w
fills_all g n s r w q e p l =
    let z : eqb w.report.number 0 ≡ true = ap (λ (x : Report). eqb x.number 0) (l.report ∙ q) ∙ unfold exported number finished in refl in
    let plan_is : refuse (not (eqb n 256)) BadGeometry (in_settled g s λ v. makes origin []) ≡ makes origin [] = refuse_false (not (eqb n 256)) BadGeometry _ (ap not e) ∙ p in
    record {
      report = l.report ∙ q ∙ ap exported (sym (ap (λ (y : Plan). (carry_out y 0 s).answer) plan_is ∙ unfold carry_out ended run finished in refl));
      few = l.few;
      table = λ t long.
          ap (λ (b : Bool). laid_in g.size s w.places (length w.places) (cond b (everywhere absent t) t)) z
          ∙ l.table t (long ∙ eqb-true n 256 e) ∙ sym (ap (λ (b : Bool). cond b (fresh g s) t) z);
    }

-- an answer and an image as a report
pub meets_reports : (g : Geometry) (c : Call) (s : Bytes) (a : Answer) (u : Bytes) (r : Report) → MeetsCall g c s a u → r ≡ exported a → Reports g c s r u
meets_reports g c s a u r m e = record { report = e ∙ ap exported m.0; image = m.1 }

pub refusal_is : (a : NotDone) (r : Report) → r ≡ refusal a → r ≡ exported (Err a)
unfolding refusal
refusal_is a r e = e

-- what a finished format or mount leaves
pub plain_fills : (g : Geometry) (s : Bytes) (c : FillCall) (k : ℕ) (r : Report) (u : Bytes) → Reports g (fill_call c k) s r u → ((i : ℕ) → get_or s i 0 < 256) → length u ≡ length s → r.number ≡ 0 → Fresh g u
unfolding exported
plain_fills g s c k r u h small l z = fill_settles g s c k small u h.image l (sym (ap (λ (x : Report). x.number) h.report) ∙ z)

-- the table of homes that the headers tell
pub homes_known : (g : Geometry) (s : Bytes) (home : List ℕ) → home ≡ places_of g.size g.units s → Fresh g s → Known g s home
homes_known g s home e f = rw e (settled_known g s f.right f.settled)

-- and each logical number has a home
pub fresh_housed : (g : Geometry) (s : Bytes) → Fresh g s → housed g.units (places_of g.size g.units s) (g.units - 1) 0 ≡ false → ⊥
fresh_housed g s f = not_housed g s f.right (ap not_neither f.settled)

-- ---- by what a call begins with, of a geometry h that is g
guards_of : {g h : Geometry} {s : Bytes} {r : Result Look NotDone} → h ≡ g → Settles h s r → Settles g s r
guards_of {g} {h} {s} {r} same t = subst (λ (x : Geometry). Settles x s r) same t

pub guard_reports : {g h : Geometry} {s : Bytes} {r : Result Look NotDone} → h ≡ g → Settles h s r → (c : Call) → Guarded c → (a : NotDone) → r ≡ Err a → (q : Report) → q ≡ refusal a → Reports g c s q s
guard_reports same t c k a e q z = meets_reports _ c _ (Err a) _ q ((guards_of same t).calls a e c k) (refusal_is a q z)

pub fills_length : (g : Geometry) (n : ℕ) (s : Bytes) → eqb n 256 ≡ false → (r : Report) (w : Renewed) → w ≡ none_laid r → r ≡ refusal BadGeometry → Fills g n s w
fills_length g n s e r w p q = fills_none g n s BadGeometry r w p q bad_geometry_not_done (refuse_true (not (eqb n 256)) BadGeometry (in_settled g s λ v. makes origin []) (ap not e))

module _ {g h : Geometry} (same : h ≡ g) (n : ℕ) {s : Bytes} (e : eqb n 256 ≡ true) {m : Result Look NotDone} (t : Settles h s m) where
  pub fills_refused : (a : NotDone) → m ≡ Err a → (r : Report) (w : Renewed) → w ≡ none_laid r → r ≡ refusal a → Fills g n s w
  fills_refused a d r w p q =
      fills_none g n s a r w p q (guard_not_done t a d)
      (refuse_false (not (eqb n 256)) BadGeometry (in_settled g s λ v. makes origin []) (ap not e) ∙ (guards_of same t).plans a d (λ v. makes origin []))

  pub fills_done : (look : Look) → m ≡ Ok look → (r : Report) (w : Renewed) → r ≡ exported finished → Lays h s r w → Fills g n s w
  fills_done look d r w q l = fills_all g n s r w q e (known_plan ((guards_of same t).passed look d).known (λ v. makes origin [])) (subst (λ (x : Geometry). Lays x s r w) same l)
