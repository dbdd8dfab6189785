-- What `witness_table` computes of the read table are theorems of Promises.antt, each for one history: what makes one of them false makes its theorem false.
use Rattle.std.specs.Prelude.{Bool, ◌&&◌, List, [], ◌∷◌, ◌≡◌, ℕ, T, leb, length}
use Rattle.std.proofs.Math.Bool.{true, false, not, cond}
use Rattle.std.proofs.Math.Option.{Option, none, some}
use Rattle.std.proofs.Common.{◌∙◌, sym}
use Rattle.std.proofs.Math.Path.{ap, refl}
use Rattle.std.proofs.Math.Dec.{eqb}
use Rattle.rules.specs.Opened.{opened}
use Rattle.rules.specs.Flash.{Bytes, is_geometry}
use Rattle.rules.specs.Settled.{Entry, survey}
use Rattle.rules.specs.Sound.{standing}
use Rattle.rules.specs.Views.{committed_view}
use Rattle.rules.specs.Answers.{Outcome, carry_out, number}
use Rattle.rules.specs.Calls.{Call, begin, commit, format, in_geometry, in_settled, is_absent, is_bad_file, mount, refuse, showing, when_settled, write}
use Rattle.rules.specs.declared.Rule.TheVariants.{Tightest}
use Rattle.rules.specs.Histories.{takes_bytes}
use Rattle.rules.specs.Plain.{is_settled}
use Rattle.rules.specs.Table.{Table, fills, fresh, is_usable, of_length, through, without_table}
use Rattle.rules.specs.declared.NotDone.TheVariants.{BadFile, BadGeometry, StaleTable}
use Rattle.rules.specs.declared.Origin.TheVariants.{NotSaid}
use Rattle.rules.specs.declared.Standing.{Standing}
use Rattle.rules.specs.declared.Standing.TheVariants.{Neither, Settled, Sound}
use Rattle.theory.specs.Base.Facts.{and_l, and_r, eq_of, eqb_same, le_of, not-true, true_false}
use Rattle.theory.specs.Images.Layout.{are_bytes}
use Rattle.promises.specs.Unchanged.{settled_of}
use Rattle.witness.specs.Short.{abc, erased_image, plenty, small}
use Rattle.witness_table.specs.Table.{TableAct, FillsFresh, IsKept, IsStale, ReadsExactly, RefusalKeeps, StopMarks, ask, begun0, call, deleted, done, due, due_by, fill, halfway, history, image_from, made, same_table, tabled, table_from, zeros}
use Rattle.promises_table.specs.Words.{Beside, called, exactly, looked, refilled, unusable}
use Rattle.promises_table.specs.Kept.{as_made_lem, beside_holds}
use Rattle.promises_table.specs.Stale.{Stale}
use Rattle.promises_table.specs.Promises as promises

-- ---- calls through one table, of contents that are bytes
abbrev is_fair : TableAct → Bool
is_fair (call c) = takes_bytes c
is_fair fill = true
is_fair (ask f) = true

abbrev are_fair : List TableAct → Bool
are_fair [] = true
are_fair (a ∷ as') = elim (is_fair a) as (λ j. Bool) [ true ↦ are_fair as' | false ↦ false ]

one_more_lem : {s : Bytes} {t : Table} (a : TableAct) → is_fair a ≡ true → Beside small s t → Beside small (made s t a).image (made s t a).table
one_more_lem {s} {t} (call c) e r = called c e r (as_made_lem small s t c)
one_more_lem fill e r = refilled r
one_more_lem (ask f) e r = looked f r

beside_from : {s : Bytes} {t : Table} → Beside small s t → (as' : List TableAct) → T (are_fair as') → Beside small (image_from s t as') (table_from s t as')
beside_from r [] h = r
beside_from {s = s} {t = t} r (a ∷ as') h = go (is_fair a) refl h (λ q. beside_from {s = (made s t a).image} {t = (made s t a).table} q as')
  where
    go : (b : Bool) → is_fair a ≡ b → T (elim b as (λ j. Bool) [ true ↦ are_fair as' | false ↦ false ])
        → (Beside small (made s t a).image (made s t a).table → T (are_fair as') → Beside small (image_from s t (a ∷ as')) (table_from s t (a ∷ as'))) → Beside small (image_from s t (a ∷ as')) (table_from s t (a ∷ as'))
    go true e h f = f (one_more_lem a e r) h
    go false e h f = absurd h

zeros_unusable : is_usable zeros ≡ false
unfolding opened
zeros_unusable = refl

erased_bytes : are_bytes erased_image ≡ true
unfolding opened
erased_bytes = refl

-- a table of zeros beside an erased image, then these calls
beside : (as' : List TableAct) → T (are_fair as') → Beside small (history as') (tabled as')
beside as' h = beside_from (unusable erased_image zeros erased_bytes zeros_unusable) as' h

-- ---- each promise as `witness_table` says it
same_self : (t : Table) → same_table t t ≡ true
same_self [] = refl
same_self (x ∷ t) = λ i. (eqb_same x.state i && eqb_same x.unit i && eqb_same x.position i && eqb_same x.len i) && same_self t i

module _ (s : Bytes) (t : Table) where
  is_kept_lem : Beside small s t → IsKept s t
  is_kept_lem r = go (is_usable t) refl
    where
      go : (b : Bool) → is_usable t ≡ b → cond b (same_table t (fresh small s)) true ≡ true
      go true u = ap (same_table t) (sym (promises.kept small s t r u).1) ∙ same_self t
      go false u = refl

  exact_number : (f : ℕ) → number (carry_out (exactly small s t f) 0 s).answer ≡ due s t f
  unfolding exactly of_length in_settled in_geometry refuse when_settled showing carry_out number is_absent
  exact_number f = go (eqb (length t) 256) (is_geometry small (length s)) (standing small (survey small s)) (committed_view f (survey small s))
    where
      two : (u b : Bool) (o : Option Entry) → number (carry_out (refuse (not u) StaleTable (refuse b BadFile (showing NotSaid o))) 0 s).answer ≡ cond u (cond b 5 (cond (is_absent o) 9 0)) 12
      two false b o = refl
      two true true o = refl
      two true false none = refl
      two true false (some e) = refl

      go : (n l : Bool) (d : Standing) (o : Option Entry)
          → number (carry_out (refuse (not n) BadGeometry (refuse (not l) BadGeometry (when_settled d (refuse (not (is_usable t)) StaleTable (refuse (is_bad_file f) BadFile (showing NotSaid o)))))) 0 s).answer
          ≡ cond n (cond l (due_by d t f o) 2) 2
      go false l d o = refl
      go true false d o = refl
      go true true Neither o = refl
      go true true Sound o = refl
      go true true Settled o = two (is_usable t) (is_bad_file f) o

  reads_exactly : Beside small s t → (f : ℕ) → ReadsExactly s t f
  unfolding without_table
  reads_exactly r f = ap (λ (n : ℕ). eqb n (due s t f)) (ap (λ (o : Outcome). number o.answer) (promises.reads_exactly small s t r f) ∙ exact_number f) ∙ eqb_same (due s t f)

  module _ (c : Call) where
    fills_fresh : are_bytes s ≡ true → takes_bytes c ≡ true → fills c ≡ true → FillsFresh s t c
    fills_fresh b y f = go (eqb (number (through small s t c).answer) 0) refl
      where
        go : (d : Bool) → eqb (number (through small s t c).answer) 0 ≡ d → cond d (same_table (through small s t c).table (fresh small (through small s t c).image)) true ≡ true
        go true e = ap (same_table (through small s t c).table) (sym (promises.fresh_after small s t c b y (λ n. true_false (fills c) f n) (eq_of (number (through small s t c).answer) 0 e))) ∙ same_self (through small s t c).table
        go false e = refl

    stop_marks : StopMarks s t c
    stop_marks = go (eqb (number (through small s t c).answer) 1) refl
      where
        go : (d : Bool) → eqb (number (through small s t c).answer) 1 ≡ d → cond d (not (is_usable (through small s t c).table)) true ≡ true
        go true e = ap not (promises.stop_marks small s t c (eq_of (number (through small s t c).answer) 1 e)).1
        go false e = refl

    refusal_keeps : RefusalKeeps s t c
    refusal_keeps = go (leb 2 (number (through small s t c).answer)) refl
      where
        go : (d : Bool) → leb 2 (number (through small s t c).answer) ≡ d → cond d (same_table (through small s t c).table t) true ≡ true
        go true e = ap (λ (x : Table). same_table x t) (promises.refusal_keeps small s t c (le_of 2 (number (through small s t c).answer) e)).1 ∙ same_self t
        go false e = refl

    asked : Bool
    asked = eqb (length t) 256 && is_geometry small (length s) && is_settled (standing small (survey small s)) && not (is_usable t) && not (fills c)

    is_stale : IsStale s t c
    unfolding asked is_settled
    is_stale = go (eqb (number (through small s t c).answer) 12) asked refl refl
      where
        due' : asked ≡ true → number (through small s t c).answer ≡ 12
        due' h =
            let n = not-true (fills c) (and_r (eqb (length t) 256 && is_geometry small (length s) && is_settled (standing small (survey small s)) && not (is_usable t)) (not (fills c)) h) in
            let h4 = and_l (eqb (length t) 256 && is_geometry small (length s) && is_settled (standing small (survey small s)) && not (is_usable t)) (not (fills c)) h in
            let u = not-true (is_usable t) (and_r (eqb (length t) 256 && is_geometry small (length s) && is_settled (standing small (survey small s))) (not (is_usable t)) h4) in
            let h3 = and_l (eqb (length t) 256 && is_geometry small (length s) && is_settled (standing small (survey small s))) (not (is_usable t)) h4 in
            let st = settled_of (standing small (survey small s)) (and_r (eqb (length t) 256 && is_geometry small (length s)) (is_settled (standing small (survey small s))) h3) in
            let h2 = and_l (eqb (length t) 256 && is_geometry small (length s)) (is_settled (standing small (survey small s))) h3 in
            (promises.stale_exactly small s t c).1 (record { long = eq_of (length t) 256 (and_l (eqb (length t) 256) (is_geometry small (length s)) h2); legal = and_r (eqb (length t) 256) (is_geometry small (length s)) h2; settled = st; unusable = u; asks = n })

        all_five : Stale small s t c → asked ≡ true
        all_five k = λ i. eqb (k.long i) 256 && k.legal i && is_settled (k.settled i) && not (k.unusable i) && not (k.asks i)

        go : (x y : Bool) → eqb (number (through small s t c).answer) 12 ≡ x → asked ≡ y → eqb (cond x 1 0) (cond y 1 0) ≡ true
        go true true p q = refl
        go false false p q = refl
        go true false p q = true_false asked (all_five ((promises.stale_exactly small s t c).0 (eq_of (number (through small s t c).answer) 12 p))) q
        go false true p q = true_false (eqb (number (through small s t c).answer) 12) (ap (λ (n : ℕ). eqb n 12) (due' q)) p

-- ---- the rows
deleted_fair : T (are_fair deleted)
unfolding opened
deleted_fair = tt

halfway_fair : T (are_fair halfway)
unfolding opened
halfway_fair = tt

written_fair : (f : ℕ) → T (are_fair (done (call (write Tightest f [] plenty) ∷ call (commit plenty) ∷ []))) × T (are_fair (done (call (write Tightest f abc plenty) ∷ fill ∷ [])))
unfolding opened
written_fair f = (tt, tt)

committed_fair : T (are_fair (done (call (write Tightest 7 abc plenty) ∷ call (commit plenty) ∷ [])))
unfolding opened
committed_fair = tt

mount_fills : (takes_bytes (mount 0) ≡ true) × (fills (mount 0) ≡ true)
unfolding opened
mount_fills = (refl, refl)

begun_bytes : are_bytes (history begun0) ≡ true
unfolding opened
begun_bytes = refl

pub deleted_kept : IsKept (history deleted) (tabled deleted)
deleted_kept = is_kept_lem (history deleted) (tabled deleted) (beside deleted deleted_fair)

pub empty_read : ReadsExactly (history (done (call (write Tightest 9 [] plenty) ∷ call (commit plenty) ∷ []))) (tabled (done (call (write Tightest 9 [] plenty) ∷ call (commit plenty) ∷ []))) 9
empty_read = reads_exactly _ _ (beside (done (call (write Tightest 9 [] plenty) ∷ call (commit plenty) ∷ [])) (written_fair 9).0) 9

pub pending_read : ReadsExactly (history (done (call (write Tightest 7 abc plenty) ∷ fill ∷ []))) (tabled (done (call (write Tightest 7 abc plenty) ∷ fill ∷ []))) 7
pending_read = reads_exactly _ _ (beside (done (call (write Tightest 7 abc plenty) ∷ fill ∷ [])) (written_fair 7).1) 7

pub halfway_kept : IsKept (history halfway) (tabled halfway)
halfway_kept = is_kept_lem (history halfway) (tabled halfway) (beside halfway halfway_fair)

pub halfway_read : ReadsExactly (history halfway) (tabled halfway) 7
halfway_read = reads_exactly (history halfway) (tabled halfway) (beside halfway halfway_fair) 7

pub halfway_stale : IsStale (history halfway) (tabled halfway) (begin Tightest plenty)
halfway_stale = is_stale (history halfway) (tabled halfway) (begin Tightest plenty)

pub stop_at_0 : StopMarks (history (call (format plenty) ∷ [])) (tabled (call (format plenty) ∷ [])) (begin Tightest 0)
stop_at_0 = stop_marks (history (call (format plenty) ∷ [])) (tabled (call (format plenty) ∷ [])) (begin Tightest 0)

pub begun_stale : IsStale (history begun0) (tabled begun0) (begin Tightest plenty)
begun_stale = is_stale (history begun0) (tabled begun0) (begin Tightest plenty)

pub mounted_fresh : FillsFresh (history begun0) (tabled begun0) (mount 0)
mounted_fresh = fills_fresh (history begun0) (tabled begun0) (mount 0) begun_bytes mount_fills.0 mount_fills.1

pub refused_keeps : RefusalKeeps (history (call (format plenty) ∷ [])) (tabled (call (format plenty) ∷ [])) (commit plenty)
refused_keeps = refusal_keeps (history (call (format plenty) ∷ [])) (tabled (call (format plenty) ∷ [])) (commit plenty)

zeros_beside : Beside small (history (done (call (write Tightest 7 abc plenty) ∷ call (commit plenty) ∷ []))) zeros
zeros_beside = unusable (history (done (call (write Tightest 7 abc plenty) ∷ call (commit plenty) ∷ []))) zeros (beside_holds small (beside (done (call (write Tightest 7 abc plenty) ∷ call (commit plenty) ∷ [])) committed_fair)).bytes zeros_unusable

pub zeros_read : ReadsExactly (history (done (call (write Tightest 7 abc plenty) ∷ call (commit plenty) ∷ []))) zeros 7
zeros_read = reads_exactly (history (done (call (write Tightest 7 abc plenty) ∷ call (commit plenty) ∷ []))) zeros zeros_beside 7
