-- What a finished call leaves of the fresh table: by the kind of the call.
use Rattle.std.specs.Prelude.{◌≡◌, cond, ℕ, eqb}
use Rattle.std.proofs.Math.Path.{refl, sym, ap}
use Rattle.std.proofs.Common.{◌∙◌, arith}
use Rattle.std.proofs.Math.Bool.{Bool, true, false, not}
use mathlib.Core.List.{List, [], ◌∷◌}
use Rattle.std.proofs.Math.Option.{Option, none, some}
use Rattle.std.proofs.Math.ListN.{length}
use Rattle.rules.specs.Flash.{Bytes, is_geometry}
use Rattle.rules.specs.Jobs.{commit_job}
use Rattle.rules.specs.Lists.{filter, is_none}
use Rattle.rules.specs.Unit.{is_data, is_mark, is_pending_file}
use Rattle.rules.specs.Settled.{Entry, Survey, of_file, pick, select, survey}
use Rattle.rules.specs.Sound.{standing}
use Rattle.rules.specs.Views.{committed_view, unless_mark}
use Rattle.rules.specs.Answers.{Outcome, Plan, carry_out, given, makes, number, origin}
use Rattle.rules.specs.Calls.{Call, abort, begin, commit, delete, format, has_none, in_settled, mount, outcome, plan, read, read_at, read_open, refuse, when_settled, write, in_geometry, allowance}
use Rattle.rules.specs.Histories.{is_format, takes_bytes}
use Rattle.laws.specs.Homes.{pairs_few}
use Rattle.rules.specs.Table.{entry_of, fills, fresh, mended, mends}
use Rattle.rules.specs.declared.NotDone.TheVariants.{BadGeometry, NoTransaction}
use Rattle.rules.specs.declared.Geometry.{Geometry}
use Rattle.rules.specs.declared.Standing.{Standing}
use Rattle.rules.specs.declared.Standing.TheVariants.{Settled, Sound, Neither}
use Rattle.theory.specs.Base.Facts.{ltb_of, true_false}
use Rattle.theory.specs.Tidying.Sorted.{view}
use Rattle.theory.specs.Mounting.Kept.{KeptImage}
use Rattle.theory.specs.Meaning.Means.{Drafts, Keeping, Views, change_by, change_of, laid_k, laid_on}
use Rattle.theory.specs.Meaning.MeansMount.{Inv, lists_of}
use Rattle.theory.specs.Meaning.MeansEnds.{commits}
use Rattle.theory.specs.Images.Entries.{SitsIn, passed, pending_data, pending_sector}
use Rattle.theory.specs.Promised.Reads.{calm_of}
use Rattle.theory.specs.Promised.Follow.{follows, keep, when_done}
use Rattle.theory.specs.Promised.Finished.{done_settles}
use Rattle.promises.specs.After.{commit_steps}
use Rattle.promises_table.specs.Fresh.{by_pending, changes_of, entry_by, by_view, fresh_rows, fresh_same, mended_at, mended_rows, mended_by, own, own_inv, rows_same, said}

-- ---- the kinds of calls
pub data CallKind : Call → Type 0 where
  formatting : (k : ℕ) → CallKind (format k)
  mounting : (k : ℕ) → CallKind (mount k)
  committing : (k : ℕ) (p : Geometry → Bytes → Survey → Plan) → ((g : Geometry) (s : Bytes) → plan g s (commit k) ≡ in_settled g s (p g s)) → CallKind (commit k)
  staying : {c : Call} → is_format c ≡ false → fills c ≡ false → mends c ≡ false → ((g : Geometry) (o : Outcome) (b : Keeping) (f : ℕ) → (keep g c o b).files f ≡ b.files f)
      → (p : Geometry → Bytes → Survey → Plan) → ((g : Geometry) (s : Bytes) → plan g s c ≡ in_settled g s (p g s)) → CallKind c

-- a change of the transaction is none of the files
same_files : (o : Outcome) (b : Keeping) (x : Option Drafts) (f : ℕ) → (when_done o (record { files = b.files; changes = x }) b).files f ≡ b.files f
same_files o b x f = go (eqb (number o.answer) 0)
  where
    go : (d : Bool) → (cond d (record { files = b.files; changes = x }) b).files f ≡ b.files f
    go true = refl
    go false = refl

pub kind : (c : Call) → CallKind c
unfolding is_format fills mends plan
kind (format k) = formatting k
kind (mount k) = mounting k
kind (begin q k) = staying refl refl refl (λ g o b f. same_files o b _ f) _ (λ g s. refl)
kind (commit k) = committing k _ (λ g s. refl)
kind (abort k) = staying refl refl refl (λ g o b f. refl) _ (λ g s. refl)
kind (write q h c k) = staying refl refl refl (λ g o b f. same_files o b _ f) _ (λ g s. refl)
kind (delete q h k) = staying refl refl refl (λ g o b f. same_files o b _ f) _ (λ g s. refl)
kind (read h) = staying refl refl refl (λ g o b f. refl) _ (λ g s. refl)
kind (read_open h) = staying refl refl refl (λ g o b f. refl) _ (λ g s. refl)
kind (read_at L p) = staying refl refl refl (λ g o b f. refl) _ (λ g s. refl)

module _ (g : Geometry) (s : Bytes) (k : KeptImage g s) (st : standing g (survey g s) ≡ Settled) where
  abbrev b : Keeping
  b = own g s

  abbrev i : Inv g (own g s) s
  i = own_inv g s k

  -- begin, write, delete and abort
  pub stays_fresh : (c : Call) → is_format c ≡ false → ((g : Geometry) (o : Outcome) (b : Keeping) (f : ℕ) → (keep g c o b).files f ≡ b.files f) → takes_bytes c ≡ true → number (outcome g c s).answer ≡ 0
      → fresh g s ≡ fresh g (outcome g c s).image
  stays_fresh c n keeps by z =
      fresh_same g s (outcome g c s).image (λ f. said g s b i st f ∙ ap entry_by (sym (keeps g (outcome g c s) b f)) ∙ sym (said g (outcome g c s).image (keep g c (outcome g c s) b) (follows g b c s n by i) (done_settles g b s i c by z) f))

  -- commit
  pub commit_open : (j : ℕ) → number (outcome g (commit j) s).answer ≡ 0 → has_none (survey g s) ≡ false
  unfolding outcome plan in_settled in_geometry refuse when_settled carry_out number allowance
  commit_open j z = go (is_geometry g (length s)) (standing g (survey g s)) (has_none (survey g s)) z
    where
      Out : Bool → Standing → Bool → Outcome
      Out x t n = carry_out (refuse (not x) BadGeometry (when_settled t (refuse n NoTransaction (makes origin (commit_job (survey g s)))))) j s

      go : (x : Bool) (t : Standing) (n : Bool) → number (Out x t n).answer ≡ 0 → n ≡ false
      go false t n z = absurd (let y : ⊥ = omega arith in y)
      go true Neither n z = absurd (let y : ⊥ = omega arith in y)
      go true Sound n z = absurd (let y : ⊥ = omega arith in y)
      go true Settled true z = absurd (let y : ⊥ = omega arith in y)
      go true Settled false z = refl

  abbrev P : List Entry
  P = pick is_pending_file (survey g s).entries

  -- what is committed of a file
  laid : (x : List Entry) → is_none x ≡ false → (f : ℕ) → (elim (changes_of x P) as (λ j. Views) [ none ↦ b.files | some o ↦ laid_k o b.files ]) f ≡ laid_on (change_of P f) (b.files f)
  unfolding is_none
  laid [] e f = true_false true refl e
  laid (t ∷ ts) e f = refl

  each : (f : ℕ) → by_pending (filter (of_file f) P) (entry_of (committed_view f (survey g s))) ≡ entry_by (laid_on (change_of P f) (b.files f))
  unfolding entry_of pick unless_mark
  each f = go (filter (of_file f) P) refl
    where
      shown : (a m : Bool) (e : Entry) → a ≡ not m → length e.content ≡ e.descriptor.len → entry_of (cond m none (some e)) ≡ entry_by (cond a (some (view e)) none)
      shown true true e h z = true_false true refl h
      shown true false e h z = by_view e z
      shown false true e h z = refl
      shown false false e h z = true_false false h refl

      go : (l : List Entry) → filter (of_file f) P ≡ l → by_pending l (entry_of (committed_view f (survey g s))) ≡ entry_by (laid_on (change_by l) (b.files f))
      go [] q = said g s b i st f
      go (e ∷ l) q =
          let d = passed (SitsIn s) (λ (y : Entry). is_pending_file y.descriptor) (of_file f) (survey g s).entries (calm_of g s k st).sits e l q in
          let z = d.has (pending_sector e d.one) in
          shown (is_data e.descriptor) (is_mark e.descriptor) e (pending_data e z.tagged d.one) z.sized

  pub mended_fresh : (j : ℕ) → number (outcome g (commit j) s).answer ≡ 0 → mended (select is_pending_file (survey g s)) (fresh g s) ≡ fresh g (outcome g (commit j) s).image
  unfolding select is_format takes_bytes
  mended_fresh j z =
      ap (mended P) (fresh_rows g s) ∙ mended_rows P (λ n. entry_of (committed_view n (survey g s)))
      ∙ rows_same (mended_by P (λ n. entry_of (committed_view n (survey g s)))) (λ n. entry_of (committed_view n (survey g u))) at 256 0 ∙ sym (fresh_rows g u)
    where
      u : Bytes
      u = (outcome g (commit j) s).image

      b' : Keeping
      b' = keep g (commit j) (outcome g (commit j) s) b

      now : b' ≡ commits b
      now = ap (λ (x : Bool). cond x (commits b) b) (ltb_of 0 (given (outcome g (commit j) s).answer).steps (commit_steps g s j b i z))

      opens : is_none (lists_of g s).opened ≡ false
      opens = unfold has_none select in commit_open j z

      at : (f : ℕ) → mended_by P (λ n. entry_of (committed_view n (survey g s))) f ≡ entry_of (committed_view f (survey g u))
      at f =
          mended_at P (λ n. entry_of (committed_view n (survey g s))) f (pairs_few f P (calm_of g s k st).quiet.pending)
          ∙ each f
          ∙ ap entry_by (sym (laid (lists_of g s).opened opens f))
          ∙ ap (λ (x : Keeping). entry_by (x.files f)) (sym now)
          ∙ sym (said g u b' (follows g b (commit j) s refl refl i) (done_settles g b s i (commit j) refl z) f)
