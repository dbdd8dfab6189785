-- Short histories through the read table: the number of each call, and whether the table equals the one filled afresh. The table is all zeros at first.
use Rattle.std.specs.Prelude.{Bool, true, false, not, cond, ◌&&◌, List, [], ◌∷◌, ◌≡◌, refl, ℕ, length, replicate, T, eqb, leb}
use Rattle.std.proofs.Math.Option.{Option}
use Rattle.std.proofs.Common.{eqb→eq}
use Rattle.rules.specs.Opened.{opened}
use Rattle.rules.specs.Flash.{Bytes, is_geometry}
use Rattle.rules.specs.Settled.{Entry, survey}
use Rattle.rules.specs.Sound.{standing}
use Rattle.rules.specs.Views.{committed_view}
use Rattle.rules.specs.Answers.{number}
use Rattle.rules.specs.Calls.{Call, abort, begin, commit, delete, format, is_absent, is_bad_file, mount, write}
use Rattle.rules.specs.declared.Rule.TheVariants.{Tightest}
use Rattle.rules.specs.Table.{Table, TableOutcome, fills, fill_through, fresh, is_usable, mark, read_through, through}
use Rattle.rules.specs.Plain.{is_settled}
use Rattle.rules.specs.declared.Standing.{Standing}
use Rattle.rules.specs.declared.Standing.TheVariants.{Settled, Sound, Neither}
use Rattle.rules.specs.declared.TableEntry.{TableEntry}
use Rattle.witness.specs.Short.{abc, erased_image, plenty, small}

-- a call through the table, a fill, a read through it
pub data TableAct : Type 0 where
  call : Call → TableAct
  fill : TableAct
  ask : ℕ → TableAct

abbrev pub made : Bytes → Table → TableAct → TableOutcome
made s t (call c) = through small s t c
made s t fill = fill_through small s t
made s t (ask f) = read_through small s t f

abbrev pub same_entry : TableEntry → TableEntry → Bool
same_entry x y = eqb x.state y.state && eqb x.unit y.unit && eqb x.position y.position && eqb x.len y.len

abbrev pub same_table : Table → Table → Bool
same_table [] [] = true
same_table [] (y ∷ ys) = false
same_table (x ∷ xs) [] = false
same_table (x ∷ xs) (y ∷ ys) = same_entry x y && same_table xs ys

-- each call's number, and 1 where the table equals the one filled afresh from the image after it
abbrev pub answers_from : Bytes → Table → List TableAct → List (ℕ × ℕ)
answers_from s t [] = []
answers_from s t (a ∷ as') = let o = made s t a in (number o.answer, cond (same_table o.table (fresh small o.image)) 1 0) ∷ answers_from o.image o.table as'

abbrev pub zeros : Table
zeros = replicate 256 mark

-- ---- what such calls leave, and what the promises say of it (table_promises: Promises.antt): each is the promise named beside it for one history
abbrev pub image_from : Bytes → Table → List TableAct → Bytes
image_from s t [] = s
image_from s t (a ∷ as') = let o = made s t a in image_from o.image o.table as'

abbrev pub table_from : Bytes → Table → List TableAct → Table
table_from s t [] = t
table_from s t (a ∷ as') = let o = made s t a in table_from o.image o.table as'

-- document 01's number of a committed read, with 12 after 4
abbrev pub due_by : Standing → Table → ℕ → Option Entry → ℕ
due_by Neither t f o = 3
due_by Sound t f o = 4
due_by Settled t f o = cond (is_usable t) (cond (is_bad_file f) 5 (cond (is_absent o) 9 0)) 12

abbrev pub due : Bytes → Table → ℕ → ℕ
due s t f = let v = survey small s in cond (eqb (length t) 256) (cond (is_geometry small (length s)) (due_by (standing small v) t f (committed_view f v)) 2) 2

module _ (s : Bytes) (t : Table) where
  -- `kept`: a usable table is the fresh one
  abbrev pub IsKept : Type 0
  IsKept = cond (is_usable t) (same_table t (fresh small s)) true ≡ true

  -- `reads_exactly`, of the number
  abbrev pub ReadsExactly : ℕ → Type 0
  ReadsExactly f = eqb (number (read_through small s t f).answer) (due s t f) ≡ true

  module _ (c : Call) where
    -- `fresh_after`, of a call that fills
    abbrev pub FillsFresh : Type 0
    FillsFresh = cond (eqb (number (through small s t c).answer) 0) (same_table (through small s t c).table (fresh small (through small s t c).image)) true ≡ true

    -- `stop_marks`
    abbrev pub StopMarks : Type 0
    StopMarks = cond (eqb (number (through small s t c).answer) 1) (not (is_usable (through small s t c).table)) true ≡ true

    -- `refusal_keeps`
    abbrev pub RefusalKeeps : Type 0
    RefusalKeeps = cond (leb 2 (number (through small s t c).answer)) (same_table (through small s t c).table t) true ≡ true

    -- `stale_exactly`: 12 where the image is settled, the table unusable and the call does not fill it, and nowhere else
    abbrev pub IsStale : Type 0
    IsStale = eqb (cond (eqb (number (through small s t c).answer) 12) 1 0)
        (cond (eqb (length t) 256 && is_geometry small (length s) && is_settled (standing small (survey small s)) && not (is_usable t) && not (fills c)) 1 0) ≡ true

abbrev pub answers : List TableAct → List (ℕ × ℕ)
answers as' = answers_from erased_image zeros as'

-- Two lists of answers are the same: a row that does not hold is refused by this test in a fraction of the time that its two sides take.
abbrev are_same : List (ℕ × ℕ) → List (ℕ × ℕ) → Bool
are_same [] [] = true
are_same [] (y ∷ ys) = false
are_same (x ∷ xs) [] = false
are_same (x ∷ xs) (y ∷ ys) = elim (eqb x.0 y.0) as (λ j. Bool) [ true ↦ elim (eqb x.1 y.1) as (λ j. Bool) [ true ↦ are_same xs ys | false ↦ false ] | false ↦ false ]

pair : (x y : ℕ × ℕ) (xs ys : List (ℕ × ℕ)) (a b : Bool) → (T a → x.0 ≡ y.0) → (T b → x.1 ≡ y.1) → (T (are_same xs ys) → xs ≡ ys)
    → T (elim a as (λ j. Bool) [ true ↦ elim b as (λ j. Bool) [ true ↦ are_same xs ys | false ↦ false ] | false ↦ false ]) → (x ∷ xs) ≡ (y ∷ ys)
pair x y xs ys true true n w f h = λ i. (n tt i, w tt i) ∷ f h i
pair x y xs ys true false n w f h = absurd h
pair x y xs ys false b n w f h = absurd h

same : (xs ys : List (ℕ × ℕ)) → T (are_same xs ys) → xs ≡ ys
same [] [] h = refl
same [] (y ∷ ys) h = absurd h
same (x ∷ xs) [] h = absurd h
same (x ∷ xs) (y ∷ ys) h = pair x y xs ys (eqb x.0 y.0) (eqb x.1 y.1) (eqb→eq x.0 y.0) (eqb→eq x.1 y.1) (same xs ys) h

abbrev pub done : List TableAct → List TableAct
done as' = call (format plenty) ∷ call (begin Tightest plenty) ∷ as'

-- An empty file through the table, and a file that was never there; then it is deleted. Slip: an empty file is left out, a deleted one stays.
pub empty_then_deleted_lem : answers (done (call (write Tightest 9 [] plenty) ∷ call (commit plenty) ∷ ask 9 ∷ ask 8 ∷ call (begin Tightest plenty) ∷ call (delete Tightest 9 plenty) ∷ ask 9 ∷ call (commit plenty) ∷ ask 9 ∷ []))
    ≡ ((0, 1) ∷ (0, 1) ∷ (0, 1) ∷ (0, 1) ∷ (0, 1) ∷ (9, 1) ∷ (0, 1) ∷ (0, 1) ∷ (0, 1) ∷ (0, 1) ∷ (9, 1) ∷ [])
unfolding opened
empty_then_deleted_lem = same _ _ tt

-- A stop at 0 steps marks the table: 12 until a fill is DONE, and a refused call does not unmark it. Slip: a stop at 0 leaves it usable, a refusal marks.
pub stopped_at_0 : answers (call (format plenty) ∷ call (begin Tightest 0) ∷ ask 3 ∷ call (begin Tightest plenty) ∷ fill ∷ ask 3 ∷ call (commit plenty) ∷ ask 3 ∷ []) ≡ ((0, 1) ∷ (1, 0) ∷ (12, 0) ∷ (12, 0) ∷ (0, 1) ∷ (9, 1) ∷ (7, 1) ∷ (9, 1) ∷ [])
unfolding opened
stopped_at_0 = same _ _ tt

-- A commit stopped at its commit step, then read: 4; a mount ends it, and the file is there. Slip: 12 before 4.
pub stopped_commit : answers (done (call (write Tightest 7 abc plenty) ∷ call (commit 1) ∷ ask 7 ∷ fill ∷ call (begin Tightest plenty) ∷ call (mount plenty) ∷ ask 7 ∷ []))
    ≡ ((0, 1) ∷ (0, 1) ∷ (0, 1) ∷ (1, 0) ∷ (4, 0) ∷ (4, 0) ∷ (4, 0) ∷ (0, 1) ∷ (0, 1) ∷ [])
unfolding opened
stopped_commit = same _ _ tt

-- An aborted transaction leaves the table as it is. Slip: what is pending is filled in.
pub aborted_table : answers (done (call (write Tightest 7 abc plenty) ∷ fill ∷ ask 7 ∷ call (abort plenty) ∷ ask 7 ∷ [])) ≡ ((0, 1) ∷ (0, 1) ∷ (0, 1) ∷ (0, 1) ∷ (9, 1) ∷ (0, 1) ∷ (9, 1) ∷ [])
unfolding opened
aborted_table = same _ _ tt

abbrev zero_bytes : Bytes
zero_bytes = replicate 256 0

-- Case K through the table.
abbrev case_k : List TableAct
case_k = done (call (write Tightest 1 zero_bytes plenty) ∷ call (commit plenty) ∷ call (begin Tightest plenty) ∷ call (write Tightest 1 zero_bytes plenty) ∷ call (commit plenty) ∷ call (begin Tightest plenty) ∷ call (write Tightest 2 zero_bytes plenty) ∷ ask 1 ∷ [])

-- A reclaim: unit 0 is moved, and the table is still the fresh one. Slip: the entry has where the content stands.
pub reclaimed_table : answers case_k ≡ ((0, 1) ∷ (0, 1) ∷ (0, 1) ∷ (0, 1) ∷ (0, 1) ∷ (0, 1) ∷ (0, 1) ∷ (0, 1) ∷ (0, 1) ∷ (0, 1) ∷ [])
unfolding opened
reclaimed_table = same _ _ tt

-- ---- the promises, each of one history that wrong definitions break
abbrev pub history : List TableAct → Bytes
history as' = image_from erased_image zeros as'

abbrev pub tabled : List TableAct → Table
tabled as' = table_from erased_image zeros as'

abbrev pub deleted : List TableAct
deleted = done (call (write Tightest 9 [] plenty) ∷ call (commit plenty) ∷ call (begin Tightest plenty) ∷ call (delete Tightest 9 plenty) ∷ call (commit plenty) ∷ [])

abbrev pub halfway : List TableAct
halfway = done (call (write Tightest 7 abc plenty) ∷ call (commit 1) ∷ [])

-- A committed deletion. Slip: the entry stays.
pub deleted_kept : IsKept (history deleted) (tabled deleted)
unfolding opened
deleted_kept = refl

-- An empty file, committed. Slip: it is left out.
pub empty_read : ReadsExactly (history (done (call (write Tightest 9 [] plenty) ∷ call (commit plenty) ∷ []))) (tabled (done (call (write Tightest 9 [] plenty) ∷ call (commit plenty) ∷ []))) 9
unfolding opened
empty_read = refl

-- A fill while a file is pending. Slip: it is taken.
pub pending_read : ReadsExactly (history (done (call (write Tightest 7 abc plenty) ∷ fill ∷ []))) (tabled (done (call (write Tightest 7 abc plenty) ∷ fill ∷ []))) 7
unfolding opened
pending_read = refl

-- A commit stopped at its commit step. Slip: the mark stands elsewhere, 12 before 4.
pub halfway_kept : IsKept (history halfway) (tabled halfway)
unfolding opened
halfway_kept = refl

pub halfway_read : ReadsExactly (history halfway) (tabled halfway) 7
unfolding opened
halfway_read = refl

pub halfway_stale : IsStale (history halfway) (tabled halfway) (begin Tightest plenty)
unfolding opened
halfway_stale = refl

abbrev pub begun0 : List TableAct
begun0 = call (format plenty) ∷ call (begin Tightest 0) ∷ []

-- A begin stopped at 0 steps; then a begin and a mount. Slip: it does not mark, a begin takes it, a mount of 0 steps does not fill.
pub stop_at_0 : StopMarks (history (call (format plenty) ∷ [])) (tabled (call (format plenty) ∷ [])) (begin Tightest 0)
unfolding opened
stop_at_0 = refl

pub begun_stale : IsStale (history begun0) (tabled begun0) (begin Tightest plenty)
unfolding opened
begun_stale = refl

pub mounted_fresh : FillsFresh (history begun0) (tabled begun0) (mount 0)
unfolding opened
mounted_fresh = refl

-- A commit with none open is refused. Slip: it marks.
pub refused_keeps : RefusalKeeps (history (call (format plenty) ∷ [])) (tabled (call (format plenty) ∷ [])) (commit plenty)
unfolding opened
refused_keeps = refl

-- A table of zeros beside an image with file 7. Slip: a zero is "no file".
pub zeros_read : ReadsExactly (history (done (call (write Tightest 7 abc plenty) ∷ call (commit plenty) ∷ []))) zeros 7
unfolding opened
zeros_read = refl
