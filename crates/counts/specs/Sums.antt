-- Each number of the tally is none, one or several of what a plain count gives.
use Rattle.std.specs.Prelude.{ℕ, suc, ◌+◌, ◌≡◌, refl, Bool, true, false, cond, List, [], ◌∷◌, get_or, set}
use Rattle.std.proofs.Common.{arith, add-zero, ap, ◌∙◌}
use Rattle.rules.specs.Unit.{Descriptor, file_of}
use Rattle.counts.specs.Few.{one_more, few, more_few}
use Rattle.counts.specs.declared.Tally.{Tally}
use Rattle.counts.specs.declared.Class.{Class}
use Rattle.counts.specs.declared.Class.TheVariants.{Idle, Unfinished, Open, Committed, Pending, Current, Wrong}
use Rattle.counts.specs.Tally.{TallyNotes, notes, class_of, again, note_as, tallied, tally_of}

-- ---- how many are of a class, and the files of those, in order
unfoldable pub count : (Class → Bool) → List Descriptor → ℕ
count is [] = 0
count is (d ∷ ds) = cond (is (class_of d)) (suc (count is ds)) (count is ds)

unfoldable pub files : (Class → Bool) → List Descriptor → List ℕ
files is [] = []
files is (d ∷ ds) = cond (is (class_of d)) (file_of d ∷ files is ds) (files is ds)

-- how often a file comes that was seen before
unfoldable pub repeats : List Bool → List ℕ → ℕ
repeats seen [] = 0
repeats seen (f ∷ fs) = cond (get_or seen f false) (suc (repeats (set seen f true) fs)) (repeats (set seen f true) fs)

abbrev pub is_unfinished : Class → Bool
is_unfinished Idle = false
is_unfinished Unfinished = true
is_unfinished Open = false
is_unfinished Committed = false
is_unfinished Pending = false
is_unfinished Current = false
is_unfinished Wrong = false

abbrev pub is_open : Class → Bool
is_open Idle = false
is_open Unfinished = false
is_open Open = true
is_open Committed = false
is_open Pending = false
is_open Current = false
is_open Wrong = false

abbrev pub is_committed : Class → Bool
is_committed Idle = false
is_committed Unfinished = false
is_committed Open = false
is_committed Committed = true
is_committed Pending = false
is_committed Current = false
is_committed Wrong = false

abbrev pub is_pending : Class → Bool
is_pending Idle = false
is_pending Unfinished = false
is_pending Open = false
is_pending Committed = false
is_pending Pending = true
is_pending Current = false
is_pending Wrong = false

abbrev pub is_current : Class → Bool
is_current Idle = false
is_current Unfinished = false
is_current Open = false
is_current Committed = false
is_current Pending = false
is_current Current = true
is_current Wrong = false

abbrev pub is_wrong : Class → Bool
is_wrong Idle = false
is_wrong Unfinished = false
is_wrong Open = false
is_wrong Committed = false
is_wrong Pending = false
is_wrong Current = false
is_wrong Wrong = true

-- ---- what a tally is, where the numbers before it were `a`
pub record Sums : Type 0 where
  pub unfinished : ℕ
  pub committed : ℕ
  pub opened : ℕ
  pub pending : ℕ
  pub twice : ℕ
  pub wrong : ℕ

unfoldable pub few_of : Sums → Tally
few_of a =
    record {
      unfinished = few a.unfinished;
      committed = few a.committed;
      opened = few a.opened;
      pending = few a.pending;
      twice = few a.twice;
      wrong = few a.wrong;
    }

again_few : (seen : List Bool) (f n : ℕ) → again seen f (few n) ≡ few (cond (get_or seen f false) (suc n) n)
again_few seen f n = go (get_or seen f false)
  where
    go : (x : Bool) → cond x (one_more (few n)) (few n) ≡ few (cond x (suc n) n)
    go true = more_few n
    go false = refl

-- the sums once one more of class k, of file f, is noted
unfoldable pub plus : Class → ℕ → List Bool → List Bool → Sums → Sums
plus Idle f ps cs a = a
plus Unfinished f ps cs a = record a { unfinished = suc a.unfinished }
plus Open f ps cs a = record a { opened = suc a.opened }
plus Committed f ps cs a = record a { committed = suc a.committed }
plus Pending f ps cs a = record a { pending = suc a.pending; twice = cond (get_or ps f false) (suc a.twice) a.twice }
plus Current f ps cs a = record a { wrong = cond (get_or cs f false) (suc a.wrong) a.wrong }
plus Wrong f ps cs a = record a { wrong = suc a.wrong }

unfoldable pub mark : Bool → ℕ → List Bool → List Bool
mark x f seen = cond x (set seen f true) seen

pub note_few : (k : Class) (f : ℕ) (a : Sums) (ps cs : List Bool)
    → note_as k f (notes (few_of a) ps cs) ≡ notes (few_of (plus k f ps cs a)) (mark (is_pending k) f ps) (mark (is_current k) f cs)
unfolding few_of plus mark
note_few Idle f a ps cs = refl
note_few Unfinished f a ps cs = rw more_few
note_few Open f a ps cs = rw more_few
note_few Committed f a ps cs = rw more_few
note_few Pending f a ps cs = rw (more_few a.pending, again_few ps f a.twice)
note_few Current f a ps cs = rw (again_few cs f a.wrong)
note_few Wrong f a ps cs = rw more_few

-- the sums once all are noted
unfoldable pub total : List Descriptor → List Bool → List Bool → Sums → Sums
total ds ps cs a =
    record {
      unfinished = a.unfinished + count is_unfinished ds;
      committed = a.committed + count is_committed ds;
      opened = a.opened + count is_open ds;
      pending = a.pending + count is_pending ds;
      twice = a.twice + repeats ps (files is_pending ds);
      wrong = a.wrong + (repeats cs (files is_current ds) + count is_wrong ds);
    }

shift : (a n : ℕ) → suc a + n ≡ a + suc n
shift a n = omega arith

deep : (a r n : ℕ) → suc a + (r + n) ≡ a + (r + suc n)
deep a r n = omega arith

maybe : (x : Bool) (a n : ℕ) → cond x (suc a) a + n ≡ a + cond x (suc n) n
maybe true a n = shift a n
maybe false a n = refl

maybe_deep : (x : Bool) (a r n : ℕ) → cond x (suc a) a + (r + n) ≡ a + (cond x (suc r) r + n)
maybe_deep true a r n = omega arith
maybe_deep false a r n = refl

total_step : (d : Descriptor) (ds : List Descriptor) (ps cs : List Bool) (a : Sums) (k : Class) → class_of d ≡ k
    → total ds (mark (is_pending k) (file_of d) ps) (mark (is_current k) (file_of d) cs) (plus k (file_of d) ps cs a) ≡ total (d ∷ ds) ps cs a
unfolding total mark plus count files repeats
total_step d ds ps cs a Idle e = rw e
total_step d ds ps cs a Unfinished e = rw e (rw shift)
total_step d ds ps cs a Open e = rw e (rw shift)
total_step d ds ps cs a Committed e = rw e (rw shift)
total_step d ds ps cs a Pending e =
    rw e
    (rw (
      shift a.pending (count is_pending ds),
      maybe (get_or ps (file_of d) false) a.twice (repeats (set ps (file_of d) true) (files is_pending ds)),
    ))
total_step d ds ps cs a Current e =
    rw e (rw (maybe_deep (get_or cs (file_of d) false) a.wrong (repeats (set cs (file_of d) true) (files is_current ds)) (count is_wrong ds)))
total_step d ds ps cs a Wrong e = rw e (rw deep)

pub tallied_few : (ds : List Descriptor) (a : Sums) (ps cs : List Bool) → tally_of (tallied ds (notes (few_of a) ps cs)) ≡ few_of (total ds ps cs a)
unfolding tallied total count files repeats
tallied_few [] a ps cs = simp add-zero
tallied_few (d ∷ ds) a ps cs =
    ap (λ (t : TallyNotes). tally_of (tallied ds t)) (note_few (class_of d) (file_of d) a ps cs)
    ∙ tallied_few ds (plus (class_of d) (file_of d) ps cs a) (mark (is_pending (class_of d)) (file_of d) ps) (mark (is_current (class_of d)) (file_of d) cs)
    ∙ ap few_of (total_step d ds ps cs a (class_of d) refl)
