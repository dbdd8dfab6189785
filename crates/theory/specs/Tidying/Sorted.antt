-- What of a list of entries the jobs read: mount's tidying, abort and commit's clean-up are one job on it.
use Rattle.std.specs.Prelude.{Bool, ◌&&◌, ◌||◌, cond, false, true, List, [], ◌++◌, ◌∷◌, ◌≢◌, ◌≡◌, ◌+◌, ◌≤◌, ℕ, eqb, leb, length}
use Rattle.std.proofs.Common.{◌∙◌, ap, subst, sym, add-zero, arith, eqb→eq, length-append}
use Rattle.std.proofs.Math.Decide.{ℕ_discrete}
use Rattle.rules.specs.Flash.{Bytes, Step, program}
use Rattle.rules.specs.Jobs.{become, turns}
use Rattle.rules.specs.Lists.{all, filter}
use Rattle.rules.specs.Settled.{Entry, counts, is_beside, is_current_ok, is_quiet, of_file, pairs, pick}
use Rattle.rules.specs.Sound.{is_committing, is_unfinished}
use Rattle.rules.specs.Unit.{Descriptor, file_of, is_allocated, is_committed, is_current_file, is_data, is_open, is_pending_file, is_torn}
use Rattle.rules.specs.declared.Handle.{Handle}
use Rattle.theory.specs.Base.Facts.{and_l, and_r, both, differ, eq_of, eqb_same, eqb_sym, filter_append, filter_in, filter_out, filter_same, is_nil}
use Rattle.theory.specs.Base.Facts.{le_of, leb_of, of_true, or_left, or_right}
use Rattle.theory.specs.Images.Layout.{with_flags}
use Rattle.theory.specs.Images.Turn.{set_e}
use Rattle.theory.specs.Images.Stand.{Turnable, fine}
use Rattle.theory.specs.Tidying.Flat.{Next, more}

pub record Sorted : Type 0 where
  pub torn : List Entry
  pub allocated : List Entry
  pub committed : List Entry
  pub opened : List Entry
  pub pending : List Entry
  pub current : List Entry

abbrev pub sorted : List Entry → Sorted
sorted es =
    record { torn = pick is_torn es; allocated = pick is_allocated es; committed = pick is_committed es; opened = pick is_open es; pending = pick is_pending_file es; current = pick is_current_file es }

-- mount's tidying, by the lists
abbrev pub end_of : List Entry → List Entry → List Entry → List Entry → List Step
end_of [] os ps cs = become 0xFFF0 os ++ become 0xFFF0 ps
end_of (t ∷ ts) os ps cs = turns cs ps ++ become 0xFFF0 (t ∷ ts)

abbrev pub tidy_of : Sorted → List Step
tidy_of l = (become 0 l.torn ++ become 0xFFF0 l.allocated) ++ end_of l.committed l.opened l.pending l.current

abbrev pub tidying : List Entry → List Step
tidying es = tidy_of (sorted es)

abbrev pub data_only : List Entry → Bool
data_only es = all (λ (e : Entry). is_data e.descriptor) es

pub record UnfinishedLists (l : Sorted) : Type 0 where
  pub committed : l.committed ≡ []
  pub opened : length l.opened ≤ 1
  pub current : pairs l.current ≡ 0
  pub data' : data_only l.current ≡ true
  pub torn : length l.torn + length l.allocated + pairs l.pending ≤ 1
  pub beside : length l.torn + length l.allocated ≡ 1 → eqb (length l.opened) 1 || eqb (length l.pending) 0 ≡ true

pub record Committing (l : Sorted) : Type 0 where
  pub torn : l.torn ≡ []
  pub allocated : l.allocated ≡ []
  pub committed : length l.committed ≡ 1
  pub opened : l.opened ≡ []
  pub current : pairs l.current ≡ 0
  pub data' : data_only l.current ≡ true
  pub pending : pairs l.pending ≡ 0

pub data Orderly (l : Sorted) : Type 0 where
  unfinished : UnfinishedLists l → Orderly l
  committing : Committing l → Orderly l

pub is0 : (n : ℕ) → n ≡ 0 → eqb n 0 ≡ true
is0 n e = ap (λ (x : ℕ). eqb x 0) e

pub below : (n : ℕ) → n ≤ 1 → leb n 1 ≡ true
below n h = leb_of n 1 h

pub orderly_fine : (es : List Entry) → Orderly (sorted es) → fine (counts es) ≡ true
unfolding is_unfinished counts is_current_ok is_beside is_committing
orderly_fine es (unfinished u) = or_right (is_quiet (counts es)) (or_left (is_committing (counts es)) (both (both (both (is0 _ (ap length u.committed)) (below _ u.opened)) (both (is0 _ u.current) u.data')) (go (ℕ_discrete t 1))))
  where
    t : ℕ
    t = length (pick is_torn es) + length (pick is_allocated es)

    w : ℕ
    w = pairs (pick is_pending_file es)

    b : Bool
    b = eqb (length (pick is_open es)) 1 || eqb (length (pick is_pending_file es)) 0

    go : Dec (t ≡ 1) → (eqb t 1 && b && eqb w 0) || (eqb t 0 && leb w 1) ≡ true
    go (yes e) = or_left (eqb t 0 && leb w 1) (both (both (ap (λ (x : ℕ). eqb x 1) e) (u.beside e)) (is0 w (omega (arith, u.torn, e))))
    go (no n) = or_right (eqb t 1 && b && eqb w 0) (both (is0 t (omega (arith, u.torn, n))) (below w (omega (arith, u.torn))))
orderly_fine es (committing c) = or_right (is_quiet (counts es)) (or_right (is_unfinished (counts es)) (both (both (both (both (is0 _ zeros) (ap (λ (x : ℕ). eqb x 1) c.committed)) (is0 _ (ap length c.opened))) (is0 _ c.pending)) (both (is0 _ c.current) c.data')))
  where
    zeros : length (pick is_torn es) + length (pick is_allocated es) ≡ 0
    zeros = omega (arith, ap length c.torn, ap length c.allocated)

-- ---- pairs
abbrev pub num : Entry → ℕ
num e = file_of e.descriptor

pub pairs_mid : (xs : List Entry) (e : Entry) (ys : List Entry) → pairs (xs ++ e ∷ ys) ≡ pairs (xs ++ ys) + length (filter (of_file (num e)) (xs ++ ys))
unfolding filter of_file pairs
pairs_mid [] e ys = omega arith
pairs_mid (x ∷ xs) e ys = go (eqb (num x) (num e)) (eqb_sym (num e) (num x)) (pairs_mid xs e ys)
  where
    A : List Entry
    A = filter (of_file (num x)) (xs ++ ys)

    B : List Entry
    B = filter (of_file (num e)) (xs ++ ys)

    grown : (b : Bool) → eqb (num e) (num x) ≡ b → length (filter (of_file (num x)) (xs ++ e ∷ ys)) ≡ length A + length (cond b (e ∷ []) [])
    grown true h = ap length (filter_in (of_file (num x)) xs e ys h) ∙ simp (length-append, filter_append (of_file (num x)) xs ys) (omega arith)
    grown false h = ap length (filter_out (of_file (num x)) xs e ys h ∙ sym (filter_append (of_file (num x)) xs ys)) ∙ sym (add-zero (length A))

    go : (b : Bool) → eqb (num e) (num x) ≡ b → pairs (xs ++ e ∷ ys) ≡ pairs (xs ++ ys) + length B
        → length (filter (of_file (num x)) (xs ++ e ∷ ys)) + pairs (xs ++ e ∷ ys) ≡ length A + pairs (xs ++ ys) + length (cond b (x ∷ B) B)
    go true h ih = omega (arith, ih, grown true h)
    go false h ih = omega (arith, ih, grown false h)

pub pairs_less : (xs : List Entry) (e : Entry) (ys : List Entry) → pairs (xs ++ ys) ≤ pairs (xs ++ e ∷ ys)
pairs_less xs e ys = omega (arith, pairs_mid xs e ys)

-- ---- what a turn does to the lists
pub by_flags : (p : Descriptor → Bool) (d : Descriptor) {a : ℕ} {b : Bool} → d.flags ≡ a → p (with_flags a d) ≡ b → p d ≡ b
by_flags p d e h = ap (λ (x : ℕ). p (with_flags x d)) e ∙ h

-- neither before nor after
pub pick_same : (p : Descriptor → Bool) (front : List Entry) (e : Entry) (back : List Entry) (f : ℕ) → p e.descriptor ≡ false → p (with_flags f e.descriptor) ≡ false
    → pick p (front ++ set_e f e ∷ back) ≡ pick p (front ++ e ∷ back)
unfolding pick
pick_same p front e back f h k = filter_same (λ (x : Entry). p x.descriptor) front e (set_e f e) back h k

pub flags_of : (n : ℕ) (d : Descriptor) → eqb d.flags n ≡ true → d.flags ≡ n
flags_of n d h = eqb→eq d.flags n (of_true h)

-- the job, over the split entries: P and the job by the lists
abbrev pub OrderlyE : List Entry → Type 0
OrderlyE es = Orderly (sorted es)

-- what a finished mount would show of a file: its committed pending one over its current one
pub record View : Type 0 where
  pub at : Handle
  pub content : Bytes

abbrev pub view : Entry → View
view e = record { at = e.at; content = e.content }

abbrev pub views : List Entry → List View
views [] = []
views (e ∷ es) = view e ∷ views es

abbrev pub seen : ℕ → List Entry → List View
seen f es = views (filter (of_file f) es)

abbrev pub over : List Entry → List View → List View
over [] c = c
over (e ∷ es) c = cond (is_data e.descriptor) (view e ∷ []) []

abbrev pub yield_by : List Entry → List Entry → List Entry → ℕ → List View
yield_by d p n f = elim d as (λ j. List View) [ [] ↦ seen f n | t ∷ ts ↦ over (filter (of_file f) p) (seen f n) ]

abbrev pub yield : Sorted → ℕ → List View
yield l f = yield_by l.committed l.pending l.current f

-- a transaction that is open still, is as it was
pub data OpenKept (l k : Sorted) : Type 0 where
  closed : k.opened ≡ [] → OpenKept l k
  as_was : k.opened ≡ l.opened → k.pending ≡ l.pending → OpenKept l k

-- what a step of the tidying keeps: what would be shown, and an open transaction or none
pub record SameE (es fs : List Entry) : Type 0 where
  pub yields : (f : ℕ) → yield (sorted fs) f ≡ yield (sorted es) f
  pub open' : OpenKept (sorted es) (sorted fs)

pub of_passes : (e : Entry) (es : List Entry) (f : ℕ) → num e ≡ f → filter (of_file f) (e ∷ es) ≡ e ∷ filter (of_file f) es
unfolding filter of_file
of_passes e es f h = ap (λ (b : Bool). cond b (e ∷ filter (of_file f) es) (filter (of_file f) es)) (ap (λ (x : ℕ). eqb x f) h ∙ eqb_same f)

pub of_fails : (e : Entry) (es : List Entry) (f : ℕ) → num e ≢ f → filter (of_file f) (e ∷ es) ≡ filter (of_file f) es
unfolding filter of_file
of_fails e es f n = ap (λ (b : Bool). cond b (e ∷ filter (of_file f) es) (filter (of_file f) es)) (differ n)

-- a step of the job whose lists are known
module _ (es front : List Entry) (e : Entry) (back : List Entry) (whole : es ≡ front ++ e ∷ back) where
  pub step : (v f : ℕ) (l : Sorted) → Turnable e v f → sorted (front ++ set_e f e ∷ back) ≡ l → tidy_of (sorted es) ≡ program e.place v ∷ tidy_of l → ((g : ℕ) → yield l g ≡ yield (sorted es) g) → OpenKept (sorted es) l → Orderly l → Next OrderlyE SameE tidying es
  step v f l t same j w c o =
      more front e back v f whole t (j ∙ ap (λ (x : Sorted). program e.place v ∷ tidy_of x) (sym same)) (subst (λ (x : Sorted). Orderly x) (sym same) o)
      (record { yields = λ g. ap (λ (x : Sorted). yield x g) same ∙ w g; open' = subst (λ (x : Sorted). OpenKept (sorted es) x) (sym same) c })

-- ---- settled, as to the descriptors
pub record Quiet (l : Sorted) : Type 0 where
  pub torn : l.torn ≡ []
  pub allocated : l.allocated ≡ []
  pub committed : l.committed ≡ []
  pub opened : length l.opened ≤ 1
  pub current : pairs l.current ≡ 0
  pub data' : data_only l.current ≡ true
  pub pending : pairs l.pending ≡ 0
  pub beside : eqb (length l.opened) 1 || eqb (length l.pending) 0 ≡ true

pub quiet_of : (es : List Entry) → is_quiet (counts es) ≡ true → Quiet (sorted es)
unfolding is_quiet counts is_beside is_current_ok
quiet_of es h =
    record {
      torn = is_nil (pick is_torn es) (omega (arith, none));
      allocated = is_nil (pick is_allocated es) (omega (arith, none));
      committed = is_nil (pick is_committed es) (eq_of (length (pick is_committed es)) 0 (and_r A B h1));
      opened = le_of (length (pick is_open es)) 1 (and_r (A && B) C h2);
      current = eq_of (pairs (pick is_current_file es)) 0 (and_l (eqb (pairs (pick is_current_file es)) 0) (data_only (pick is_current_file es)) ok);
      data' = and_r (eqb (pairs (pick is_current_file es)) 0) (data_only (pick is_current_file es)) ok;
      pending = eq_of (pairs (pick is_pending_file es)) 0 (and_r (A && B && C && D) F h4);
      beside = and_r (A && B && C) D h3;
    }
  where
    A : Bool
    A = eqb (length (pick is_torn es) + length (pick is_allocated es)) 0

    B : Bool
    B = eqb (length (pick is_committed es)) 0

    C : Bool
    C = leb (length (pick is_open es)) 1

    D : Bool
    D = eqb (length (pick is_open es)) 1 || eqb (length (pick is_pending_file es)) 0

    F : Bool
    F = eqb (pairs (pick is_pending_file es)) 0

    G : Bool
    G = eqb (pairs (pick is_current_file es)) 0 && data_only (pick is_current_file es)

    ok : G ≡ true
    ok = and_r (A && B && C && D && F) G h

    h4 : A && B && C && D && F ≡ true
    h4 = and_l (A && B && C && D && F) G h

    h3 : A && B && C && D ≡ true
    h3 = and_l (A && B && C && D) F h4

    h2 : A && B && C ≡ true
    h2 = and_l (A && B && C) D h3

    h1 : A && B ≡ true
    h1 = and_l (A && B) C h2

    none : length (pick is_torn es) + length (pick is_allocated es) ≡ 0
    none = eq_of (length (pick is_torn es) + length (pick is_allocated es)) 0 (and_l A B h1)

pub is_quiet_lem : (es : List Entry) → Quiet (sorted es) → is_quiet (counts es) ≡ true
unfolding is_quiet counts is_beside is_current_ok
is_quiet_lem es c =
    both (both (both (both (both (is0 _ none) (is0 _ (ap length c.committed))) (below _ c.opened)) c.beside) (is0 _ c.pending)) (both (is0 _ c.current) c.data')
  where
    none : length (pick is_torn es) + length (pick is_allocated es) ≡ 0
    none = omega (arith, ap length c.torn, ap length c.allocated)

pub quiet_unfinished : (l : Sorted) → Quiet l → UnfinishedLists l
quiet_unfinished l c =
    record {
      committed = c.committed;
      opened = c.opened;
      current = c.current;
      data' = c.data';
      torn = omega (arith, ap length c.torn, ap length c.allocated, c.pending);
      beside = λ e. c.beside;
    }
