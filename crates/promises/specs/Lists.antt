-- The listing of a settled image: the plain store's, with the image's handles; and the handle that a read by file gives.
use Rattle.std.specs.Prelude.{Bool, not, true, ◌≡◌, eqb, ltb, length}
use Rattle.std.proofs.Math.Bool.{cond, false}
use mathlib.Core.List.{List, [], ◌++◌, ◌∷◌}
use Rattle.std.proofs.Math.Option.{Option, none, some}
use Rattle.std.proofs.Common.{◌∙◌, subst₂, sym, arith}
use Rattle.std.proofs.Math.Path.{ap, ap₂, refl}
use Prim.Native.Nat.{◌+◌, ◌<◌, ◌≤◌, suc, zero, ℕ}
use Rattle.std.proofs.Math.Decide.{ℕ_discrete}
use Rattle.rules.specs.Answers.{carry_out, content, given, nothing, number, origin}
use Rattle.rules.specs.Calls.{allowance, has_none, in_geometry, in_settled, is_bad_file, outcome, plan, read, refuse, showing, when_settled}
use Rattle.rules.specs.Flash.{Bytes}
use Rattle.rules.specs.Histories.{Files, Plain}
use Rattle.rules.specs.Listing.{file_line, file_lines, keyed, lines_when, listed, refused_line, settled_lines}
use Rattle.rules.specs.Lists.{filter, first}
use Rattle.rules.specs.Plain.{Gives, Onward, Seen, bytes_in, content_by, count_from, is_absent_in, is_shut, is_unchanged, plain_content, plain_line, plain_lines, plain_listing, plain_number, seen}
use Rattle.rules.specs.Settled.{Entry, of_file, pairs, pick, select, survey}
use Rattle.rules.specs.Sound.{standing}
use Rattle.rules.specs.Unit.{file_of, is_current_file}
use Rattle.rules.specs.Views.{committed_view, content_of}
use Rattle.rules.specs.declared.NotDone.TheVariants.{BadFile, BadGeometry}
use Rattle.rules.specs.declared.Geometry.{Geometry}
use Rattle.rules.specs.declared.Origin.TheVariants.{NotSaid}
use Rattle.rules.specs.declared.Handle.{Handle}
use Rattle.rules.specs.declared.Standing.TheVariants.{Settled}
use Rattle.laws.specs.Homes.{pairs_few}
use Rattle.theory.specs.Base.Facts.{differ, eqb_same, lt_of, true_false}
use Rattle.theory.specs.Tidying.Sorted.{View, num, view}
use Rattle.theory.specs.Mounting.KeptMounts.{kept_sane}
use Rattle.theory.specs.Meaning.Means.{bytes_of}
use Rattle.theory.specs.Promised.Histories.{Holds}
use Rattle.theory.specs.Promised.Reads.{Calm, calm_of, committed_sits, committed_view_lem, entry_view, open_is_lem}
use Rattle.theory.specs.Base.Inputs.{small_file}
use Rattle.promises.specs.Answered.{as_plain_lem}
use Rattle.promises.specs.Unchanged.{reads_at_lem, settled_of, unchanged_holds}

-- ---- the number of entries, file by file
sum_from : ℕ → ℕ → List Entry → ℕ
sum_from zero a l = 0
sum_from (suc k) a l = length (filter (of_file a) l) + sum_from k (suc a) l

sum_nil : (k a : ℕ) → sum_from k a [] ≡ 0
unfolding filter sum_from
sum_nil zero a = refl
sum_nil (suc k) a = omega (arith, sum_nil k (suc a))

one_more_lem : (e : Entry) (l : List Entry) (a : ℕ) (b : Bool) → eqb (num e) a ≡ b → length (filter (of_file a) (e ∷ l)) ≡ cond b 1 0 + length (filter (of_file a) l)
unfolding filter of_file
one_more_lem e l a true h = ap (λ (b : Bool). length (cond b (e ∷ filter (of_file a) l) (filter (of_file a) l))) h ∙ omega arith
one_more_lem e l a false h = ap (λ (b : Bool). length (cond b (e ∷ filter (of_file a) l) (filter (of_file a) l))) h ∙ omega arith

sum_past : (k a : ℕ) (e : Entry) (l : List Entry) → num e < a → sum_from k a (e ∷ l) ≡ sum_from k a l
unfolding sum_from
sum_past zero a e l h = refl
sum_past (suc k) a e l h =
    let past : eqb (num e) a ≡ false = differ (λ (z : num e ≡ a). let w : ⊥ = omega arith in w) in
    omega (arith, one_more_lem e l a false past, sum_past k (suc a) e l (omega arith))

sum_in : (k a : ℕ) (e : Entry) (l : List Entry) → a ≤ num e → num e < a + k → sum_from k a (e ∷ l) ≡ suc (sum_from k a l)
unfolding sum_from
sum_in zero a e l h m = absurd (let w : ⊥ = omega arith in w)
sum_in (suc k) a e l h m = go (ℕ_discrete (num e) a) (sum_in k (suc a) e l)
  where
    go : Dec (num e ≡ a) → (suc a ≤ num e → num e < suc a + k → sum_from k (suc a) (e ∷ l) ≡ suc (sum_from k (suc a) l)) → length (filter (of_file a) (e ∷ l)) + sum_from k (suc a) (e ∷ l) ≡ suc (length (filter (of_file a) l) + sum_from k (suc a) l)
    go (yes z) r = let same : eqb (num e) a ≡ true = ap (λ (x : ℕ). eqb x a) z ∙ eqb_same a in omega (arith, one_more_lem e l a true same, sum_past k (suc a) e l (omega arith))
    go (no n) r = omega (arith, one_more_lem e l a false (differ n), r (omega arith) (omega arith))

small_num : (e : Entry) → num e < 256
unfolding file_of
small_num e = omega arith

sum_all : (l : List Entry) → sum_from 256 0 l ≡ length l
sum_all [] = sum_nil 256 0
sum_all (e ∷ l) = sum_in 256 0 e l (omega arith) (omega (arith, small_num e)) ∙ ap suc (sum_all l)

count_is : (l : List Entry) (m : Files) → pairs l ≡ 0 → ((f : ℕ) → content_of (first (filter (of_file f) l)) ≡ m f) → (k a : ℕ) → count_from k a m ≡ sum_from k a l
unfolding sum_from count_from is_absent_in content_of first
count_is l m p h zero a = refl
count_is l m p h (suc k) a = ap₂ (λ (x y : ℕ). x + y) (sym (ap (λ (o : Option Bytes). cond (is_absent_in o) 0 1) (h a)) ∙ go (filter (of_file a) l) (pairs_few a l p)) (count_is l m p h k (suc a))
  where
    go : (x : List Entry) → length x ≤ 1 → cond (is_absent_in (content_of (first x))) 0 1 ≡ length x
    go [] n = refl
    go (e ∷ []) n = refl
    go (e ∷ (f ∷ x)) n = absurd (let w : ⊥ = omega arith in w)

good_file : (f : ℕ) → f < 256 → is_bad_file f ≡ false
unfolding is_bad_file
good_file f l = go (ltb 255 f) refl
  where
    go : (b : Bool) → ltb 255 f ≡ b → b ≡ false
    go true z = absurd (let w : ⊥ = omega (arith, lt_of 255 f z) in w)
    go false z = refl

-- the handle of what is kept for a file
abbrev handle_in : Option View → Handle
handle_in none = origin
handle_in (some x) = x.at

-- ---- by the image
module _ (g : Geometry) (s : Bytes) (m : Plain) (h : Holds g s m) (st : standing g (survey g s) ≡ Settled) where
  c : Calm g s
  c = calm_of g s h.inv.kept st

  files_are_lem : (f : ℕ) → content_of (committed_view f (survey g s)) ≡ m.files f
  unfolding content_of
  files_are_lem f = content_view (committed_view f (survey g s)) ∙ ap bytes_of (committed_view_lem (survey g s) c.quiet h.store h.inv.means f) ∙ ap (λ (x : Plain). x.files f) h.is
    where
      content_view : (o : Option Entry) → content_of o ≡ bytes_of (entry_view o)
      content_view none = refl
      content_view (some e) = refl

  -- the handle that a read by file gives
  abbrev handle_of : ℕ → Handle
  handle_of f = (given (outcome g (read f) s).answer).at

  read_handle : (f : ℕ) → f < 256 → (e : Entry) → committed_view f (survey g s) ≡ some e → handle_of f ≡ e.at
  unfolding carry_out outcome refuse plan in_settled in_geometry allowance given when_settled showing Rattle.rules.specs.Answers.shown
  read_handle f l e q = let good : is_bad_file f ≡ false = good_file f l in λ i. (given (carry_out (refuse (not ((kept_sane g s h.inv.kept).0 i)) BadGeometry (when_settled (st i) (refuse (good i) BadFile (showing NotSaid (q i))))) 0 s).answer).at

  -- it is the one that the store keeps for the file; 0:0 where there is none
  kept_handle : (f : ℕ) → f < 256 → handle_of f ≡ handle_in (h.store.files f)
  unfolding given carry_out refuse when_settled showing nothing outcome plan in_settled in_geometry allowance
  kept_handle f l = go (committed_view f (survey g s)) refl
    where
      good : is_bad_file f ≡ false
      good = good_file f l

      kept : (o : Option Entry) → committed_view f (survey g s) ≡ o → handle_in (entry_view o) ≡ handle_in (h.store.files f)
      kept o q = ap handle_in (ap entry_view (sym q) ∙ committed_view_lem (survey g s) c.quiet h.store h.inv.means f)

      go : (o : Option Entry) → committed_view f (survey g s) ≡ o → handle_of f ≡ handle_in (h.store.files f)
      go none q = (λ i. (given (carry_out (refuse (not ((kept_sane g s h.inv.kept).0 i)) BadGeometry (when_settled (st i) (refuse (good i) BadFile (showing NotSaid (q i))))) 0 s).answer).at) ∙ kept none q
      go (some e) q = read_handle f l e q ∙ kept (some e) q

  line_is : (f : ℕ) → f < 256 → file_line f (committed_view f (survey g s)) ≡ plain_line f (m.files f) (handle_of f)
  unfolding content_of file_line plain_line
  line_is f l = go (committed_view f (survey g s)) refl ∙ ap (λ (o : Option Bytes). plain_line f o (handle_of f)) (files_are_lem f)
    where
      go : (o : Option Entry) → committed_view f (survey g s) ≡ o → file_line f o ≡ plain_line f (content_of o) (handle_of f)
      go none q = refl
      go (some e) q =
          ap₂ (λ (n : ℕ) (a : Handle). file_line f (some (record { at = a; place = e.place; descriptor = record { flags = 0; offset = 0; len = n; tag = 0 }; start = 0; content = [] })))
          (sym (committed_sits (survey g s) c.quiet h.store h.inv.means s c.sits f e q).sized) (sym (read_handle f l e q))

  lines_are : (k f : ℕ) → f + k ≤ 256 → file_lines k f (survey g s) ≡ plain_lines k f m.files handle_of
  unfolding file_lines plain_lines
  lines_are zero f l = refl
  lines_are (suc k) f l = ap₂ (λ (x y : Bytes). x ++ y) (line_is f (omega arith)) (lines_are k (suc f) (omega arith))

  count_files : count_from 256 0 m.files ≡ length (select is_current_file (survey g s))
  unfolding committed_view select
  count_files = count_is (pick is_current_file (survey g s).entries) m.files c.quiet.current files_are_lem 256 0 ∙ sum_all (pick is_current_file (survey g s).entries)

  open_flag : has_none (survey g s) ≡ is_shut m.changes
  open_flag = open_is_lem (survey g s) c.quiet h.store h.inv.means ∙ ap (λ (x : Plain). is_shut x.changes) h.is

  -- THE listing
  pub lists_plainly : listed g s ≡ plain_listing g m (λ f. (given (outcome g (read f) s).answer).at)
  unfolding listed lines_when settled_lines plain_listing
  lists_plainly =
      (λ i. cond ((kept_sane g s h.inv.kept).0 i) (lines_when (st i) g (survey g s)) (refused_line BadGeometry))
      ∙ (λ i. keyed "unit=" g.size ++ (keyed "units=" g.units ++ (keyed "open=" (cond (open_flag i) 0 1) ++ (keyed "files=" (sym count_files i) ++ lines_are 256 0 (omega arith) i))))

-- while a file is unchanged, a read by file gives the same handle
pub same_handle : (g : Geometry) {s t : Bytes} {m n : Plain} → Holds g s m → (f : ℕ) → f < 256 → Onward g (is_unchanged f) s m t n → standing g (survey g s) ≡ Settled → standing g (survey g t) ≡ Settled
    → (given (outcome g (read f) t).answer).at ≡ (given (outcome g (read f) s).answer).at
same_handle g {s} {t} {m} {n} h f l w a b =
    let k = unchanged_holds g f w h in
    kept_handle g t n k.0 b f l ∙ ap handle_in k.1 ∙ sym (kept_handle g s m h a f l)

-- ---- the handle that a DONE read by file gives is its file's
read_done : (m : Plain) (x : Seen) (f : ℕ) → plain_number m x (read f) ≡ 0 → (x.settled ≡ true) × (is_bad_file f ≡ false) × (is_absent_in (m.files f) ≡ false)
unfolding plain_number Rattle.rules.specs.Plain.when_settled
read_done m x f z = go x.settled (is_bad_file f) (is_absent_in (m.files f)) z
  where
    go : (a b c : Bool) → ◌≡◌ {A = ℕ} (cond a (cond b 5 (cond c 9 0)) 4) 0 → (a ≡ true) × (b ≡ false) × (c ≡ false)
    go true false false n = (refl, refl, refl)
    go true false true n = absurd (let w : ⊥ = omega arith in w)
    go true true w n = absurd (let w : ⊥ = omega arith in w)
    go false b w n = absurd (let w : ⊥ = omega arith in w)

read_content : (m : Plain) (x : Seen) (f : ℕ) (y : Bytes) → plain_number m x (read f) ≡ 0 → m.files f ≡ some y → plain_content m x (read f) ≡ y
unfolding plain_content content_by bytes_in
read_content m x f y n e = λ i. cond (eqb (n i) 0) (bytes_in (e i)) []

absent_here : {A : Type 0} (o : Option Bytes) → o ≡ content_of none → is_absent_in o ≡ false → A
unfolding content_of is_absent_in
absent_here o e n = true_false true refl (sym (ap is_absent_in e) ∙ n)

some_content : {o : Option Entry} {e : Entry} → o ≡ some e → content_of o ≡ some e.content
unfolding content_of
some_content q = ap content_of q

pub read_gives : (g : Geometry) (s : Bytes) (m : Plain) (h : Holds g s m) (f : ℕ) → number (outcome g (read f) s).answer ≡ 0
    → Gives g s (given (outcome g (read f) s).answer).at.unit (given (outcome g (read f) s).answer).at.position f (content (outcome g (read f) s))
unfolding seen
read_gives g s m h f z = shown (committed_view f (survey g s)) refl (files_are_lem g s m h st f)
  where
    d : ((seen g (read f) s).settled ≡ true) × (is_bad_file f ≡ false) × (is_absent_in (m.files f) ≡ false)
    d = read_done m (seen g (read f) s) f (sym (as_plain_lem g s m h (read f)).0 ∙ z)

    st : standing g (survey g s) ≡ Settled
    st = settled_of (standing g (survey g s)) d.0

    c' : Calm g s
    c' = calm_of g s h.inv.kept st

    same : (e : Entry) → m.files f ≡ some e.content → content (outcome g (read f) s) ≡ e.content
    same e q = (as_plain_lem g s m h (read f)).1 ∙ read_content m (seen g (read f) s) f e.content (sym (as_plain_lem g s m h (read f)).0 ∙ z) q

    shown : (o : Option Entry) → committed_view f (survey g s) ≡ o → content_of (committed_view f (survey g s)) ≡ m.files f
        → Gives g s (given (outcome g (read f) s).answer).at.unit (given (outcome g (read f) s).answer).at.position f (content (outcome g (read f) s))
    shown none q k = absent_here (m.files f) (sym k ∙ ap content_of q) d.2
    shown (some e) q k =
        let at = read_handle g s m h st f (small_file g f d.1) e q in
        let w = reads_at_lem g s m h st f (view e) (sym (committed_view_lem (survey g s) c'.quiet h.store h.inv.means f) ∙ ap entry_view q) in
        subst₂ (λ (a : Handle) (x : Bytes). Gives g s a.unit a.position f x) (sym at) (sym (same e (sym k ∙ some_content q))) w
