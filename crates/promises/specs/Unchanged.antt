-- Handles over any calls: while a file is unchanged its handle gives the same file and bytes; a write's handle is its file's once committed.
use Rattle.std.specs.Prelude.{Bool, ◌&&◌, cond, false, not, true, List, [], ◌∷◌, ◌≡◌, refl, ◌<◌, ℕ, eqb, ltb}
use Rattle.std.proofs.Math.Option.{Option, none, some}
use Rattle.std.proofs.Common.{◌∙◌, ap, subst, subst₂, sym, arith}
use Rattle.rules.specs.Plain.{content_by, given_by}
use Rattle.rules.specs.Answers.{Outcome, content, given, number}
use Rattle.rules.specs.Calls.{Call, abort, begin, commit, delete, format, is_at, mount, outcome, read, read_at, read_open, write}
use Rattle.rules.specs.Flash.{Bytes}
use Rattle.rules.specs.Histories.{Plain, as_made, follow, is_format, takes_bytes}
use Rattle.rules.specs.Lists.{filter, first}
use Rattle.rules.specs.Plain.{Gives, Onward, Seen, bytes_in, file_at, file_in, has_change, here, is_change, is_other, is_settled, is_unchanged, onward, plain_content, plain_file, plain_number, seen, when_settled}
use Rattle.rules.specs.Settled.{Entry, select, survey}
use Rattle.rules.specs.Sound.{standing}
use Rattle.rules.specs.Unit.{is_current_file, is_open}
use Rattle.rules.specs.declared.Geometry.{Geometry}
use Rattle.rules.specs.declared.Rule.{Rule}
use Rattle.rules.specs.declared.Standing.{Standing}
use Rattle.rules.specs.declared.Standing.TheVariants.{Neither, Settled, Sound}
use Rattle.theory.specs.Base.Facts.{eqb_same, eqb_sym, ltb_of, not-true, true_false}
use Rattle.theory.specs.Tidying.Sorted.{View, num, view}
use Rattle.theory.specs.Meaning.Means.{Drafts, Keeping, bytes_of, laid_on, with_open}
use Rattle.theory.specs.Meaning.MeansEnds.{commits}
use Rattle.theory.specs.Meaning.StoreFinal.{begins, changes_to}
use Rattle.theory.specs.Promised.Follow.{keep}
use Rattle.theory.specs.Promised.Histories.{Holds, change_in, changes_in, holds_called, plain}
use Rattle.theory.specs.Meaning.Handles.{ShownAt, none_some}
use Rattle.theory.specs.Promised.Reads.{Calm, calm_of, file_handle, handle_view}
use Rattle.promises.specs.Answered.{AsPlain, as_plain_lem}

-- ---- the store's view of f is kept by a call that leaves f unchanged
keep_unchanged : (g : Geometry) (c : Call) (o : Outcome) (b : Keeping) (f : ℕ) → is_unchanged f c o (plain b) ≡ true → (keep g c o b).files f ≡ b.files f
unfolding is_change has_change is_unchanged
keep_unchanged g (format k) o b f u = refl
keep_unchanged g (mount k) o b f u = refl
keep_unchanged g (abort k) o b f u = refl
keep_unchanged g (begin rule k) o b f u = go (eqb (number o.answer) 0)
  where
    go : (d : Bool) → (cond d (begins b) b).files f ≡ b.files f
    go true = refl
    go false = refl
keep_unchanged g (commit k) o b f u = go (ltb 0 (given o.answer).steps) u
  where
    laid : (o : Option Drafts) → not (has_change f (changes_in o)) ≡ true → (elim o as (λ j. ℕ → Option View) [ none ↦ b.files | some o ↦ λ h. laid_on (o h) (b.files h) ]) f ≡ b.files f
    laid none h = refl
    laid (some o) h = each (o f) h
      where
        each : (x : Option (Option View)) → not (is_change (change_in x)) ≡ true → laid_on x (b.files f) ≡ b.files f
        each none h = refl
        each (some y) h = true_false false h refl

    go : (d : Bool) → not (d && has_change f (changes_in b.changes)) ≡ true → (cond d (commits b) b).files f ≡ b.files f
    go true h = laid b.changes h
    go false h = refl
keep_unchanged g (write rule h c k) o b f u = go (eqb (number o.answer) 0)
  where
    go : (d : Bool) → (cond d (changes_to h (some (record { at = (given o.answer).at; content = c })) b) b).files f ≡ b.files f
    go true = refl
    go false = refl
keep_unchanged g (delete rule h k) o b f u = go (eqb (number o.answer) 0)
  where
    go : (d : Bool) → (cond d (changes_to h none b) b).files f ≡ b.files f
    go true = refl
    go false = refl
keep_unchanged g (read h) o b f u = refl
keep_unchanged g (read_open h) o b f u = refl
keep_unchanged g (read_at L p) o b f u = refl

pub unchanged_holds : (g : Geometry) (f : ℕ) {s t : Bytes} {m n : Plain} → Onward g (is_unchanged f) s m t n → (h : Holds g s m) → (k : Holds g t n) × (k.store.files f ≡ h.store.files f)
unchanged_holds g f {s = s} {m = m} w h = go w
  where
    go : {t : Bytes} {n : Plain} → Onward g (is_unchanged f) s m t n → (k : Holds g t n) × (k.store.files f ≡ h.store.files f)
    go here = (h, refl)
    go (onward {t = t} {n = n} c nf by ok r l) =
        let k = go r in
        (holds_called g c nf by k.0 l, keep_unchanged g c (outcome g c t) k.0.store f (ap (is_unchanged f c (outcome g c t)) k.0.is ∙ ok) ∙ k.1)

-- ---- reading at a handle
pub settled_of : (t : Standing) → is_settled t ≡ true → t ≡ Settled
unfolding is_settled
settled_of Settled e = refl
settled_of Sound e = true_false false e refl
settled_of Neither e = true_false false e refl

-- what a handle read gives, once it is known what is seen
by_seen : (m : Plain) (x : Seen) (L p f : ℕ) → x.settled ≡ true → x.file ≡ some f → (plain_number m x (read_at L p) ≡ 0) × (plain_content m x (read_at L p) ≡ bytes_in (m.files f)) × (plain_file m x (read_at L p) ≡ f)
unfolding plain_number when_settled plain_content content_by plain_file given_by
by_seen m x L p f a e = (n, (λ i. cond (eqb (n i) 0) (elim (e i) as (λ j. Bytes) [ none ↦ [] | some h ↦ bytes_in (m.files h) ]) []), λ i. cond (eqb (n i) 0) (elim (e i) as (λ j. ℕ) [ none ↦ 0 | some h ↦ h ]) 0)
  where
    n : plain_number m x (read_at L p) ≡ 0
    n = λ i. cond (a i) (elim (e i) as (λ j. ℕ) [ none ↦ 11 | some h ↦ 0 ]) 4

shown_is : (g : Geometry) (s : Bytes) (f : ℕ) (x : View) (z : ShownAt (survey g s).entries f x) → first (filter (is_at x.at.unit x.at.position) (select is_current_file (survey g s))) ≡ some z.entry
unfolding select
shown_is g s f x z = z.shown

-- a file's handle shows it
pub reads_at_lem : (g : Geometry) (s : Bytes) (m : Plain) (h : Holds g s m) → standing g (survey g s) ≡ Settled → (f : ℕ) (x : View) → h.store.files f ≡ some x → Gives g s x.at.unit x.at.position f x.content
unfolding seen is_settled file_at file_in bytes_in
reads_at_lem g s m h t f x e = record { done = a.0 ∙ w.0; file = a.2 ∙ w.2; bytes = a.1 ∙ w.1 ∙ ap bytes_in has }
  where
    c : Calm g s
    c = calm_of g s h.inv.kept t

    z : ShownAt (survey g s).entries f x
    z = file_handle (survey g s) c.quiet h.store h.inv.means f x e (c.handles x.at.unit x.at.position)

    a : AsPlain g s m (read_at x.at.unit x.at.position)
    a = as_plain_lem g s m h (read_at x.at.unit x.at.position)

    has : m.files f ≡ some x.content
    has = sym (ap (λ (y : Plain). y.files f) h.is) ∙ ap bytes_of e

    file_is_lem : file_in (first (filter (is_at x.at.unit x.at.position) (select is_current_file (survey g s)))) ≡ some f
    file_is_lem = ap file_in (shown_is g s f x z) ∙ ap some z.file

    w : (plain_number m (seen g (read_at x.at.unit x.at.position) s) (read_at x.at.unit x.at.position) ≡ 0) × (plain_content m (seen g (read_at x.at.unit x.at.position) s) (read_at x.at.unit x.at.position) ≡ bytes_in (m.files f)) × (plain_file m (seen g (read_at x.at.unit x.at.position) s) (read_at x.at.unit x.at.position) ≡ f)
    w = by_seen m (seen g (read_at x.at.unit x.at.position) s) x.at.unit x.at.position f (ap is_settled t) file_is_lem

-- what a DONE handle read shows: the store's view of its file
record ReadShows (g : Geometry) (s : Bytes) (m : Plain) (h : Holds g s m) (L p : ℕ) : Type 0 where
  file : ℕ
  seen' : View
  has : h.store.files file ≡ some seen'
  unit' : seen'.at.unit ≡ L
  position' : seen'.at.position ≡ p
  gives : Gives g s L p file seen'.content

no_file_lem : {A : Type 0} → ◌≡◌ {A = ℕ} 11 0 → A
no_file_lem e = absurd (let w : ⊥ = omega arith in w)

shown_by_lem : (g : Geometry) (s : Bytes) (m : Plain) (h : Holds g s m) (L p : ℕ) → number (outcome g (read_at L p) s).answer ≡ 0 → ReadShows g s m h L p
unfolding plain_number when_settled seen file_at file_in
shown_by_lem g s m h L p z = go (is_settled (standing g (survey g s))) refl (sym (as_plain_lem g s m h (read_at L p)).0 ∙ z)
  where
    with_entry : standing g (survey g s) ≡ Settled → (o : Option Entry) → first (filter (is_at L p) (select is_current_file (survey g s))) ≡ o → ◌≡◌ {A = ℕ} (elim (file_in o) as (λ j. ℕ) [ none ↦ 11 | some f ↦ 0 ]) 0 → ReadShows g s m h L p
    with_entry t none e n = no_file_lem n
    with_entry t (some y) e n =
        let c = calm_of g s h.inv.kept t in
        let w = handle_view (survey g s) c.quiet h.store h.inv.means L p y e in
        record {
          file = num y;
          seen' = view y;
          has = w.0;
          unit' = w.1;
          position' = w.2;
          gives = subst₂ (λ (a b : ℕ). Gives g s a b (num y) y.content) w.1 w.2 (reads_at_lem g s m h t (num y) (view y) w.0);
        }

    go : (b : Bool) → is_settled (standing g (survey g s)) ≡ b → ◌≡◌ {A = ℕ} (cond b (elim (file_in (first (filter (is_at L p) (select is_current_file (survey g s))))) as (λ j. ℕ) [ none ↦ 11 | some f ↦ 0 ]) 4) 0 → ReadShows g s m h L p
    go true e n = with_entry (settled_of (standing g (survey g s)) e) (first (filter (is_at L p) (select is_current_file (survey g s)))) refl n
    go false e n = absurd (let w : ⊥ = omega arith in w)

-- While its file is unchanged a handle gives the same file and bytes.
pub handle_holds : (g : Geometry) {s t : Bytes} {m n : Plain} → Holds g s m → (L p : ℕ) → number (outcome g (read_at L p) s).answer ≡ 0
    → Onward g (is_unchanged (given (outcome g (read_at L p) s).answer).file) s m t n → standing g (survey g t) ≡ Settled
    → Gives g t L p (given (outcome g (read_at L p) s).answer).file (content (outcome g (read_at L p) s))
handle_holds g {s} {t} {m} {n} h L p z r st =
    record { done = v.done; file = v.file ∙ sym d.gives.file; bytes = v.bytes ∙ sym d.gives.bytes }
  where
    d : ReadShows g s m h L p
    d = shown_by_lem g s m h L p z

    k : (k : Holds g t n) × (k.store.files d.file ≡ h.store.files d.file)
    k = unchanged_holds g d.file (subst (λ (f : ℕ). Onward g (is_unchanged f) s m t n) d.gives.file r) h

    v : Gives g t L p d.file d.seen'.content
    v = subst₂ (λ (a b : ℕ). Gives g t a b d.file d.seen'.content) d.unit' d.position' (reads_at_lem g t n k.0 st d.file d.seen' (k.1 ∙ d.has))

-- ---- a write's handle
-- the store's transaction has no other change of f than x
abbrev Draft : ℕ → View → Keeping → Type 0
Draft f x b = (o : Drafts) (y : Option View) → b.changes ≡ some o → o f ≡ some y → y ≡ some x

-- a mount or an abort leaves the transaction, or none
still : (l : List Entry) (b : Keeping) (f : ℕ) (x : View) → Draft f x b → Draft f x (with_open b l)
still [] b f x h = λ o y e z. none_some o e
still (t ∷ ts) b f x h = h

some_is : {A : Type 0} (a b : A) → some a ≡ some b → a ≡ b
some_is a b e = cc

-- a change of another file
more : (b : Keeping) (f w : ℕ) (v : Option View) (x : View) → not (eqb w f) ≡ true → Draft f x b → Draft f x (changes_to w v b)
more b f w v x u h = go b.changes refl
  where
    go : (i : Option Drafts) → b.changes ≡ i → Draft f x (record { files = b.files; changes = elim i as (λ j. Option Drafts) [ none ↦ none | some o ↦ some (λ n. cond (eqb n w) (some v) (o n)) ] })
    go none e = λ o y p z. none_some o p
    go (some i) e = λ o y p z. h i y e (sym (ap (λ (d : Bool). cond d (some v) (i f)) (eqb_sym f w ∙ not-true (eqb w f) u)) ∙ ap (λ (d : Drafts). d f) (some_is (λ (n : ℕ). cond (eqb n w) (some v) (i n)) o p) ∙ z)

-- a change of f itself
mine : (b : Keeping) (f : ℕ) (x : View) → Draft f x (changes_to f (some x) b)
mine b f x = go b.changes
  where
    go : (i : Option Drafts) → Draft f x (record { files = b.files; changes = elim i as (λ j. Option Drafts) [ none ↦ none | some o ↦ some (λ n. cond (eqb n f) (some (some x)) (o n)) ] })
    go none = λ o y p z. none_some o p
    go (some i) = λ o y p z. some_is y (some x) (sym z ∙ sym (ap (λ (d : Drafts). d f) (some_is (λ (n : ℕ). cond (eqb n f) (some (some x)) (i n)) o p)) ∙ ap (λ (d : Bool). cond d (some (some x)) (i f)) (eqb_same f))

keep_other : (g : Geometry) (c : Call) (o : Outcome) (b : Keeping) (f : ℕ) (x : View) → is_other f c o (plain b) ≡ true → Draft f x b → Draft f x (keep g c o b)
unfolding is_other
keep_other g (format k) o b f x u h = h
keep_other g (mount k) o b f x u h = still (select is_open (survey g o.image)) b f x h
keep_other g (abort k) o b f x u h = still (select is_open (survey g o.image)) b f x h
keep_other g (begin rule k) o b f x u h = go (eqb (number o.answer) 0)
  where
    go : (d : Bool) → Draft f x (cond d (begins b) b)
    go true = λ o y e z. none_some y (ap (λ (i : Drafts). i f) (some_is (λ (h : ℕ). none) o e) ∙ z)
    go false = h
keep_other g (commit k) o b f x u h = go (ltb 0 (given o.answer).steps)
  where
    go : (d : Bool) → Draft f x (cond d (commits b) b)
    go true = λ o y e z. none_some o e
    go false = h
keep_other g (write rule w c k) o b f x u h = go (eqb (number o.answer) 0)
  where
    go : (d : Bool) → Draft f x (cond d (changes_to w (some (record { at = (given o.answer).at; content = c })) b) b)
    go true = more b f w (some (record { at = (given o.answer).at; content = c })) x u h
    go false = h
keep_other g (delete rule w k) o b f x u h = go (eqb (number o.answer) 0)
  where
    go : (d : Bool) → Draft f x (cond d (changes_to w none b) b)
    go true = more b f w none x u h
    go false = h
keep_other g (read w) o b f x u h = h
keep_other g (read_open w) o b f x u h = h
keep_other g (read_at L p) o b f x u h = h

other_holds : (g : Geometry) (f : ℕ) (x : View) {s t : Bytes} {m n : Plain} → Onward g (is_other f) s m t n → (h : Holds g s m) → Draft f x h.store → (k : Holds g t n) × Draft f x k.store
other_holds g f x {s = s} {m = m} w h d = go w
  where
    go : {t : Bytes} {n : Plain} → Onward g (is_other f) s m t n → (k : Holds g t n) × Draft f x k.store
    go here = (h, d)
    go (onward {t = t} {n = n} c nf by ok r l) =
        let k = go r in
        (holds_called g c nf by k.0 l, keep_other g c (outcome g c t) k.0.store f x (ap (is_other f c (outcome g c t)) k.0.is ∙ ok) k.1)

-- once its commit step is made, the file is what was written, at the write's handle
committed_draft : (b : Keeping) (f : ℕ) (x : View) → Draft f x b → has_change f (plain b).changes ≡ true → (commits b).files f ≡ some x
unfolding has_change is_change
committed_draft b f x d h = go b.changes refl h
  where
    go : (o : Option Drafts) → b.changes ≡ o → has_change f (changes_in o) ≡ true → (elim o as (λ j. ℕ → Option View) [ none ↦ b.files | some o ↦ λ h. laid_on (o h) (b.files h) ]) f ≡ some x
    go none e h = true_false false h refl
    go (some o) e h = each (o f) refl h
      where
        each : (y : Option (Option View)) → o f ≡ y → is_change (change_in y) ≡ true → laid_on y (b.files f) ≡ some x
        each none z h = true_false false h refl
        each (some y) z h = d o y e z

pub write_holds : (g : Geometry) {s t u : Bytes} {m n q : Plain} → Holds g s m → (rule : Rule) (f : ℕ) (c : Bytes) (k : ℕ) → takes_bytes (write rule f c k) ≡ true → number (outcome g (write rule f c k) s).answer ≡ 0
    → Onward g (is_other f) (outcome g (write rule f c k) s).image (follow g (write rule f c k) (outcome g (write rule f c k) s) m) t n → has_change f n.changes ≡ true
    → (j : ℕ) → 0 < (given (outcome g (commit j) t).answer).steps
    → Onward g (is_unchanged f) (outcome g (commit j) t).image (follow g (commit j) (outcome g (commit j) t) n) u q → standing g (survey g u) ≡ Settled
    → Gives g u (given (outcome g (write rule f c k) s).answer).at.unit (given (outcome g (write rule f c k) s).answer).at.position f c
unfolding is_format takes_bytes
write_holds g {s} {t} {u} {m} {n} {q} h rule f c k by z r has j l w st =
    reads_at_lem g u q K.0 st f x (K.1 ∙ ap (λ (b : Bool). (cond b (commits T.0.store) T.0.store).files f) (ltb_of 0 (given (outcome g (commit j) t).answer).steps l)
    ∙ committed_draft T.0.store f x T.1 (ap (λ (y : Plain). has_change f y.changes) T.0.is ∙ has))
  where
    x : View
    x = record { at = (given (outcome g (write rule f c k) s).answer).at; content = c }

    W : Holds g (outcome g (write rule f c k) s).image (follow g (write rule f c k) (outcome g (write rule f c k) s) m)
    W = holds_called g (write rule f c k) refl by h as_made

    D : Draft f x W.store
    D = subst (λ (i : ℕ). Draft f x (cond (eqb i 0) (changes_to f (some x) h.store) h.store)) (sym z) (mine h.store f x)

    T : (T : Holds g t n) × Draft f x T.store
    T = other_holds g f x r W D

    K : (K : Holds g u q) × (K.store.files f ≡ (holds_called g (commit j) refl refl T.0 as_made).store.files f)
    K = unchanged_holds g f w (holds_called g (commit j) refl refl T.0 as_made)
