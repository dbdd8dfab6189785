-- Every call answers as the plain store does: number, content and file.
use Rattle.std.specs.Prelude.{Bool, not, ◌≡◌, ◌<◌, ◌≤◌, ℕ, eqb, leb, drop, length, None, Some, Err}
use Rattle.std.proofs.Math.Bool.{cond, false, true}
use mathlib.Core.List.{List, []}
use Rattle.std.proofs.Math.Option.{Option, none, some}
use Rattle.std.proofs.Common.{◌∙◌, arith}
use Rattle.std.proofs.Math.Path.{ap, refl, subst, sym}
use Rattle.std.proofs.Math.Decide.{dec_lt}
use Rattle.std.proofs.Math.ListN.{take}
use Rattle.rules.specs.Answers.{Plan, carry_out, content, ended, given, job_of, makes, nothing, number, origin, refuses, shown, shows}
use Rattle.rules.specs.Calls.{Call, abort, allowance, begin, commit, delete, format, has_none, in_geometry, in_settled, is_absent, is_at, is_bad_file, is_too_long, list_of, mount, origin_of, outcome, plan, read, read_at, read_open, refuse, showing, showing_at, storing, when_settled, when_sound, write}
use Rattle.rules.specs.Flash.{Bytes, State, Step, is_geometry, run, state, steps_of}
use Rattle.rules.specs.Histories.{Plain, laid_down}
use Rattle.rules.specs.Jobs.{Place, abort_job, as_it_stands, commit_job, earlier_of, format_job, mount_job, no_earlier, no_room, once_reclaimed, place, size_for, store_at, store_job}
use Rattle.laws.specs.Calls.{refused_given}
use Rattle.rules.specs.Lists.{filter, first}
use Rattle.rules.specs.Plain.{Seen, bytes_in, content_by, ending, file_at, file_in, given_by, in_view, is_absent_in, is_room, is_settled, is_shut, plain_content, plain_file, plain_number, room_in, seen, stored, when_settled as settled_or}
use Rattle.rules.specs.Settled.{Entry, Survey, select, survey}
use Rattle.rules.specs.Sound.{standing}
use Rattle.rules.specs.Unit.{data_tag, file_of, is_current_file, mark_tag, transaction_tag}
use Rattle.rules.specs.Views.{committed_view, content_of, transaction_view}
use Rattle.rules.specs.declared.NotDone.{NotDone}
use Rattle.rules.specs.declared.NotDone.TheVariants.{Absent, BadFile, BadGeometry, BadHandle, NoRoom, NoTransaction, Open, TooLong, Unsettled}
use Rattle.rules.specs.declared.Geometry.{Geometry}
use Rattle.rules.specs.declared.Rule.{Rule}
use Rattle.rules.specs.declared.Given.{Given}
use Rattle.rules.specs.declared.Handle.{Handle}
use Rattle.rules.specs.declared.Origin.{Origin}
use Rattle.rules.specs.declared.Origin.TheVariants.{NotSaid}
use Rattle.rules.specs.declared.Standing.{Standing}
use Rattle.rules.specs.declared.Standing.TheVariants.{Neither, Settled, Sound}
use Rattle.laws.specs.Runs.{run_done}
use Rattle.theory.specs.Base.Facts.{eq_of, le_of, leb_of, true_false}
use Rattle.theory.specs.Base.Along.{run_stopped}
use Rattle.theory.specs.Images.Stand.{not_neither}
use Rattle.theory.specs.Mounting.Kept.{KeptImage, kept_mountable}
use Rattle.theory.specs.Mounting.KeptMounts.{kept_sane}
use Rattle.theory.specs.Meaning.Means.{Drafts, Keeping, Means, bytes_of}
use Rattle.theory.specs.Meaning.MeansMount.{lists_of}
use Rattle.theory.specs.Promised.Histories.{Holds, plain, plain_laid}
use Rattle.theory.specs.Images.Entries.{Sits}
use Rattle.theory.specs.Promised.Reads.{Calm, calm_of, committed_sits, committed_view_lem, entry_view, handle_sits, handle_view, open_is_lem, shown_content, transaction_sits, transaction_view_lem}

-- ---- a plan's number, where it is known whether the allowance suffices
abbrev pub plan_number : Plan → Bool → ℕ
plan_number (refuses a) en = number (Err a)
plan_number (makes h xs) en = cond en 0 1
plan_number (shows h f e w) en = 0

pub plan_number_lem : (p : Plan) (k : ℕ) (s : Bytes) → number (carry_out p k s).answer ≡ plan_number p (leb (length (steps_of (job_of p) s)) k)
unfolding carry_out number ended job_of
plan_number_lem (refuses a) k s = refl
plan_number_lem (shows h f e w) k s = refl
plan_number_lem (makes h xs) k s = go (dec_lt k (length (steps_of xs s)))
  where
    few : k < length (steps_of xs s) → (b : Bool) → leb (length (steps_of xs s)) k ≡ b → b ≡ false
    few l true e = absurd (let z : ⊥ = omega (arith, le_of (length (steps_of xs s)) k e) in z)
    few l false e = refl

    go : Dec (k < length (steps_of xs s)) → number (ended h k (run xs (state s (Some k)))).answer ≡ cond (leb (length (steps_of xs s)) k) 0 1
    go (yes l) = ap (λ (r : State). number (ended h k r).answer) (run_stopped xs k s l) ∙ sym (ap (λ (b : Bool). cond b 0 1) (few l (leb (length (steps_of xs s)) k) refl))
    go (no n) =
        let l : length (steps_of xs s) ≤ k = omega arith in
        ap (λ (r : State). number (ended h k r).answer) (run_done xs k s l) ∙ sym (ap (λ (b : Bool). cond b 0 1) (leb_of (length (steps_of xs s)) k l))

module _ (g : Geometry) (s : Bytes) (en : Bool) where
  -- a plan says number n, and where it is DONE content c and file f
  pub record PlanSays (p : Plan) (n : ℕ) (c : Bytes) (f : ℕ) : Type 0 where
    pub number' : plan_number p en ≡ n
    pub content' : (k : ℕ) → content (carry_out p k s) ≡ cond (eqb n 0) c []
    pub file' : (k : ℕ) → (given (carry_out p k s).answer).file ≡ cond (eqb n 0) f 0

  says_refuses : (a : NotDone) → 2 ≤ number (Err a) → (c : Bytes) (f : ℕ) → PlanSays (refuses a) (number (Err a)) c f
  unfolding nothing content carry_out
  says_refuses a l c f = record { number' = refl; content' = λ k. ap (λ (r : Given). take r.len (drop r.start s)) e ∙ no c []; file' = λ k. ap (λ (r : Given). r.file) e ∙ no f 0 }
    where
      e : given (Err a) ≡ nothing 0 (given (Err a)).from
      e = refused_given (Err a) l

      no : {A : Type 0} (x y : A) → y ≡ cond (eqb (number (Err a)) 0) x y
      no x y = go (eqb (number (Err a)) 0) refl
        where
          go : (b : Bool) → eqb (number (Err a)) 0 ≡ b → y ≡ cond b x y
          go true h = absurd (let z : ⊥ = omega (arith, l, eq_of (number (Err a)) 0 h) in z)
          go false h = refl

  says_makes : (h : Handle) (xs : List Step) → PlanSays (makes h xs) (cond en 0 1) [] 0
  unfolding content given ended nothing carry_out
  says_makes h xs = record { number' = refl; content' = λ k. nil k (run xs (state s (Some k))) ∙ same {A = Bytes} []; file' = λ k. zero' k (run xs (state s (Some k))) ∙ same {A = ℕ} 0 }
    where
      nil : (k : ℕ) (r : State) → content (ended h k r) ≡ []
      nil k (state t (Some j)) = refl
      nil k (state t None) = refl

      zero' : (k : ℕ) (r : State) → (given (ended h k r).answer).file ≡ 0
      zero' k (state t (Some j)) = refl
      zero' k (state t None) = refl

      same : {A : Type 0} (x : A) → x ≡ cond (eqb (cond en 0 1) 0) x x
      same x = go (eqb (cond en 0 1) 0)
        where
          go : (b : Bool) → x ≡ cond b x x
          go true = refl
          go false = refl

  says_shows : (h : Handle) (f : ℕ) (e : Entry) (w : Origin) → Sits s e → PlanSays (shows h f e w) 0 e.content f
  unfolding content given carry_out shown
  says_shows h f e w z = record { number' = refl; content' = λ k. shown_content s e z; file' = λ k. refl }

  says_or : (b : Bool) (a : NotDone) (p : Plan) (n : ℕ) (c : Bytes) (f : ℕ) → 2 ≤ number (Err a) → (b ≡ false → PlanSays p n c f) → PlanSays (refuse b a p) (cond b (number (Err a)) n) c f
  unfolding refuse
  says_or true a p n c f l h = says_refuses a l c f
  says_or false a p n c f l h = h refl

  says_showing : (w : Origin) (o : Option Entry) → ((e : Entry) → o ≡ some e → Sits s e) → PlanSays (showing w o) (cond (is_absent_in (content_of o)) 9 0) (bytes_in (content_of o)) 0
  unfolding number showing is_absent_in bytes_in content_of
  says_showing w none z = says_refuses (Absent w) (omega arith) [] 0
  says_showing w (some e) z = says_shows e.at 0 e w (z e refl)

  says_storing : (rule : Rule) (tag : ℕ) (c : Bytes) (earlier : Survey → List Entry) (v : Survey) → PlanSays (storing (store_job g rule tag c earlier s v)) (cond (is_room (place g rule (size_for c) v)) (cond en 0 1) 10) [] 0
  unfolding storing is_room store_at number store_job
  says_storing rule tag c earlier v = go (place g rule (size_for c) v)
    where
      go : (pl : Place) → PlanSays (storing (store_at g tag c earlier s v pl)) (cond (is_room pl) (cond en 0 1) 10) [] 0
      go (as_it_stands L) = says_makes _ _
      go (once_reclaimed L) = says_makes _ _
      go no_room = says_refuses NoRoom (omega arith) [] 0

  says_at : (files : ℕ → Option Bytes) (o : Option Entry) → ((e : Entry) → o ≡ some e → Sits s e × (files (file_of e.descriptor) ≡ some e.content))
      → PlanSays (showing_at o) (elim (file_in o) as (λ j. ℕ) [ none ↦ 11 | some f ↦ 0 ]) (elim (file_in o) as (λ j. Bytes) [ none ↦ [] | some f ↦ bytes_in (files f) ]) (given_by (file_in o))
  unfolding bytes_in file_in given_by number showing_at
  says_at files none z = says_refuses BadHandle (omega arith) [] 0
  says_at files (some e) z =
      subst (λ (o : Option Bytes). PlanSays (shows origin (file_of e.descriptor) e NotSaid) 0 (bytes_in o) (file_of e.descriptor)) (sym (z e refl).1) (says_shows origin (file_of e.descriptor) e NotSaid (z e refl).0)

  -- in a right geometry, on a sound image
  module _ (legal : is_geometry g (length s) ≡ true) (sound : not_neither (standing g (survey g s)) ≡ true) where
    says_settled : (h : Survey → Plan) (n : ℕ) (c : Bytes) (f : ℕ) → (standing g (survey g s) ≡ Settled → PlanSays (h (survey g s)) n c f) → PlanSays (in_settled g s h) (cond (is_settled (standing g (survey g s))) n 4) c f
    unfolding when_settled is_settled number refuse in_settled in_geometry
    says_settled h n c f k = subst (λ (b : Bool). PlanSays (refuse (not b) BadGeometry (when_settled (standing g (survey g s)) (h (survey g s)))) (cond (is_settled (standing g (survey g s))) n 4) c f) (sym legal) (go (standing g (survey g s)) refl sound)
      where
        go : (t : Standing) → standing g (survey g s) ≡ t → not_neither t ≡ true → PlanSays (when_settled t (h (survey g s))) (cond (is_settled t) n 4) c f
        go Settled e w = k e
        go Sound e w = says_refuses Unsettled (omega arith) c f
        go Neither e w = true_false false w refl

-- ---- every call, on an image that means b
module _ (g : Geometry) (s : Bytes) (b : Keeping) (kept : KeptImage g s) (means : Means b (lists_of g s)) where
  abbrev m : Plain
  m = plain b

  legal : is_geometry g (length s) ≡ true
  legal = (kept_sane g s kept).0

  sound : not_neither (standing g (survey g s)) ≡ true
  sound = kept_mountable g s kept

  cm : standing g (survey g s) ≡ Settled → Calm g s
  cm t = calm_of g s kept t

  content_view : (o : Option Entry) → bytes_of (entry_view o) ≡ content_of o
  unfolding content_of
  content_view none = refl
  content_view (some e) = refl

  pub shut_is : standing g (survey g s) ≡ Settled → has_none (survey g s) ≡ is_shut (plain b).changes
  shut_is t = open_is_lem (survey g s) (cm t).quiet b means

  committed_is : standing g (survey g s) ≡ Settled → (f : ℕ) → content_of (committed_view f (survey g s)) ≡ (plain b).files f
  committed_is t f = sym (content_view (committed_view f (survey g s))) ∙ ap bytes_of (committed_view_lem (survey g s) (cm t).quiet b means f)

  pub transaction_is : standing g (survey g s) ≡ Settled → is_shut (plain b).changes ≡ false → (f : ℕ) → content_of (transaction_view f (survey g s)) ≡ in_view (plain b).changes (plain b).files f
  unfolding is_shut in_view laid_down
  transaction_is t n f = go b.changes refl n
    where
      go : (o : Option Drafts) → b.changes ≡ o → is_shut (plain (record { files = b.files; changes = o })).changes ≡ false → content_of (transaction_view f (survey g s)) ≡ in_view (plain (record { files = b.files; changes = o })).changes (plain b).files f
      go none e n = true_false true refl n
      go (some o) e n =
          sym (content_view (transaction_view f (survey g s))) ∙ ap bytes_of (transaction_view_lem (survey g s) (cm t).quiet b means s (cm t).sits o e f) ∙ plain_laid (o f) (b.files f)

  at_is : standing g (survey g s) ≡ Settled → (L p : ℕ) (e : Entry) → first (filter (is_at L p) (select is_current_file (survey g s))) ≡ some e → Sits s e × ((plain b).files (file_of e.descriptor) ≡ some e.content)
  at_is t L p e h = (handle_sits (survey g s) (cm t).quiet b means s (cm t).sits L p e h, ap bytes_of (handle_view (survey g s) (cm t).quiet b means L p e h).0)

  -- what is seen of the image, the allowance apart
  abbrev pub see : Bool → Bool → Call → Seen
  see en ed c = record { settled = is_settled (standing g (survey g s)); room = room_in g (survey g s) c; enough = en; file = file_at g (survey g s) c; ended = ed }

  module _ (en ed : Bool) where
    as' : {p : Plan} {n n' : ℕ} {c : Bytes} {f : ℕ} → n ≡ n' → PlanSays g s en p n c f → PlanSays g s en p n' c f
    as' {p} {n} {n'} {c} {f} e h = subst (λ (i : ℕ). PlanSays g s en p i c f) e h

    swap : (b : Bool) (x y : ℕ) → cond (not b) y x ≡ cond b x y
    swap true x y = refl
    swap false x y = refl

    pub absent_is_lem : (o : Option Entry) → is_absent o ≡ is_absent_in (content_of o)
    unfolding is_absent_in is_absent content_of
    absent_is_lem none = refl
    absent_is_lem (some e) = refl

    in_settled_lem : (h : Survey → Plan) (n : ℕ) (c : Bytes) (f : ℕ) → (standing g (survey g s) ≡ Settled → PlanSays g s en (h (survey g s)) n c f) → PlanSays g s en (in_settled g s h) (cond (is_settled (standing g (survey g s))) n 4) c f
    in_settled_lem = says_settled g s en legal sound

    -- with none open, or what follows
    or_none : (p : Plan) (n : ℕ) (c : Bytes) (f : ℕ) → standing g (survey g s) ≡ Settled → (is_shut (plain b).changes ≡ false → PlanSays g s en p n c f) → PlanSays g s en (refuse (has_none (survey g s)) NoTransaction p) (cond (is_shut (plain b).changes) 7 n) c f
    unfolding number
    or_none p n c f t h = as' (ap (λ (x : Bool). cond x 7 n) (shut_is t)) (says_or g s en (has_none (survey g s)) NoTransaction p n c f (omega arith) (λ e. h (sym (shut_is t) ∙ e)))

    pub says : (c : Call) → PlanSays g s en (plan g s c) (plain_number (plain b) (see en ed c) c) (content_by (plain b) (see en ed c) c) (given_by (see en ed c).file)
    unfolding refuse number plan plain_number content_by given_by in_geometry ending file_at when_sound settled_or is_settled stored room_in
    says (format k) = subst (λ (x : Bool). PlanSays g s en (refuse (not x) BadGeometry (makes origin (format_job g s))) (cond en 0 1) [] 0) (sym legal) (says_makes g s en origin (format_job g s))
    says (mount k) = subst (λ (x : Bool). PlanSays g s en (refuse (not x) BadGeometry (when_sound (standing g (survey g s)) (makes origin (mount_job g s (survey g s))))) (cond en 0 1) [] 0) (sym legal) (go (standing g (survey g s)) sound)
      where
        go : (t : Standing) → not_neither t ≡ true → PlanSays g s en (when_sound t (makes origin (mount_job g s (survey g s)))) (cond en 0 1) [] 0
        go Settled w = says_makes g s en origin (mount_job g s (survey g s))
        go Sound w = says_makes g s en origin (mount_job g s (survey g s))
        go Neither w = true_false false w refl
    says (begin rule k) =
        in_settled_lem (λ v. refuse (not (has_none v)) Open (storing (store_job g rule transaction_tag [] no_earlier s v))) _ [] 0 λ t.
        as' (swap (has_none (survey g s)) _ 8 ∙ ap (λ (x : Bool). cond x (cond (is_room (place g rule (size_for []) (survey g s))) (cond en 0 1) 10) 8) (shut_is t))
        (says_or g s en (not (has_none (survey g s))) Open _ _ [] 0 (omega arith) (λ e. says_storing g s en rule transaction_tag [] no_earlier (survey g s)))
    says (commit k) = in_settled_lem (λ v. refuse (has_none v) NoTransaction (makes origin (commit_job v))) _ [] 0 λ t. or_none (makes origin (commit_job (survey g s))) _ [] 0 t (λ e. says_makes g s en origin (commit_job (survey g s)))
    says (abort k) = in_settled_lem (λ v. refuse (has_none v) NoTransaction (makes origin (abort_job v))) _ [] 0 λ t. or_none (makes origin (abort_job (survey g s))) _ [] 0 t (λ e. says_makes g s en origin (abort_job (survey g s)))
    says (write rule f c k) =
        in_settled_lem (λ v. refuse (is_bad_file f) BadFile (refuse (is_too_long c) TooLong (refuse (has_none v) NoTransaction (storing (store_job g rule (data_tag f) c (earlier_of f) s v))))) _ [] 0 λ t.
        says_or g s en (is_bad_file f) BadFile _ _ [] 0 (omega arith) λ e.
        says_or g s en (is_too_long c) TooLong _ _ [] 0 (omega arith) λ e.
        or_none _ _ [] 0 t λ e.
        says_storing g s en rule (data_tag f) c (earlier_of f) (survey g s)
    says (delete rule f k) =
        in_settled_lem (λ v. refuse (is_bad_file f) BadFile (refuse (has_none v) NoTransaction (refuse (is_absent (transaction_view f v)) (Absent (origin_of f v)) (storing (store_job g rule (mark_tag f) [] (earlier_of f) s v))))) _ [] 0 λ t.
        says_or g s en (is_bad_file f) BadFile _ _ [] 0 (omega arith) λ e.
        or_none _ _ [] 0 t λ n.
        as' (ap (λ (x : Bool). cond x 9 (cond (is_room (place g rule (size_for []) (survey g s))) (cond en 0 1) 10)) (absent_is_lem (transaction_view f (survey g s)) ∙ ap is_absent_in (transaction_is t n f)))
        (says_or g s en (is_absent (transaction_view f (survey g s))) (Absent (origin_of f (survey g s))) _ _ [] 0 (omega arith) (λ e. says_storing g s en rule (mark_tag f) [] (earlier_of f) (survey g s)))
    says (read f) =
        in_settled_lem (λ v. refuse (is_bad_file f) BadFile (showing NotSaid (committed_view f v))) _ _ 0 λ t.
        says_or g s en (is_bad_file f) BadFile _ _ _ 0 (omega arith) λ e.
        subst (λ (y : Option Bytes). PlanSays g s en (showing NotSaid (committed_view f (survey g s))) (cond (is_absent_in y) 9 0) (bytes_in y) 0) (committed_is t f)
        (says_showing g s en NotSaid (committed_view f (survey g s)) (committed_sits (survey g s) (cm t).quiet b means s (cm t).sits f))
    says (read_open f) =
        in_settled_lem (λ v. refuse (is_bad_file f) BadFile (refuse (has_none v) NoTransaction (showing (origin_of f v) (transaction_view f v)))) _ _ 0 λ t.
        says_or g s en (is_bad_file f) BadFile _ _ _ 0 (omega arith) λ e.
        or_none _ _ _ 0 t λ n.
        subst (λ (y : Option Bytes). PlanSays g s en (showing (origin_of f (survey g s)) (transaction_view f (survey g s))) (cond (is_absent_in y) 9 0) (bytes_in y) 0) (transaction_is t n f)
        (says_showing g s en (origin_of f (survey g s)) (transaction_view f (survey g s)) (transaction_sits (survey g s) (cm t).quiet b means s (cm t).sits f))
    says (read_at L p) =
        in_settled_lem (λ v. showing_at (first (filter (is_at L p) (select is_current_file v)))) _ _ _ λ t.
        says_at g s en (plain b).files (first (filter (is_at L p) (select is_current_file (survey g s)))) (at_is t L p)

-- ---- THE theorem, of all but where it came from (Origins.antt)
abbrev pub AsPlain : Geometry → Bytes → Plain → Call → Type 0
AsPlain g s m c = (number (outcome g c s).answer ≡ plain_number m (seen g c s) c) × (content (outcome g c s) ≡ plain_content m (seen g c s) c) × ((given (outcome g c s).answer).file ≡ plain_file m (seen g c s) c)

pub as_plain_lem : (g : Geometry) (s : Bytes) (m : Plain) → Holds g s m → (c : Call) → AsPlain g s m c
unfolding seen outcome list_of plain_content plain_file
as_plain_lem g s m h c = subst (λ (x : Plain). AsPlain g s x c) h.is (plan_number_lem (plan g s c) (allowance c) s ∙ t.number', t.content' (allowance c), t.file' (allowance c))
  where
    t : PlanSays g s (seen g c s).enough (plan g s c) (plain_number (plain h.store) (seen g c s) c) (content_by (plain h.store) (seen g c s) c) (given_by (seen g c s).file)
    t = says g s h.store h.inv.kept h.inv.means (seen g c s).enough (seen g c s).ended c
