-- What a call may decide: a refusal, one of document 01's jobs, or an entry to show.
use Rattle.std.specs.Prelude.{◌≡◌, Bool, not, List, [], ℕ, ◌≤◌, length, Err}
use Rattle.std.proofs.Math.Path.{refl}
use Rattle.std.proofs.Math.Bool.{true, false}
use Rattle.std.proofs.Math.Option.{Option, none, some}
use Rattle.std.proofs.Common.{arith}
use Rattle.std.proofs.lemmas.Bool.{not-false}
use Rattle.rules.specs.Flash.{Bytes, Step, is_geometry}
use Rattle.rules.specs.Unit.{data_tag, mark_tag, transaction_tag, file_of}
use Rattle.rules.specs.Settled.{Entry, Survey, survey}
use Rattle.rules.specs.Sound.{standing}
use Rattle.rules.specs.Jobs.{Place, as_it_stands, once_reclaimed, no_room, place, size_for, Stored, can, store_at, format_job, store_job, no_earlier, earlier_of, commit_job, abort_job, mount_job}
use Rattle.rules.specs.Answers.{Plan, refuses, makes, shows, number, origin}
use Rattle.rules.specs.Calls.{Call, format, mount, begin, commit, abort, write, delete, read, read_open, read_at, refuse, when_sound, when_settled, showing, origin_of, storing, showing_at, in_geometry, in_settled, plan}
use Rattle.rules.specs.declared.Geometry.{Geometry}
use Rattle.rules.specs.declared.Rule.{Rule}
use Rattle.rules.specs.declared.Handle.{Handle}
use Rattle.rules.specs.declared.Standing.{Standing}
use Rattle.rules.specs.declared.Standing.TheVariants.{Settled, Sound, Neither}
use Rattle.rules.specs.declared.Origin.{Origin}
use Rattle.rules.specs.declared.Origin.TheVariants.{NotSaid}
use Rattle.rules.specs.declared.NotDone.{NotDone}
use Rattle.rules.specs.declared.NotDone.TheVariants.{BadGeometry, BadImage, Unsettled, BadFile, TooLong, NoTransaction}
use Rattle.rules.specs.declared.NotDone.TheVariants.{Open, Absent, NoRoom, BadHandle}

-- ---- the tests that a plan goes through
module _ (P : Plan → Type 0) where
  -- A refusal, or where its test fails what follows.
  pub refuse_cases : (b : Bool) (a : NotDone) (p : Plan) → P (refuses a) → (b ≡ false → P p) → P (refuse b a p)
  unfolding refuse
  refuse_cases true a p f g = f
  refuse_cases false a p f g = g refl

  -- BAD IMAGE, or what follows on a sound image.
  pub sound_cases : (t : Standing) (p : Plan) → P (refuses BadImage) → P p → P (when_sound t p)
  unfolding when_sound
  sound_cases Settled p f g = g
  sound_cases Sound p f g = g
  sound_cases Neither p f g = f

  -- BAD IMAGE, UNSETTLED, or what follows on a settled image.
  pub settled_cases : (t : Standing) (p : Plan) → P (refuses BadImage) → P (refuses Unsettled) → (t ≡ Settled → P p) → P (when_settled t p)
  unfolding when_settled
  settled_cases Settled p f g h = h refl
  settled_cases Sound p f g h = g
  settled_cases Neither p f g h = f

  -- NO ROOM, or what a store makes.
  pub store_cases : (g : Geometry) (q : Rule) (tag : ℕ) (content : Bytes) (earlier : Survey → List Entry) (s : Bytes) (v : Survey) → P (refuses NoRoom)
      → ((r : Stored) → store_job g q tag content earlier s v ≡ can r → P (makes r.at r.job)) → P (storing (store_job g q tag content earlier s v))
  unfolding store_job store_at storing
  store_cases g q tag content earlier s v f h = go (place g q (size_for content) v) h
    where
      go : (p : Place) → ((r : Stored) → store_at g tag content earlier s v p ≡ can r → P (makes r.at r.job)) → P (storing (store_at g tag content earlier s v p))
      go no_room k = f
      go (as_it_stands L) k = k _ refl
      go (once_reclaimed L) k = k _ refl

-- Of a plan that goes through refusals by numbers from 2 on.
module _ (P : Plan → Type 0) (refused : (a : NotDone) → 2 ≤ number (Err a) → P (refuses a)) (g : Geometry) (s : Bytes) where
  -- A refusal by a number from 2 on, or what follows.
  pub or_refused : (b : Bool) (a : NotDone) (p : Plan) → 2 ≤ number (Err a) → P p → P (refuse b a p)
  or_refused b a p h k = refuse_cases P b a p (refused a h) (λ e. k)

  -- BAD GEOMETRY, or what follows in a right geometry.
  pub in_geometry_lem : (p : Plan) → (is_geometry g (length s) ≡ true → P p) → P (in_geometry g s p)
  unfolding in_geometry number
  in_geometry_lem p f =
      refuse_cases P (not (is_geometry g (length s))) BadGeometry p (refused BadGeometry (omega arith))
      (λ e. f (not-false (is_geometry g (length s)) e))

  -- What follows in a right geometry on a settled image.
  pub in_settled_lem : (f : Survey → Plan) → (is_geometry g (length s) ≡ true → standing g (survey g s) ≡ Settled → P (f (survey g s))) → P (in_settled g s f)
  unfolding in_settled number
  in_settled_lem f h =
      in_geometry_lem (when_settled (standing g (survey g s)) (f (survey g s)))
      (λ e. settled_cases P (standing g (survey g s)) (f (survey g s)) (refused BadImage (omega arith)) (refused Unsettled (omega arith)) (h e))

  -- A read by file.
  pub viewed : ((h : Handle) (f : ℕ) (e : Entry) (w : Origin) → P (shows h f e w)) → (w : Origin) (o : Option Entry) → P (showing w o)
  unfolding showing number
  viewed f w none = refused (Absent w) (omega arith)
  viewed f w (some e) = f e.at 0 e w

  -- A handle read.
  pub handled : ((h : Handle) (f : ℕ) (e : Entry) (w : Origin) → P (shows h f e w)) → (o : Option Entry) → P (showing_at o)
  unfolding showing_at number
  handled f none = refused BadHandle (omega arith)
  handled f (some e) = f origin (file_of e.descriptor) e NotSaid

-- ---- jobs
module _ (g : Geometry) (s : Bytes) where
  -- The image is settled.
  abbrev pub IsSettled : Type 0
  IsSettled = standing g (survey g s) ≡ Settled

  -- The jobs of document 01 on the image s.
  pub data Job : List Step → Type 0 where
    formats : Job (format_job g s)
    mounts : Job (mount_job g s (survey g s))
    begins : IsSettled → (q : Rule) (r : Stored) → store_job g q transaction_tag [] no_earlier s (survey g s) ≡ can r → Job r.job
    writes : IsSettled → (q : Rule) (f : ℕ) (c : Bytes) (r : Stored) → store_job g q (data_tag f) c (earlier_of f) s (survey g s) ≡ can r → Job r.job
    deletes : IsSettled → (q : Rule) (f : ℕ) (r : Stored) → store_job g q (mark_tag f) [] (earlier_of f) s (survey g s) ≡ can r → Job r.job
    commits : IsSettled → Job (commit_job (survey g s))
    aborts : IsSettled → Job (abort_job (survey g s))

  -- A call's plan: a refusal by a number from 2 on, a job in a right geometry, or an entry to show.
  pub data Planned : Plan → Type 0 where
    refusal : (a : NotDone) → 2 ≤ number (Err a) → Planned (refuses a)
    job : is_geometry g (length s) ≡ true → (h : Handle) (xs : List Step) → Job xs → Planned (makes h xs)
    entry : (h : Handle) (f : ℕ) (e : Entry) (w : Origin) → Planned (shows h f e w)

  stored : (q : Rule) (tag : ℕ) (c : Bytes) (earlier : Survey → List Entry) → ((r : Stored) → store_job g q tag c earlier s (survey g s) ≡ can r → Job r.job) → is_geometry g (length s) ≡ true
      → Planned (storing (store_job g q tag c earlier s (survey g s)))
  unfolding number
  stored q tag c earlier f e = store_cases Planned g q tag c earlier s (survey g s) (refusal NoRoom (omega arith)) (λ r k. job e r.at r.job (f r k))

  within : (f : Survey → Plan) → (is_geometry g (length s) ≡ true → IsSettled → Planned (f (survey g s))) → Planned (in_settled g s f)
  within f h = in_settled_lem Planned refusal g s f h

  or_else_lem : (b : Bool) (a : NotDone) (p : Plan) → 2 ≤ number (Err a) → Planned p → Planned (refuse b a p)
  or_else_lem = or_refused Planned refusal g s

  -- Every call's plan is one of these.
  pub planned : (c : Call) → Planned (plan g s c)
  unfolding plan number
  planned (format k) = in_geometry_lem Planned refusal g s _ λ e. job e origin (format_job g s) formats
  planned (mount k) =
      in_geometry_lem Planned refusal g s _ λ e.
      sound_cases Planned _ _ (refusal BadImage (omega arith)) (job e origin (mount_job g s (survey g s)) mounts)
  planned (begin q k) = within _ λ e t. or_else_lem _ Open _ (omega arith) (stored q _ _ _ (begins t q) e)
  planned (commit k) = within _ λ e t. or_else_lem _ NoTransaction _ (omega arith) (job e origin _ (commits t))
  planned (abort k) = within _ λ e t. or_else_lem _ NoTransaction _ (omega arith) (job e origin _ (aborts t))
  planned (write q f c k) =
      within _ λ e t.
      or_else_lem _ BadFile _ (omega arith)
      (or_else_lem _ TooLong _ (omega arith)
      (or_else_lem _ NoTransaction _ (omega arith)
      (stored q _ _ _ (writes t q f c) e)))
  planned (delete q f k) =
      within _ λ e t.
      or_else_lem _ BadFile _ (omega arith)
      (or_else_lem _ NoTransaction _ (omega arith)
      (or_else_lem _ (Absent (origin_of f (survey g s))) _ (omega arith)
      (stored q _ _ _ (deletes t q f) e)))
  planned (read f) = within _ λ e t. or_else_lem _ BadFile _ (omega arith) (viewed Planned refusal g s entry _ _)
  planned (read_open f) = within _ λ e t. or_else_lem _ BadFile _ (omega arith) (or_else_lem _ NoTransaction _ (omega arith) (viewed Planned refusal g s entry _ _))
  planned (read_at L p) = within _ λ e t. handled Planned refusal g s entry _
