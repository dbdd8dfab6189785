-- Demands 1 to 3. But where it says so each theorem is of any geometry of document 01 and any image t that a history reaches, with the plain store m
-- that it stands for: a finished format of any image, then any calls but format, each with any inputs and any allowance
-- (rules: Histories.antt; the plain store's own answers: Plain.antt).
use Rattle.std.specs.Prelude.{◌||◌, cond, false, true, List, [], ◌∷◌, ◌≢◌, ◌≡◌, ◌-◌, ◌<◌, ◌≤◌, min, ℕ, length, take}
use Rattle.std.proofs.Math.Option.{none, some}
use Rattle.std.proofs.Common.{◌∙◌}
use Rattle.std.proofs.Math.Path.{ap}
use Rattle.rules.specs.Answers.{Outcome, content, from_number, given, number}
use Rattle.rules.specs.Calls.{Call, allowance, begin, commit, delete, format, is_bad_file, list_of, mount, outcome, read, read_at, read_open, under, write}
use Rattle.rules.specs.Flash.{Bytes, is_geometry}
use Rattle.rules.specs.Histories.{Plain, Reached, after_mounts, follow, is_format, mount_bound, mounting, no_files, takes_bytes}
use Rattle.rules.specs.Lists.{filter}
use Rattle.rules.specs.Listing.{listed}
use Rattle.laws.specs.Calls.{Meets, call_image, call_steps, meets_unique}
use Rattle.laws.specs.Calls as laws
use Rattle.laws.specs.Fair.{AllFair, call_fair}
use Rattle.laws.specs.SameRoom as rooms
use Rattle.laws.specs.Runs.{applied}
use Rattle.rules.specs.Plain.{Gives, Onward, has_change, is_other, is_settled, is_shut, is_unchanged, plain_after, plain_content, plain_file, plain_from, plain_listing, plain_number, seen}
use Rattle.rules.specs.Settled.{homes_for, is_left, is_spare, select, survey}
use Rattle.rules.specs.Sound.{home_at, is_moving, standing}
use Rattle.rules.specs.Unit.{is_open}
use Rattle.rules.specs.Views.{committed_view, content_of}
use Rattle.rules.specs.declared.Geometry.{Geometry}
use Rattle.rules.specs.declared.Rule.{Rule}
use Rattle.rules.specs.declared.Rule.TheVariants.{Tightest}
use Rattle.rules.specs.declared.Standing.TheVariants.{Settled}
use Rattle.theory.specs.Images.Layout.{are_bytes}
use Rattle.theory.specs.Images.Stand.{not_neither}
use Rattle.theory_sound.specs.AnySound.{bound_suffices_sound, mount_answers_sound, mount_settles_sound, mounts_bounded_sound, restarts_sound, stops_sound}
use Rattle.theory.specs.Promised.Histories.{reached_holds}
use Rattle.promises.specs.Answered.{as_plain_lem}
use Rattle.promises.specs.Origins.{from_plain, open_says}
use Rattle.promises.specs.After.{after_call_lem}
use Rattle.promises.specs.Absent.{absent_read, empty_read}
use Rattle.promises.specs.Lists as lists
use Rattle.promises.specs.Unchanged as unchanged
use Rattle.promises.specs.Useless.{Keeps, Store, numbers_of}
use Rattle.promises.specs.Useless as useless
use Rattle.promises.specs.Begins as begins
use Rattle.witness.specs.Short.{erased_image, small}
use Rattle.theory.specs.Promised.Demanded.{InOrder, Restarts}
use Rattle.theory.specs.Promised.Demanded as proofs
use Rattle.theory.specs.Promised.Finished as finished

-- ---- Demand 1: every call, on any bytes.
-- A refused call changes no byte, makes no step and gives no content. Dropped: a refusal might leave anything.
pub call_refused : (g : Geometry) (c : Call) (s : Bytes) → 2 ≤ number (outcome g c s).answer
    → ((outcome g c s).image ≡ s) × ((given (outcome g c s).answer).steps ≡ 0) × (content (outcome g c s) ≡ [])
call_refused g c s h = let u = laws.call_refused g c s h in (u.image, u.steps, u.empty)

-- On the same image NO ROOM is the same under both rules: where the number of a call under one of them is 10, it is 10 under the other.
-- Dropped: a rule might give up while there is room.
pub no_room_same : (g : Geometry) (c : Call) (s : Bytes) (q r : Rule) → number (outcome g (under q c) s).answer ≡ 10 → number (outcome g (under r c) s).answer ≡ 10
no_room_same = rooms.no_room_same

-- ---- Demand 2: calls answer as a plain map from file numbers to contents with one transaction laid over it.
-- A finished format of any bytes leaves a settled image: a history begins there. Dropped: the first call might be refused.
pub format_settles : (g : Geometry) (s : Bytes) (k : ℕ) → number (outcome g (format k) s).answer ≡ 0 → standing g (survey g (outcome g (format k) s).image) ≡ Settled
format_settles = finished.format_settles

module _ (g : Geometry) (t : Bytes) (m : Plain) (r : Reached g t m) where
  -- 1. Every call answers as the plain store does, with any inputs: each number exactly where document 01's table says, in its
  -- order, the content and the file that a DONE read gives, and where it came from. Dropped: any answer would do.
  pub answers_plainly : (c : Call)
      → (number (outcome g c t).answer ≡ plain_number m (seen g c t) c)
      × (content (outcome g c t) ≡ plain_content m (seen g c t) c)
      × ((given (outcome g c t).answer).file ≡ plain_file m (seen g c t) c)
      × ((given (outcome g c t).answer).from ≡ plain_from m (seen g c t) c)
  answers_plainly c = let a = as_plain_lem g t m (reached_holds g r) c in (a.0, a.1, a.2, from_plain g t m (reached_holds g r) c)

  -- Of a settled image with a transaction open, a read in the transaction view says 2, this transaction, exactly where the transaction
  -- has a change of the file, written or deleted, and else 1, committed before. Dropped: a draft might look like what was committed.
  pub says_where : standing g (survey g t) ≡ Settled → is_shut m.changes ≡ false → (f : ℕ) → is_bad_file f ≡ false
      → from_number (given (outcome g (read_open f) t).answer).from ≡ cond (has_change f m.changes) 2 1
  says_where s o f b = ap from_number (answers_plainly (read_open f)).3 ∙ open_says m (seen g (read_open f) t) f (unfold seen is_settled in ap is_settled s) b o

  -- And the plain store after it is what the plain call gives. Dropped: a DONE write might be lost, a refused one kept.
  pub goes_on_plainly : (c : Call) → is_format c ≡ false → follow g c (outcome g c t) m ≡ plain_after m (seen g c t) c
  goes_on_plainly c n = after_call_lem g t m (reached_holds g r) c n

  -- And a DONE call leaves the image settled: only a stop asks for a mount. Dropped: after a DONE write every call might be refused.
  pub done_settles : (c : Call) → takes_bytes c ≡ true → number (outcome g c t).answer ≡ 0 → standing g (survey g (outcome g c t).image) ≡ Settled
  done_settles c by = let h = reached_holds g r in finished.done_settles g h.store t h.inv c by

  -- 3. Handles: the handle that a DONE read by file gives shows that file and its bytes. Dropped: it might show nothing.
  pub read_gives : (f : ℕ) → number (outcome g (read f) t).answer ≡ 0
      → Gives g t (given (outcome g (read f) t).answer).at.unit (given (outcome g (read f) t).answer).at.position f (content (outcome g (read f) t))
  read_gives f z = lists.read_gives g t m (reached_holds g r) f z

  -- Over any calls that leave its file unchanged, whatever reclaims, stops and mounts are among them, a handle gives
  -- the same file and bytes. Dropped: a reclaim might number its sectors afresh.
  pub handle_holds : (L p : ℕ) → number (outcome g (read_at L p) t).answer ≡ 0 → {u : Bytes} {n : Plain} → Onward g (is_unchanged (given (outcome g (read_at L p) t).answer).file) t m u n → standing g (survey g u) ≡ Settled
      → Gives g u L p (given (outcome g (read_at L p) t).answer).file (content (outcome g (read_at L p) t))
  handle_holds L p z o s = unchanged.handle_holds g (reached_holds g r) L p z o s

  -- A DONE write's handle is its file's handle once it is committed: no other write or delete of the file comes between, and the
  -- commit step of a transaction that still has the change is made. Dropped: a write might give any handle.
  pub write_holds : (rule : Rule) (f : ℕ) (c : Bytes) (k : ℕ) → takes_bytes (write rule f c k) ≡ true → number (outcome g (write rule f c k) t).answer ≡ 0
      → {u v : Bytes} {n q : Plain} → Onward g (is_other f) (outcome g (write rule f c k) t).image (follow g (write rule f c k) (outcome g (write rule f c k) t) m) u n → has_change f n.changes ≡ true
      → (j : ℕ) → 0 < (given (outcome g (commit j) u).answer).steps
      → Onward g (is_unchanged f) (outcome g (commit j) u).image (follow g (commit j) (outcome g (commit j) u) n) v q → standing g (survey g v) ≡ Settled
      → Gives g v (given (outcome g (write rule f c k) t).answer).at.unit (given (outcome g (write rule f c k) t).answer).at.position f c
  write_holds rule f c k by z o h j l w s = unchanged.write_holds g (reached_holds g r) rule f c k by z o h j l w s

  -- 4. Absent is not empty: of a settled image, a file with no bytes is read as DONE with no bytes, and a file that is not there is
  -- refused as ABSENT. Dropped: length 0 might be read as absent, or absent as empty.
  pub absent_is_not_empty : standing g (survey g t) ≡ Settled → (f : ℕ) → is_bad_file f ≡ false
      → (m.files f ≡ some [] → (number (outcome g (read f) t).answer ≡ 0) × (content (outcome g (read f) t) ≡ [])) × (m.files f ≡ none → number (outcome g (read f) t).answer ≡ 9)
  absent_is_not_empty s f b = (empty_read g t m (reached_holds g r) s f b, absent_read g t m (reached_holds g r) s f b)

  -- The listing of a settled image is the plain store's: exactly the committed files, ascending, each with its length, and the
  -- handle that a read gives. Dropped: the listing might leave a file out.
  pub lists_plainly : standing g (survey g t) ≡ Settled → listed g t ≡ plain_listing g m (λ f. (given (outcome g (read f) t).answer).at)
  lists_plainly s = lists.lists_plainly g t m (reached_holds g r) s

-- 2. Of any bytes, reached or not: the image after a call is the one that the first steps of its list give, as many as the allowance
-- has; each step clears bits in one word or erases one whole unit; and it reports the steps made. Dropped: a step might do
-- anything, a stop leave anything.
pub by_its_list : (g : Geometry) (c : Call) (s : Bytes) → ((outcome g c s).image ≡ applied (take (allowance c) (list_of g c s)) s) × AllFair g s (list_of g c s) × ((given (outcome g c s).answer).steps ≡ min (allowance c) (length (list_of g c s)))
by_its_list g c s = (call_image g c s, call_fair g c s, call_steps g c s)

-- An instance: file 9 written with no bytes and committed is DONE, file 8 never written is ABSENT, and so is 9 once it is deleted.
pub empty_then_deleted_lem : numbers_of (format 100000 ∷ begin Tightest 100000 ∷ write Tightest 9 [] 100000 ∷ commit 100000 ∷ read 9 ∷ read 8 ∷ begin Tightest 100000 ∷ delete Tightest 9 100000 ∷ commit 100000 ∷ read 9 ∷ []) erased_image ≡ 0 ∷ 0 ∷ 0 ∷ 0 ∷ 0 ∷ 9 ∷ 0 ∷ 0 ∷ 0 ∷ 9 ∷ []
empty_then_deleted_lem = useless.empty_then_deleted_lem

-- 5. For every call, image and allowance two outcomes that satisfy its statement are equal. Dropped: the statement might leave a choice.
pub one_outcome : (g : Geometry) (c : Call) (s : Bytes) (o q : Outcome) → Meets g c s o → Meets g c s q → o ≡ q
one_outcome = meets_unique

-- 6. Four useless stores, none of which meets the statement of every call (`Keeps`). One that refuses everything, and one that gives
-- one fixed answer: of an image that a history reaches, a mount is not refused, and a read of file 256 is answered otherwise ...
pub not_refusing : (g : Geometry) (t : Bytes) (m : Plain) → Reached g t m → (st : Store) → Keeps g st → ((c : Call) (s : Bytes) → 2 ≤ number (st c s).answer) → ⊥
not_refusing = useless.refuses_all

pub not_fixed : (g : Geometry) (t : Bytes) (m : Plain) → Reached g t m → (st : Store) → Keeps g st → ((c d : Call) (s : Bytes) → (st c s).answer ≡ (st d s).answer) → ⊥
not_fixed = useless.fixed_answer

-- ... and there is one: in every geometry of document 01 a format of any image of its length is DONE, from some allowance on, and begins
-- a history. Dropped: what is said of reached images might be said of none.
pub begins_somewhere : (g : Geometry) (s : Bytes) → is_geometry g (length s) ≡ true
    → (n : ℕ) × ((k : ℕ) → n ≤ k → (number (outcome g (format k) s).answer ≡ 0) × Reached g (outcome g (format k) s).image no_files)
begins_somewhere = begins.begins_somewhere

-- One whose writes by one of the rules make no step, or whose commits make none: cases C and G.
pub not_idle : (st : Store) → Keeps small st → ((rule : Rule) → ((f : ℕ) (c : Bytes) (k : ℕ) (s : Bytes) → (st (write rule f c k) s).image ≡ s) → ⊥) × (((k : ℕ) (s : Bytes) → (st (commit k) s).image ≡ s) → ⊥)
not_idle st keeps = (useless.writes_nothing st keeps, useless.commits_nothing st keeps)

-- One that does a write by one of the rules in its first step: case C.
pub not_at_once : (st : Store) → Keeps small st → (rule : Rule) → ((f : ℕ) (c s : Bytes) → (st (write rule f c 1) s).image ≡ (st (write rule f c 100000) s).image) → ⊥
not_at_once = useless.all_at_once

-- One that invents its count.
pub not_invented : (g : Geometry) (st : Store) → Keeps g st → (c : Call) (s : Bytes) → (given (st c s).answer).steps ≢ min (allowance c) (length (list_of g c s)) → ⊥
not_invented = useless.invents_its_count

-- ---- Demand 3: whatever moment the power goes.
module _ (g : Geometry) (t : Bytes) (m : Plain) (r : Reached g t m) where
  -- 1. Sound: every reached image is settled or sound. Dropped: a stop might leave what mount refuses.
  pub sound : not_neither (standing g (survey g t)) ≡ true
  sound = proofs.sound g t r

  -- Each logical number has exactly one home. Dropped: two units might both claim a file's only copy.
  pub one_home : (L : ℕ) → L < g.units - 1 → length (homes_for (survey g t).units L) ≡ 1
  one_home = proofs.one_home g t r

  -- In each home every sector lies inside the unit and above the descriptors, and no two share a byte. Dropped: one file's bytes
  -- might show in another.
  pub in_order : (i : ℕ) → i < length (survey g t).homes → InOrder g (home_at (survey g t).homes i)
  in_order = proofs.in_order g t r

  -- Exactly one unit is nobody's home; it is wholly FF, or moving: a copy being made, or a retired home. Dropped: there might be
  -- nowhere to move a unit to.
  pub left_over : (filter (is_left (survey g t).homes) (survey g t).units ≡ (survey g t).spare ∷ [])
      × (is_spare (survey g t).spare.bytes || is_moving g (survey g t).homes (survey g t).spare ≡ true)
  left_over = (proofs.one_left g t r, (proofs.upright g t r).1)

  -- 2. Mount never refuses: DONE from some allowance on, STOPPED below it. Dropped: a full store might not be mounted.
  pub mount_answers : (n : ℕ) × ((k : ℕ) → n ≤ k → number (outcome g (mount k) t).answer ≡ 0) × ((k : ℕ) → k < n → number (outcome g (mount k) t).answer ≡ 1)
  mount_answers = proofs.mount_answers g t r

  -- 3. Mount ends settled, with no transaction open. Dropped: the next call might be refused.
  pub mount_settles : (k : ℕ) → number (outcome g (mount k) t).answer ≡ 0 → (standing g (survey g (outcome g (mount k) t).image) ≡ Settled) × (select is_open (survey g (outcome g (mount k) t).image) ≡ [])
  mount_settles = proofs.mount_settles g t r

  -- 4. The bound: the steps of any mounts, one after the other. Dropped: cuts during mounts might wear on without end.
  pub mounts_bounded : (ks : List ℕ) → mounting g ks t ≤ mount_bound g
  mounts_bounded = proofs.mounts_bounded g t r

  -- With the bound as its allowance, or more, a mount is DONE. Dropped: no allowance might be known to suffice.
  pub bound_suffices : (k : ℕ) → mount_bound g ≤ k → number (outcome g (mount k) t).answer ≡ 0
  bound_suffices = proofs.bound_suffices g t r

  -- 5. Exactly those transactions whose commit step was made: after a finished mount the files are those of the plain store, into
  -- which a transaction's changes go where its commit step was made, and only there. Dropped: files might be lost, or come back.
  pub files_after : (k : ℕ) → number (outcome g (mount k) t).answer ≡ 0 → (f : ℕ) → content_of (committed_view f (survey g (outcome g (mount k) t).image)) ≡ m.files f
  files_after = proofs.files_after g t r

  -- 6. Restarts: after each of a mount's own steps the image that a finished mount leaves is the same, and one step less is left.
  -- Dropped: a mount begun again might undo what it did.
  pub restarts : Restarts g t
  restarts = proofs.restarts g t r

  -- 7. Stops do not matter: mount with each allowance of a list in turn, whatever each answers. Then an allowance that suffices for t
  -- suffices still, and one that suffices now leaves the very image that one uninterrupted mount of t leaves. Dropped: a mount
  -- that was stopped nine times might end elsewhere than one that was not.
  pub stops_do_not_matter : (ks : List ℕ) (j : ℕ) → number (outcome g (mount j) t).answer ≡ 0
      → (number (outcome g (mount j) (after_mounts g ks t)).answer ≡ 0)
      × ((k : ℕ) → number (outcome g (mount k) (after_mounts g ks t)).answer ≡ 0 → (outcome g (mount k) (after_mounts g ks t)).image ≡ (outcome g (mount j) t).image)
  stops_do_not_matter = proofs.stops_do_not_matter g t r

-- 1,395 for S = 1,024, U = 8. Dropped: the bound might be another than document 01's.
pub the_figure : mount_bound (record { size = 1024; units = 8 }) ≡ 1395
the_figure = proofs.the_figure

-- 2, 3, 4, 6 and 7 of any sound image of bytes, whether a history reaches it or not. Dropped: an image from elsewhere might not be mended.
module _ (g : Geometry) (s : Bytes) (legal : is_geometry g (length s) ≡ true) (bytes : are_bytes s ≡ true) (sound : not_neither (standing g (survey g s)) ≡ true) where
  pub mount_answers_of_sound : (n : ℕ) × ((k : ℕ) → n ≤ k → number (outcome g (mount k) s).answer ≡ 0) × ((k : ℕ) → k < n → number (outcome g (mount k) s).answer ≡ 1)
  mount_answers_of_sound = mount_answers_sound g s legal bytes sound

  pub mount_settles_of_sound : (k : ℕ) → number (outcome g (mount k) s).answer ≡ 0 → (standing g (survey g (outcome g (mount k) s).image) ≡ Settled) × (select is_open (survey g (outcome g (mount k) s).image) ≡ [])
  mount_settles_of_sound = mount_settles_sound g s legal bytes sound

  pub mounts_bounded_of_sound : (ks : List ℕ) → mounting g ks s ≤ mount_bound g
  mounts_bounded_of_sound = mounts_bounded_sound g s legal bytes sound

  pub bound_suffices_of_sound : (k : ℕ) → mount_bound g ≤ k → number (outcome g (mount k) s).answer ≡ 0
  bound_suffices_of_sound = bound_suffices_sound g s legal bytes sound

  pub restarts_of_sound : Restarts g s
  restarts_of_sound = restarts_sound g s legal bytes sound

  pub stops_do_not_matter_of_sound : (ks : List ℕ) (j : ℕ) → number (outcome g (mount j) s).answer ≡ 0
      → (number (outcome g (mount j) (after_mounts g ks s)).answer ≡ 0)
      × ((k : ℕ) → number (outcome g (mount k) (after_mounts g ks s)).answer ≡ 0 → (outcome g (mount k) (after_mounts g ks s)).image ≡ (outcome g (mount j) s).image)
  stops_do_not_matter_of_sound = stops_sound g s legal bytes sound
