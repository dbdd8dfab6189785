-- Each theorem of Demands.antt once more, its statement written out, and proved by the page's theorem alone: one that is taken from the page,
-- or says less there, fails here. `tools/names` asks that none is missing.
use Rattle.std.specs.Prelude.{◌||◌, cond, false, true, List, [], ◌∷◌, ◌≢◌, ◌≡◌, ◌+◌, ◌-◌, ◌<◌, ◌≤◌, min, suc, ℕ, get_or, length, take}
use Rattle.std.proofs.Math.Option.{none, some}
use Rattle.rules.specs.Answers.{Outcome, content, from_number, given, number}
use Rattle.rules.specs.Calls.{Call, allowance, begin, commit, delete, format, is_bad_file, list_of, mount, outcome, read, read_at, read_open, under, write}
use Rattle.rules.specs.Flash.{Bytes, Step, apply, finish, is_geometry, steps_of}
use Rattle.rules.specs.Histories.{Plain, Reached, after_mounts, follow, is_format, mount_bound, mounting, no_files, takes_bytes}
use Rattle.rules.specs.Jobs.{mount_job}
use Rattle.rules.specs.Lists.{all, filter}
use Rattle.rules.specs.Listing.{listed}
use Rattle.laws.specs.Calls.{Meets}
use Rattle.laws.specs.Fair.{AllFair}
use Rattle.laws.specs.Runs.{applied}
use Rattle.rules.specs.Plain.{Gives, Onward, has_change, is_other, is_shut, is_unchanged, plain_after, plain_content, plain_file, plain_from, plain_listing, plain_number, seen}
use Rattle.rules.specs.Settled.{Home, homes_for, is_left, is_spare, select, survey}
use Rattle.rules.specs.Sound.{home_at, is_moving, standing}
use Rattle.rules.specs.Unit.{Descriptor, all_apart, blank, has_sector, is_listed, is_open, n, size, stands}
use Rattle.rules.specs.Views.{committed_view, content_of}
use Rattle.rules.specs.declared.Geometry.{Geometry}
use Rattle.rules.specs.declared.Rule.{Rule}
use Rattle.rules.specs.declared.Rule.TheVariants.{Tightest}
use Rattle.rules.specs.declared.Standing.TheVariants.{Settled}
use Rattle.theory.specs.Images.Layout.{are_bytes}
use Rattle.theory.specs.Images.Stand.{not_neither}
use Rattle.witness.specs.Short.{erased_image, small}
use Rattle.promises.specs.Useless.{numbers_of}
use Rattle.promises.specs.Demands as page

-- ---- Demand 1
call_refused : (g : Geometry) (c : Call) (s : Bytes) → 2 ≤ number (outcome g c s).answer
    → ((outcome g c s).image ≡ s) × ((given (outcome g c s).answer).steps ≡ 0) × (content (outcome g c s) ≡ [])
call_refused = page.call_refused

no_room_same : (g : Geometry) (s : Bytes) (q r : Rule)
    → ((k : ℕ) → number (outcome g (begin q k) s).answer ≡ 10 → number (outcome g (begin r k) s).answer ≡ 10)
    × ((f : ℕ) (c : Bytes) (k : ℕ) → number (outcome g (write q f c k) s).answer ≡ 10 → number (outcome g (write r f c k) s).answer ≡ 10)
    × ((f k : ℕ) → number (outcome g (delete q f k) s).answer ≡ 10 → number (outcome g (delete r f k) s).answer ≡ 10)
unfolding under
no_room_same g s q r = ((λ k. page.no_room_same g (begin q k) s q r), (λ f c k. page.no_room_same g (write q f c k) s q r), (λ f k. page.no_room_same g (delete q f k) s q r))

-- ---- Demand 2
format_settles : (g : Geometry) (s : Bytes) (k : ℕ) → number (outcome g (format k) s).answer ≡ 0 → standing g (survey g (outcome g (format k) s).image) ≡ Settled
format_settles = page.format_settles

module _ (g : Geometry) (t : Bytes) (m : Plain) (r : Reached g t m) where
  answers_plainly : (c : Call)
      → (number (outcome g c t).answer ≡ plain_number m (seen g c t) c)
      × (content (outcome g c t) ≡ plain_content m (seen g c t) c)
      × ((given (outcome g c t).answer).file ≡ plain_file m (seen g c t) c)
      × ((given (outcome g c t).answer).from ≡ plain_from m (seen g c t) c)
  answers_plainly = page.answers_plainly g t m r

  says_where : standing g (survey g t) ≡ Settled → is_shut m.changes ≡ false → (f : ℕ) → is_bad_file f ≡ false
      → from_number (given (outcome g (read_open f) t).answer).from ≡ cond (has_change f m.changes) 2 1
  says_where = page.says_where g t m r

  goes_on_plainly : (c : Call) → is_format c ≡ false → follow g c (outcome g c t) m ≡ plain_after m (seen g c t) c
  goes_on_plainly = page.goes_on_plainly g t m r

  done_settles : (c : Call) → takes_bytes c ≡ true → number (outcome g c t).answer ≡ 0 → standing g (survey g (outcome g c t).image) ≡ Settled
  done_settles = page.done_settles g t m r

  read_gives : (f : ℕ) → number (outcome g (read f) t).answer ≡ 0
      → Gives g t (given (outcome g (read f) t).answer).at.unit (given (outcome g (read f) t).answer).at.position f (content (outcome g (read f) t))
  read_gives = page.read_gives g t m r

  handle_holds : (L p : ℕ) → number (outcome g (read_at L p) t).answer ≡ 0 → {u : Bytes} {n : Plain} → Onward g (is_unchanged (given (outcome g (read_at L p) t).answer).file) t m u n → standing g (survey g u) ≡ Settled
      → Gives g u L p (given (outcome g (read_at L p) t).answer).file (content (outcome g (read_at L p) t))
  handle_holds = page.handle_holds g t m r

  write_holds : (rule : Rule) (f : ℕ) (c : Bytes) (k : ℕ) → takes_bytes (write rule f c k) ≡ true → number (outcome g (write rule f c k) t).answer ≡ 0
      → {u v : Bytes} {n q : Plain} → Onward g (is_other f) (outcome g (write rule f c k) t).image (follow g (write rule f c k) (outcome g (write rule f c k) t) m) u n → has_change f n.changes ≡ true
      → (j : ℕ) → 0 < (given (outcome g (commit j) u).answer).steps
      → Onward g (is_unchanged f) (outcome g (commit j) u).image (follow g (commit j) (outcome g (commit j) u) n) v q → standing g (survey g v) ≡ Settled
      → Gives g v (given (outcome g (write rule f c k) t).answer).at.unit (given (outcome g (write rule f c k) t).answer).at.position f c
  write_holds = page.write_holds g t m r

  absent_is_not_empty : standing g (survey g t) ≡ Settled → (f : ℕ) → is_bad_file f ≡ false
      → (m.files f ≡ some [] → (number (outcome g (read f) t).answer ≡ 0) × (content (outcome g (read f) t) ≡ [])) × (m.files f ≡ none → number (outcome g (read f) t).answer ≡ 9)
  absent_is_not_empty = page.absent_is_not_empty g t m r

  lists_plainly : standing g (survey g t) ≡ Settled → listed g t ≡ plain_listing g m (λ f. (given (outcome g (read f) t).answer).at)
  lists_plainly = page.lists_plainly g t m r

by_its_list : (g : Geometry) (c : Call) (s : Bytes) → ((outcome g c s).image ≡ applied (take (allowance c) (list_of g c s)) s) × AllFair g s (list_of g c s) × ((given (outcome g c s).answer).steps ≡ min (allowance c) (length (list_of g c s)))
by_its_list = page.by_its_list

empty_then_deleted_lem : numbers_of (format 100000 ∷ begin Tightest 100000 ∷ write Tightest 9 [] 100000 ∷ commit 100000 ∷ read 9 ∷ read 8 ∷ begin Tightest 100000 ∷ delete Tightest 9 100000 ∷ commit 100000 ∷ read 9 ∷ []) erased_image ≡ 0 ∷ 0 ∷ 0 ∷ 0 ∷ 0 ∷ 9 ∷ 0 ∷ 0 ∷ 0 ∷ 9 ∷ []
empty_then_deleted_lem = page.empty_then_deleted_lem

one_outcome : (g : Geometry) (c : Call) (s : Bytes) (o q : Outcome)
    → (o.answer ≡ (outcome g c s).answer) × (o.image ≡ (outcome g c s).image) → (q.answer ≡ (outcome g c s).answer) × (q.image ≡ (outcome g c s).image) → o ≡ q
one_outcome g c s o q h k = page.one_outcome g c s o q (record { answer = h.0; image = h.1 }) (record { answer = k.0; image = k.1 })

-- a store whose every answer and image are the definition's
abbrev Keeps : Geometry → (Call → Bytes → Outcome) → Type 0
Keeps g st = (c : Call) (s : Bytes) → Meets g c s (st c s)

module _ (g : Geometry) (t : Bytes) (m : Plain) (r : Reached g t m) (st : Call → Bytes → Outcome) (keeps : Keeps g st) where
  not_refusing : ((c : Call) (s : Bytes) → 2 ≤ number (st c s).answer) → ⊥
  not_refusing = page.not_refusing g t m r st keeps

  not_fixed : ((c d : Call) (s : Bytes) → (st c s).answer ≡ (st d s).answer) → ⊥
  not_fixed = page.not_fixed g t m r st keeps

begins_somewhere : (g : Geometry) (s : Bytes) → is_geometry g (length s) ≡ true
    → (n : ℕ) × ((k : ℕ) → n ≤ k → (number (outcome g (format k) s).answer ≡ 0) × Reached g (outcome g (format k) s).image no_files)
begins_somewhere = page.begins_somewhere

module _ (st : Call → Bytes → Outcome) (keeps : Keeps small st) where
  not_idle : ((rule : Rule) → ((f : ℕ) (c : Bytes) (k : ℕ) (s : Bytes) → (st (write rule f c k) s).image ≡ s) → ⊥) × (((k : ℕ) (s : Bytes) → (st (commit k) s).image ≡ s) → ⊥)
  not_idle = page.not_idle st keeps

  not_at_once : (rule : Rule) → ((f : ℕ) (c s : Bytes) → (st (write rule f c 1) s).image ≡ (st (write rule f c 100000) s).image) → ⊥
  not_at_once = page.not_at_once st keeps

not_invented : (g : Geometry) (st : Call → Bytes → Outcome) → Keeps g st → (c : Call) (s : Bytes) → (given (st c s).answer).steps ≢ min (allowance c) (length (list_of g c s)) → ⊥
not_invented = page.not_invented

-- ---- Demand 3
-- the steps that a mount has left to do
abbrev left : Geometry → Bytes → List Step
left g s = steps_of (mount_job g s (survey g s)) s

abbrev Restarts : Geometry → Bytes → Type 0
Restarts g t =
    (x : Step) (xs : List Step) → left g t ≡ x ∷ xs
    → (finish (mount_job g (apply x t) (survey g (apply x t))) (apply x t) ≡ finish (mount_job g t (survey g t)) t) × (suc (length (left g (apply x t))) ≡ length (left g t))

module _ (g : Geometry) (t : Bytes) (m : Plain) (r : Reached g t m) where
  sound : not_neither (standing g (survey g t)) ≡ true
  sound = page.sound g t m r

  one_home : (L : ℕ) → L < g.units - 1 → length (homes_for (survey g t).units L) ≡ 1
  one_home = page.one_home g t m r

  abbrev home : ℕ → Home
  home i = home_at (survey g t).homes i

  in_order : (i : ℕ) → i < length (survey g t).homes
      → (all is_listed (home i).room.array ≡ true) × (all_apart (home i).room.array ≡ true)
      × ((j : ℕ) → j < length (home i).room.array → (d : Descriptor) → d ≡ get_or (home i).room.array j blank → has_sector d ≡ true → (stands (n (home i).room) ≤ d.offset) × (d.offset + size d ≤ g.size))
  in_order i l = let o = page.in_order g t m r i l in (o.listed, o.apart', o.inside)

  left_over : (filter (is_left (survey g t).homes) (survey g t).units ≡ (survey g t).spare ∷ [])
      × (is_spare (survey g t).spare.bytes || is_moving g (survey g t).homes (survey g t).spare ≡ true)
  left_over = page.left_over g t m r

  mount_answers : (n : ℕ) × ((k : ℕ) → n ≤ k → number (outcome g (mount k) t).answer ≡ 0) × ((k : ℕ) → k < n → number (outcome g (mount k) t).answer ≡ 1)
  mount_answers = page.mount_answers g t m r

  mount_settles : (k : ℕ) → number (outcome g (mount k) t).answer ≡ 0 → (standing g (survey g (outcome g (mount k) t).image) ≡ Settled) × (select is_open (survey g (outcome g (mount k) t).image) ≡ [])
  mount_settles = page.mount_settles g t m r

  mounts_bounded : (ks : List ℕ) → mounting g ks t ≤ mount_bound g
  mounts_bounded = page.mounts_bounded g t m r

  bound_suffices : (k : ℕ) → mount_bound g ≤ k → number (outcome g (mount k) t).answer ≡ 0
  bound_suffices = page.bound_suffices g t m r

  files_after : (k : ℕ) → number (outcome g (mount k) t).answer ≡ 0 → (f : ℕ) → content_of (committed_view f (survey g (outcome g (mount k) t).image)) ≡ m.files f
  files_after = page.files_after g t m r

  restarts : Restarts g t
  restarts x xs e = let a = page.restarts g t m r in (a.same x xs e, a.less x xs e)

  stops_do_not_matter : (ks : List ℕ) (j : ℕ) → number (outcome g (mount j) t).answer ≡ 0
      → (number (outcome g (mount j) (after_mounts g ks t)).answer ≡ 0)
      × ((k : ℕ) → number (outcome g (mount k) (after_mounts g ks t)).answer ≡ 0 → (outcome g (mount k) (after_mounts g ks t)).image ≡ (outcome g (mount j) t).image)
  stops_do_not_matter = page.stops_do_not_matter g t m r

the_figure : mount_bound (record { size = 1024; units = 8 }) ≡ 1395
the_figure = page.the_figure

module _ (g : Geometry) (s : Bytes) (legal : is_geometry g (length s) ≡ true) (bytes : are_bytes s ≡ true) (sane : not_neither (standing g (survey g s)) ≡ true) where
  mount_answers_of_sound : (n : ℕ) × ((k : ℕ) → n ≤ k → number (outcome g (mount k) s).answer ≡ 0) × ((k : ℕ) → k < n → number (outcome g (mount k) s).answer ≡ 1)
  mount_answers_of_sound = page.mount_answers_of_sound g s legal bytes sane

  mount_settles_of_sound : (k : ℕ) → number (outcome g (mount k) s).answer ≡ 0 → (standing g (survey g (outcome g (mount k) s).image) ≡ Settled) × (select is_open (survey g (outcome g (mount k) s).image) ≡ [])
  mount_settles_of_sound = page.mount_settles_of_sound g s legal bytes sane

  mounts_bounded_of_sound : (ks : List ℕ) → mounting g ks s ≤ mount_bound g
  mounts_bounded_of_sound = page.mounts_bounded_of_sound g s legal bytes sane

  bound_suffices_of_sound : (k : ℕ) → mount_bound g ≤ k → number (outcome g (mount k) s).answer ≡ 0
  bound_suffices_of_sound = page.bound_suffices_of_sound g s legal bytes sane

  restarts_of_sound : Restarts g s
  restarts_of_sound x xs e = let a = page.restarts_of_sound g s legal bytes sane in (a.same x xs e, a.less x xs e)

  stops_do_not_matter_of_sound : (ks : List ℕ) (j : ℕ) → number (outcome g (mount j) s).answer ≡ 0
      → (number (outcome g (mount j) (after_mounts g ks s)).answer ≡ 0)
      × ((k : ℕ) → number (outcome g (mount k) (after_mounts g ks s)).answer ≡ 0 → (outcome g (mount k) (after_mounts g ks s)).image ≡ (outcome g (mount j) s).image)
  stops_do_not_matter_of_sound = page.stops_do_not_matter_of_sound g s legal bytes sane
