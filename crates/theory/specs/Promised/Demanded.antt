-- The proofs of demand 3, on what every reached image is.
use Rattle.std.specs.Prelude.{Bool, ◌&&◌, ◌||◌, cond, false, true, List, [], ◌++◌, ◌∷◌, ◌≡◌, refl, ◌+◌, ◌-◌, ◌<◌, ◌≤◌, suc, ℕ, get_or, length}
use Rattle.std.proofs.Common.{◌∙◌, ap, subst, sym, zero-add, arith}
use Rattle.std.proofs.Math.Decide.{dec_lt}
use Rattle.rules.specs.Answers.{number}
use Rattle.rules.specs.Calls.{mount, outcome}
use Rattle.rules.specs.Flash.{Bytes, Step, apply, finish}
use Rattle.rules.specs.Histories.{Plain, Reached, after_mounts, mount_bound, mounting, move_bound, repeat_bound, tidy_bound}
use Rattle.rules.specs.Jobs.{mount_job}
use Rattle.rules.specs.Lists.{all, filter}
use Rattle.rules.specs.Settled.{Counts, Home, Survey, counts, homes_for, is_housed, is_left, is_live, is_quiet, is_spare, is_still, select, survey}
use Rattle.rules.specs.Sound.{home_at, is_committing, is_moving, is_unfinished, no_home, standing}
use Rattle.rules.specs.Unit.{Descriptor, all_apart, blank, has_sector, is_home, is_listed, is_open, is_placed, n, size, stands}
use Rattle.rules.specs.Views.{committed_view, content_of}
use Rattle.rules.specs.declared.Geometry.{Geometry}
use Rattle.rules.specs.declared.Standing.{Standing}
use Rattle.rules.specs.declared.Standing.TheVariants.{Neither, Settled, Sound}
use Rattle.laws.specs.Homes.{housed_parts, one_home as one_numbered}
use Rattle.laws.specs.Rooms.{HomeParts, home_parts}
use Rattle.theory.specs.Base.Facts.{all_get, true_false}
use Rattle.theory.specs.Images.Units.{join}
use Rattle.theory.specs.Images.Model.{LaidHome, Stands, spare_read, survey_read}
use Rattle.theory.specs.Images.Stand.{not_neither}
use Rattle.theory.specs.Tidying.Sorted.{sorted}
use Rattle.theory.specs.Tidying.Tidy.{Tidied}
use Rattle.theory.specs.Tidying.Held.{HeldEntries, held_settled, survey_is}
use Rattle.theory.specs.Mounting.Mounts.{Mounted, Mounts, Sane, mount_call, mounts_end, mounts_next}
use Rattle.theory.specs.Mounting.Measure.{left, once_all}
use Rattle.theory.specs.Mounting.Remounts.{mounts_few, mounts_same}
use Rattle.theory.specs.Images.Packing.{lying}
use Rattle.theory.specs.Moves.Move.{Setting, copy_home, homes_before, retired_home}
use Rattle.theory.specs.Moves.Stages.{Moving, once_live, once_retired, while_filling}
use Rattle.theory.specs.Mounting.Kept.{KeptImage, calmly, kept_mountable, while_moving}
use Rattle.theory.specs.Mounting.KeptMounts.{kept_lasts, kept_mounts, kept_sane}
use Rattle.theory.specs.Meaning.MeansMount.{mount_shows}
use Rattle.theory.specs.Promised.Histories.{reached_holds, reached_kept}

-- 1. Sound: every reached image is settled or sound.
pub sound : (g : Geometry) (t : Bytes) {m : Plain} → Reached g t m → not_neither (standing g (survey g t)) ≡ true
sound g t r = kept_mountable g t (reached_kept g r)

pub upright : (g : Geometry) (t : Bytes) {m : Plain} → Reached g t m → (is_housed g (survey g t) ≡ true) × (is_spare (survey g t).spare.bytes || is_moving g (survey g t).homes (survey g t).spare ≡ true)
unfolding standing is_still
upright g t r = go (is_housed g v) (is_spare v.spare.bytes) (all is_live v.homes) (is_quiet c) (is_unfinished c || is_committing c) (is_moving g v.homes v.spare) (sound g t r)
  where
    v : Survey
    v = survey g t

    c : Counts
    c = counts v.entries

    go : (h s l q u m : Bool)
        → not_neither (elim h as (λ j. Standing) [
          | false ↦ Neither
          | true ↦ elim (l && s && q) as (λ j. Standing) [ true ↦ Settled | false ↦ cond ((l && s && u) || (q && m)) Sound Neither ]
        ]) ≡ true
        → (h ≡ true) × (s || m ≡ true)
    go false s l q u m e = true_false false e refl
    go true true l q u m e = (refl, refl)
    go true false true q u true e = (refl, refl)
    go true false false q u true e = (refl, refl)
    go true false true true u false e = true_false false e refl
    go true false true false u false e = true_false false e refl
    go true false false true u false e = true_false false e refl
    go true false false false u false e = true_false false e refl

-- exactly one unit is nobody's home
OneLeft : Survey → Type 0
OneLeft v = filter (is_left v.homes) v.units ≡ v.spare ∷ []

kept_left : (g : Geometry) (s : Bytes) → KeptImage g s → OneLeft (survey g s)
unfolding OneLeft
kept_left g s k = go k
  where
    by : (us : List Bytes) (ps : List LaidHome) (sp : ℕ) → Stands g us ps sp → s ≡ join us → OneLeft (survey g s)
    by us ps sp st e = subst OneLeft (sym (ap (survey g) e ∙ survey_read g us ps sp st)) (spare_read g us ps sp st)

    at : (m : Setting g) → Moving g m s → OneLeft (survey g s)
    at m (while_filling r k) = by k.us (homes_before g m) m.sp k.stands k.image
    at m (once_retired k) = by k.us (m.hs ++ retired_home g m ∷ m.bs) m.sp k.stands k.image
    at m (once_live k) = by k.us (m.hs ++ copy_home g m ∷ m.bs) m.p.phys k.stands k.image

    go : KeptImage g s → OneLeft (survey g s)
    go (calmly h) = by h.us h.ps h.sp h.stands h.image
    go (while_moving m k) = at m k

pub one_left : (g : Geometry) (t : Bytes) {m : Plain} → Reached g t m → filter (is_left (survey g t).homes) (survey g t).units ≡ (survey g t).spare ∷ []
unfolding OneLeft
one_left g t r = kept_left g t (reached_kept g r)

-- 2. Mount never refuses: DONE from some allowance on, STOPPED below it.
pub mount_answers : (g : Geometry) (t : Bytes) {m : Plain} → Reached g t m → (n : ℕ) × ((k : ℕ) → n ≤ k → number (outcome g (mount k) t).answer ≡ 0) × ((k : ℕ) → k < n → number (outcome g (mount k) t).answer ≡ 1)
mount_answers g t r =
    let m = kept_mounts g t (reached_kept g r) in
    (m.steps, (λ k l. ((mount_call g (KeptImage g) (kept_sane g) t m.mounts k).done l).0), λ k l. (mount_call g (KeptImage g) (kept_sane g) t m.mounts k).stopped l)

-- With the bound as its allowance, or more, it is DONE.
pub bound_suffices : (g : Geometry) (t : Bytes) {m : Plain} → Reached g t m → (k : ℕ) → mount_bound g ≤ k → number (outcome g (mount k) t).answer ≡ 0
bound_suffices g t r k l =
    let m = kept_mounts g t (reached_kept g r) in
    ((mount_call g (KeptImage g) (kept_sane g) t m.mounts k).done (omega (arith, m.few, l))).0

-- 3. Mount ends settled, with no transaction open: of any image that mounts step by step, whatever holds along the way.
pub settles_by : (g : Geometry) (P : Bytes → Type 0) → ((u : Bytes) → P u → Sane g u) → (t : Bytes) {n : ℕ} {u : Bytes} → Mounts g P n t u → HeldEntries g (λ l. Tidied (sorted l)) u
    → (k : ℕ) → number (outcome g (mount k) t).answer ≡ 0 → (standing g (survey g (outcome g (mount k) t).image) ≡ Settled) × (select is_open (survey g (outcome g (mount k) t).image) ≡ [])
unfolding select
settles_by g P sane t {n} {u} m d k z = go (dec_lt k n)
  where
    o : Mounted g P n t u k (outcome g (mount k) t)
    o = mount_call g P sane t m k

    Ends : Bytes → Type 0
    Ends x = (standing g (survey g x) ≡ Settled) × (select is_open (survey g x) ≡ [])

    at_end_lem : Ends u
    at_end_lem = (held_settled g (λ l. Tidied (sorted l)) u d d.holds.quiet, ap (select is_open) (survey_is g (λ l. Tidied (sorted l)) u d) ∙ d.holds.opened)

    go : Dec (k < n) → Ends (outcome g (mount k) t).image
    go (yes l) = absurd (let w : ⊥ = omega (arith, z, o.stopped l) in w)
    go (no l) = subst Ends (sym (o.done (omega arith)).1) at_end_lem

pub kept_settles : (g : Geometry) (t : Bytes) → KeptImage g t → (k : ℕ) → number (outcome g (mount k) t).answer ≡ 0
    → (standing g (survey g (outcome g (mount k) t).image) ≡ Settled) × (select is_open (survey g (outcome g (mount k) t).image) ≡ [])
kept_settles g t r k z = let m = kept_mounts g t r in settles_by g (KeptImage g) (kept_sane g) t m.mounts m.ended k z

pub mount_settles : (g : Geometry) (t : Bytes) {m : Plain} → Reached g t m → (k : ℕ) → number (outcome g (mount k) t).answer ≡ 0
    → (standing g (survey g (outcome g (mount k) t).image) ≡ Settled) × (select is_open (survey g (outcome g (mount k) t).image) ≡ [])
mount_settles g t r k z = kept_settles g t (reached_kept g r) k z

-- 4. The bound: the steps of any mounts one after the other.
pub mounts_bounded : (g : Geometry) (t : Bytes) {m : Plain} → Reached g t m → (ks : List ℕ) → mounting g ks t ≤ mount_bound g
mounts_bounded g t r ks =
    let m = kept_mounts g t (reached_kept g r) in
    omega (arith, mounts_few g (KeptImage g) (kept_lasts g) ks t (reached_kept g r), once_all g (left g t), m.mounts.long, m.few)

-- 1,395 for S = 1,024, U = 8.
pub the_figure : mount_bound (record { size = 1024; units = 8 }) ≡ 1395
unfolding mount_bound move_bound tidy_bound repeat_bound
the_figure = refl

-- 5. Exactly those transactions whose commit step was made: after a finished mount the files are those of the plain store, into
-- which a transaction's changes go where its commit step was made, and only there.
pub files_after : (g : Geometry) (t : Bytes) {m : Plain} (r : Reached g t m) (k : ℕ) → number (outcome g (mount k) t).answer ≡ 0 → (f : ℕ) → content_of (committed_view f (survey g (outcome g (mount k) t).image)) ≡ m.files f
files_after g t r k z f = let h = reached_holds g r in mount_shows g h.store t k h.inv z f ∙ ap (λ (x : Plain). x.files f) h.is

-- 6. Restarts: after each of a mount's own steps the image that a finished mount leaves is the same, and one step less is left.
pub record Restarts (g : Geometry) (t : Bytes) : Type 0 where
  pub same : (x : Step) (xs : List Step) → left g t ≡ x ∷ xs → finish (mount_job g (apply x t) (survey g (apply x t))) (apply x t) ≡ finish (mount_job g t (survey g t)) t
  pub less : (x : Step) (xs : List Step) → left g t ≡ x ∷ xs → suc (length (left g (apply x t))) ≡ length (left g t)

pub restarts_by : (g : Geometry) (P : Bytes → Type 0) (t : Bytes) {n : ℕ} {u : Bytes} → Mounts g P n t u → Restarts g t
restarts_by g P t m = record {
  same = λ x xs q. (mounts_next m x xs q).same ∙ sym (mounts_end m);
  less = λ x xs q. ap suc (sym (once_all g (left g (apply x t))) ∙ (mounts_next m x xs q).falls ∙ once_all g xs) ∙ sym (ap length q);
}

pub restarts : (g : Geometry) (t : Bytes) {m : Plain} → Reached g t m → Restarts g t
restarts g t r = restarts_by g (KeptImage g) t (kept_mounts g t (reached_kept g r)).mounts

-- ... so a mount may be stopped any number of times: what suffices for t suffices after it, and leaves the same image.
pub stops_do_not_matter : (g : Geometry) (t : Bytes) {m : Plain} → Reached g t m → (ks : List ℕ) (j : ℕ) → number (outcome g (mount j) t).answer ≡ 0
    → (number (outcome g (mount j) (after_mounts g ks t)).answer ≡ 0)
    × ((k : ℕ) → number (outcome g (mount k) (after_mounts g ks t)).answer ≡ 0 → (outcome g (mount k) (after_mounts g ks t)).image ≡ (outcome g (mount j) t).image)
stops_do_not_matter g t r = mounts_same g (KeptImage g) (kept_lasts g) t (reached_kept g r)

-- ---- what upright says, spelled out
pub one_home : (g : Geometry) (t : Bytes) {m : Plain} → Reached g t m → (L : ℕ) → L < g.units - 1 → length (homes_for (survey g t).units L) ≡ 1
one_home g t r L l =
    ap (λ (x : ℕ). length (homes_for (survey g t).units x)) (sym (zero-add L))
    ∙ one_numbered g (survey g t).units (g.units - 1) 0 L (housed_parts g (survey g t) (upright g t r).0).one l

-- in a home: sectors lie inside the unit and above the array, and no two share a byte
pub record InOrder (g : Geometry) (h : Home) : Type 0 where
  pub listed : all is_listed h.room.array ≡ true
  pub inside : (j : ℕ) → j < length h.room.array → (d : Descriptor) → d ≡ get_or h.room.array j blank → has_sector d ≡ true → (stands (n h.room) ≤ d.offset) × (d.offset + size d ≤ g.size)
  pub apart' : all_apart h.room.array ≡ true

pub in_order : (g : Geometry) (t : Bytes) {m : Plain} → Reached g t m → (i : ℕ) → i < length (survey g t).homes → InOrder g (home_at (survey g t).homes i)
unfolding home_at
in_order g t r i l =
    record {
      listed = parts.listed;
      inside = λ j m d e s.
          let y = lying g (stands (n x.room)) d (ap (is_placed g (stands (n x.room))) e ∙ all_get (is_placed g (stands (n x.room))) x.room.array j blank m parts.placed) s in
          (y.above, y.inside);
      apart' = parts.apart;
    }
  where
    x : Home
    x = home_at (survey g t).homes i

    parts : HomeParts g x.unit.bytes x.room
    parts = home_parts g x.unit.bytes x.room
        (all_get (λ (h : Home). is_home g h.unit.bytes h.room) (survey g t).homes i no_home l (housed_parts g (survey g t) (upright g t r).0).homes)
