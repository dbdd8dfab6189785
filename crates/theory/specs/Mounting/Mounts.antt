-- One mount, step by step: at every moment a mount begun again ends at the same image, and has as many steps left of those that are made only once.
use Rattle.std.specs.Prelude.{Bool, false, not, true, ◌≡◌, refl, drop, get_or, take, Some}
use mathlib.Core.List.{List, [], ◌∷◌}
use Rattle.std.proofs.Common.{◌∙◌, arith, length-take-le, take_all}
use Rattle.std.proofs.Math.Path.{ap, subst, subst₂, sym}
use Prim.Native.Nat.{◌+◌, ◌-◌, ◌<◌, ◌≤◌, suc, zero, ℕ}
use Rattle.std.proofs.Math.Decide.{dec_lt}
use Rattle.std.proofs.Math.ListN.{length}
use Rattle.rules.specs.Answers.{Outcome, carry_out, ended, given, makes, nothing, number, origin}
use Rattle.rules.specs.Calls.{allowance, in_geometry, mount, outcome, plan, refuse, when_sound}
use Rattle.rules.specs.Flash.{Bytes, State, Step, apply, finish, idle, is_geometry, made, run, state, steps_of}
use Rattle.rules.specs.Jobs.{mount_job}
use Rattle.rules.specs.Settled.{survey}
use Rattle.rules.specs.Sound.{standing}
use Rattle.rules.specs.declared.NotDone.TheVariants.{BadGeometry}
use Rattle.rules.specs.declared.Geometry.{Geometry}
use Rattle.rules.specs.declared.Standing.{Standing}
use Rattle.rules.specs.declared.Standing.TheVariants.{Neither, Settled, Sound}
use Rattle.laws.specs.Runs.{run_done}
use Rattle.theory.specs.Base.Facts.{true_false}
use Rattle.theory.specs.Base.Along.{run_stopped, steps_finish}
use Rattle.theory.specs.Images.Stand.{Mountable, not_neither}
use Rattle.theory.specs.Mounting.Measure.{end_of, left, once_split, once_in}

-- an image of document 01's geometry that mounting does not refuse
abbrev pub Sane : Geometry → Bytes → Type 0
Sane g s = (is_geometry g (length s) ≡ true) × Mountable g s

-- A moment of a mount that ends at t, with the steps xs still to make: P holds, a mount begun again here ends at t too, and of the steps
-- that are made only once it has as many left as there are in xs.
pub record Moment (g : Geometry) (P : Bytes → Type 0) (t : Bytes) (xs : List Step) (s : Bytes) : Type 0 where
  pub holds : P s
  pub same : end_of g s ≡ t
  pub falls : once_in g (left g s) ≡ once_in g xs

-- the moments of making xs, from s on
abbrev pub Moments : (g : Geometry) (P : Bytes → Type 0) (t : Bytes) → List Step → Bytes → Type 0
Moments g P t [] s = Moment g P t [] s
Moments g P t (x ∷ xs) s = Moment g P t (x ∷ xs) s × Moments g P t xs (made x s)

-- Mounting s takes n steps and ends at t.
pub record Mounts (g : Geometry) (P : Bytes → Type 0) (n : ℕ) (s t : Bytes) : Type 0 where
  pub moments : Moments g P t (left g s) s
  pub long : length (left g s) ≡ n

-- ---- a job's list has no idle step
steps_head : (xs : List Step) (s : Bytes) (x : Step) (ys : List Step) → steps_of xs s ≡ x ∷ ys → idle x s ≡ false
unfolding steps_of
steps_head [] s x ys q = absurd (let z : ⊥ = omega (arith, ap length q) in z)
steps_head (z ∷ zs) s x ys q = go (idle z s) refl q (steps_head zs s x ys)
  where
    go : (i : Bool) → idle z s ≡ i → (elim i as (λ j. List Step) [ true ↦ steps_of zs s | false ↦ z ∷ steps_of zs (apply z s) ]) ≡ x ∷ ys → (steps_of zs s ≡ x ∷ ys → idle x s ≡ false) → idle x s ≡ false
    go true e k f = f k
    go false e k f = ap (λ (y : Step). idle y s) (sym (ap (λ (l : List Step). get_or l 0 z) k)) ∙ e

made_step : (xs : List Step) (s : Bytes) (x : Step) (ys : List Step) → steps_of xs s ≡ x ∷ ys → made x s ≡ apply x s
unfolding made
made_step xs s x ys q = ap (λ (b : Bool). elim b as (λ j. Bytes) [ true ↦ s | false ↦ apply x s ]) (steps_head xs s x ys q)

-- ---- its moments
module _ {g : Geometry} {P : Bytes → Type 0} {t : Bytes} where
  moment_first : (xs : List Step) (s : Bytes) → Moments g P t xs s → Moment g P t xs s
  moment_first [] s m = m
  moment_first (x ∷ xs) s m = m.0

  -- after the first k steps
  moment_at : (xs : List Step) (s : Bytes) → Moments g P t xs s → (k : ℕ) → Moment g P t (drop k xs) (finish (take k xs) s)
  unfolding finish
  moment_at [] s m zero = m
  moment_at [] s m (suc k) = m
  moment_at (x ∷ xs) s m zero = m.0
  moment_at (x ∷ xs) s m (suc k) = moment_at xs (made x s) m.1 k

  pub mounts_after : {n : ℕ} {s : Bytes} → Mounts g P n s t → (k : ℕ) → Moment g P t (drop k (left g s)) (finish (take k (left g s)) s)
  mounts_after {s = s} r k = moment_at (left g s) s r.moments k

  -- after its first step
  pub mounts_next : {n : ℕ} {s : Bytes} → Mounts g P n s t → (x : Step) (xs : List Step) → left g s ≡ x ∷ xs → Moment g P t xs (apply x s)
  mounts_next {s = s} r x xs e =
      subst (Moment g P t xs) (made_step (mount_job g s (survey g s)) s x xs e) (moment_first xs (made x s) (subst (λ (l : List Step). Moments g P t l s) e r.moments).1)

  pub mounts_holds : {n : ℕ} {s : Bytes} → Mounts g P n s t → P s
  mounts_holds {s = s} r = (moment_first (left g s) s r.moments).holds

  pub mounts_end : {n : ℕ} {s : Bytes} → Mounts g P n s t → end_of g s ≡ t
  mounts_end {s = s} r = (moment_first (left g s) s r.moments).same

-- P may be made weaker
moments_map : (g : Geometry) {P Q : Bytes → Type 0} (t : Bytes) → ((u : Bytes) → P u → Q u) → (xs : List Step) (s : Bytes) → Moments g P t xs s → Moments g Q t xs s
moments_map g t f [] s m = record { holds = f s m.holds; same = m.same; falls = m.falls }
moments_map g t f (x ∷ xs) s m = (record { holds = f s m.0.holds; same = m.0.same; falls = m.0.falls }, moments_map g t f xs (made x s) m.1)

pub mounts_map : {g : Geometry} {P Q : Bytes → Type 0} → ((u : Bytes) → P u → Q u) → {n : ℕ} {s t : Bytes} → Mounts g P n s t → Mounts g Q n s t
mounts_map {g} f {s = s} {t = t} r = record { moments = moments_map g t f (left g s) s r.moments; long = r.long }

-- ---- how a mount is built up: from its end, step by step backwards
module _ {g : Geometry} {P : Bytes → Type 0} where
  -- nothing is left to do
  pub nothing_left : {s : Bytes} → P s → left g s ≡ [] → Mounts g P 0 s s
  unfolding finish
  nothing_left {s} p e = record {
    moments = subst (λ (l : List Step). Moments g P s l s) (sym e)
        (record { holds = p; same = sym (steps_finish (mount_job g s (survey g s)) s) ∙ ap (λ (l : List Step). finish l s) e; falls = ap (once_in g) e });
    long = ap length e;
  }

  -- Where after the first step the others are left, just as they were: the end is the same, and the measure falls with the list.
  pub rest_left : {n : ℕ} {s t : Bytes} (x : Step) (xs : List Step) → P s → left g s ≡ x ∷ xs → left g (apply x s) ≡ xs → Mounts g P n (apply x s) t → Mounts g P (suc n) s t
  unfolding finish
  rest_left {n} {s} {t} x xs p e f r = record {
    moments = subst (λ (l : List Step). Moments g P t l s) (sym e)
        (record { holds = p; same = same; falls = ap (once_in g) e }, subst₂ (λ (l : List Step) (u : Bytes). Moments g P t l u) f (sym made_is) r.moments);
    long = ap length e ∙ ap suc (sym (ap length f) ∙ r.long);
  }
    where
      made_is : made x s ≡ apply x s
      made_is = made_step (mount_job g s (survey g s)) s x xs e

      same : end_of g s ≡ t
      same =
          sym (steps_finish (mount_job g s (survey g s)) s)
          ∙ ap (λ (l : List Step). finish l s) e
          ∙ ap (finish xs) made_is
          ∙ sym (ap (λ (l : List Step). finish l (apply x s)) f)
          ∙ steps_finish (mount_job g (apply x s) (survey g (apply x s))) (apply x s)
          ∙ mounts_end r

-- ---- as a call
pub record Mounted (g : Geometry) (P : Bytes → Type 0) (n : ℕ) (s t : Bytes) (k : ℕ) (o : Outcome) : Type 0 where
  pub holds : P o.image
  pub same : end_of g o.image ≡ t
  pub steps : (given o.answer).steps ≡ length (take k (left g s))
  pub falls : once_in g (take k (left g s)) + once_in g (left g o.image) ≡ once_in g (left g s)
  -- DONE exactly where the allowance suffices, and then nothing is left
  pub done : n ≤ k → (number o.answer ≡ 0) × (o.image ≡ t)
  pub stopped : k < n → number o.answer ≡ 1

pub mount_call : (g : Geometry) (P : Bytes → Type 0) → ((u : Bytes) → P u → Sane g u) → (s : Bytes) {n : ℕ} {t : Bytes} → Mounts g P n s t → (k : ℕ) → Mounted g P n s t k (outcome g (mount k) s)
unfolding ended carry_out when_sound refuse outcome plan in_geometry allowance given nothing number
mount_call g P sane s {n} {t} r k = subst (Mounted g P n s t k) (sym called) (go (dec_lt k n))
  where
    job : List Step
    job = mount_job g s (survey g s)

    called : outcome g (mount k) s ≡ ended origin k (run job (state s (Some k)))
    called =
        ap (λ (b : Bool). carry_out (refuse (not b) BadGeometry (when_sound (standing g (survey g s)) (makes origin job))) k s) (sane s (mounts_holds r)).0
        ∙ sound (standing g (survey g s)) (sane s (mounts_holds r)).1
      where
        sound : (x : Standing) → not_neither x ≡ true → carry_out (when_sound x (makes origin job)) k s ≡ ended origin k (run job (state s (Some k)))
        sound Settled q = refl
        sound Sound q = refl
        sound Neither q = true_false false q refl

    m : Moment g P t (drop k (left g s)) (finish (take k (left g s)) s)
    m = mounts_after r k

    falls : once_in g (take k (left g s)) + once_in g (left g (finish (take k (left g s)) s)) ≡ once_in g (left g s)
    falls = ap (λ (i : ℕ). once_in g (take k (left g s)) + i) m.falls ∙ once_split g k (left g s)

    go : Dec (k < n) → Mounted g P n s t k (ended origin k (run job (state s (Some k))))
    go (yes l) =
        subst (λ (x : State). Mounted g P n s t k (ended origin k x)) (sym (run_stopped job k s (subst (λ (i : ℕ). k < i) (sym r.long) l)))
        (record {
          holds = m.holds;
          same = m.same;
          steps = sym (length-take-le k (left g s) (omega (arith, r.long)));
          falls = falls;
          done = λ h. absurd (let z : ⊥ = omega arith in z);
          stopped = λ h. refl;
        })
    go (no l) =
        subst (λ (x : State). Mounted g P n s t k (ended origin k x)) (sym (run_done job k s (omega (arith, r.long))))
        (record {
          holds = subst P all_made m.holds;
          same = ap (end_of g) (sym all_made) ∙ m.same;
          steps = sum ∙ sym (ap length whole);
          falls = ap (λ (u : Bytes). once_in g (take k (left g s)) + once_in g (left g u)) (sym all_made) ∙ falls;
          done = λ h. (refl, mounts_end r);
          stopped = λ h. absurd (l h);
        })
      where
        whole : take k (left g s) ≡ left g s
        whole = take_all k (left g s) (omega (arith, r.long))

        all_made : finish (take k (left g s)) s ≡ finish job s
        all_made = ap (λ (l : List Step). finish l s) whole ∙ steps_finish job s

        sum : k - (k - length (left g s)) ≡ length (left g s)
        sum = omega (arith, r.long)

-- a DONE mount had an allowance that suffices, and it leaves the end
pub mount_ends : (g : Geometry) (P : Bytes → Type 0) → ((u : Bytes) → P u → Sane g u) → (s : Bytes) {n : ℕ} {t : Bytes} → Mounts g P n s t → (k : ℕ) → number (outcome g (mount k) s).answer ≡ 0
    → (n ≤ k) × ((outcome g (mount k) s).image ≡ t)
mount_ends g P sane s {n} {t} r k z = go (dec_lt k n)
  where
    m : Mounted g P n s t k (outcome g (mount k) s)
    m = mount_call g P sane s r k

    go : Dec (k < n) → (n ≤ k) × ((outcome g (mount k) s).image ≡ t)
    go (yes l) = absurd (let w : ⊥ = omega (arith, z, m.stopped l) in w)
    go (no l) = (omega arith, (m.done (omega arith)).1)
