-- Mounts one after the other, each of what the one before may leave: they end at the same image, and in all make no more steps than the measure.
use mathlib.Core.List.{List, [], ◌++◌, ◌∷◌}
use Rattle.std.proofs.Common.{◌∙◌, sym, arith}
use Rattle.std.specs.Prelude.{◌≡◌, ◌+◌, ◌≤◌, ℕ, length}
use Rattle.std.proofs.Math.Path.{ap₂, refl}
use Rattle.std.proofs.Math.ListN.{length-append, take}
use Rattle.rules.specs.Answers.{number}
use Rattle.rules.specs.Calls.{mount, outcome}
use Rattle.rules.specs.Flash.{Bytes, Step}
use Rattle.rules.specs.Histories.{MayLeave, after_mounts, as_made, mounting}
use Rattle.rules.specs.declared.Geometry.{Geometry}
use Rattle.theory.specs.Base.Stops.{leave_holds}
use Rattle.theory.specs.Mounting.Measure.{end_of, left, once_all, once_append, once_in}
use Rattle.theory.specs.Mounting.Mounts.{Mounted, Mounts, Sane, mount_call, mount_ends, mounts_end}

-- P lasts over mounts: an image of which it holds is mounted step by step, and P holds at every moment.
pub record Lasting (g : Geometry) (P : Bytes → Type 0) : Type 0 where
  pub sane : (u : Bytes) → P u → Sane g u
  pub mounts : (u : Bytes) → P u → (n : ℕ) × (t : Bytes) × Mounts g P n u t

-- mounts one after the other, from s to u; xs are the steps that they make, all together
pub data Remounts (g : Geometry) : Bytes → List Step → Bytes → Type 0 where
  enough : {s : Bytes} → Remounts g s [] s
  again : {s t u : Bytes} {xs : List Step} (k : ℕ) → MayLeave g (mount k) s t → Remounts g t xs u → Remounts g s (take k (left g s) ++ xs) u

-- where they lead: P holds, the end is the same, and the measure has fallen by what was made
pub record Leads (g : Geometry) (P : Bytes → Type 0) (s : Bytes) (xs : List Step) (u : Bytes) : Type 0 where
  pub holds : P u
  pub same : end_of g u ≡ end_of g s
  pub falls : once_in g xs + once_in g (left g u) ≡ once_in g (left g s)

-- those of a list of allowances, each begun where the steps of the one before ended
pub record MountsListed (g : Geometry) (ks : List ℕ) (s : Bytes) : Type 0 where
  pub steps : List Step
  pub mounts : Remounts g s steps (after_mounts g ks s)
  pub many : length steps ≡ mounting g ks s

module _ (g : Geometry) (P : Bytes → Type 0) (lasts : Lasting g P) where
  abbrev one : (s : Bytes) (p : P s) → Mounts g P (lasts.mounts s p).0 s (lasts.mounts s p).1
  one s p = (lasts.mounts s p).2

  called : (s : Bytes) (p : P s) (k : ℕ) → Mounted g P (lasts.mounts s p).0 s (lasts.mounts s p).1 k (outcome g (mount k) s)
  called s p k = mount_call g P lasts.sane s (one s p) k

  -- one mount, and whatever it may leave
  mounted : (s : Bytes) → P s → (k : ℕ) {t : Bytes} → MayLeave g (mount k) s t → Leads g P s (take k (left g s)) t
  mounted s p k l =
      let o = called s p k in
      leave_holds (Leads g P s (take k (left g s))) g (mount k) s (record { holds = o.holds; same = o.same ∙ sym (mounts_end (one s p)); falls = o.falls }) l

  -- any number of them
  pub remounted : {s u : Bytes} {xs : List Step} → P s → Remounts g s xs u → Leads g P s xs u
  remounted {s} p enough = record { holds = p; same = refl; falls = sym (once_append g [] (left g s)) }
  remounted {s} p (again {xs = xs} k l r) =
      let a = mounted s p k l in
      let b = remounted a.holds r in
      record { holds = b.holds; same = b.same ∙ a.same; falls = omega (arith, once_append g (take k (left g s)) xs, a.falls, b.falls) }

  pub as_listed : (ks : List ℕ) (s : Bytes) → P s → MountsListed g ks s
  unfolding mounting after_mounts
  as_listed [] s p = record { steps = []; mounts = enough; many = refl }
  as_listed (k ∷ ks) s p =
      let r = as_listed ks (outcome g (mount k) s).image (called s p k).holds in
      record {
        steps = take k (left g s) ++ r.steps;
        mounts = again k as_made r.mounts;
        many = length-append (take k (left g s)) r.steps ∙ ap₂ (λ (i j : ℕ). i + j) (sym (called s p k).steps) r.many;
      }

  -- their steps are no more than the measure
  pub mounts_few : (ks : List ℕ) (s : Bytes) → P s → mounting g ks s ≤ once_in g (left g s)
  mounts_few ks s p =
      let r = as_listed ks s p in
      omega (arith, r.many, once_all g r.steps, (remounted p r.mounts).falls)

  -- what suffices for s suffices after them, and leaves the same image
  pub mounts_same : (s : Bytes) → P s → (ks : List ℕ) (j : ℕ) → number (outcome g (mount j) s).answer ≡ 0
      → (number (outcome g (mount j) (after_mounts g ks s)).answer ≡ 0)
      × ((k : ℕ) → number (outcome g (mount k) (after_mounts g ks s)).answer ≡ 0 → (outcome g (mount k) (after_mounts g ks s)).image ≡ (outcome g (mount j) s).image)
  mounts_same s p ks j z = (
    ((called u o.holds j).done (omega (arith, (mount_ends g P lasts.sane s a j z).0, a.long, b.long, once_all g (left g s), once_all g (left g u), o.falls))).0,
    λ k y. (mount_ends g P lasts.sane u b k y).1 ∙ sym (mounts_end b) ∙ o.same ∙ mounts_end a ∙ sym (mount_ends g P lasts.sane s a j z).1,
  )
    where
      u : Bytes
      u = after_mounts g ks s

      o : Leads g P s (as_listed ks s p).steps u
      o = remounted p (as_listed ks s p).mounts

      a : Mounts g P (lasts.mounts s p).0 s (lasts.mounts s p).1
      a = one s p

      b : Mounts g P (lasts.mounts u o.holds).0 u (lasts.mounts u o.holds).1
      b = one u o.holds
