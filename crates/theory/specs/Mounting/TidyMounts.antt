-- A mount where no unit is moving: step by step, to a settled image with no transaction open.
use Rattle.std.specs.Prelude.{Bool, false, true, ◌≡◌, refl, length}
use mathlib.Core.List.{List, [], ◌++◌, ◌∷◌}
use Rattle.std.proofs.Common.{◌∙◌, ap, subst, sym, arith}
use Prim.Native.Nat.{suc, zero, ℕ}
use Rattle.rules.specs.Flash.{Bytes, Step, apply, idle, made, program, steps_of}
use Rattle.rules.specs.Jobs.{mount_job}
use Rattle.rules.specs.Settled.{Entry, is_spare, survey}
use Rattle.rules.specs.declared.Geometry.{Geometry}
use Rattle.theory.specs.Base.Facts.{is_nil}
use Rattle.theory.specs.Images.Units.{join}
use Rattle.theory.specs.Images.Model.{all_entries}
use Rattle.theory.specs.Images.Turn.{Turned, set_e, turned}
use Rattle.theory.specs.Tidying.Flat.{Next, finished, more, next_both}
use Rattle.theory.specs.Tidying.Sorted.{Orderly, OrderlyE, SameE, sorted, tidying}
use Rattle.theory.specs.Tidying.Tidy.{Tidied, next, tidied}
use Rattle.theory.specs.Tidying.Held.{HeldEntries, Safe, held_map}
use Rattle.theory.specs.Tidying.Ends.{mount_job_lem}
use Rattle.theory.specs.Storing.Stores.{p}
use Rattle.theory.specs.Mounting.Measure.{left}
use Rattle.theory.specs.Mounting.Mounts.{Mounts, nothing_left, rest_left}

-- Q is what each step of the tidying keeps, P what is to hold at every moment.
module _ (g : Geometry) (Q : List Entry → Type 0) (keeps : (a b : List Entry) → SameE a b → Q a → Q b) where
  -- orderly, with Q
  abbrev pub With : List Entry → Type 0
  With l = Orderly (sorted l) × Q l

  -- where it ends
  abbrev pub TidyEnded : Bytes → Type 0
  TidyEnded t = HeldEntries g (λ l. Tidied (sorted l) × Q l) t

  abbrev pub safe_of : (s : Bytes) → HeldEntries g (λ l. Orderly (sorted l) × Q l) s → Safe g s
  safe_of s h = held_map g With OrderlyE (λ l p. p.0) s h

  module _ (P : Bytes → Type 0) (holds : (s : Bytes) → HeldEntries g (λ l. Orderly (sorted l) × Q l) s → P s) where
    tidy_mounts_in : (n : ℕ) (s : Bytes) (h : HeldEntries g (λ l. Orderly (sorted l) × Q l) s) → length (tidying (all_entries g 0 h.ps)) ≡ n → (t : Bytes) × Mounts g P n s t × TidyEnded t
    unfolding steps_of made
    tidy_mounts_in zero s h e = (s, nothing_left (holds s h) (ap (λ (l : List Step). steps_of l s) (mount_job_lem g s (safe_of s h) ∙ nil)), ended)
      where
        nil : tidying (all_entries g 0 h.ps) ≡ []
        nil = is_nil (tidying (all_entries g 0 h.ps)) e

        ended : TidyEnded s
        ended = record {
          us = h.us;
          ps = h.ps;
          sp = h.sp;
          image = h.image;
          stands = h.stands;
          ups = h.ups;
          bare = h.bare;
          holds = (tidied (sorted (all_entries g 0 h.ps)) h.holds.0 nil, h.holds.1);
        }
    tidy_mounts_in (suc n) s h e = go (next_both OrderlyE Q SameE tidying keeps next (all_entries g 0 h.ps) h.holds) (λ t k z. tidy_mounts_in n t k z)
      where
        go : Next With SameE tidying (all_entries g 0 h.ps) → ((t : Bytes) (k : HeldEntries g With t) → length (tidying (all_entries g 0 k.ps)) ≡ n → (u : Bytes) × Mounts g P n t u × TidyEnded u) → (t : Bytes) × Mounts g P (suc n) s t × TidyEnded t
        go (finished z) rec = absurd (let w : ⊥ = omega (arith, e, ap length z) in w)
        go (more front x back v f q t j p r) rec = real (idle y s) refl
          where
            y : Step
            y = program x.place v

            after : List Entry
            after = front ++ set_e f x ∷ back

            T : Turned g h.us h.ps h.sp (front ++ set_e f x ∷ back) (made (program x.place v) (join h.us))
            T = turned g h.us h.sp front x back v f t.to t.like t.is t.full h.ps h.stands q

            new : (u : Bytes) → u ≡ made (program x.place v) s → HeldEntries g With u
            new u z = record {
              us = T.us';
              ps = T.ps';
              sp = h.sp;
              image = z ∙ ap (made (program x.place v)) h.image ∙ T.image;
              stands = T.stands;
              ups = T.ups ∙ h.ups;
              bare = ap is_spare T.spare ∙ h.bare;
              holds = subst With (sym T.entries) p;
            }

            job_new : tidying (all_entries g 0 T.ps') ≡ tidying after
            job_new = ap tidying T.entries

            short : length (tidying (all_entries g 0 T.ps')) ≡ n
            short = omega (arith, ap length job_new, ap length j, e)

            real : (i : Bool) → idle y s ≡ i → (t : Bytes) × Mounts g P (suc n) s t × TidyEnded t
            real true i = absurd (let w : ⊥ = omega (arith, ap length clash, ap length j, ap length job_new) in w)
              where
                same : made y s ≡ s
                same = ap (λ (b : Bool). elim b as (λ k. Bytes) [ true ↦ s | false ↦ apply y s ]) i

                clash : tidying (all_entries g 0 h.ps) ≡ tidying (all_entries g 0 T.ps')
                clash = sym (mount_job_lem g s (safe_of s h)) ∙ ap (λ (u : Bytes). mount_job g u (survey g u)) (sym same) ∙ mount_job_lem g (made y s) (safe_of (made y s) (new (made y s) refl))
            real false i =
                let w = rec (apply y s) (new (apply y s) (sym made_is)) short in
                (w.0, rest_left y (steps_of (tidying after) (apply y s)) (holds s h) here there' w.1, w.2)
              where
                made_is : made y s ≡ apply y s
                made_is = ap (λ (b : Bool). elim b as (λ k. Bytes) [ true ↦ s | false ↦ apply y s ]) i

                here : left g s ≡ y ∷ steps_of (tidying after) (apply y s)
                here =
                    ap (λ (l : List Step). steps_of l s) (mount_job_lem g s (safe_of s h) ∙ j)
                    ∙ ap (λ (b : Bool). elim b as (λ k. List Step) [ true ↦ steps_of (tidying after) s | false ↦ y ∷ steps_of (tidying after) (apply y s) ]) i

                there' : left g (apply y s) ≡ steps_of (tidying after) (apply y s)
                there' =
                    ap (λ (u : Bytes). left g u) (sym made_is)
                    ∙ ap (λ (l : List Step). steps_of l (made y s)) (mount_job_lem g (made y s) (safe_of (made y s) (new (made y s) refl)) ∙ job_new)
                    ∙ ap (steps_of (tidying after)) made_is

    pub tidy_mounts : (s : Bytes) (h : HeldEntries g (λ l. Orderly (sorted l) × Q l) s) → (t : Bytes) × Mounts g P (length (tidying (all_entries g 0 h.ps))) s t × TidyEnded t
    tidy_mounts s h = tidy_mounts_in (length (tidying (all_entries g 0 h.ps))) s h refl
