-- A mount of a moving unit, step by step, to a settled image that shows what was shown.
use Rattle.std.specs.Prelude.{Bool, false, true, ◌≡◌, eqb, get_or, length}
use mathlib.Core.List.{List, [], ◌++◌, ◌∷◌, append_assoc}
use Rattle.std.proofs.Common.{◌∙◌, ap₂, subst, sym, mul-le-mul_right, length-append}
use Rattle.std.proofs.Math.Path.{ap, refl}
use Prim.Native.Nat.{◌%◌, ◌*◌, ◌+◌, ◌/◌, ◌<◌, ◌≤◌, suc, zero, ℕ}
use native.Mathlib.Omega.{arith}
use Rattle.rules.specs.Copy.{fill}
use Rattle.rules.specs.Flash.{Bytes, Step, apply, erase, finish, idle, made, program, steps_of, word}
use Rattle.rules.specs.Histories.{mount_bound, move_bound, tidy_bound}
use Rattle.rules.specs.Jobs.{emptied, mount_job}
use Rattle.rules.specs.Lists.{all}
use Rattle.rules.specs.Settled.{Entry, survey}
use Rattle.rules.specs.Unit.{live, retired}
use Rattle.rules.specs.declared.Geometry.{Geometry}
use Rattle.laws.specs.Runs.{steps_append}
use Rattle.laws.specs.Units.{even_size_lem}
use Rattle.theory.specs.Base.Facts.{all_cons, both, is_nil, ltb_of}
use Rattle.theory.specs.Base.Along.{Along, along_first, le}
use Rattle.theory.specs.Images.Units.{length_join}
use Rattle.theory.specs.Images.Model.{all_entries, laid, state_word}
use Rattle.theory.specs.Tidying.Sorted.{Orderly, SameE, quiet_unfinished, sorted, unfinished}
use Rattle.theory.specs.Tidying.Held.{HeldEntries}
use Rattle.theory.specs.Tidying.Ends.{mount_job_lem}
use Rattle.theory.specs.Moves.Within.{Even, WritesCopy, writing, written}
use Rattle.theory.specs.Moves.Copying.{shifted}
use Rattle.theory.specs.Base.Restart.{finish_again, is_word_in, steps_again}
use Rattle.theory.specs.Mounting.Measure.{left}
use Rattle.theory.specs.Mounting.Mounts.{Mounts, rest_left}
use Rattle.theory.specs.Tidying.Bound.{both_few, tidy_few}
use Rattle.theory.specs.Mounting.TidyMounts.{TidyEnded, safe_of, tidy_mounts}
use Rattle.theory.specs.Moves.Move.{OldErased, Filling, Retired, Setting, CopyLive, copy_base, copy_home, fill_shift, fill_steps, fills, long, the_copy}
use Rattle.theory.specs.Moves.Move.{the_number, ups_after}
use Rattle.theory.specs.Moves.Stages.{Moving, along_moving, erase_old, fill_on, make_live, moving, once_live, once_retired, retire, sealing}
use Rattle.theory.specs.Moves.Stages.{while_filling}
use Rattle.theory.specs.Moves.FillFew.{fill_few, seal_few, steps_few}
use Rattle.theory.specs.Moves.MoveJobs.{after, filling_job, home_word, idle_at, quiet_after, retired_busy, retired_done, retired_filled, retired_idle}
use Rattle.theory.specs.Moves.MoveJobs.{retired_job, steps_none, taken_job}

-- the image after a job's first step, where P holds along it
along_next : (P : Bytes → Type 0) (xs : List Step) (s : Bytes) → Along P s xs → (x : Step) (ys : List Step) → steps_of xs s ≡ x ∷ ys → P (apply x s)
unfolding steps_of made
along_next P [] s a x ys q = absurd (let z : ⊥ = omega (arith, ap length q) in z)
along_next P (z ∷ zs) s a x ys q = go (idle z s) a.1 q (λ b. along_next P zs s b x ys)
  where
    go : (i : Bool) → Along P (elim i as (λ j. Bytes) [ true ↦ s | false ↦ apply z s ]) zs → (elim i as (λ j. List Step) [ true ↦ steps_of zs s | false ↦ z ∷ steps_of zs (apply z s) ]) ≡ x ∷ ys
        → (Along P s zs → steps_of zs s ≡ x ∷ ys → P (apply x s)) → P (apply x s)
    go true b e f = f b e
    go false b e f = subst (λ (y : Step). P (apply y s)) (ap (λ (l : List Step). get_or l 0 z) e) (along_first P zs (apply z s) b)

module _ (g : Geometry) (m : Setting g) where
  -- the filling's steps program words of the image
  fill_words : (n : ℕ) → n ≡ g.units * g.size → m.sp < g.units → all (is_word_in n) (fill_steps g m) ≡ true
  unfolding all
  fill_words n len l =
      ap (all (is_word_in n)) (fill_shift g m (laid (the_number g m) m.p)) ∙ go (fill g 0 (the_number g m) (laid (the_number g m) m.p)) (fills g m)
    where
      base_even : copy_base g m % 2 ≡ 0
      base_even = times m.sp g.size (even_size_lem m.shape.right)
        where
          times : (a b : ℕ) → b % 2 ≡ 0 → a * b % 2 ≡ 0
          times a b e = half (b / 2) (omega arith)
            where
              half : (k : ℕ) → b ≡ 2 * k → a * b % 2 ≡ 0
              half k z = ap (λ (x : ℕ). a * x % 2) z ∙ twice (a * k) (a * (2 * k)) (omega arith)
                where
                  twice : (x y : ℕ) → y ≡ 2 * x → y % 2 ≡ 0
                  twice x y e = omega arith

      top : copy_base g m + g.size ≤ g.units * g.size
      top = up m.sp g.units l
        where
          up : (a b : ℕ) → a < b → a * g.size + g.size ≤ b * g.size
          up a b h = omega (arith, mul-le-mul_right g.size h)

      even_len : (xs : Bytes) → Even xs → length xs % 2 ≡ 0
      even_len [] e = refl
      even_len (x ∷ []) e = absurd e
      even_len (x ∷ (y ∷ xs)) e = omega (arith, even_len xs e)

      go : (xs : List Step) → WritesCopy (the_copy g m) xs → all (is_word_in n) (shifted (copy_base g m) xs) ≡ true
      go [] written = refl
      go (program a v ∷ xs) (writing C1 v' C2 a' p ev e h rest) =
          all_cons (is_word_in n) (program (copy_base g m + a) v) (shifted (copy_base g m) xs)
          (both (ap (λ (x : ℕ). eqb x 0) (sum (copy_base g m) a base_even (ap (λ (x : ℕ). x % 2) (sym e) ∙ even_len C1 ev)))
          (ltb_of (copy_base g m + a + 1) n (omega (arith, top, len, e, ap length p, length-append C1 (le v C2), long g m))))
          (go xs rest)
        where
          sum : (x y : ℕ) → x % 2 ≡ 0 → y % 2 ≡ 0 → (x + y) % 2 ≡ 0
          sum x y p q = omega arith
      go (erase _ _ ∷ xs) w = elim w [ ]

  -- Q is what the tidying's steps and the move keep, P what is to hold at every moment
  module _ (Q : List Entry → Type 0) (keeps : (a b : List Entry) → SameE a b → Q a → Q b) (kept : Q (all_entries g 0 (m.hs ++ copy_home g m ∷ m.bs)))
      (P : Bytes → Type 0) (holds : (s : Bytes) → HeldEntries g (λ l. Orderly (sorted l) × Q l) s → P s) (moves : (s : Bytes) → Moving g m s → P s) where
    abbrev done_held : (s : Bytes) → OldErased g m s → HeldEntries g (λ l. Orderly (sorted l) × Q l) s
    done_held s d = record {
      us = d.us;
      ps = m.hs ++ copy_home g m ∷ m.bs;
      sp = m.p.phys;
      image = d.image;
      stands = d.stands;
      ups = ups_after g m;
      bare = d.bare;
      holds = (
        unfinished (quiet_unfinished (sorted (all_entries g 0 (m.hs ++ copy_home g m ∷ m.bs))) (quiet_after g m)),
        kept,
      );
    }

    Mounted-from : ℕ → Bytes → Type 0
    Mounted-from n s = (t : Bytes) × Mounts g P n s t × TidyEnded g Q keeps t

    last : ℕ
    last = length (after g m)

    done_mounts : (s : Bytes) → OldErased g m s → Mounted-from last s
    unfolding Mounted-from last
    done_mounts s h = tidy_mounts g Q keeps P holds s (done_held s h)

    done_job : (s : Bytes) → OldErased g m s → mount_job g s (survey g s) ≡ after g m
    done_job s h = mount_job_lem g s (safe_of g Q keeps s (done_held s h))

    -- ---- the copy is live: the erase
    taken_mounts : (s : Bytes) → CopyLive g m s → Mounted-from (suc last) s
    unfolding Mounted-from made idle steps_of
    taken_mounts s k =
        let d = erase_old g m s k in
        let r = done_mounts (apply x s) d in (
          r.0,
          rest_left x (steps_of (after g m) (apply x s)) (moves s (once_live k))
              (ap (λ (l : List Step). steps_of l s) (taken_job g m s k)) (ap (λ (l : List Step). steps_of l (apply x s)) (done_job (apply x s) d)) r.1,
          r.2,
        )
      where
        x : Step
        x = erase (m.p.phys * g.size) g.size

    -- ---- the home is retired: the copy is made live
    retired_mounts : (s : Bytes) → Retired g m s → Mounted-from (suc (suc last)) s
    unfolding Mounted-from made steps_of emptied
    retired_mounts s k =
        let r = taken_mounts (apply x s) d in (
          r.0,
          rest_left x (steps_of rest (apply x s)) (moves s (once_retired k)) here
              (ap (λ (l : List Step). steps_of l (apply x s)) (taken_job g m (apply x s) d)) r.1,
          r.2,
        )
      where
        x : Step
        x = program (copy_base g m + 2) live

        y : Step
        y = program (m.p.phys * g.size + 2) retired

        rest : List Step
        rest = erase (m.p.phys * g.size) g.size ∷ after g m

        made_is : made x s ≡ apply x s
        made_is = ap (λ (b : Bool). elim b as (λ j. Bytes) [ true ↦ s | false ↦ apply x s ]) (retired_busy g m s k)

        d : CopyLive g m (apply x s)
        d = subst (CopyLive g m) made_is (make_live g m s k)

        here : left g s ≡ x ∷ steps_of rest (apply x s)
        here =
            ap (λ (l : List Step). steps_of l s) (retired_job g m s k ∙ append_assoc (fill_steps g m) (sealing g m) (after g m))
            ∙ steps_append (fill_steps g m) (y ∷ (x ∷ rest)) s
            ∙ ap₂ (λ (a b : List Step). a ++ b) (retired_filled g m s k) (ap (steps_of (y ∷ (x ∷ rest))) (steps_none g m (fill_steps g m) s (retired_filled g m s k)))
            ∙ ap (λ (b : Bool). elim b as (λ j. List Step) [ true ↦ steps_of (x ∷ rest) s | false ↦ y ∷ steps_of (x ∷ rest) (apply y s) ]) (retired_idle g m s k)
            ∙ ap (λ (b : Bool). elim b as (λ j. List Step) [ true ↦ steps_of rest s | false ↦ x ∷ steps_of rest (apply x s) ]) (retired_busy g m s k)

    -- ---- the filling
    steps_of_lem : ℕ → ℕ
    steps_of_lem zero = suc (suc (suc last))
    steps_of_lem (suc n) = suc (steps_of_lem n)

    behind : List Step
    behind = sealing g m ++ after g m

    filling_left : (r s : Bytes) → Filling g m r s → left g s ≡ steps_of (fill_steps g m) s ++ steps_of behind (finish (fill_steps g m) s)
    unfolding behind
    filling_left r s k =
        ap (λ (l : List Step). steps_of l s) (filling_job g m r s k ∙ append_assoc (fill_steps g m) (sealing g m) (after g m))
        ∙ steps_append (fill_steps g m) (sealing g m ++ after g m) s

    filling_mounts : (n : ℕ) (r s : Bytes) → Filling g m r s → length (steps_of (fill_steps g m) s) ≡ n → Mounted-from (steps_of_lem n) s
    unfolding Mounted-from steps_of_lem behind made steps_of emptied
    filling_mounts zero r s k e =
        let z = retired_mounts (apply x s) d in
        (z.0, rest_left x (steps_of rest (apply x s)) (moves s (while_filling r k)) here there' z.1, z.2)
      where
        none : steps_of (fill_steps g m) s ≡ []
        none = is_nil (steps_of (fill_steps g m) s) e

        x : Step
        x = program (m.p.phys * g.size + 2) retired

        rest : List Step
        rest = program (copy_base g m + 2) live ∷ (erase (m.p.phys * g.size) g.size ∷ after g m)

        same : finish (fill_steps g m) s ≡ s
        same = steps_none g m (fill_steps g m) s none

        full : Filling g m (the_copy g m) s
        full = subst (λ (y : Bytes). Filling g m (the_copy g m) y) same (fill_on g m r s k).1

        busy : idle x s ≡ false
        busy = idle_at s (m.p.phys * g.size + 2) retired live
            (ap (λ (y : Bytes). word y (m.p.phys * g.size + 2)) k.image ∙ home_word g m k.us m.p k.stands ∙ ap state_word m.up)

        made_is : made x s ≡ apply x s
        made_is = ap (λ (b : Bool). elim b as (λ j. Bytes) [ true ↦ s | false ↦ apply x s ]) busy

        d : Retired g m (apply x s)
        d = subst (Retired g m) made_is (retire g m s full)

        here : left g s ≡ x ∷ steps_of rest (apply x s)
        here =
            filling_left r s k
            ∙ ap₂ (λ (a : List Step) (b : Bytes). a ++ steps_of (x ∷ rest) b) none same
            ∙ ap (λ (b : Bool). elim b as (λ j. List Step) [ true ↦ steps_of rest s | false ↦ x ∷ steps_of rest (apply x s) ]) busy

        there' : left g (apply x s) ≡ steps_of rest (apply x s)
        there' =
            ap (λ (l : List Step). steps_of l (apply x s)) (retired_job g m (apply x s) d ∙ append_assoc (fill_steps g m) (sealing g m) (after g m))
            ∙ steps_append (fill_steps g m) (x ∷ rest) (apply x s)
            ∙ ap₂ (λ (a b : List Step). a ++ b) (retired_filled g m (apply x s) d) (ap (steps_of (x ∷ rest)) (steps_none g m (fill_steps g m) (apply x s) (retired_filled g m (apply x s) d)))
            ∙ ap (λ (b : Bool). elim b as (λ j. List Step) [ true ↦ steps_of rest (apply x s) | false ↦ x ∷ steps_of rest (apply x (apply x s)) ]) (retired_idle g m (apply x s) d)
    filling_mounts (suc n) r s k e = go (steps_of (fill_steps g m) s) refl e (λ y t z l. filling_mounts n y t z l)
      where
        go : (l : List Step) → steps_of (fill_steps g m) s ≡ l → length l ≡ suc n → ((y t : Bytes) → Filling g m y t → length (steps_of (fill_steps g m) t) ≡ n → (u : Bytes) × Mounts g P (steps_of_lem n) t u × TidyEnded g Q keeps u)
            → (u : Bytes) × Mounts g P (suc (steps_of_lem n)) s u × TidyEnded g Q keeps u
        go [] q l f = absurd (let w : ⊥ = omega arith in w)
        go (x ∷ xs) q l f =
            let a = along_next (λ t. (y : Bytes) × Filling g m y t) (fill_steps g m) s (fill_on g m r s k).0 x xs q in
            let z = f a.0 (apply x s) a.1 (ap length again.2 ∙ less) in (
              z.0,
              rest_left x (xs ++ steps_of behind (finish (fill_steps g m) s)) (moves s (while_filling r k))
                  (filling_left r s k ∙ ap (λ (l : List Step). l ++ steps_of behind (finish (fill_steps g m) s)) q)
                  (filling_left a.0 (apply x s) a.1 ∙ ap₂ (λ (l : List Step) (t : Bytes). l ++ steps_of behind t) again.2 (finish_again (fill_steps g m) s x xs q again.2 again.1))
                  z.1,
              z.2,
            )
          where
            less : length xs ≡ n
            less = omega arith

            size' : length s ≡ g.units * g.size
            size' = ap length k.image ∙ length_join g k.us k.stands.sized ∙ ap (λ (n : ℕ). n * g.size) k.stands.units

            again : (is_word_in (g.units * g.size) x ≡ true) × (idle x s ≡ false) × (steps_of (fill_steps g m) (apply x s) ≡ xs)
            again = steps_again (g.units * g.size) (fill_steps g m) s size' (fill_words (g.units * g.size) refl (omega (arith, k.stands.spare, k.stands.units))) x xs q

    pub record MountsTo (s : Bytes) : Type 0 where
      pub steps : ℕ
      pub end : Bytes
      pub mounts : Mounts g P steps s end
      pub ended : TidyEnded g Q keeps end
      pub few : steps ≤ mount_bound g

    steps_are_lem : (n : ℕ) → steps_of_lem n ≡ n + 3 + last
    unfolding steps_of_lem
    steps_are_lem zero = omega arith
    steps_are_lem (suc n) = ap suc (steps_are_lem n) ∙ omega arith

    last_few : (s : Bytes) → OldErased g m s → last ≤ tidy_bound g
    unfolding last
    last_few s h = tidy_few g h.us (m.hs ++ copy_home g m ∷ m.bs) m.p.phys h.stands (unfinished (quiet_unfinished (sorted (all_entries g 0 (m.hs ++ copy_home g m ∷ m.bs))) (quiet_after g m)))

    filling_few : (s : Bytes) → length (steps_of (fill_steps g m) s) + 3 ≤ move_bound g
    filling_few s =
        omega (arith, steps_few (fill_steps g m) s, fill_few g m.shape (copy_base g m) (the_number g m) (state_word m.p.up) m.p.head m.p.array m.p.gap m.p.rest m.good)

    pub moving_mounts : (s : Bytes) → Moving g m s → MountsTo s
    unfolding Mounted-from
    moving_mounts s (while_filling r k) =
        let z = filling_mounts (length (steps_of (fill_steps g m) s)) r s k refl in
        record {
          steps = steps_of_lem (length (steps_of (fill_steps g m) s));
          end = z.0;
          mounts = z.1;
          ended = z.2;
          few = omega (
            arith,
            steps_are_lem (length (steps_of (fill_steps g m) s)),
            both_few g (length (steps_of (fill_steps g m) s) + 3) last (filling_few s) (last_few (finish (moving g m) s) (along_moving g m (λ x. Unit {0}) (λ x y. tt) (λ x y. tt) r s k).1),
          );
        }
    moving_mounts s (once_retired k) =
        let z = retired_mounts s k in
        record { steps = suc (suc last); end = z.0; mounts = z.1; ended = z.2; few = omega (arith, both_few g 2 last (seal_few g m.shape) (last_few (finish (moving g m) s) (retired_done g m s k))) }
    moving_mounts s (once_live k) =
        let z = taken_mounts s k in
        record { steps = suc last; end = z.0; mounts = z.1; ended = z.2; few = omega (arith, both_few g 1 last (omega (arith, seal_few g m.shape)) (last_few (made (erase (m.p.phys * g.size) g.size) s) (erase_old g m s k))) }
