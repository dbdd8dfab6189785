-- The steps of a mount, run one after the other.
use Rattle.std.specs.Prelude.{◌≡◌, true, ℕ, ◌<◌, take, None, Some, ◌-◌, Option, MatchOption, false}
use Rattle.std.proofs.Math.Path.{refl, ap, subst}
use Rattle.std.proofs.Common.{sym, ◌∙◌, arith, take_at}
use mathlib.Core.List.{List, [], ◌++◌}
use Rattle.std.proofs.Math.Decide.{dec_lt}
use Rattle.std.proofs.Math.ListN.{length, length-append}
use Rattle.rules.specs.Flash.{Bytes, Step, is_geometry, steps_of, finish, state, run, Run}
use Rattle.rules.specs.Settled.{survey}
use Rattle.std.specs.Option.{IsSome}
use borrow.Author.Rules.{rules}
use Rattle.rules.specs.Sound.{standing}
use Rattle.rules.specs.Jobs.{finish_move, tidy, mount_job}
use Rattle.laws.specs.Runs.{run_done, run_append, steps_append, stays_cut}
use Rattle.laws.specs.Runs
use Rattle.laws.specs.Words.{AreBytes}
use Rattle.rules.specs.declared.Standing.{Standing}
use Rattle.rules.specs.declared.Standing.TheVariants.{Neither}
use Rattle.rules.specs.declared.Geometry.{Geometry}
use Rattle.unit.specs.Tests.{no as never}
use Rattle.home_table.specs.Places.{places_of, housed}
use Rattle.judge.specs.declared.Look.{Look}
use Rattle.index.specs.Known.{all_housed, shown_homed, sound_homed}
use Rattle.theory.specs.Images.Stand.{not_neither}
use Rattle.theory.specs.Base.Along.{steps_finish}
use Rattle.theory_sound.specs.Reading.{from_bytes}
use Rattle.theory_sound.specs.AnySound.{restarts_after_sound}
use Rattle.step_mount.specs.Mendable.{Mendable, mendable}
use Rattle.step_mount.specs.Moving.{Sighted}

-- ---- a run of the move, then of what is left
run_finish : (xs : List Step) (k j : ℕ) (s t : Bytes) (r : Run) → state t r ≡ run xs (state s (Some k)) → r ≡ Some j → t ≡ finish xs s
run_finish xs k j s t r e q = go (dec_lt k (length (steps_of xs s)))
  where
    go : Dec (k < length (steps_of xs s)) → t ≡ finish xs s
    go (yes l) =
        let a = e ∙ Runs.run_cut xs k s l in
        let z : ◌≡◌ {A = ℕ} 0 1 = cc in
        absurd (omega arith)
    go (no n) =
        let a = e ∙ run_done xs k s (omega arith) in
        cc

module _ (g : Geometry) (s : Bytes) where
  abbrev moved : List Step
  moved = finish_move g (survey g s)

  after_move : is_geometry g (length s) ≡ true → AreBytes s → not_neither (standing g (survey g s)) ≡ true → not_neither (standing g (survey g (finish (finish_move g (survey g s)) s))) ≡ true
  unfolding mount_job
  after_move right small sound =
      subst (λ (t : Bytes). not_neither (standing g (survey g t)) ≡ true) same (restarts_after_sound g s right (from_bytes s small) sound (length (steps_of moved s)) (omega (arith, ap length whole, length-append (steps_of moved s) rest))).sane
    where
      rest : List Step
      rest = steps_of (tidy (survey g (finish moved s))) (finish moved s)

      whole : steps_of (moved ++ tidy (survey g (finish moved s))) s ≡ steps_of moved s ++ rest
      whole = steps_append moved (tidy (survey g (finish moved s))) s

      same : finish (take (length (steps_of moved s)) (steps_of (moved ++ tidy (survey g (finish moved s))) s)) s ≡ finish moved s
      same = ap (λ (xs : List Step). finish (take (length (steps_of moved s)) xs) s) whole ∙ ap (λ (xs : List Step). finish xs s) (take_at (steps_of moved s) rest (length (steps_of moved s)) refl) ∙ steps_finish moved s

  module _ (k : ℕ) (t : Bytes) (r : Run) (e : state t r ≡ run (finish_move g (survey g s)) (state s (Some k))) where
    -- where the move was finished, its image is sound
    pub sound_after : is_geometry g (length s) ≡ true → AreBytes s → not_neither (standing g (survey g s)) ≡ true → (j : ℕ) → r ≡ Some j → not_neither (standing g (survey g t)) ≡ true
    sound_after right small sound j q =
        subst (λ (u : Bytes). not_neither (standing g (survey g u)) ≡ true) (sym (run_finish moved k j s t r e q)) (after_move right small sound)

    -- the move, then the rest of the mount
    pub mount_run : (u : Bytes) (q : Run) → state u q ≡ run (tidy (survey g t)) (state t r) → state u q ≡ run (mount_job g s (survey g s)) (state s (Some k))
    unfolding mount_job
    mount_run u q f = go r refl
      where
        rest : List Step
        rest = tidy (survey g (finish moved s))

        whole : run (moved ++ rest) (state s (Some k)) ≡ run rest (state t r)
        whole = run_append moved rest (state s (Some k)) ∙ ap (run rest) (sym e)

        go : (p : Run) → r ≡ p → state u q ≡ run (moved ++ rest) (state s (Some k))
        go (Some j) z = f ∙ ap (λ (y : Bytes). run (tidy (survey g y)) (state t r)) (run_finish moved k j s t r e z) ∙ sym whole
        go None z =
            f ∙ ap (λ (p : Run). run (tidy (survey g t)) (state t p)) z ∙ stays_cut (tidy (survey g t)) t ∙ sym (stays_cut rest t)
            ∙ ap (λ (p : Run). run rest (state t p)) (sym z) ∙ sym whole

-- where no unit is moving
pub mount_still : (g : Geometry) (s : Bytes) → finish_move g (survey g s) ≡ [] → mount_job g s (survey g s) ≡ tidy (survey g s)
unfolding mount_job finish
mount_still g s e = ap (λ (xs : List Step). xs ++ tidy (survey g (finish xs s))) e

pub is_sound : (t : Standing) → not_neither t ≡ true → t ≡ Neither → ⊥
is_sound t e n = never (sym (ap not_neither n) ∙ e)

-- ---- what the steps ask
pub mendable_after : (g : Geometry) (s : Bytes) (home : List ℕ) → home ≡ places_of g.size g.units s → is_geometry g (length s) ≡ true → not_neither (standing g (survey g s)) ≡ true → Mendable g s home
mendable_after g s home e right n =
    let sound = is_sound (standing g (survey g s)) n in
    mendable g s home sound (sound_homed g s right sound home e)

-- what is not None is there
pub there : {A : Type 0} (r : Option A) {P : Type 0} (Q : A → Type 0) → MatchOption r P Q → (P → ⊥) → IsSome r
there None Q m n = absurd (n m)
there (Some x) Q m n = search rules

-- each logical number of a sound image has a home
pub housed_after : (g : Geometry) (s : Bytes) → is_geometry g (length s) ≡ true → not_neither (standing g (survey g s)) ≡ true → housed g.units (places_of g.size g.units s) (g.units - 1) 0 ≡ true
housed_after g s right n = all_housed g s right (is_sound (standing g (survey g s)) n)

pub not_housed : (g : Geometry) (s : Bytes) → is_geometry g (length s) ≡ true → not_neither (standing g (survey g s)) ≡ true → housed g.units (places_of g.size g.units s) (g.units - 1) 0 ≡ false → ⊥
not_housed g s right n e = never (sym e ∙ housed_after g s right n)

pub sighted_mendable : (g : Geometry) (s : Bytes) (look : Look) → Sighted g s look → Mendable g s look.homes
sighted_mendable g s look x =
    let sound = is_sound (standing g (survey g s)) x.sound in
    mendable g s look.homes sound (shown_homed g s x.right sound look.homes x.whereabouts.homes)

-- a job that was cut
pub cut_run : (xs : List Step) (s : Bytes) (r : Run) → r ≡ None → state s r ≡ run xs (state s r)
cut_run xs s r e = ap (state s) e ∙ sym (stays_cut xs s) ∙ ap (λ (p : Run). run xs (state s p)) (sym e)
