-- What mount answers.
use Rattle.std.specs.Prelude.{◌≡◌, true, false, List, ℕ, length, Some, Err}
use Rattle.std.proofs.Math.Path.{refl, ap}
use Rattle.std.proofs.Common.{sym, ◌∙◌}
use Rattle.rules.specs.Flash.{Bytes, Step, is_geometry, state, run, Run}
use Rattle.rules.specs.Settled.{survey}
use Rattle.rules.specs.Sound.{standing}
use Rattle.rules.specs.Jobs.{mount_job}
use Rattle.rules.specs.Answers.{makes, origin, Answer}
use Rattle.rules.specs.Calls.{mount, when_sound, plan, allowance}
use Rattle.laws.specs.Words.{AreBytes}
use Rattle.rules.specs.declared.NotDone.TheVariants.{BadGeometry, BadImage}
use Rattle.rules.specs.declared.Standing.{Standing}
use Rattle.rules.specs.declared.Standing.TheVariants.{Settled, Sound, Neither}
use Rattle.rules.specs.declared.Geometry.{Geometry}
use Rattle.unit.specs.Tests.{no as never}
use Rattle.judge.specs.declared.Look.{Look}
use Rattle.judge.specs.Judged.{LookTells}
use Rattle.call_answer.specs.Ends.{answer_of}
use Rattle.call_answer.specs.Laws.{MeetsCall, refused, made}
use Rattle.call_look.specs.Guards.{outside, inside}
use Rattle.theory.specs.Images.Stand.{not_neither}
use Rattle.step_mount.specs.Moving.{Sighted}

not_sound : (t : Standing) → (t ≡ Neither → ⊥) → not_neither t ≡ true
not_sound Settled n = refl
not_sound Sound n = refl
not_sound Neither n = absurd (n refl)

pub mount_bad_geometry : (g : Geometry) (s : Bytes) (k : ℕ) → is_geometry g (length s) ≡ false → MeetsCall g (mount k) s (Err BadGeometry) s
mount_bad_geometry g s k e = refused g s (mount k) BadGeometry (unfold plan in outside g s (when_sound (standing g (survey g s)) (makes origin (mount_job g s (survey g s)))) e)

module _ (g : Geometry) (s : Bytes) (look : Look) (j : LookTells g s look) (k : ℕ) where
  abbrev job : List Step
  job = mount_job g s (survey g s)

  plan_is : (t : Standing) → standing g (survey g s) ≡ t → plan g s (mount k) ≡ when_sound t (makes origin job)
  unfolding plan
  plan_is t q = inside g s (when_sound (standing g (survey g s)) (makes origin job)) j.geometry ∙ ap (λ (y : Standing). when_sound y (makes origin job)) q

  pub mount_bad_image : look.standing ≡ Neither → MeetsCall g (mount k) s (Err BadImage) s
  unfolding when_sound
  mount_bad_image h = refused g s (mount k) BadImage (plan_is Neither (sym j.standing ∙ h))

  sound_plan : (t : Standing) → not_neither t ≡ true → when_sound t (makes origin job) ≡ makes origin job
  unfolding when_sound
  sound_plan Settled h = refl
  sound_plan Sound h = refl
  sound_plan Neither h = never h

  module _ (n : look.standing ≡ Neither → ⊥) where
    h : not_neither look.standing ≡ true
    h = not_sound look.standing n

    pub sighted : AreBytes s → Sighted g s look
    sighted small = record { right = j.geometry; small = small; sound = sym (ap not_neither j.standing) ∙ h; whereabouts = j.whereabouts n }

    pub mount_made : (t : Bytes) (r : Run) → state t r ≡ run job (state s (Some k)) → (a : Answer) → a ≡ answer_of origin k r → MeetsCall g (mount k) s a t
    unfolding allowance
    mount_made = made g s (mount k) origin job (plan_is look.standing (sym j.standing) ∙ sound_plan look.standing h)
