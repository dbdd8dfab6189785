-- What a finished format or mount leaves is settled.
use Rattle.std.specs.Prelude.{◌≡◌, Bool, ℕ, ◌<◌, length, get_or}
use Rattle.std.proofs.Math.Path.{refl, ap}
use Rattle.std.proofs.Common.{◌∙◌, arith}
use Rattle.std.proofs.Math.Bool.{true, false}
use Rattle.rules.specs.Flash.{Bytes, is_geometry}
use Rattle.rules.specs.Settled.{survey}
use Rattle.rules.specs.Sound.{standing}
use Rattle.rules.specs.Jobs.{format_job, mount_job}
use Rattle.rules.specs.Answers.{Plan, refuses, makes, origin, number, carry_out}
use Rattle.rules.specs.Calls.{Call, format, mount, when_sound, plan, allowance, outcome}
use Rattle.rules.specs.declared.Geometry.{Geometry}
use Rattle.rules.specs.declared.Standing.{Standing}
use Rattle.rules.specs.declared.Standing.TheVariants.{Settled, Sound, Neither}
use Rattle.rules.specs.declared.NotDone.TheVariants.{BadGeometry, BadImage}
use Rattle.table_renew.specs.declared.FillCall.{FillCall}
use Rattle.table_renew.specs.declared.FillCall.TheVariants.{Format, Mount}
use Rattle.call_look.specs.Guards.{outside, inside}
use Rattle.theory.specs.Promised.Finished.{format_settles}
use Rattle.theory.specs.Images.Stand.{not_neither}
use Rattle.theory_sound.specs.Reading.{from_bytes}
use Rattle.theory_sound.specs.AnySound.{mount_settles_sound}

-- The call that it is, under an allowance.
unfoldable pub fill_call : FillCall → ℕ → Call
fill_call Format k = format k
fill_call Mount k = mount k

-- The image is of the geometry and settled.
pub record Fresh (g : Geometry) (s : Bytes) : Type 0 where
  pub right : is_geometry g (length s) ≡ true
  pub settled : standing g (survey g s) ≡ Settled

module _ (g : Geometry) (s : Bytes) where
  by_plan : (c : Call) (p : Plan) → plan g s c ≡ p → number (outcome g c s).answer ≡ number (carry_out p (allowance c) s).answer
  unfolding outcome
  by_plan c p e = ap (λ (q : Plan). number (carry_out q (allowance c) s).answer) e

  two : (c : Call) → plan g s c ≡ refuses BadGeometry → number (outcome g c s).answer ≡ 2
  two c e = by_plan c (refuses BadGeometry) e ∙ unfold carry_out number in refl

  three : (c : Call) → plan g s c ≡ refuses BadImage → number (outcome g c s).answer ≡ 3
  three c e = by_plan c (refuses BadImage) e ∙ unfold carry_out number in refl

  format_right : (k : ℕ) (b : Bool) → is_geometry g (length s) ≡ b → number (outcome g (format k) s).answer ≡ 0 → b ≡ true
  format_right k true e z = refl
  format_right k false e z = absurd (omega (arith, z, two (format k) (unfold plan in outside g s (makes origin (format_job g s)) e)))

  mount_right : (k : ℕ) (b : Bool) → is_geometry g (length s) ≡ b → number (outcome g (mount k) s).answer ≡ 0 → b ≡ true
  mount_right k true e z = refl
  mount_right k false e z = absurd (omega (arith, z, two (mount k) (unfold plan in outside g s (when_sound (standing g (survey g s)) (makes origin (mount_job g s (survey g s)))) e)))

  mount_sound : (k : ℕ) (t : Standing) → is_geometry g (length s) ≡ true → standing g (survey g s) ≡ t → number (outcome g (mount k) s).answer ≡ 0 → not_neither t ≡ true
  mount_sound k Settled r e z = refl
  mount_sound k Sound r e z = refl
  mount_sound k Neither r e z =
      let p : plan g s (mount k) ≡ when_sound (standing g (survey g s)) (makes origin (mount_job g s (survey g s))) = unfold plan in inside g s (when_sound (standing g (survey g s)) (makes origin (mount_job g s (survey g s)))) r in
      absurd (omega (arith, z, three (mount k) (p ∙ ap (λ (x : Standing). when_sound x (makes origin (mount_job g s (survey g s)))) e ∙ unfold when_sound in refl)))

  pub fill_settles : (c : FillCall) (k : ℕ) → ((i : ℕ) → get_or s i 0 < 256) → (u : Bytes) → u ≡ (outcome g (fill_call c k) s).image → length u ≡ length s → number (outcome g (fill_call c k) s).answer ≡ 0 → Fresh g u
  unfolding fill_call
  fill_settles Format k small u e l z =
      let r : is_geometry g (length s) ≡ true = format_right k (is_geometry g (length s)) refl z in
      record { right = ap (is_geometry g) l ∙ r; settled = ap (λ (w : Bytes). standing g (survey g w)) e ∙ format_settles g s k z }
  fill_settles Mount k small u e l z =
      let r : is_geometry g (length s) ≡ true = mount_right k (is_geometry g (length s)) refl z in
      let n : not_neither (standing g (survey g s)) ≡ true = mount_sound k (standing g (survey g s)) r refl z in
      record { right = ap (is_geometry g) l ∙ r; settled = ap (λ (w : Bytes). standing g (survey g w)) e ∙ (mount_settles_sound g s r (from_bytes s small) n k z).0 }
