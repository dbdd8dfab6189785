-- The calls of a history, and small facts of their inputs.
use Rattle.std.specs.Prelude.{false, List, ◌≡◌, ◌+◌, ◌<◌, ◌≤◌, ℕ, eqb, ltb}
use Rattle.std.proofs.Math.Option.{Option, none, some}
use Rattle.std.proofs.Math.Decide.{dec_lt}
use Rattle.std.proofs.Common.{arith}
use Rattle.std.proofs.Math.ListN.{length}
use Rattle.rules.specs.Answers.{makes}
use Rattle.rules.specs.Calls.{is_bad_file, is_too_long, showing, showing_at}
use Rattle.rules.specs.Flash.{Bytes, Step}
use Rattle.rules.specs.Settled.{Entry}
use Rattle.rules.specs.declared.Geometry.{Geometry}
use Rattle.rules.specs.declared.Handle.{Handle}
use Rattle.rules.specs.declared.Origin.{Origin}
use Rattle.theory.specs.Base.Facts.{differ, ltb_of, true_false}

pub showing_makes : (w : Origin) (o : Option Entry) (h : Handle) (job : List Step) → showing w o ≡ makes h job → ⊥
unfolding showing
showing_makes w none h job e = let z : ◌≡◌ {A = ℕ} 0 1 = cc in omega arith
showing_makes w (some x) h job e = let z : ◌≡◌ {A = ℕ} 0 1 = cc in omega arith

pub showing_at_makes : (o : Option Entry) (h : Handle) (job : List Step) → showing_at o ≡ makes h job → ⊥
unfolding showing_at
showing_at_makes none h job e = let z : ◌≡◌ {A = ℕ} 0 1 = cc in omega arith
showing_at_makes (some x) h job e = let z : ◌≡◌ {A = ℕ} 0 1 = cc in omega arith

module _ (g : Geometry) where
  pub small_file : (f : ℕ) → is_bad_file f ≡ false → f < 256
  unfolding is_bad_file
  small_file f e = go (dec_lt 255 f)
    where
      go : Dec (255 < f) → f < 256
      go (yes l) = true_false (ltb 255 f) (ltb_of 255 f l) e
      go (no n) = omega (arith, n)

  pub short_content : (c : Bytes) → is_too_long c ≡ false → length c ≤ 256
  unfolding is_too_long
  short_content c e = go (dec_lt 256 (length c))
    where
      go : Dec (256 < length c) → length c ≤ 256
      go (yes l) = true_false (ltb 256 (length c)) (ltb_of 256 (length c) l) e
      go (no n) = omega (arith, n)

  -- the tag of a file is no transaction's
  pub file_tag : (base f : ℕ) → base + f < 0x3000 → eqb (base + f) 0x3000 ≡ false
  file_tag base f l = differ (λ (e : base + f ≡ 0x3000). let z : ⊥ = omega arith in z)
