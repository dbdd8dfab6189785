-- The refusals that stand before every call but format and mount, 2 BAD GEOMETRY, 3 BAD IMAGE and 4 UNSETTLED, in a call's plan.
use Rattle.std.specs.Prelude.{◌≡◌, Bool, true, false, cond, ℕ, length}
use Rattle.std.proofs.Math.Path.{ap}
use Rattle.std.proofs.Common.{◌∙◌, arith}
use Rattle.std.proofs.Math.Bool.{not}
use Rattle.rules.specs.Flash.{Bytes, is_geometry}
use Rattle.rules.specs.Settled.{Survey, survey}
use Rattle.rules.specs.Sound.{standing}
use Rattle.rules.specs.Answers.{Plan, refuses}
use Rattle.rules.specs.Calls.{Call, begin, commit, abort, write, delete, read, read_open, read_at, refuse, when_settled, in_geometry, in_settled, plan}
use Rattle.rules.specs.declared.Geometry.{Geometry}
use Rattle.rules.specs.declared.Rule.{Rule}
use Rattle.rules.specs.declared.Standing.{Standing}
use Rattle.rules.specs.declared.Standing.TheVariants.{Settled, Sound, Neither}
use Rattle.rules.specs.declared.NotDone.{NotDone}
use Rattle.rules.specs.declared.NotDone.TheVariants.{BadGeometry, BadImage, Unsettled}

-- Every call but format and mount.
pub data Guarded : Call → Type 0 where
  begins : (q : Rule) (k : ℕ) → Guarded (begin q k)
  commits : (k : ℕ) → Guarded (commit k)
  aborts : (k : ℕ) → Guarded (abort k)
  writes : (q : Rule) (f : ℕ) (c : Bytes) (k : ℕ) → Guarded (write q f c k)
  deletes : (q : Rule) (f k : ℕ) → Guarded (delete q f k)
  reads : (f : ℕ) → Guarded (read f)
  reads_open : (f : ℕ) → Guarded (read_open f)
  reads_at : (L p : ℕ) → Guarded (read_at L p)

-- ---- one refusal
pub refuse_true : (b : Bool) (a : NotDone) (p : Plan) → b ≡ true → refuse b a p ≡ refuses a
unfolding refuse
refuse_true b a p e = ap (λ (x : Bool). cond x (refuses a) p) e

pub refuse_false : (b : Bool) (a : NotDone) (p : Plan) → b ≡ false → refuse b a p ≡ p
unfolding refuse
refuse_false b a p e = ap (λ (x : Bool). cond x (refuses a) p) e

-- ---- the plan
module _ (g : Geometry) (s : Bytes) where
  abbrev Right : Bool → Type 0
  Right b = is_geometry g (length s) ≡ b

  abbrev Stand : Standing → Type 0
  Stand t = standing g (survey g s) ≡ t

  pub outside : (p : Plan) → Right false → in_geometry g s p ≡ refuses BadGeometry
  unfolding in_geometry
  outside p e = refuse_true (not (is_geometry g (length s))) BadGeometry p (ap not e)

  pub inside : (p : Plan) → Right true → in_geometry g s p ≡ p
  unfolding in_geometry
  inside p e = refuse_false (not (is_geometry g (length s))) BadGeometry p (ap not e)

  stood : (f : Survey → Plan) (t : Standing) → Right true → Stand t → in_settled g s f ≡ when_settled t (f (survey g s))
  unfolding in_settled
  stood f t e h = inside (when_settled (standing g (survey g s)) (f (survey g s))) e ∙ ap (λ (x : Standing). when_settled x (f (survey g s))) h

  -- What is so of every plan behind these refusals is so of a guarded call's.
  pub guarded : (P : Plan → Type 0) → ((f : Survey → Plan) → P (in_settled g s f)) → {c : Call} → Guarded c → P (plan g s c)
  unfolding plan
  guarded P h (begins q k) = h _
  guarded P h (commits k) = h _
  guarded P h (aborts k) = h _
  guarded P h (writes q f c k) = h _
  guarded P h (deletes q f k) = h _
  guarded P h (reads f) = h _
  guarded P h (reads_open f) = h _
  guarded P h (reads_at L p) = h _

  pub bad_geometry_plan : (f : Survey → Plan) → Right false → in_settled g s f ≡ refuses BadGeometry
  unfolding in_settled
  bad_geometry_plan f e = outside (when_settled (standing g (survey g s)) (f (survey g s))) e

  pub bad_image_plan : (f : Survey → Plan) → Right true → Stand Neither → in_settled g s f ≡ refuses BadImage
  unfolding when_settled
  bad_image_plan f e h = stood f Neither e h

  pub unsettled_plan : (f : Survey → Plan) → Right true → Stand Sound → in_settled g s f ≡ refuses Unsettled
  unfolding when_settled
  unsettled_plan f e h = stood f Sound e h

  -- Past them a call goes by what is read of the image.
  pub plan_settled : (f : Survey → Plan) → Right true → Stand Settled → in_settled g s f ≡ f (survey g s)
  unfolding when_settled
  plan_settled f e h = stood f Settled e h

-- A settled image is sound.
pub settled_sound : (t : Standing) → t ≡ Settled → t ≡ Neither → ⊥
settled_sound t e n = let z : ◌≡◌ {A = ℕ} 0 1 = cc in omega arith
