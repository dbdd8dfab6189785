-- Of any bytes: a changing call's list of steps, and which refusal it gives, do not depend on its allowance.
use Rattle.std.specs.Prelude.{◌≡◌, ◌≤◌, ℕ, Some}
use Rattle.std.proofs.Math.Path.{refl}
use Rattle.std.proofs.Common.{arith}
use Rattle.rules.specs.Flash.{Bytes, run, state}
use Rattle.rules.specs.Answers.{Plan, carry_out, makes, number, refuses, shows}
use Rattle.rules.specs.Calls.{Call, abort, allowance, begin, commit, delete, format, list_of, mount, outcome, plan, write}
use Rattle.rules.specs.declared.Geometry.{Geometry}
use Rattle.rules.specs.declared.Rule.{Rule}
use Rattle.laws.specs.Calls.{ended_low}

-- The calls that change the image, for any allowance.
pub data ChangingCall : (ℕ → Call) → Type 0 where
  formats : ChangingCall format
  mounts : ChangingCall mount
  begins : (q : Rule) → ChangingCall (begin q)
  commits : ChangingCall commit
  aborts : ChangingCall abort
  writes : (q : Rule) (f : ℕ) (c : Bytes) → ChangingCall (write q f c)
  deletes : (q : Rule) (f : ℕ) → ChangingCall (delete q f)

refused_alike : (p : Plan) (s : Bytes) (j k : ℕ) → 2 ≤ number (carry_out p j s).answer → number (carry_out p k s).answer ≡ number (carry_out p j s).answer
unfolding carry_out number
refused_alike (refuses a) s j k h = refl
refused_alike (makes at xs) s j k h = absurd (omega (arith, ended_low at j (run xs (state s (Some j)))))
refused_alike (shows at f e w) s j k h = absurd (omega arith)

module _ (g : Geometry) (s : Bytes) where
  pub same_list : {c : ℕ → Call} → ChangingCall c → (j k : ℕ) → list_of g (c j) s ≡ list_of g (c k) s
  unfolding list_of plan
  same_list formats j k = refl
  same_list mounts j k = refl
  same_list (begins q) j k = refl
  same_list commits j k = refl
  same_list aborts j k = refl
  same_list (writes q f c) j k = refl
  same_list (deletes q f) j k = refl

  pub same_refusal : {c : ℕ → Call} → ChangingCall c → (j k : ℕ) → 2 ≤ number (outcome g (c j) s).answer → number (outcome g (c k) s).answer ≡ number (outcome g (c j) s).answer
  unfolding outcome plan allowance
  same_refusal formats j k = refused_alike (plan g s (format 0)) s j k
  same_refusal mounts j k = refused_alike (plan g s (mount 0)) s j k
  same_refusal (begins q) j k = refused_alike (plan g s (begin q 0)) s j k
  same_refusal commits j k = refused_alike (plan g s (commit 0)) s j k
  same_refusal aborts j k = refused_alike (plan g s (abort 0)) s j k
  same_refusal (writes q f c) j k = refused_alike (plan g s (write q f c 0)) s j k
  same_refusal (deletes q f) j k = refused_alike (plan g s (delete q f 0)) s j k

pub its_allowance : {c : ℕ → Call} → ChangingCall c → (k : ℕ) → allowance (c k) ≡ k
unfolding allowance
its_allowance formats k = refl
its_allowance mounts k = refl
its_allowance (begins q) k = refl
its_allowance commits k = refl
its_allowance aborts k = refl
its_allowance (writes q f c) k = refl
its_allowance (deletes q f) k = refl
