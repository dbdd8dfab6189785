-- Instances at S = 512, U = 3, and four useless stores that no statement of demand 2 lets through.
use Rattle.std.proofs.Math.Bool.{cond, true, false}
use Rattle.std.specs.Prelude.{List, [], ◌∷◌, ◌≡◌, refl, ◌≤◌, min, ℕ, ◌≢◌, Bool, get_or, length}
use Rattle.std.proofs.Common.{◌∙◌, ap, sym}
use Rattle.std.proofs.Math.Path.{subst}
use native.Mathlib.Omega.{arith}
use Rattle.rules.specs.Opened.{opened}
use Rattle.rules.specs.Answers.{Outcome, given, number}
use Rattle.rules.specs.Calls.{Call, allowance, begin, commit, delete, format, list_of, mount, outcome, read, write}
use Rattle.rules.specs.Flash.{Bytes}
use Rattle.rules.specs.Histories.{Plain, Reached}
use Rattle.laws.specs.Calls.{Meets, call_steps}
use Rattle.rules.specs.Plain.{ending, plain_number, seen, when_settled}
use Rattle.rules.specs.Calls.{is_bad_file}
use Rattle.rules.specs.declared.Geometry.{Geometry}
use Rattle.rules.specs.declared.Rule.{Rule}
use Rattle.rules.specs.declared.Rule.TheVariants.{Tightest, Lowest}
use Rattle.witness.specs.Short.{abc, erased_image, small}
use Rattle.theory.specs.Promised.Histories.{reached_holds}
use Rattle.promises.specs.Answered.{as_plain_lem}

-- the image after some calls, and the numbers of calls one after the other
abbrev pub after_all : List Call → Bytes → Bytes
after_all [] s = s
after_all (c ∷ cs) s = after_all cs (outcome small c s).image

abbrev pub numbers_of : List Call → Bytes → List ℕ
numbers_of [] s = []
numbers_of (c ∷ cs) s = let o = outcome small c s in number o.answer ∷ numbers_of cs o.image

-- Absent is not empty: file 9 is written with no bytes and read as DONE with no bytes, file 8 never written is ABSENT, and so is 9 once deleted.
abbrev pub empty_then_deleted : List Call
empty_then_deleted = format 100000 ∷ begin Tightest 100000 ∷ write Tightest 9 [] 100000 ∷ commit 100000 ∷ read 9 ∷ read 8 ∷ begin Tightest 100000 ∷ delete Tightest 9 100000 ∷ commit 100000 ∷ read 9 ∷ []

pub empty_then_deleted_lem : numbers_of empty_then_deleted erased_image ≡ 0 ∷ 0 ∷ 0 ∷ 0 ∷ 0 ∷ 9 ∷ 0 ∷ 0 ∷ 0 ∷ 9 ∷ []
unfolding opened
empty_then_deleted_lem = refl

-- ---- a store by its statement: for every call and image its answer and its image are the definition's
abbrev pub Store : Type 0
Store = Call → Bytes → Outcome

abbrev pub Keeps : Geometry → Store → Type 0
Keeps g st = (c : Call) (s : Bytes) → Meets g c s (st c s)

-- what comes before cases C and G
abbrev C : List Call
C = format 100000 ∷ begin Tightest 100000 ∷ []

abbrev G : List Call
G = format 100000 ∷ begin Tightest 100000 ∷ write Tightest 7 abc 100000 ∷ write Tightest 9 [] 100000 ∷ []

module _ (g : Geometry) (t : Bytes) (m : Plain) (r : Reached g t m) (st : Store) (keeps : Keeps g st) where
  mounts : (k : ℕ) → number (st (mount k) t).answer ≤ 1
  unfolding plain_number ending
  mounts k = subst (λ (n : ℕ). n ≤ 1) (sym (ap number (keeps (mount k) t).answer ∙ (as_plain_lem g t m (reached_holds g r) (mount k)).0)) (go (seen g (mount k) t).enough)
    where
      go : (b : Bool) → cond b 0 1 ≤ 1
      go true = omega arith
      go false = omega arith

  reads : 4 ≤ number (st (read 256) t).answer
  unfolding plain_number when_settled is_bad_file
  reads = subst (λ (n : ℕ). 4 ≤ n) (sym (ap number (keeps (read 256) t).answer ∙ (as_plain_lem g t m (reached_holds g r) (read 256)).0)) (go (seen g (read 256) t).settled)
    where
      go : (b : Bool) → 4 ≤ cond b 5 4
      go true = omega arith
      go false = omega arith

  -- one that refuses everything: a mount of a reached image is DONE or STOPPED
  pub refuses_all : ((c : Call) (s : Bytes) → 2 ≤ number (st c s).answer) → ⊥
  refuses_all h = omega (arith, h (mount 0) t, mounts 0)

  -- one that gives one fixed answer: a mount and a read of file 256 are answered otherwise
  pub fixed_answer : ((c d : Call) (s : Bytes) → (st c s).answer ≡ (st d s).answer) → ⊥
  fixed_answer h = omega (arith, ap number (h (mount 0) (read 256) t), mounts 0, reads)

-- one whose writes by a rule make no step: case C writes file 7's words
pub writes_nothing : (st : Store) → Keeps small st → (q : Rule) → ((f : ℕ) (c : Bytes) (k : ℕ) (s : Bytes) → (st (write q f c k) s).image ≡ s) → ⊥
unfolding opened
writes_nothing st keeps Tightest h =
    let s = after_all C erased_image in
    let z : ⊥ = omega (arith, ap (λ (x : Bytes). get_or x 508 0) (sym (keeps (write Tightest 7 abc 100000) s).image ∙ h 7 abc 100000 s)) in z
writes_nothing st keeps Lowest h =
    let s = after_all C erased_image in
    let z : ⊥ = omega (arith, ap (λ (x : Bytes). get_or x 508 0) (sym (keeps (write Lowest 7 abc 100000) s).image ∙ h 7 abc 100000 s)) in z

-- one whose commits make no step: case G makes the transaction old
pub commits_nothing : (st : Store) → Keeps small st → ((k : ℕ) (s : Bytes) → (st (commit k) s).image ≡ s) → ⊥
unfolding opened
commits_nothing st keeps h =
    let s = after_all G erased_image in
    let z : ⊥ = omega (arith, ap (λ (x : Bytes). get_or x 16 0) (sym (keeps (commit 100000) s).image ∙ h 100000 s)) in z

-- one that does its job in its first step: case C with an allowance of 1 leaves file 7's words unwritten
pub all_at_once : (st : Store) → Keeps small st → (q : Rule) → ((f : ℕ) (c s : Bytes) → (st (write q f c 1) s).image ≡ (st (write q f c 100000) s).image) → ⊥
unfolding opened
all_at_once st keeps Tightest h =
    let s = after_all C erased_image in
    let z : ⊥ = omega (arith, ap (λ (x : Bytes). get_or x 508 0) (sym (keeps (write Tightest 7 abc 1) s).image ∙ h 7 abc s ∙ (keeps (write Tightest 7 abc 100000) s).image)) in z
all_at_once st keeps Lowest h =
    let s = after_all C erased_image in
    let z : ⊥ = omega (arith, ap (λ (x : Bytes). get_or x 508 0) (sym (keeps (write Lowest 7 abc 1) s).image ∙ h 7 abc s ∙ (keeps (write Lowest 7 abc 100000) s).image)) in z

-- one that invents its count
pub invents_its_count : (g : Geometry) (st : Store) → Keeps g st → (c : Call) (s : Bytes) → (given (st c s).answer).steps ≢ min (allowance c) (length (list_of g c s)) → ⊥
invents_its_count g st keeps c s n = n (ap (λ (a : _). (given a).steps) (keeps c s).answer ∙ call_steps g c s)
