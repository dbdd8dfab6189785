-- On the same image NO ROOM is the same under both rules: of a plan, and so of every call.
use Rattle.std.specs.Prelude.{Bool, true, false, not, List, [], ◌≡◌, ℕ, length, None, Some}
use Rattle.std.proofs.Math.Path.{refl}
use Rattle.std.proofs.Common.{arith}
use Rattle.rules.specs.Flash.{Bytes, Step, State, state, run, is_geometry}
use Rattle.rules.specs.Unit.{data_tag, mark_tag, transaction_tag}
use Rattle.rules.specs.Settled.{Entry, Survey, survey}
use Rattle.rules.specs.Sound.{standing}
use Rattle.rules.specs.Jobs.{Place, as_it_stands, once_reclaimed, no_room, place, size_for, store_at, store_job, no_earlier, earlier_of}
use Rattle.rules.specs.Views.{transaction_view}
use Rattle.rules.specs.Answers.{Plan, makes, number, ended, carry_out}
use Rattle.rules.specs.Calls.{Call, format, mount, begin, commit, abort, write, delete, read, read_open, read_at, under, refuse, when_settled, is_bad_file, is_too_long, has_none, is_absent, origin_of, storing, in_geometry, in_settled, plan, allowance, outcome}
use Rattle.laws.specs.Places.{same_no_room}
use Rattle.rules.specs.declared.Geometry.{Geometry}
use Rattle.rules.specs.declared.Handle.{Handle}
use Rattle.rules.specs.declared.Rule.{Rule}
use Rattle.rules.specs.declared.Standing.{Standing}
use Rattle.rules.specs.declared.Standing.TheVariants.{Settled, Sound, Neither}
use Rattle.rules.specs.declared.NotDone.{NotDone}
use Rattle.rules.specs.declared.NotDone.TheVariants.{BadGeometry, BadFile, TooLong, NoTransaction, Open, Absent}

-- Where the number of one plan is 10, so is that of the other.
abbrev Ten : Plan → Plan → Type 0
Ten p q = (k : ℕ) (s : Bytes) → number (carry_out p k s).answer ≡ 10 → number (carry_out q k s).answer ≡ 10

ten_or : (b : Bool) (a : NotDone) (p q : Plan) → Ten p q → Ten (refuse b a p) (refuse b a q)
unfolding refuse
ten_or true a p q f = λ k s h. h
ten_or false a p q f = f

ten_settled : (t : Standing) (p q : Plan) → Ten p q → Ten (when_settled t p) (when_settled t q)
unfolding when_settled
ten_settled Settled p q f = f
ten_settled Sound p q f = λ k s h. h
ten_settled Neither p q f = λ k s h. h

-- A job is DONE or STOPPED.
made_other : (a : Handle) (xs : List Step) (k : ℕ) (s : Bytes) → number (carry_out (makes a xs) k s).answer ≡ 10 → ⊥
unfolding carry_out ended number
made_other a xs k s h = go (run xs (state s (Some k))) h
  where
    go : (t : State) → number (ended a k t).answer ≡ 10 → ⊥
    go (state u (Some j)) e = omega (arith, e)
    go (state u None) e = omega (arith, e)

module _ (g : Geometry) (q r : Rule) (tag : ℕ) (content : Bytes) (earlier : Survey → List Entry) (s : Bytes) (v : Survey) where
  ten_storing : Ten (storing (store_job g q tag content earlier s v)) (storing (store_job g r tag content earlier s v))
  unfolding store_job store_at storing
  ten_storing k u h = go (place g q (size_for content) v) refl h
    where
      go : (p : Place) → place g q (size_for content) v ≡ p → number (carry_out (storing (store_at g tag content earlier s v p)) k u).answer ≡ 10
          → number (carry_out (storing (store_at g tag content earlier s v (place g r (size_for content) v))) k u).answer ≡ 10
      go no_room e z = rw (same_no_room g q r (size_for content) v e) z
      go (as_it_stands L) e z = absurd (made_other _ _ k u z)
      go (once_reclaimed L) e z = absurd (made_other _ _ k u z)

module _ (g : Geometry) (s : Bytes) where
  within : (f h : Survey → Plan) → Ten (f (survey g s)) (h (survey g s)) → Ten (in_settled g s f) (in_settled g s h)
  unfolding in_settled in_geometry
  within f h z =
      ten_or (not (is_geometry g (length s))) BadGeometry (when_settled (standing g (survey g s)) (f (survey g s))) (when_settled (standing g (survey g s)) (h (survey g s)))
      (ten_settled (standing g (survey g s)) (f (survey g s)) (h (survey g s)) z)

-- Where the number of a call under one rule is 10, it is 10 under the other.
pub no_room_same : (g : Geometry) (c : Call) (s : Bytes) (q r : Rule) → number (outcome g (under q c) s).answer ≡ 10 → number (outcome g (under r c) s).answer ≡ 10
unfolding outcome plan allowance under
no_room_same g (format k) s q r h = h
no_room_same g (mount k) s q r h = h
no_room_same g (commit k) s q r h = h
no_room_same g (abort k) s q r h = h
no_room_same g (read f) s q r h = h
no_room_same g (read_open f) s q r h = h
no_room_same g (read_at L p) s q r h = h
no_room_same g (begin z k) s q r h =
    within g s (λ v. refuse (not (has_none v)) Open (storing (store_job g q transaction_tag [] no_earlier s v))) (λ v. refuse (not (has_none v)) Open (storing (store_job g r transaction_tag [] no_earlier s v)))
    (ten_or (not (has_none (survey g s))) Open _ _ (ten_storing g q r transaction_tag [] no_earlier s (survey g s))) k s h
no_room_same g (write z f c k) s q r h =
    within g s (λ v. refuse (is_bad_file f) BadFile (refuse (is_too_long c) TooLong (refuse (has_none v) NoTransaction (storing (store_job g q (data_tag f) c (earlier_of f) s v)))))
    (λ v. refuse (is_bad_file f) BadFile (refuse (is_too_long c) TooLong (refuse (has_none v) NoTransaction (storing (store_job g r (data_tag f) c (earlier_of f) s v)))))
    (ten_or (is_bad_file f) BadFile _ _ (ten_or (is_too_long c) TooLong _ _ (ten_or (has_none (survey g s)) NoTransaction _ _ (ten_storing g q r (data_tag f) c (earlier_of f) s (survey g s))))) k s h
no_room_same g (delete z f k) s q r h =
    within g s (λ v. refuse (is_bad_file f) BadFile (refuse (has_none v) NoTransaction (refuse (is_absent (transaction_view f v)) (Absent (origin_of f v)) (storing (store_job g q (mark_tag f) [] (earlier_of f) s v)))))
    (λ v. refuse (is_bad_file f) BadFile (refuse (has_none v) NoTransaction (refuse (is_absent (transaction_view f v)) (Absent (origin_of f v)) (storing (store_job g r (mark_tag f) [] (earlier_of f) s v)))))
    (ten_or (is_bad_file f) BadFile _ _ (ten_or (has_none (survey g s)) NoTransaction _ _
    (ten_or (is_absent (transaction_view f (survey g s))) (Absent (origin_of f (survey g s))) _ _ (ten_storing g q r (mark_tag f) [] (earlier_of f) s (survey g s))))) k s h
