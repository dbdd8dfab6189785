-- Every call says where its answer came from as the plain store does.
use Rattle.std.specs.Prelude.{Bool, ◌||◌, not, ◌≡◌, ℕ, eqb, length, None, Some, Err}
use Rattle.std.proofs.Math.Bool.{cond, false, true}
use mathlib.Core.List.{List, []}
use Rattle.std.proofs.Math.Option.{Option, none, some}
use Rattle.std.proofs.Common.{◌∙◌, sym}
use Rattle.std.proofs.Math.Path.{ap, refl, subst}
use Rattle.rules.specs.Answers.{Plan, carry_out, ended, from_number, given, makes, nothing, refuses, shown}
use Rattle.rules.specs.Calls.{Call, abort, allowance, begin, commit, delete, format, has_none, in_geometry, in_settled, is_absent, is_bad_file, mount, origin_of, outcome, plan, read, read_at, read_open, refuse, showing, showing_at, storing, when_settled, write}
use Rattle.rules.specs.Flash.{Bytes, State, Step, is_geometry, run, state}
use Rattle.rules.specs.Histories.{Plain}
use Rattle.rules.specs.Jobs.{earlier_of, place, size_for, store_job}
use Rattle.laws.specs.Plans.{refuse_cases, settled_cases, sound_cases, store_cases}
use Rattle.rules.specs.Plain.{Seen, ending, from_by, has_change, in_view, is_absent_in, is_room, is_settled, is_shut, plain_from, plain_number, plain_origin, room_in, seen, stored}
use Rattle.rules.specs.Plain as plain'
use Rattle.rules.specs.Settled.{Entry, Survey, survey}
use Rattle.rules.specs.Sound.{standing}
use Rattle.rules.specs.Unit.{mark_tag}
use Rattle.rules.specs.Views.{transaction_view}
use Rattle.rules.specs.declared.NotDone.{NotDone}
use Rattle.rules.specs.declared.NotDone.TheVariants.{Absent, BadFile, BadGeometry, BadImage, NoRoom, NoTransaction, Open, TooLong, Unsettled}
use Rattle.rules.specs.declared.Geometry.{Geometry}
use Rattle.rules.specs.declared.Rule.{Rule}
use Rattle.rules.specs.declared.Handle.{Handle}
use Rattle.rules.specs.declared.Origin.{Origin}
use Rattle.rules.specs.declared.Origin.TheVariants.{Before, NotSaid, Opened}
use Rattle.rules.specs.declared.Standing.{Standing}
use Rattle.rules.specs.declared.Standing.TheVariants.{Neither, Settled, Sound}
use Rattle.theory.specs.Base.Facts.{true_false}
use Rattle.theory.specs.Mounting.Kept.{KeptImage}
use Rattle.theory.specs.Mounting.KeptMounts.{kept_sane}
use Rattle.theory.specs.Meaning.Means.{Drafts, Keeping, Means}
use Rattle.theory.specs.Meaning.MeansMount.{lists_of}
use Rattle.theory.specs.Promised.Histories.{Holds, changes_in, plain}
use Rattle.theory.specs.Promised.Reads.{calm_of, origin_is}
use Rattle.promises.specs.Answered.{absent_is_lem, see, shut_is, transaction_is}

-- ---- a plan, carried out, says w
module _ (g : Geometry) (s : Bytes) where
  record From (w : Origin) (p : Plan) : Type 0 where
    says : (k : ℕ) → (given (carry_out p k s).answer).from ≡ w

  from_makes : (h : Handle) (xs : List Step) → From NotSaid (makes h xs)
  unfolding given ended nothing carry_out
  from_makes h xs = record { says = λ k. go k (run xs (state s (Some k))) }
    where
      go : (k : ℕ) (r : State) → (given (ended h k r).answer).from ≡ NotSaid
      go k (state t (Some j)) = refl
      go k (state t None) = refl

  from_refuses : (a : NotDone) (w : Origin) → (given (Err a)).from ≡ w → From w (refuses a)
  unfolding carry_out
  from_refuses a w e = record { says = λ k. e }

  from_storing : (rule : Rule) (tag : ℕ) (c : Bytes) (earlier : Survey → List Entry) (v : Survey) → From NotSaid (storing (store_job g rule tag c earlier s v))
  unfolding given nothing
  from_storing rule tag c earlier v = store_cases (From NotSaid) g rule tag c earlier s v (from_refuses NoRoom NotSaid refl) (λ r e. from_makes r.at r.job)

  from_showing : (w : Origin) (o : Option Entry) → From w (showing w o)
  unfolding given carry_out showing nothing shown
  from_showing w none = record { says = λ k. refl }
  from_showing w (some e) = record { says = λ k. refl }

  from_at : (o : Option Entry) → From NotSaid (showing_at o)
  unfolding given carry_out showing_at nothing shown
  from_at none = record { says = λ k. refl }
  from_at (some e) = record { says = λ k. refl }

  -- a refusal that says nothing, or what follows
  from_or : (b : Bool) (a : NotDone) (p : Plan) (w : Origin) → (given (Err a)).from ≡ NotSaid → (b ≡ false → From w p) → From (cond b NotSaid w) (refuse b a p)
  unfolding refuse
  from_or true a p w e h = from_refuses a NotSaid e
  from_or false a p w e h = h refl

  from_settled : is_geometry g (length s) ≡ true → (h : Survey → Plan) (w : Origin) → (standing g (survey g s) ≡ Settled → From w (h (survey g s))) → From (cond (is_settled (standing g (survey g s))) w NotSaid) (in_settled g s h)
  unfolding is_settled when_settled given carry_out nothing refuse in_settled in_geometry
  from_settled legal h w f =
      subst (λ (b : Bool). From (cond (is_settled (standing g (survey g s))) w NotSaid) (refuse (not b) BadGeometry (when_settled (standing g (survey g s)) (h (survey g s))))) (sym legal)
      (go (standing g (survey g s)) refl)
    where
      go : (t : Standing) → standing g (survey g s) ≡ t → From (cond (is_settled t) w NotSaid) (when_settled t (h (survey g s)))
      go Settled e = f e
      go Sound e = record { says = λ k. refl }
      go Neither e = record { says = λ k. refl }

  -- the calls that say nothing
  or_silent : (b : Bool) (a : NotDone) (p : Plan) → (given (Err a)).from ≡ NotSaid → From NotSaid p → From NotSaid (refuse b a p)
  or_silent b a p e f = refuse_cases (From NotSaid) b a p (from_refuses a NotSaid e) (λ n. f)

  in_geometry_lem : (p : Plan) → From NotSaid p → From NotSaid (in_geometry g s p)
  unfolding in_geometry given nothing
  in_geometry_lem p f = or_silent (not (is_geometry g (length s))) BadGeometry p refl f

  silent : (h : Survey → Plan) → From NotSaid (h (survey g s)) → From NotSaid (in_settled g s h)
  unfolding in_settled given nothing
  silent h f = in_geometry_lem _ (settled_cases (From NotSaid) (standing g (survey g s)) (h (survey g s)) (from_refuses BadImage NotSaid refl) (from_refuses Unsettled NotSaid refl) (λ t. f))

-- ---- by the number that the plain store gives
open_number : (st bad shut absent : Bool) (w : Origin)
    → cond st (cond bad NotSaid (cond shut NotSaid w)) NotSaid
    ≡ (let n = cond st (cond bad 5 (cond shut 7 (cond absent 9 0))) 4 in cond (eqb n 0 || eqb n 9) w NotSaid)
open_number true true shut absent w = refl
open_number true false true absent w = refl
open_number true false false true w = refl
open_number true false false false w = refl
open_number false bad shut absent w = refl

delete_number : (st bad shut absent room en : Bool) (w : Origin)
    → cond st (cond bad NotSaid (cond shut NotSaid (cond absent w NotSaid))) NotSaid
    ≡ cond (eqb (cond st (cond bad 5 (cond shut 7 (cond absent 9 (cond room (cond en 0 1) 10)))) 4) 9) w NotSaid
delete_number true true shut absent room en w = refl
delete_number true false true absent room en w = refl
delete_number true false false true room en w = refl
delete_number true false false false true true w = refl
delete_number true false false false true false w = refl
delete_number true false false false false en w = refl
delete_number false bad shut absent room en w = refl

-- ---- every call, on an image that means b
module _ (g : Geometry) (s : Bytes) (b : Keeping) (kept : KeptImage g s) (means : Means b (lists_of g s)) where
  legal : is_geometry g (length s) ≡ true
  legal = (kept_sane g s kept).0

  changed : standing g (survey g s) ≡ Settled → is_shut (plain b).changes ≡ false → (f : ℕ) → origin_of f (survey g s) ≡ cond (has_change f (plain b).changes) Opened Before
  unfolding is_shut
  changed t n f = go b.changes refl n
    where
      go : (o : Option Drafts) → b.changes ≡ o → is_shut (changes_in o) ≡ false → origin_of f (survey g s) ≡ cond (has_change f (plain b).changes) Opened Before
      go none e n = true_false true refl n
      go (some o) e n = origin_is (survey g s) (calm_of g s kept t).quiet b means o e f

  -- with none open, or what follows
  or_none : (p : Plan) (w : Origin) → standing g (survey g s) ≡ Settled → (is_shut (plain b).changes ≡ false → From g s w p) → From g s (cond (is_shut (plain b).changes) NotSaid w) (refuse (has_none (survey g s)) NoTransaction p)
  unfolding given nothing
  or_none p w t h =
      subst (λ (x : Bool). From g s (cond x NotSaid w) (refuse (has_none (survey g s)) NoTransaction p)) (shut_is g s b kept means t)
      (from_or g s (has_none (survey g s)) NoTransaction p w refl (λ e. h (sym (shut_is g s b kept means t) ∙ e)))

  -- a delete's 9, or a store
  absent_says : (x : Bool) (p : Plan) (v w : Origin) → From g s NotSaid p → v ≡ w → From g s (cond x w NotSaid) (refuse x (Absent v) p)
  unfolding refuse given nothing
  absent_says true p v w h q = from_refuses g s (Absent v) w q
  absent_says false p v w h q = h

  -- the two calls that say where, by what is known of the image
  abbrev opening : ℕ → Origin → Origin
  opening f w = cond (is_settled (standing g (survey g s))) (cond (is_bad_file f) NotSaid (cond (is_shut (plain b).changes) NotSaid w)) NotSaid

  abbrev gone : ℕ → Bool
  gone f = is_absent_in (in_view (plain b).changes (plain b).files f)

  abbrev change : ℕ → Origin
  change f = cond (has_change f (plain b).changes) Opened Before

  read_says : (f : ℕ) → From g s (opening f (change f)) (plan g s (read_open f))
  unfolding plan given nothing
  read_says f =
      from_settled g s legal (λ v. refuse (is_bad_file f) BadFile (refuse (has_none v) NoTransaction (showing (origin_of f v) (transaction_view f v)))) _ λ t.
      from_or g s (is_bad_file f) BadFile _ _ refl λ e.
      or_none _ _ t λ n.
      subst (λ (w : Origin). From g s w (showing (origin_of f (survey g s)) (transaction_view f (survey g s)))) (changed t n f)
      (from_showing g s (origin_of f (survey g s)) (transaction_view f (survey g s)))

  delete_says : (en ed : Bool) (rule : Rule) (f k : ℕ) → From g s (opening f (cond (gone f) (change f) NotSaid)) (plan g s (delete rule f k))
  unfolding plan given nothing
  delete_says en ed rule f k =
      from_settled g s legal (λ v. refuse (is_bad_file f) BadFile (refuse (has_none v) NoTransaction (refuse (is_absent (transaction_view f v)) (Absent (origin_of f v)) (storing (store_job g rule (mark_tag f) [] (earlier_of f) s v))))) _ λ t.
      from_or g s (is_bad_file f) BadFile _ _ refl λ e.
      or_none _ _ t λ n.
      subst (λ (x : Bool). From g s (cond x (change f) NotSaid) (refuse (is_absent (transaction_view f (survey g s))) (Absent (origin_of f (survey g s))) (storing (store_job g rule (mark_tag f) [] (earlier_of f) s (survey g s)))))
      (absent_is_lem g s b kept means en ed (transaction_view f (survey g s)) ∙ ap is_absent_in (transaction_is g s b kept means t n f))
      (absent_says (is_absent (transaction_view f (survey g s))) _ (origin_of f (survey g s)) (change f) (from_storing g s rule (mark_tag f) [] (earlier_of f) (survey g s)) (changed t n f))

  from_says : (en ed : Bool) (c : Call) → From g s (plain_from (plain b) (see g s b kept means en ed c) c) (plan g s c)
  unfolding plan plain_from from_by plain_origin plain_number plain'.when_settled stored ending room_in given nothing
  from_says en ed (format k) = in_geometry_lem g s _ (from_makes g s _ _)
  from_says en ed (mount k) = in_geometry_lem g s _ (sound_cases (From g s NotSaid) _ _ (from_refuses g s BadImage NotSaid refl) (from_makes g s _ _))
  from_says en ed (begin rule k) = silent g s _ (or_silent g s _ Open _ refl (from_storing g s rule _ _ _ _))
  from_says en ed (commit k) = silent g s _ (or_silent g s _ NoTransaction _ refl (from_makes g s _ _))
  from_says en ed (abort k) = silent g s _ (or_silent g s _ NoTransaction _ refl (from_makes g s _ _))
  from_says en ed (write rule f c k) =
      silent g s _ (or_silent g s _ BadFile _ refl (or_silent g s _ TooLong _ refl (or_silent g s _ NoTransaction _ refl (from_storing g s rule _ _ _ _))))
  from_says en ed (delete rule f k) =
      subst (λ (w : Origin). From g s w (plan g s (delete rule f k)))
      (delete_number (is_settled (standing g (survey g s))) (is_bad_file f) (is_shut (plain b).changes) (gone f) (is_room (place g rule (size_for []) (survey g s))) en (change f)) (delete_says en ed rule f k)
  from_says en ed (read f) = silent g s _ (or_silent g s _ BadFile _ refl (from_showing g s NotSaid _))
  from_says en ed (read_open f) =
      subst (λ (w : Origin). From g s w (plan g s (read_open f)))
      (open_number (is_settled (standing g (survey g s))) (is_bad_file f) (is_shut (plain b).changes) (gone f) (change f)) (read_says f)
  from_says en ed (read_at L p) = silent g s _ (from_at g s _)

-- ---- the fourth equation
pub from_plain : (g : Geometry) (s : Bytes) (m : Plain) → Holds g s m → (c : Call) → (given (outcome g c s).answer).from ≡ plain_from m (seen g c s) c
unfolding seen outcome
from_plain g s m h c =
    subst (λ (x : Plain). (given (outcome g c s).answer).from ≡ plain_from x (seen g c s) c) h.is
    ((from_says g s h.store h.inv.kept h.inv.means (seen g c s).enough (seen g c s).ended c).says (allowance c))

-- a read in the transaction view of a settled image, with a transaction open
pub open_says : (m : Plain) (x : Seen) (f : ℕ) → x.settled ≡ true → is_bad_file f ≡ false → is_shut m.changes ≡ false → from_number (plain_from m x (read_open f)) ≡ cond (has_change f m.changes) 2 1
unfolding from_number plain_from from_by plain_number plain'.when_settled plain_origin
open_says m x f st bad n =
    ap from_number (sym (open_number x.settled (is_bad_file f) (is_shut m.changes) (is_absent_in (in_view m.changes m.files f)) (cond (has_change f m.changes) Opened Before)))
    ∙ (λ i. from_number (cond (st i) (cond (bad i) NotSaid (cond (n i) NotSaid (cond (has_change f m.changes) Opened Before))) NotSaid))
    ∙ go (has_change f m.changes)
  where
    go : (h : Bool) → from_number (cond h Opened Before) ≡ cond h 2 1
    go true = refl
    go false = refl
