-- What a call is told by the judge's look: by the guard on it, and by whether a transaction is open.
use Rattle.std.specs.Prelude.{◌≡◌, Bool, true, false, not, length, Option, Some, None, Result, Ok, Err}
use Rattle.std.proofs.Math.Path.{refl}
use Rattle.std.proofs.Common.{sym, ap, subst, ◌∙◌}
use mathlib.Core.List.{List, [], ◌∷◌}
use Rattle.rules.specs.Flash.{Bytes, is_geometry}
use Rattle.rules.specs.Lists.{is_none}
use Rattle.rules.specs.Unit.{is_committed, is_open}
use Rattle.rules.specs.Settled.{Entry, Survey, select, survey}
use Rattle.rules.specs.Sound.{standing}
use Rattle.std.specs.Result.{IsErrAnd}
use Rattle.rules.specs.Answers.{Answer, Plan, refuses}
use Rattle.rules.specs.Calls.{Call, has_none, in_settled}
use Rattle.rules.specs.declared.Geometry.{Geometry}
use Rattle.rules.specs.declared.Standing.TheVariants.{Settled, Sound, Neither}
use Rattle.rules.specs.declared.NotDone.{NotDone}
use Rattle.rules.specs.declared.NotDone.TheVariants.{BadGeometry, BadImage, Unsettled}
use Rattle.judge.specs.declared.Look.{Look}
use Rattle.judge.specs.declared.Transaction.{Transaction}
use Rattle.judge.specs.declared.Transaction.TheVariants.{Open, Committed}
use Rattle.judge.specs.Judged.{LookTells, Whereabouts, transaction_for, transaction_of}
use Rattle.index.specs.Known.{shown_homed}
use Rattle.call_answer.specs.Laws.{MeetsCall, refused}
use Rattle.call_look.specs.Guards.{Guarded, guarded, bad_geometry_plan, bad_image_plan, unsettled_plan, settled_sound}
use Rattle.call_look.specs.Known.{Known, Remaining}

-- ---- whether a transaction is open
unfoldable pub is_opened : Option Transaction → Bool
is_opened None = false
is_opened (Some Open) = true
is_opened (Some Committed) = false

opened_is : (v : Survey) → is_opened (transaction_of v) ≡ not (has_none v)
unfolding transaction_of has_none is_opened
opened_is v = go (select is_open v) (select is_committed v)
  where
    go : (os cs : List Entry) → is_opened (transaction_for os cs) ≡ not (is_none os)
    go [] [] = unfold transaction_for is_none in refl
    go [] (e ∷ cs) = unfold transaction_for is_none in refl
    go (e ∷ os) cs = unfold transaction_for is_none in refl

-- ---- what a call begins with
-- what the look at a settled image shows
pub record LookFinds (g : Geometry) (s : Bytes) (look : Look) : Type 0 where
  pub known : Known g s look.homes
  pub remaining : Remaining g s look.remaining
  pub opened : is_opened look.transaction ≡ not (has_none (survey g s))

-- Where it refuses, so does every plan that asks for a settled image, and every call but format and mount: the image stays as it is. Where it does not, the
-- image is settled.
pub record Settles (g : Geometry) (s : Bytes) (r : Result Look NotDone) : Type 0 where
  pub plans : (a : NotDone) → r ≡ Err a → (f : Survey → Plan) → in_settled g s f ≡ refuses a
  pub calls : (a : NotDone) → r ≡ Err a → (c : Call) → Guarded c → MeetsCall g c s (Err a) s
  pub passed : (look : Look) → r ≡ Ok look → LookFinds g s look

module _ (g : Geometry) (s : Bytes) where
  refusing : (b : NotDone) → ((f : Survey → Plan) → in_settled g s f ≡ refuses b) → Settles g s (Err b)
  refusing b h = record { plans = λ a e. plans a cc; calls = λ a e c k. refused g s c a (guarded g s (λ (p : Plan). p ≡ refuses a) (plans a cc) k); passed = λ l e. cc }
    where
      plans : (a : NotDone) → b ≡ a → (f : Survey → Plan) → in_settled g s f ≡ refuses a
      plans a e f = h f ∙ ap refuses e

  pub bad_geometry : is_geometry g (length s) ≡ false → Settles g s (Err BadGeometry)
  bad_geometry e = refusing BadGeometry (λ f. bad_geometry_plan g s f e)

  module _ (look : Look) (j : LookTells g s look) where
    pub bad_image : look.standing ≡ Neither → Settles g s (Err BadImage)
    bad_image h = refusing BadImage (λ f. bad_image_plan g s f j.geometry (sym j.standing ∙ h))

    pub unsettled : look.standing ≡ Sound → Settles g s (Err Unsettled)
    unsettled h = refusing Unsettled (λ f. unsettled_plan g s f j.geometry (sym j.standing ∙ h))

    module _ (h : look.standing ≡ Settled) where
      whereabouts : Whereabouts g s look
      whereabouts = j.whereabouts (settled_sound look.standing h)

      stands : standing g (survey g s) ≡ Settled
      stands = sym j.standing ∙ h

      look_known : Known g s look.homes
      look_known = record { settled = stands; homed = shown_homed g s j.geometry (settled_sound (standing g (survey g s)) stands) look.homes whereabouts.homes }

      finds : LookFinds g s look
      finds = record {
        known = look_known;
        remaining = record { last = whereabouts.last; spare = whereabouts.remaining };
        opened = ap is_opened whereabouts.transaction ∙ opened_is (survey g s);
      }

      pub passing : Settles g s (Ok look)
      passing = record { plans = λ a z. cc; calls = λ a z. cc; passed = λ l z. subst (LookFinds g s) (ok_is z) finds }
        where
          ok_is : {x y : Look} → ◌≡◌ {A = Result Look NotDone} (Ok x) (Ok y) → x ≡ y
          ok_is z = cc

-- What a call passes up where it is refused (`?`) is what it answers.
pub passed_up : {g : Geometry} {s : Bytes} {e : NotDone} → Settles g s (Err e) → (a : Answer) → IsErrAnd a (λ (x : NotDone). x ≡ e) → {c : Call} → Guarded c → MeetsCall g c s a s
passed_up k (Err x) q {c} r = rw q (k.calls _ refl c r)
passed_up k (Ok z) q r = absurd q
