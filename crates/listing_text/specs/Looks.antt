-- The listing of any image, by what a settled image shows or why there is none.
use Rattle.std.specs.Prelude.{◌≡◌, refl, Bool, true, false, Result, Ok, Err, ℕ, length}
use Rattle.std.proofs.Common.{sym, ap, ◌∙◌, arith}
use Rattle.rules.specs.Flash.{Bytes, is_geometry}
use Rattle.rules.specs.Settled.{Survey, survey}
use Rattle.rules.specs.Sound.{standing}
use Rattle.rules.specs.Answers.{Plan, refuses}
use Rattle.rules.specs.Listing.{refused_line, settled_lines, lines_when, listed}
use Rattle.rules.specs.declared.Geometry.{Geometry}
use Rattle.rules.specs.declared.NotDone.{NotDone}
use Rattle.rules.specs.declared.NotDone.TheVariants.{BadGeometry, BadImage, Unsettled}
use Rattle.rules.specs.declared.Standing.{Standing}
use Rattle.rules.specs.declared.Standing.TheVariants.{Settled, Sound, Neither}
use Rattle.judge.specs.declared.Look.{Look}
use Rattle.call_look.specs.Guards.{bad_geometry_plan, bad_image_plan, unsettled_plan, plan_settled}
use Rattle.call_look.specs.Looks.{Settles}

-- Refusal 2.
pub listed_outside : (g : Geometry) (s : Bytes) → is_geometry g (length s) ≡ false → refused_line BadGeometry ≡ listed g s
unfolding listed
listed_outside g s e = rw e

listed_inside : (g : Geometry) (s : Bytes) (t : Standing) → is_geometry g (length s) ≡ true → standing g (survey g s) ≡ t → lines_when t g (survey g s) ≡ listed g s
unfolding listed
listed_inside g s t e h = rw (e, h)

module _ (g : Geometry) (s : Bytes) (r : Result Look NotDone) (k : Settles g s r) where
  pub listed_settled : (look : Look) → r ≡ Ok look → settled_lines g (survey g s) ≡ listed g s
  unfolding lines_when
  listed_settled look e = let f = k.passed look e in listed_inside g s Settled f.known.homed.right f.known.settled

  pub listed_refused : (a : NotDone) → r ≡ Err a → refused_line a ≡ listed g s
  unfolding lines_when
  listed_refused a e = go (is_geometry g (length s)) refl (standing g (survey g s)) refl
    where
      none : Survey → Plan
      none v = refuses BadGeometry

      other : Survey → Plan
      other v = refuses BadImage

      line : (b : NotDone) → refuses b ≡ refuses a → refused_line a ≡ refused_line b
      line b z = let q : b ≡ a = cc in ap refused_line (sym q)

      go : (b : Bool) → is_geometry g (length s) ≡ b → (t : Standing) → standing g (survey g s) ≡ t → refused_line a ≡ listed g s
      go false q t h = line BadGeometry (sym (bad_geometry_plan g s none q) ∙ k.plans a e none) ∙ listed_outside g s q
      go true q Neither h = line BadImage (sym (bad_image_plan g s none q h) ∙ k.plans a e none) ∙ listed_inside g s Neither q h
      go true q Sound h = line Unsettled (sym (unsettled_plan g s none q h) ∙ k.plans a e none) ∙ listed_inside g s Sound q h
      go true q Settled h =
          let x : refuses BadGeometry ≡ refuses a = sym (plan_settled g s none q h) ∙ k.plans a e none in
          let y : refuses BadImage ≡ refuses a = sym (plan_settled g s other q h) ∙ k.plans a e other in
          let z : ◌≡◌ {A = ℕ} 0 1 = cc in
          absurd (omega arith)
