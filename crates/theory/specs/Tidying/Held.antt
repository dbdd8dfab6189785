-- What holds of every image that a call leaves where no unit is moving; a call by its plan.
use Rattle.std.specs.Prelude.{Bool, ◌&&◌, ◌||◌, cond, List, [], ◌++◌, ◌∷◌, ℕ, get_or, length, None, Some}
use Rattle.std.proofs.Math.Bool.{false, not, true}
use Rattle.std.proofs.Common.{◌∙◌, ap, ap₂, subst}
use Rattle.std.proofs.Math.Path.{◌≡◌, refl, sym}
use native.Mathlib.Omega.{arith}
use Rattle.rules.specs.Answers.{Plan, carry_out, ended, makes, refuses, shows}
use Rattle.rules.specs.Calls.{in_geometry, in_settled, refuse, when_settled}
use Rattle.rules.specs.Flash.{Bytes, State, Step, finish, is_geometry, made, program, run, state}
use Rattle.rules.specs.Lists.{all}
use Rattle.rules.specs.Settled.{Counts, Entry, Survey, counts, is_spare, survey}
use Rattle.rules.specs.Sound.{is_committing, is_moving, is_unfinished, standing}
use Rattle.rules.specs.declared.NotDone.{NotDone}
use Rattle.rules.specs.declared.Geometry.{Geometry}
use Rattle.rules.specs.declared.Handle.{Handle}
use Rattle.rules.specs.declared.Standing.{Standing}
use Rattle.rules.specs.declared.Standing.TheVariants.{Neither, Settled, Sound}
use Rattle.theory.specs.Base.Facts.{both}
use Rattle.theory.specs.Base.Along.{Along, along_run, image_of}
use Rattle.theory.specs.Images.Units.{join}
use Rattle.theory.specs.Images.Model.{all_entries, LaidHome, Stands, homes_of, is_up, survey_read, the_survey}
use Rattle.theory.specs.Images.Turn.{Turned, set_e, turned}
use Rattle.theory.specs.Images.Stand.{Mountable, Turns, is_settled_lem, mountable, stands_as, stay, turning}
use Rattle.theory.specs.Tidying.Sorted.{Orderly, Quiet, is_quiet_lem, orderly_fine, quiet_of, sorted}

-- the image is laid out, every home is live, the spare is wholly FF, and P holds of the entries
pub record HeldEntries (g : Geometry) (P : List Entry → Type 0) (s : Bytes) : Type 0 where
  pub us : List Bytes
  pub ps : List LaidHome
  pub sp : ℕ
  pub image : s ≡ join us
  pub stands : Stands g us ps sp
  pub ups : all is_up ps ≡ true
  pub bare : is_spare (get_or us sp []) ≡ true
  pub holds : P (all_entries g 0 ps)

abbrev pub Safe : Geometry → Bytes → Type 0
Safe g s = HeldEntries g (λ es. Orderly (sorted es)) s

abbrev pub held_map : (g : Geometry) (P Q : List Entry → Type 0) → ((l : List Entry) → P l → Q l) → (s : Bytes) → HeldEntries g P s → HeldEntries g Q s
held_map g P Q f s h = record { us = h.us; ps = h.ps; sp = h.sp; image = h.image; stands = h.stands; ups = h.ups; bare = h.bare; holds = f (all_entries g 0 h.ps) h.holds }

pub safe_mountable : (g : Geometry) (s : Bytes) → Safe g s → Mountable g s
safe_mountable g s h =
    subst (λ (x : Bytes). Mountable g x) (sym h.image) (mountable g h.us h.ps h.sp h.stands h.ups h.bare (orderly_fine (all_entries g 0 h.ps) h.holds))

-- turns of entries, as steps of the image
pub along_held : (g : Geometry) (P : List Entry → Type 0) {es fs : List Entry} {xs : List Step} → Turns P es xs fs → (s : Bytes) → HeldEntries g (λ l. l ≡ es) s
    → Along (HeldEntries g P) s xs × HeldEntries g (λ l. l ≡ fs) (finish xs s)
unfolding finish
along_held g P (stay {es} p) s h = (held_map g (λ l. l ≡ es) P (λ l e. subst P (sym e) p) s h, h)
along_held g P (turning {es = es} {fs = gs} {xs = ys} front e back v f p c t r) s h =
    go (turned g h.us h.sp front e back v f t.to t.like t.is t.full h.ps h.stands (h.holds ∙ c)) (λ k. along_held g P r (made (program e.place v) s) k)
  where
    Then : Type 0
    Then = Along (HeldEntries g P) (made (program e.place v) s) ys × HeldEntries g (λ l. l ≡ gs) (finish ys (made (program e.place v) s))

    New : Type 0
    New = HeldEntries g (λ l. l ≡ front ++ set_e f e ∷ back) (made (program e.place v) s)

    go : Turned g h.us h.ps h.sp (front ++ set_e f e ∷ back) (made (program e.place v) (join h.us)) → (New → Then)
        → (HeldEntries g P s × Along (HeldEntries g P) (made (program e.place v) s) ys) × HeldEntries g (λ l. l ≡ gs) (finish ys (made (program e.place v) s))
    go k f =
        let n = f (record {
          us = k.us';
          ps = k.ps';
          sp = h.sp;
          image = ap (made (program e.place v)) h.image ∙ k.image;
          stands = k.stands;
          ups = k.ups ∙ h.ups;
          bare = ap is_spare k.spare ∙ h.bare;
          holds = k.entries;
        }) in
        ((held_map g (λ l. l ≡ es) P (λ l e. subst P (sym e) p) s h, n.0), n.1)

-- ---- a call, by its plan
ended_image : (h : Handle) (k : ℕ) (r : State) → (ended h k r).image ≡ image_of r
unfolding ended
ended_image h k (state s (Some j)) = refl
ended_image h k (state s None) = refl

pub carried : (Q : Bytes → Type 0) (p : Plan) (k : ℕ) (s : Bytes) → Q s → ((h : Handle) (job : List Step) → p ≡ makes h job → Along Q s job) → Q (carry_out p k s).image
unfolding carry_out
carried Q (refuses a) k s q f = q
carried Q (shows h n e w) k s q f = q
carried Q (makes h job) k s q f = subst Q (sym (ended_image h k (run job (state s (Some k))))) (along_run Q job k s (f h job refl))

pub refuse_makes : (b : Bool) (a : NotDone) (p : Plan) (h : Handle) (job : List Step) → refuse b a p ≡ makes h job → (b ≡ false) × (p ≡ makes h job)
unfolding refuse
refuse_makes true a p h job e = absurd (let z : ◌≡◌ {A = ℕ} 0 1 = cc in let w : ⊥ = omega arith in w)
refuse_makes false a p h job e = (refl, e)

module _ (g : Geometry) (s : Bytes) where
  pub geometry_makes : (p : Plan) (h : Handle) (job : List Step) → in_geometry g s p ≡ makes h job → (is_geometry g (length s) ≡ true) × (p ≡ makes h job)
  unfolding in_geometry
  geometry_makes p h job e = let r = refuse_makes (not (is_geometry g (length s))) _ p h job e in (was (is_geometry g (length s)) r.0, r.1)
    where
      was : (b : Bool) → not b ≡ false → b ≡ true
      was true e = refl
      was false e = sym e

  pub settled_makes : (f : Survey → Plan) (h : Handle) (job : List Step) → in_settled g s f ≡ makes h job
      → (is_geometry g (length s) ≡ true) × (standing g (survey g s) ≡ Settled) × (f (survey g s) ≡ makes h job)
  unfolding when_settled in_settled
  settled_makes f h job e = let r = geometry_makes (when_settled (standing g (survey g s)) (f (survey g s))) h job e in let t = go (standing g (survey g s)) r.1 in (r.0, t.0, t.1)
    where
      go : (t : Standing) → when_settled t (f (survey g s)) ≡ makes h job → (t ≡ Settled) × (f (survey g s) ≡ makes h job)
      go Settled q = (refl, q)
      go Sound q = absurd (let z : ◌≡◌ {A = ℕ} 0 1 = cc in let w : ⊥ = omega arith in w)
      go Neither q = absurd (let z : ◌≡◌ {A = ℕ} 0 1 = cc in let w : ⊥ = omega arith in w)

pub makes_job : (a b : Handle) (x y : List Step) → makes a x ≡ makes b y → x ≡ y
makes_job a b x y e = cc

-- ---- what a held image is read as
module _ (g : Geometry) (P : List Entry → Type 0) (s : Bytes) (h : HeldEntries g P s) where
  pub survey_is : survey g s ≡ the_survey g h.us h.ps h.sp h.stands
  survey_is = ap (survey g) h.image ∙ survey_read g h.us h.ps h.sp h.stands

  pub calm : standing g (survey g s) ≡ Settled → Quiet (sorted (all_entries g 0 h.ps))
  calm e = quiet_of (all_entries g 0 h.ps) (is_settled_lem g h.us h.ps h.sp h.stands (ap (λ (x : Bytes). standing g (survey g x)) (sym h.image) ∙ e)).1

  abbrev pub held_same : HeldEntries g (λ l. l ≡ all_entries g 0 h.ps) s
  held_same = record { us = h.us; ps = h.ps; sp = h.sp; image = h.image; stands = h.stands; ups = h.ups; bare = h.bare; holds = refl }

  pub held_settled : Quiet (sorted (all_entries g 0 h.ps)) → standing g (survey g s) ≡ Settled
  held_settled c =
      ap (λ (x : Bytes). standing g (survey g x)) h.image
      ∙ stands_as g h.us h.ps h.sp h.stands
      ∙ ap₂ (λ (b k : Bool). elim (b && k) as (λ j. Standing) [ true ↦ Settled | false ↦ cond ((b && (is_unfinished n || is_committing n)) || (k && m)) Sound Neither ]) (both h.ups h.bare) (is_quiet_lem (all_entries g 0 h.ps) c)
    where
      n : Counts
      n = counts (all_entries g 0 h.ps)

      m : Bool
      m = is_moving g (homes_of g 0 h.ps) (the_survey g h.us h.ps h.sp h.stands).spare
