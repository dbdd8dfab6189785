-- A moving unit: the homes are read as before, and the image can be mounted.
use Rattle.std.specs.Prelude.{Bool, ◌&&◌, ◌||◌, cond, ◌≡◌, ◌+◌, ◌-◌, ◌<◌, suc, zero, ℕ, ltb, set}
use Rattle.std.proofs.Math.Bool.{false, not, true}
use mathlib.Core.List.{List, [], ◌++◌, ◌∷◌}
use Rattle.std.proofs.Common.{◌∙◌, sym, add-zero, le_of_suc-le-suc, not-suc-le-zero, zero-add, arith, length-set, get_or-set_same}
use Rattle.std.proofs.Math.Path.{ap, ap₂, refl, subst}
use Rattle.std.proofs.Math.Dec.{eqb}
use Rattle.std.proofs.Math.ListN.{get_or, length}
use Rattle.std.proofs.Math.Seq.{get_or-set_other}
use Rattle.rules.specs.Copy.{copy_of}
use Rattle.rules.specs.Flash.{Bytes, word}
use Rattle.rules.specs.Lists.{all, filter}
use Rattle.rules.specs.Settled.{Home, counts, is_live, is_quiet, is_spare, physical}
use Rattle.rules.specs.Sound.{home_at, is_complete, is_moving, is_within}
use Rattle.rules.specs.Unit.{live, receiving, retired}
use Rattle.rules.specs.declared.Geometry.{Geometry}
use Rattle.theory.specs.Base.Facts.{all_uncons, both, ltb_of, or_left, or_right}
use Rattle.theory.specs.Base.Along.{le}
use Rattle.theory.specs.Images.Units.{join, sized_set}
use Rattle.theory.specs.Images.Model.{all_entries, HomesStand, LaidHome, Stands, home_of, homes_of, is_up, laid, name_of, no_laid_home, state_at, state_word, the_survey}
use Rattle.theory.specs.Images.Stand.{Mountable, judge_moving, not_neither, stands_as}

-- ---- the unit left over holds other bytes, not a live unit's
module _ (g : Geometry) (us : List Bytes) (ps : List LaidHome) (sp : ℕ) (st : Stands g us ps sp) (r : Bytes) (len : length r ≡ g.size)
    (off : eqb (word r 2) live ≡ false) (mark : all is_up ps ≡ false → eqb (word r 2) retired ≡ false) where
  here : get_or (set us sp r) sp [] ≡ r
  here = get_or-set_same us sp r [] st.spare

  homes_spare : (L : ℕ) (qs : List LaidHome) → (all is_up qs ≡ false → eqb (word r 2) retired ≡ false) → HomesStand g us sp L qs → HomesStand g (set us sp r) sp L qs
  unfolding all
  homes_spare L [] m h = tt
  homes_spare L (q ∷ qs) m h = (
    record {
      there = subst (λ (m : ℕ). q.phys < m) (sym (length-set us sp r)) h.0.there;
      bytes = get_or-set_other us sp q.phys r [] h.0.away ∙ h.0.bytes;
      good = h.0.good;
      headed = h.0.headed;
      away = h.0.away;
      mark = λ e. ap (λ (x : Bytes). eqb (word x 2) retired) here ∙ m (ap (λ (b : Bool). elim b as (λ j. Bool) [ true ↦ all is_up qs | false ↦ false ]) e);
    },
    homes_spare (suc L) qs (λ e. m (go q.up e)) h.1,
  )
    where
      go : (b : Bool) → all is_up qs ≡ false → (elim b as (λ j. Bool) [ true ↦ all is_up qs | false ↦ false ]) ≡ false
      go true e = e
      go false e = refl

  pub spared : Stands g (set us sp r) ps sp
  spared =
      record {
        shape = st.shape;
        units = length-set us sp r ∙ st.units;
        sized = sized_set g us sp r st.sized len;
        many = length-set us sp r ∙ st.many;
        homes = homes_spare 0 ps mark st.homes;
        spare = subst (λ (m : ℕ). sp < m) (sym (length-set us sp r)) st.spare;
        not_live = ap (λ (x : Bytes). eqb (word x 2) live) here ∙ off;
        named = λ j l n.
            let o = st.named j (subst (λ (m : ℕ). j < m) (length-set us sp r) l) n in
            let e : name_of (set us sp r) j ≡ name_of us j = ap (λ (x : Bytes). word x 0) (get_or-set_other us sp j r [] n) in
            (subst (λ (m : ℕ). m < length ps) (sym e) o.0, ap (λ (x : ℕ). (get_or ps x no_laid_home).phys) e ∙ o.1);
      }

pub home_get : (g : Geometry) (L : ℕ) (ps : List LaidHome) (i : ℕ) → i < length ps → home_at (homes_of g L ps) i ≡ home_of g (L + i) (get_or ps i no_laid_home)
unfolding home_at
home_get g L [] i l = absurd (not-suc-le-zero l)
home_get g L (p ∷ ps) zero l = ap (λ (n : ℕ). home_of g n p) (sym (add-zero L))
home_get g L (p ∷ ps) (suc i) l = home_get g (suc L) ps i (le_of_suc-le-suc l) ∙ ap (λ (n : ℕ). home_of g n (get_or ps i no_laid_home)) more
  where
    more : suc L + i ≡ L + suc i
    more = omega arith

-- ---- how many homes are not live
abbrev pub is_dead : Home → Bool
is_dead x = not (is_live x)

live_home : (g : Geometry) (L : ℕ) (p : LaidHome) (b : Bool) → p.up ≡ b → is_live (home_of g L p) ≡ b
unfolding is_live word physical
live_home g L p true e = ap (λ (b : Bool). eqb (word (le L (le (state_word b) [])) 2) live) e
live_home g L p false e = ap (λ (b : Bool). eqb (word (le L (le (state_word b) [])) 2) live) e

none_dead : (g : Geometry) (L : ℕ) (ps : List LaidHome) → all is_up ps ≡ true → filter is_dead (homes_of g L ps) ≡ []
unfolding filter
none_dead g L [] u = refl
none_dead g L (p ∷ ps) u =
    ap (λ (b : Bool). cond (not b) (home_of g L p ∷ filter is_dead (homes_of g (suc L) ps)) (filter is_dead (homes_of g (suc L) ps))) (live_home g L p true (all_uncons is_up p ps u).0)
    ∙ none_dead g (suc L) ps (all_uncons is_up p ps u).1

one_dead : (g : Geometry) (L : ℕ) (hs bs : List LaidHome) (p : LaidHome) → all is_up hs ≡ true → all is_up bs ≡ true → p.up ≡ false → length (filter is_dead (homes_of g L (hs ++ p ∷ bs))) ≡ 1
unfolding filter
one_dead g L [] bs p u v e =
    ap (λ (b : Bool). length (cond (not b) (home_of g L p ∷ filter is_dead (homes_of g (suc L) bs)) (filter is_dead (homes_of g (suc L) bs)))) (live_home g L p false e)
    ∙ ap (λ (l : List Home). suc (length l)) (none_dead g (suc L) bs v)
one_dead g L (q ∷ hs) bs p u v e =
    ap (λ (b : Bool). length (cond (not b) (home_of g L q ∷ filter is_dead (homes_of g (suc L) (hs ++ p ∷ bs))) (filter is_dead (homes_of g (suc L) (hs ++ p ∷ bs))))) (live_home g L q true (all_uncons is_up q hs u).0)
    ∙ one_dead g (suc L) hs bs p (all_uncons is_up q hs u).1 v e

pub get_mid : {A : Type 0} (hs bs : List A) (q d : A) → get_or (hs ++ q ∷ bs) (length hs) d ≡ q
get_mid [] bs q d = refl
get_mid (x ∷ hs) bs q d = get_mid hs bs q d

-- ---- a moving unit of number L; its home is p
module _ (g : Geometry) (us : List Bytes) (ps : List LaidHome) (sp : ℕ) (st : Stands g us ps sp) (q : is_quiet (counts (all_entries g 0 ps)) ≡ true)
    (L : ℕ) (l : L < length ps) (name : name_of us sp ≡ L) where
  abbrev r : Bytes
  r = get_or us sp []

  abbrev hs : List Home
  hs = homes_of g 0 ps

  home : home_at (homes_of g 0 ps) (name_of us sp) ≡ home_of g L (get_or ps L no_laid_home)
  home = ap (home_at (homes_of g 0 ps)) name ∙ home_get g 0 ps L l ∙ ap (λ (n : ℕ). home_of g n (get_or ps L no_laid_home)) (zero-add L)

  low : ltb (name_of us sp) (g.units - 1) ≡ true
  low = ltb_of (name_of us sp) (g.units - 1) (omega (arith, name, l, st.many, st.units))

  -- the three ways to be moving
  abbrev first_way : Bool
  first_way = eqb (state_at us sp) receiving && eqb (length (filter is_dead (homes_of g 0 ps))) 0 && is_within (get_or us sp []) (copy_of g (name_of us sp) (home_at (homes_of g 0 ps) (name_of us sp)).unit.bytes)

  abbrev second_way : Bool
  second_way =
      eqb (state_at us sp) receiving && eqb (length (filter is_dead (homes_of g 0 ps))) 1 && not (is_live (home_at (homes_of g 0 ps) (name_of us sp)))
      && is_complete g (name_of us sp) (home_at (homes_of g 0 ps) (name_of us sp)).unit.bytes (get_or us sp [])

  abbrev third_way : Bool
  third_way = eqb (state_at us sp) retired && eqb (length (filter is_dead (homes_of g 0 ps))) 0 && is_complete g (name_of us sp) (get_or us sp []) (home_at (homes_of g 0 ps) (name_of us sp)).unit.bytes

  moves : is_moving g (homes_of g 0 ps) (the_survey g us ps sp st).spare ≡ true → Mountable g (join us)
  moves m = ap not_neither (stands_as g us ps sp st) ∙ judge_moving (counts (all_entries g 0 ps)) (all is_up ps && is_spare (get_or us sp [])) (is_moving g (homes_of g 0 ps) (the_survey g us ps sp st).spare) q m

  -- it receives the copy while the home is live
  pub mountable_receiving : all is_up ps ≡ true → state_at us sp ≡ receiving → is_within (get_or us sp []) (copy_of g L (laid L (get_or ps L no_laid_home))) ≡ true → Mountable g (join us)
  unfolding physical is_moving
  mountable_receiving up recv w =
      moves (both low (or_left third_way (or_left second_way (both (both (ap (λ (x : ℕ). eqb x receiving) recv) (ap (λ (x : List Home). eqb (length x) 0) (none_dead g 0 ps up))) within'))))
    where
      within' : is_within (get_or us sp []) (copy_of g (name_of us sp) (home_at (homes_of g 0 ps) (name_of us sp)).unit.bytes) ≡ true
      within' = (λ i. is_within (get_or us sp []) (copy_of g (name i) (home i).unit.bytes)) ∙ w

  -- the home is retired, and the copy is complete, still receiving
  pub mountable_retired : (cs bs : List LaidHome) (p : LaidHome) → ps ≡ cs ++ p ∷ bs → length cs ≡ L → all is_up cs ≡ true → all is_up bs ≡ true → p.up ≡ false → state_at us sp ≡ receiving
      → is_complete g L (laid L p) (get_or us sp []) ≡ true → Mountable g (join us)
  unfolding physical is_moving
  mountable_retired cs bs p whole at u v down recv w =
      moves (both low (or_left third_way (or_right first_way (both (both (both (ap (λ (x : ℕ). eqb x receiving) recv) (ap (λ (n : ℕ). eqb n 1) (ap (λ (x : List LaidHome). length (filter is_dead (homes_of g 0 x))) whole ∙ one_dead g 0 cs bs p u v down)))
      (ap is_dead home ∙ ap not (ap (λ (x : LaidHome). is_live (home_of g L x)) here ∙ live_home g L p false down))) complete'))))
    where
      here : get_or ps L no_laid_home ≡ p
      here = ap₂ (λ (x : List LaidHome) (n : ℕ). get_or x n no_laid_home) whole (sym at) ∙ get_mid cs bs p no_laid_home

      complete' : is_complete g (name_of us sp) (home_at (homes_of g 0 ps) (name_of us sp)).unit.bytes (get_or us sp []) ≡ true
      complete' = (λ i. is_complete g (name i) (home i).unit.bytes (get_or us sp [])) ∙ ap (λ (x : LaidHome). is_complete g L (laid L x) (get_or us sp [])) here ∙ w

  -- the copy is live, and the old home retired
  pub mountable_live : all is_up ps ≡ true → state_at us sp ≡ retired → is_complete g L (get_or us sp []) (laid L (get_or ps L no_laid_home)) ≡ true → Mountable g (join us)
  unfolding physical is_moving
  mountable_live up ret w =
      moves (both low (or_right (first_way || second_way) (both (both (ap (λ (x : ℕ). eqb x retired) ret) (ap (λ (x : List Home). eqb (length x) 0) (none_dead g 0 ps up))) complete')))
    where
      complete' : is_complete g (name_of us sp) (get_or us sp []) (home_at (homes_of g 0 ps) (name_of us sp)).unit.bytes ≡ true
      complete' = (λ i. is_complete g (name i) (get_or us sp []) (home i).unit.bytes) ∙ w
