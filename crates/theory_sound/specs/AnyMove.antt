-- Any moving unit: what the tests tell of it is a stage of a move.
use Rattle.std.specs.Prelude.{Bool, cond, false, not, true, List, [], ◌++◌, ◌∷◌, ◌≡◌, refl, ◌+◌, ◌<◌, suc, ℕ, eqb, drop, get_or, length, take}
use Rattle.std.proofs.Common.{◌∙◌, ap, subst, zero-add, arith, length-append, length-take-le}
use Rattle.std.proofs.Math.Path.{sym}
use Rattle.std.proofs.Math.Seq.{split_at}
use Rattle.rules.specs.Copy.{copy_of, is_copyable}
use Rattle.rules.specs.Flash.{Bytes, word}
use Rattle.rules.specs.Lists.{all, filter}
use Rattle.rules.specs.Settled.{Home, counts, is_live, is_quiet, physical}
use Rattle.rules.specs.Sound.{home_at, is_complete, is_same, is_within}
use Rattle.rules.specs.Unit.{live, receiving}
use Rattle.rules.specs.declared.Geometry.{Geometry}
use Rattle.laws.specs.Complete.{complete_same, is_plain}
use Rattle.laws.specs.Words.{same_eq}
use Rattle.theory.specs.Base.Facts.{all_back, all_cons, all_front, all_uncons, and_r, filter_in}
use Rattle.theory.specs.Base.Along.{le}
use Rattle.theory.specs.Images.Head.{copy_erased}
use Rattle.theory.specs.Images.Units.{join, sized_get}
use Rattle.theory.specs.Images.Layout.{are_bytes}
use Rattle.theory.specs.Images.Model.{all_entries, LaidHome, Stands, home_of, homes_at_lem, homes_of, is_up, name_of, no_laid_home, state_at, state_word}
use Rattle.theory.specs.Images.Located.{from_append}
use Rattle.theory.specs.Tidying.Sorted.{Quiet, quiet_of, sorted}
use Rattle.theory.specs.Moves.Moving.{home_get}
use Rattle.theory.specs.Moves.Move.{Setting, copy_of_lem, copy_body, long, the_copy, the_number}
use Rattle.theory.specs.Moves.Stages.{once_retired, while_filling}
use Rattle.theory.specs.Mounting.Kept.{KeptImage, while_moving}
use Rattle.theory_sound.specs.Reading.{two_words_lem}
use Rattle.theory_sound.specs.Fine.{dead_of}

-- ---- homes that are not live
abbrev is_down : LaidHome → Bool
is_down p = not p.up

live_is : (g : Geometry) (L : ℕ) (p : LaidHome) → is_live (home_of g L p) ≡ p.up
unfolding word is_live physical
live_is g L p = go p.up
  where
    go : (b : Bool) → eqb (word (le L (le (state_word b) [])) 2) live ≡ b
    go true = refl
    go false = refl

dead_laid : (g : Geometry) (L : ℕ) (ps : List LaidHome) → dead_of (homes_of g L ps) ≡ length (filter is_down ps)
unfolding filter
dead_laid g L [] = refl
dead_laid g L (p ∷ ps) =
    ap (λ (b : Bool). length (cond (not b) (home_of g L p ∷ filter (λ (x : Home). not (is_live x)) (homes_of g (suc L) ps)) (filter (λ (x : Home). not (is_live x)) (homes_of g (suc L) ps)))) (live_is g L p)
    ∙ go p.up (dead_laid g (suc L) ps)
  where
    go : (b : Bool) → dead_of (homes_of g (suc L) ps) ≡ length (filter is_down ps)
        → length (cond (not b) (home_of g L p ∷ filter (λ (x : Home). not (is_live x)) (homes_of g (suc L) ps)) (filter (λ (x : Home). not (is_live x)) (homes_of g (suc L) ps)))
        ≡ length (cond (not b) (p ∷ filter is_down ps) (filter is_down ps))
    go true e = e
    go false e = ap suc e

none_down : (ps : List LaidHome) → length (filter is_down ps) ≡ 0 → all is_up ps ≡ true
unfolding all filter
none_down [] h = refl
none_down (p ∷ ps) h = go p.up refl h (none_down ps)
  where
    go : (b : Bool) → p.up ≡ b → length (cond (not b) (p ∷ filter is_down ps) (filter is_down ps)) ≡ 0 → (length (filter is_down ps) ≡ 0 → all is_up ps ≡ true) → all is_up (p ∷ ps) ≡ true
    go true e k f = all_cons is_up p ps e (f k)
    go false e k f = absurd (let w : ⊥ = omega arith in w)

pub all_up : (g : Geometry) (ps : List LaidHome) → dead_of (homes_of g 0 ps) ≡ 0 → all is_up ps ≡ true
all_up g ps h = none_down ps (sym (dead_laid g 0 ps) ∙ h)

one_down : (hs bs : List LaidHome) (p : LaidHome) → p.up ≡ false → length (filter is_down (hs ++ p ∷ bs)) ≡ 1 → (all is_up hs ≡ true) × (all is_up bs ≡ true)
one_down hs bs p d h = (none_down hs (omega (arith, sum)), none_down bs (omega (arith, sum)))
  where
    sum : length (filter is_down hs) + suc (length (filter is_down bs)) ≡ 1
    sum = sym (length-append (filter is_down hs) (p ∷ filter is_down bs)) ∙ sym (ap length (filter_in is_down hs p bs (ap not d))) ∙ h

-- ---- a unit that receives number i's copy
module _ (g : Geometry) (us : List Bytes) (ps : List LaidHome) (sp : ℕ) (st : Stands g us ps sp) (q : is_quiet (counts (all_entries g 0 ps)) ≡ true) (i : ℕ) (l : i < length ps) where
  abbrev hs : List LaidHome
  hs = take i ps

  abbrev bs : List LaidHome
  bs = drop (suc i) ps

  -- the home as it stands, and as a live one
  abbrev now : LaidHome
  now = get_or ps i no_laid_home

  abbrev marked : Bool → LaidHome
  marked b = record { phys = now.phys; up = b; head = now.head; array = now.array; gap = now.gap; rest = now.rest }

  whole : (b : Bool) → now.up ≡ b → ps ≡ hs ++ marked b ∷ bs
  whole b e = split_at ps i no_laid_home l ∙ (λ j. hs ++ record { phys = now.phys; up = e j; head = now.head; array = now.array; gap = now.gap; rest = now.rest } ∷ bs)

  count : 0 + length hs ≡ i
  count = zero-add (length hs) ∙ length-take-le i ps (omega arith)

  abbrev setting : (all is_up (take i ps) ≡ true) × (all is_up (drop (suc i) ps) ≡ true) → Setting g
  setting ups = record {
    hs = hs;
    bs = bs;
    p = marked true;
    sp = sp;
    shape = st.shape;
    good = (homes_at_lem g us sp 0 ps st.homes i l).good;
    up = refl;
    ups = ups;
    quiet = subst (λ (es : _). Quiet (sorted es)) (ap (all_entries g 0) (split_at ps i no_laid_home l) ∙ from_append g 0 hs (now ∷ bs) ∙ sym (from_append g 0 hs (marked true ∷ bs))) (quiet_of (all_entries g 0 ps) q);
    few = omega (arith, count, l, st.many, st.units, st.shape.right.few);
  }

  module _ (ups : (all is_up (take i ps) ≡ true) × (all is_up (drop (suc i) ps) ≡ true)) (name : name_of us sp ≡ i) where
    abbrev m : Setting g
    m = setting ups

    home_is_lem : home_at (homes_of g 0 ps) (name_of us sp) ≡ home_of g (the_number g m) now
    home_is_lem = ap (home_at (homes_of g 0 ps)) name ∙ home_get g 0 ps i l ∙ ap (λ (n : ℕ). home_of g n now) (zero-add i ∙ sym count)

    copy_is : copy_of g (name_of us sp) (home_at (homes_of g 0 ps) (name_of us sp)).unit.bytes ≡ the_copy g m
    unfolding physical
    copy_is = (λ j. copy_of g ((name ∙ sym count) j) (home_is_lem j).unit.bytes) ∙ copy_of_lem g m (state_word now.up)

    long_left : length (get_or us sp []) ≡ g.size
    long_left = sized_get g us sp st.sized st.spare

    pub filling_kept : (s : Bytes) → s ≡ join us → now.up ≡ true → state_at us sp ≡ receiving → is_within (get_or us sp []) (copy_of g (name_of us sp) (home_at (homes_of g 0 ps) (name_of us sp)).unit.bytes) ≡ true → KeptImage g s
    filling_kept s image up recv w =
        while_moving m (while_filling (get_or us sp []) (record {
          us = us;
          image = image;
          stands = subst (λ (x : List LaidHome). Stands g us x sp) (whole true up) st;
          left = refl;
          begun = record {
            part = record { part = ap (is_within (get_or us sp [])) (sym copy_is) ∙ w; len = long_left ∙ sym (long g m) };
            name = name ∙ sym count;
            mark = recv;
          };
        }))

    pub retired_kept : (s : Bytes) → s ≡ join us → are_bytes (get_or us sp []) ≡ true → now.up ≡ false → state_at us sp ≡ receiving
        → is_complete g (name_of us sp) (home_at (homes_of g 0 ps) (name_of us sp)).unit.bytes (get_or us sp []) ≡ true → KeptImage g s
    retired_kept s image bytes down recv w =
        while_moving m (once_retired (record {
          us = us;
          image = image;
          stands = subst (λ (x : List LaidHome). Stands g us x sp) (whole false down) st;
          left =
              two_words_lem (get_or us sp []) (omega (arith, long_left, st.shape.right.large)) bytes
              ∙ (λ j. le ((name ∙ sym count) j) (le (recv j) (body j)));
        }))
      where
        from : Bytes
        from = (home_at (homes_of g 0 ps) (name_of us sp)).unit.bytes

        body : drop 4 (get_or us sp []) ≡ copy_body g m
        body =
            same_eq (drop 4 (get_or us sp [])) (drop 4 (copy_of g (name_of us sp) from)) (and_r (is_copyable g from) (is_same (drop 4 (get_or us sp [])) (drop 4 (copy_of g (name_of us sp) from)))
            (sym (complete_same g (name_of us sp) from (get_or us sp []) (omega (arith, long_left, st.shape.right.large)) (omega (arith, ap length copy_is, long g m, st.shape.right.large)) (ap is_plain copy_is ∙ copy_erased)) ∙ w))
            ∙ ap (drop 4) copy_is

  -- the others are live
  pub others_up : all is_up ps ≡ true → (all is_up (take i ps) ≡ true) × (all is_up (drop (suc i) ps) ≡ true) × ((get_or ps i no_laid_home).up ≡ true)
  others_up u =
      let e : all is_up (hs ++ now ∷ bs) ≡ true = ap (all is_up) (sym (split_at ps i no_laid_home l)) ∙ u in
      let b = all_uncons is_up now bs (all_back is_up hs (now ∷ bs) e) in
      (all_front is_up hs (now ∷ bs) e, b.1, b.0)

  pub others_live : dead_of (homes_of g 0 ps) ≡ 1 → (get_or ps i no_laid_home).up ≡ false → (all is_up (take i ps) ≡ true) × (all is_up (drop (suc i) ps) ≡ true)
  others_live d e = one_down hs bs now e (ap (λ (x : List LaidHome). length (filter is_down x)) (sym (split_at ps i no_laid_home l)) ∙ sym (dead_laid g 0 ps) ∙ d)

  pub down_is : name_of us sp ≡ i → is_live (home_at (homes_of g 0 ps) (name_of us sp)) ≡ false → (get_or ps i no_laid_home).up ≡ false
  down_is name e = sym (live_is g (0 + i) now) ∙ ap is_live (sym (ap (home_at (homes_of g 0 ps)) name ∙ home_get g 0 ps i l)) ∙ e
