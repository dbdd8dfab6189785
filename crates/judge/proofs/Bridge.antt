-- The look at an image is the reader's: its homes, its remaining unit, whether that moves, and the verdict.
use Rattle.std.specs.Prelude.{ℕ, ◌+◌, ◌-◌, ◌≤◌, ◌<◌, ◌≡◌, not, ◌&&◌, ◌||◌, eqb, None, option_map, unwrap_or}
use Rattle.std.proofs.Common.{arith, sym, ◌∙◌, subst}
use Rattle.std.proofs.Math.Nat.{zero-add}
use Rattle.std.proofs.Math.Path.{refl, ap}
use Rattle.std.proofs.Math.Bool.{Bool, true, false, cond}
use mathlib.Core.List.{List}
use borrow.Author.Tests.{eqb-true, ltb-true}
use Rattle.std.proofs.Math.Dec.{ltb}
use Rattle.std.proofs.Math.ListN.{length, get_or}
use Rattle.rules.specs.Lists.{all, filter}
use Rattle.rules.specs.Flash.{Bytes, word}
use Rattle.rules.specs.Unit
use Rattle.rules.specs.Unit.{receiving, retired, is_header, is_home}
use Rattle.rules.specs.Settled.{Home, physical, units_of, one_each, homes_from, is_left, the_first, entries_of, counts, survey, has_header, is_housed, is_spare, is_still, is_quiet}
use Rattle.rules.specs.Settled
use Rattle.rules.specs.Sound.{is_unfinished, is_committing, is_within, is_complete, no_home, home_at, is_moving, standing}
use Rattle.rules.specs.Copy.{copy_of}
use Rattle.laws.specs.Words.{AreBytes}
use Rattle.rules.specs.declared.Geometry.{Geometry}
use Rattle.laws.specs.Units.{RightGeometry}
use Rattle.laws.specs.Tests.{and_inv}
use Rattle.unit.specs.Tests.{elim_inv}
use Rattle.counts.specs.Tally.{tallied, tally_of, nothing, quiet, is_first, is_second}
use Rattle.counts.specs.Bridge.{descriptors, Agrees, agrees, quiet_law, first_law, second_law}
use Rattle.home_table.specs.Places.{places_of, left_from}
use Rattle.home_table.specs.Bridge.{unit_at, housed, houses, houses_long, one_each_law, homes_law}
use Rattle.home_table.specs.Left.{left_below, left_unit}
use Rattle.home_table.specs.Bridge as at
use Rattle.copy.specs.Stream.{is_copy}
use Rattle.copy.specs.Bridge.{ByteUnit, home_copyable, complete_law, made_law}
use Rattle.judge.specs.declared.HomesTally.{HomesTally}
use Rattle.judge.specs.declared.Look.{Look}
use Rattle.rules.specs.declared.Standing.{Standing}
use Rattle.rules.specs.declared.Standing.TheVariants as Standings
use Rattle.copy.specs.Moving.{is_live, moves}
use Rattle.judge.specs.Round.{round_from, moving, still, judged, blind, look_with, look_of}
use Rattle.judge.specs.Rounds.{unit_whole, is_right, all_right, is_dead, seen, whether, home_of, round_law, houses_at, housed_at, all_at, all_live}

decided : (b : Bool) (x : Standing) → cond b Standings.Settled x ≡ (elim b as (λ (y : Bool). Standing) [ true ↦ Standings.Settled | false ↦ x ])
decided true x = refl
decided false x = refl

-- ---- an image whose homes are all there and right
module _ (g : Geometry) (s : Bytes) (o : RightGeometry g s) (small : AreBytes s) where
  abbrev pub spots : List ℕ
  spots = places_of g.size g.units s

  abbrev pub left : ℕ
  left = left_from g.size s (g.units - 1) spots g.units 0

  abbrev pub hs : List Home
  hs = houses g s spots (g.units - 1) 0

  abbrev pub rest : Bytes
  rest = unit_at g.size s left

  abbrev pub dead : ℕ
  dead = length (filter is_dead hs)

  four : 4 ≤ g.size
  four = omega (arith, o.large)

  module _ (there : housed g.units spots (g.units - 1) 0 ≡ true) where
    pub homes_are : (survey g s).homes ≡ hs
    unfolding survey
    homes_are = homes_law g s four o.few (g.units - 1) 0 (omega arith) there

    pub spare_is : (survey g s).spare ≡ at.standing g.size s left
    unfolding survey
    spare_is =
        ap (λ (x : List Home). the_first (filter (is_left x) (units_of g s))) (homes_law g s four o.few (g.units - 1) 0 (omega arith) there)
        ∙ left_unit g s four (omega (arith, o.some)) o.few there

    pub entries_are : (survey g s).entries ≡ entries_of hs
    unfolding survey
    entries_are = ap entries_of (homes_law g s four o.few (g.units - 1) 0 (omega arith) there)

    pub left_in : left < g.units
    left_in = left_below g s four (omega (arith, o.some)) o.few there

    pub home_in_lem : (L : ℕ) → L < g.units - 1 → get_or spots L 0 < g.units
    home_in_lem L l =
        let z : 0 + L ≡ L = zero-add L in
        rw z at (housed_at g.units spots (g.units - 1) 0 L there l)

    pub home_is_lem : (L : ℕ) → L < g.units - 1 → home_at (survey g s).homes L ≡ home_of g s L (get_or spots L 0)
    unfolding home_at
    home_is_lem L l =
        let z : 0 + L ≡ L = zero-add L in
        ap (λ (x : List Home). get_or x L no_home) homes_are ∙ houses_at g s spots (g.units - 1) 0 L l ∙ rw z

    module _ (right : all (is_right g) hs ≡ true) where
      -- the home of the remaining unit's number
      module _ (l : word rest 0 < g.units - 1) where
        abbrev h : Bytes
        h = unit_at g.size s (get_or spots (word rest 0) 0)

        h_in : get_or spots (word rest 0) 0 < g.units
        h_in =
            let z : 0 + word rest 0 ≡ word rest 0 = zero-add (word rest 0) in
            rw z at (housed_at g.units spots (g.units - 1) 0 (word rest 0) there l)

        h_whole : ByteUnit g h
        h_whole = unit_whole g s o small (get_or spots (word rest 0) 0) h_in

        r_whole : ByteUnit g rest
        r_whole = unit_whole g s o small left left_in

        h_is : get_or hs (word rest 0) no_home ≡ home_of g s (word rest 0) (get_or spots (word rest 0) 0)
        h_is =
            let z : 0 + word rest 0 ≡ word rest 0 = zero-add (word rest 0) in
            houses_at g s spots (g.units - 1) 0 (word rest 0) l ∙ rw z

        h_right : is_home g h (Unit.room_of g h) ≡ true
        unfolding physical has_header
        h_right =
            let m : word rest 0 < length hs = rw (houses_long g s spots (g.units - 1) 0) l in
            (elim_inv (is_header h) (is_home g h (Unit.room_of g h)) (subst (λ (x : Home). is_right g x ≡ true) h_is (all_at (is_right g) hs (word rest 0) m right))).1

        abbrev L : ℕ
        L = word rest 0

        -- the three ways of moving
        three : moves dead rest h
            ≡ ((eqb (word rest 2) receiving && eqb dead 0 && is_within rest (copy_of g L h))
            || (eqb (word rest 2) receiving && eqb dead 1 && not (is_live h) && is_complete g L h rest)
            || (eqb (word rest 2) retired && eqb dead 0 && is_complete g L rest h))
        unfolding moves
        three =
            rw (complete_law g h h_whole rest r_whole L small_number, complete_law g rest r_whole h h_whole L small_number)
            (go (eqb (word rest 2) receiving) refl (eqb (word rest 2) retired) refl (eqb dead 0) refl (eqb dead 1) refl (is_live h))
          where
            small_number : L < 65536
            small_number = omega (arith, o.few)

            made : word rest 2 ≡ receiving → is_copy false h rest ≡ is_within rest (copy_of g L h)
            made e = made_law g h h_whole rest r_whole L small_number (home_copyable g h h_whole h_right) refl e

            or_false : (x : Bool) → x ≡ (x || false || false)
            or_false true = refl
            or_false false = refl

            or_last : (x : Bool) → x ≡ (x || false)
            or_last true = refl
            or_last false = refl

            go : (r : Bool) → eqb (word rest 2) receiving ≡ r → (t : Bool) → eqb (word rest 2) retired ≡ t → (z : Bool) → eqb dead 0 ≡ z → (n : Bool) → eqb dead 1 ≡ n → (v : Bool)
                → cond r (cond z (is_copy false h rest) (cond n (cond v false (is_complete g L h rest)) false)) (cond t (cond z (is_complete g L rest h) false) false)
                ≡ ((r && z && is_within rest (copy_of g L h)) || (r && n && not v && is_complete g L h rest) || (t && z && is_complete g L rest h))
            go true er true et z ez n en v = absurd (omega (arith, eqb-true (word rest 2) receiving er, eqb-true (word rest 2) retired et))
            go true er false et true ez true en v = absurd (omega (arith, eqb-true dead 0 ez, eqb-true dead 1 en))
            go true er false et true ez false en v = made (eqb-true (word rest 2) receiving er) ∙ or_false (is_within rest (copy_of g L h))
            go true er false et false ez true en true = refl
            go true er false et false ez true en false = or_last (is_complete g L h rest)
            go true er false et false ez false en v = refl
            go false er true et true ez n en v = refl
            go false er true et false ez n en v = refl
            go false er false et z ez n en v = refl

      abbrev ways : Home → Bool
      ways x =
          (eqb (word rest 2) receiving && eqb dead 0 && is_within rest (copy_of g (word rest 0) x.unit.bytes))
          || (eqb (word rest 2) receiving && eqb dead 1 && not (Settled.is_live x) && is_complete g (word rest 0) x.unit.bytes rest)
          || (eqb (word rest 2) retired && eqb dead 0 && is_complete g (word rest 0) rest x.unit.bytes)

      moving_law : moving g s spots dead rest ≡ is_moving g hs (at.standing g.size s left)
      unfolding is_moving home_at physical Settled.is_live is_live
      moving_law = go (ltb (word rest 0) (g.units - 1)) refl
        where
          go : (x : Bool) → ltb (word rest 0) (g.units - 1) ≡ x
              → (x && moves dead rest (unit_at g.size s (get_or spots (word rest 0) 0))) ≡ (x && ways (get_or hs (word rest 0) no_home))
          go true e =
              let l : word rest 0 < g.units - 1 = ltb-true (word rest 0) (g.units - 1) e in
              three l ∙ ap ways (sym (h_is l))
          go false e = refl

      -- all of it together, where the homes are right
      pub tally_agrees : Agrees (tally_of (tallied (descriptors (entries_of hs)) nothing)) (counts (survey g s).entries)
      tally_agrees = rw entries_are (agrees (entries_of hs))

      still_law : still dead (is_spare rest) ≡ is_still (survey g s)
      unfolding is_still physical
      still_law = rw (homes_are, spare_is, all_live hs)

      abbrev pub x : HomesTally
      x = seen 0 nothing hs

      retired_is : x.retired ≡ dead
      unfolding seen
      retired_is = zero-add dead

      pub tally_is : Agrees x.tally (counts (survey g s).entries)
      unfolding seen
      tally_is = tally_agrees

      moving_is : moving g s spots dead rest ≡ is_moving g (survey g s).homes (survey g s).spare
      moving_is = rw (homes_are, spare_is) moving_law

      judged_law : judged g s spots (is_spare rest) rest x
          ≡ (elim (is_still (survey g s) && is_quiet (counts (survey g s).entries)) as (λ (y : Bool). Standing) [ true ↦ Standings.Settled | false ↦ cond ((is_still (survey g s) && (is_unfinished (counts (survey g s).entries) || is_committing (counts (survey g s).entries))) || (is_quiet (counts (survey g s).entries) && is_moving g (survey g s).homes (survey g s).spare)) Standings.Sound Standings.Neither ])
      judged_law =
          let q : quiet x.tally ≡ is_quiet (counts (survey g s).entries) = quiet_law x.tally (counts (survey g s).entries) tally_is in
          let f : is_first x.tally ≡ is_unfinished (counts (survey g s).entries) = first_law x.tally (counts (survey g s).entries) tally_is in
          let e : is_second x.tally ≡ is_committing (counts (survey g s).entries) = second_law x.tally (counts (survey g s).entries) tally_is in
          rw (retired_is, still_law, q, f, e, moving_is) (decided (is_still (survey g s) && is_quiet (counts (survey g s).entries)) _)

  -- is_housed, as the code sees it
  pub housed_law : is_housed g (survey g s) ≡ (housed g.units spots (g.units - 1) 0 && all (is_right g) hs)
  unfolding is_housed survey
  housed_law =
      ands (one_each (g.units - 1) 0 (units_of g s)) (all has_header (homes_from g (g.units - 1) 0 (units_of g s))) (all (λ (x : Home). is_home g x.unit.bytes x.room) (homes_from g (g.units - 1) 0 (units_of g s)))
      ∙ ap (λ (b : Bool). one_each (g.units - 1) 0 (units_of g s) && b) (all_right g (homes_from g (g.units - 1) 0 (units_of g s)))
      ∙ ap (λ (b : Bool). b && all (is_right g) (homes_from g (g.units - 1) 0 (units_of g s))) (one_each_law g s four o.few (g.units - 1) 0 (omega arith))
      ∙ go (housed g.units spots (g.units - 1) 0) refl
    where
      ands : (a b c : Bool) → (a && b && c) ≡ (a && (b && c))
      ands true b c = refl
      ands false b c = refl

      go : (b : Bool) → housed g.units spots (g.units - 1) 0 ≡ b → (b && all (is_right g) (homes_from g (g.units - 1) 0 (units_of g s))) ≡ (b && all (is_right g) hs)
      go true e = ap (all (is_right g)) (homes_law g s four o.few (g.units - 1) 0 (omega arith) e)
      go false e = refl

  -- what is found of its homes
  round_is : round_from g s spots (g.units - 1) 0 0 nothing ≡ whether (all (is_right g) hs) (seen 0 nothing hs)
  round_is = round_law g s spots (g.units - 1) 0 0 nothing

  abbrev pub look : Look
  look = unwrap_or (look_of g s) blind

  -- what is shown where all homes are right
  pub look_right : (e : is_housed g (survey g s) ≡ true) → look ≡ look_with g s spots left rest (seen 0 nothing hs)
  unfolding look_of
  look_right e =
      let i = and_inv (housed g.units spots (g.units - 1) 0) (all (is_right g) hs) (sym housed_law ∙ e) in
      rw (i.0, round_is, i.1)

  pub look_wrong : is_housed g (survey g s) ≡ false → look ≡ blind
  unfolding look_of
  look_wrong e = rw round_is (go (housed g.units spots (g.units - 1) 0) (all (is_right g) hs) (sym housed_law ∙ e))
    where
      go : (a b : Bool) → (a && b) ≡ false → unwrap_or (cond a (option_map (look_with g s spots left rest) (whether b (seen 0 nothing hs))) None) blind ≡ blind
      go true true e = cc
      go true false e = refl
      go false b e = refl

  -- THE LAW: the standing that the code finds is the reader's
  pub standing_is : look.standing ≡ standing g (survey g s)
  unfolding standing
  standing_is = go (is_housed g (survey g s)) refl
    where
      go : (b : Bool) → is_housed g (survey g s) ≡ b
          → look.standing
          ≡ (elim b as (λ (y : Bool). Standing) [ false ↦ Standings.Neither | true ↦ elim (is_still (survey g s) && is_quiet (counts (survey g s).entries)) as (λ (y : Bool). Standing) [ true ↦ Standings.Settled | false ↦ cond ((is_still (survey g s) && (is_unfinished (counts (survey g s).entries) || is_committing (counts (survey g s).entries))) || (is_quiet (counts (survey g s).entries) && is_moving g (survey g s).homes (survey g s).spare)) Standings.Sound Standings.Neither ] ])
      go true e =
          let i = and_inv (housed g.units spots (g.units - 1) 0) (all (is_right g) hs) (sym housed_law ∙ e) in
          ap (λ (k : Look). k.standing) (look_right e) ∙ judged_law i.0 i.1
      go false e = ap (λ (k : Look). k.standing) (look_wrong e)
