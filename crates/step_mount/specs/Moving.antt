-- How a mount finishes a moving unit, by the judge's look.
use Rattle.std.specs.Prelude.{◌≡◌, refl, Bool, true, cond, ◌⊎◌, ℕ, ◌+◌, ◌*◌, ◌-◌, ◌≤◌, ◌<◌, eqb, length, get_or, drop}
use Rattle.std.proofs.Math.Path.{sym, ap, subst}
use Rattle.std.proofs.Common.{ap₂, ◌∙◌, inl, inr, arith, zero-add, length-take, length-drop}
use Rattle.std.proofs.Math.Bool.{false, not}
use mathlib.Core.List.{List, [], ◌++◌}
use Rattle.std.proofs.Math.Decide.{dec_lt}
use borrow.Author.Tests.{eq-eqb, not-true}
use Rattle.rules.specs.Lists.{all}
use Rattle.rules.specs.Flash.{Bytes, Step, is_geometry, word, state, run, Run}
use Rattle.rules.specs.Unit
use Rattle.rules.specs.Unit.{receiving, is_home}
use Rattle.rules.specs.Copy.{is_copyable}
use Rattle.rules.specs.Settled.{Physical, Home, Survey, physical, units_of, survey, is_left, is_housed, is_spare, is_still, is_live}
use Rattle.rules.specs.Sound.{home_at, standing}
use Rattle.rules.specs.Jobs.{emptied, after_erase, move, finish_move}
use Rattle.laws.specs.Homes.{home_of, home_at_lem, home_every, housed_parts}
use Rattle.laws.specs.Lists.{every_all}
use Rattle.laws.specs.Spare.{spare_unit}
use Rattle.laws.specs.Words.{AreBytes, bytes_take}
use Rattle.rules.specs.declared.Geometry.{Geometry}
use Rattle.laws.specs.Units.{RightGeometry, right_geometry, row}
use Rattle.laws.specs.Tests.{and_inv}
use Rattle.unit.specs.Tests.{no as never}
use Rattle.home_table.specs.Bridge.{logical_at}
use Rattle.copy.specs.Small.{small_drop}
use Rattle.copy.specs.Bridge.{ByteUnit, home_copyable}
use Rattle.judge.specs.declared.Remainder.{Remainder}
use Rattle.judge.specs.declared.Remainder.TheVariants.{Spare, Receiving, Retired}
use Rattle.judge.specs.declared.Look.{Look}
use Rattle.judge.specs.Judged.{remainder_of, Whereabouts}
use Rattle.step_move.specs.Copying.{TwoUnits, part}
use Rattle.theory.specs.Images.Stand.{not_neither}
use Rattle.theory_sound.specs.Fine.{Cases, still, moves, receives, completes, leaves, sound_cases}

-- the image is sound, and the look shows it
pub record Sighted (g : Geometry) (s : Bytes) (look : Look) : Type 0 where
  pub right : is_geometry g (length s) ≡ true
  pub small : AreBytes s
  pub sound : not_neither (standing g (survey g s)) ≡ true
  pub whereabouts : Whereabouts g s look

-- ---- what the remaining unit is
abbrev pub is_spared : Remainder → Bool
is_spared Spare = true
is_spared Receiving = false
is_spared Retired = false

pub spared : (l : Remainder) → is_spared l ≡ true → l ≡ Spare
spared Spare e = refl
spared Receiving e = never e
spared Retired e = never e

left_by : (r : Physical) (a b : Bool) → is_spare r.bytes ≡ a → eqb r.state receiving ≡ b → remainder_of r ≡ cond a Spare (cond b Receiving Retired)
unfolding remainder_of
left_by r a b e f = ap₂ (λ (x y : Bool). cond x Spare (cond y Receiving Retired)) e f

-- what each kind of remaining unit says of its bytes
abbrev RemainderTells : Remainder → Physical → Type 0
RemainderTells Spare r = is_spare r.bytes ≡ true
RemainderTells Receiving r = (is_spare r.bytes ≡ false) × (eqb r.state receiving ≡ true)
RemainderTells Retired r = (is_spare r.bytes ≡ false) × (eqb r.state receiving ≡ false)

remainder_tells : (r : Physical) (t : Remainder) → remainder_of r ≡ t → RemainderTells t r
remainder_tells r t h = subst (λ (l : Remainder). RemainderTells l r) h (go (is_spare r.bytes) (eqb r.state receiving) refl refl)
  where
    go : (a b : Bool) → is_spare r.bytes ≡ a → eqb r.state receiving ≡ b → RemainderTells (remainder_of r) r
    go true b e f = subst (λ (l : Remainder). RemainderTells l r) (sym (left_by r true b e f)) e
    go false true e f = subst (λ (l : Remainder). RemainderTells l r) (sym (left_by r false true e f)) (e, f)
    go false false e f = subst (λ (l : Remainder). RemainderTells l r) (sym (left_by r false false e f)) (e, f)

finish_by : (g : Geometry) (v : Survey) (a b : Bool) → is_spare v.spare.bytes ≡ a → eqb v.spare.state receiving ≡ b
    → finish_move g v ≡ (elim a as (λ (x : Bool). List Step) [ true ↦ [] | false ↦ cond b (move g v.spare.logical (home_at v.homes v.spare.logical).unit v.spare) (emptied g v.spare.base ++ after_erase v.spare (home_at v.homes v.spare.logical).unit) ])
unfolding finish_move
finish_by g v a b e f =
    ap₂ (λ (x y : Bool). elim x as (λ (x : Bool). List Step) [ true ↦ [] | false ↦ cond y (move g v.spare.logical (home_at v.homes v.spare.logical).unit v.spare) (emptied g v.spare.base ++ after_erase v.spare (home_at v.homes v.spare.logical).unit) ]) e f

-- units apart
apart_at : (h k S : ℕ) → (h * S ≡ k * S → ⊥) → (h * S + S ≤ k * S) ⊎ (k * S + S ≤ h * S)
apart_at h k S n = go (dec_lt h k)
  where
    go : Dec (h < k) → (h * S + S ≤ k * S) ⊎ (k * S + S ≤ h * S)
    go (yes l) = inl (row h k S l)
    go (no l) = inr (row k h S (above (λ (e : h ≡ k). n (ap (λ (x : ℕ). x * S) e))))
      where
        above : (h ≡ k → ⊥) → k < h
        above q = omega arith

module _ (g : Geometry) (s : Bytes) (look : Look) (x : Sighted g s look) where
  abbrev v : Survey
  v = survey g s

  abbrev to : ℕ
  to = look.remaining * g.size

  o : RightGeometry g s
  o = right_geometry g s x.right

  spare_left : remainder_of v.spare ≡ look.state
  spare_left = sym x.whereabouts.state

  pub left_in : to + g.size ≤ length s
  left_in = omega (arith, row look.remaining g.units g.size x.whereabouts.last, o.whole)

  pub left_few : (g.size ≤ 4096) × (look.remaining ≤ 64)
  left_few = (o.small, omega (arith, x.whereabouts.last, o.few))

  pub word_in : to + 2 ≤ length s
  word_in = omega (arith, left_in, o.large)

  pub finish_none : look.state ≡ Spare → finish_move g v ≡ []
  finish_none e = finish_by g v true (eqb v.spare.state receiving) (remainder_tells v.spare Spare (spare_left ∙ e)) refl

  pub finish_erase : look.state ≡ Retired → finish_move g v ≡ emptied g (look.remaining * g.size)
  unfolding physical emptied after_erase
  finish_erase e =
      let k = remainder_tells v.spare Retired (spare_left ∙ e) in
      finish_by g v false false k.0 k.1 ∙ ap (λ (r : Physical). emptied g r.base) x.whereabouts.remaining

  pub none_run : look.state ≡ Spare → (r : Run) → state s r ≡ run (finish_move g v) (state s r)
  unfolding run
  none_run e r = sym (ap (λ (xs : List Step). run xs (state s r)) (finish_none e))

  pub erase_run : look.state ≡ Retired → (t : Bytes) (r was : Run) → state t r ≡ run (emptied g (look.remaining * g.size)) (state s was) → state t r ≡ run (finish_move g v) (state s was)
  erase_run e t r was f = f ∙ sym (ap (λ (xs : List Step). run xs (state s was)) (finish_erase e))

  -- ---- the receiving unit
  module _ (e : look.state ≡ Receiving) (number : ℕ) (is : number ≡ word s (look.remaining * g.size)) where
    number_is : v.spare.logical ≡ number
    unfolding physical
    number_is = ap (λ (r : Physical). r.logical) x.whereabouts.remaining ∙ logical_at g.size s look.remaining (omega (arith, o.large)) ∙ sym is

    housed : (is_housed g v ≡ true) × Cases g v
    housed = sound_cases g v x.sound

    pub number_below : number < g.units - 1
    number_below = go housed.1
      where
        go : Cases g v → number < g.units - 1
        go (still h f) = never (sym (remainder_tells v.spare Receiving (spare_left ∙ e)).0 ∙ unfold is_still in (and_inv (all is_live v.homes) (is_spare v.spare.bytes) h).1)
        go (moves q (receives l a b c)) = omega (arith, l, number_is)
        go (moves q (completes l a b c d)) = omega (arith, l, number_is)
        go (moves q (leaves l a b)) = omega (arith, l, number_is)

    pub number_few : number < 64
    number_few = omega (arith, number_below, o.few)

    abbrev h : ℕ
    h = get_or look.homes number 0

    abbrev from : ℕ
    from = get_or look.homes number 0 * g.size

    home_is_lem : (home_at v.homes number).unit ≡ physical from (part s from g.size)
    home_is_lem = x.whereabouts.homes number number_below

    pub from_in : from + g.size ≤ length s
    from_in = omega (arith, row h g.units g.size (x.whereabouts.inside number number_below), o.whole)

    home_bytes : (home_of g (units_of g s) (0 + number)).unit ≡ physical from (part s from g.size)
    home_bytes = ap (λ (n : ℕ). (home_of g (units_of g s) n).unit) (zero-add number) ∙ ap (λ (y : Home). y.unit) (sym (home_at_lem g s number number_below)) ∙ home_is_lem

    apart : from ≡ to → ⊥
    unfolding physical is_left home_of survey
    apart q =
        let l = (spare_unit g s (omega (arith, o.large)) (omega (arith, o.some))).1 in
        let k = home_every g (units_of g s) (λ (y : Home). not (eqb y.unit.base v.spare.base) ≡ true) (g.units - 1) 0 number (every_all (λ (y : Home). not (eqb y.unit.base v.spare.base)) v.homes l) number_below in
        let a : (home_of g (units_of g s) (0 + number)).unit.base ≡ from = ap (λ (p : Physical). p.base) home_bytes in
        let b : v.spare.base ≡ to = ap (λ (p : Physical). p.base) x.whereabouts.remaining in
        never (sym (not-true _ k) ∙ eq-eqb (home_of g (units_of g s) (0 + number)).unit.base v.spare.base (a ∙ q ∙ sym b))

    pub two : TwoUnits (length s) g.size from to
    two = record { from_in = from_in; to_in = left_in; apart = apart_at h look.remaining g.size apart }

    right_home : is_home g (part s from g.size) (Unit.room_of g (part s from g.size)) ≡ true
    unfolding survey home_of physical
    right_home =
        let hs = (housed_parts g (survey g s) housed.0).homes in
        let k = home_every g (units_of g s) (λ (y : Home). is_home g y.unit.bytes y.room ≡ true) (g.units - 1) 0 number (every_all (λ (y : Home). is_home g y.unit.bytes y.room) v.homes hs) number_below in
        subst (λ (p : Physical). is_home g p.bytes (Unit.room_of g p.bytes) ≡ true) home_bytes k

    whole : ByteUnit g (part s from g.size)
    whole =
        record {
          long = simp (length-take, length-drop) (omega (arith, from_in));
          small = bytes_take g.size (drop from s) (small_drop from s x.small);
          large = omega (arith, o.large);
          fits = o.small;
          even = omega (arith, o.eight);
        }

    pub can : is_copyable g (part s from g.size) ≡ true
    can = home_copyable g (part s from g.size) whole right_home

    pub finish_move_lem : finish_move g v ≡ move g number (physical from (part s from g.size)) (physical to (part s to g.size))
    finish_move_lem =
        let k = remainder_tells v.spare Receiving (spare_left ∙ e) in
        finish_by g v false true k.0 k.1
        ∙ ap (λ (n : ℕ). move g n (home_at v.homes n).unit v.spare) number_is
        ∙ ap₂ (λ (p q : Physical). move g number p q) home_is_lem x.whereabouts.remaining

    pub home_few : (n : ℕ) → n ≡ get_or look.homes number 0 → (g.size ≤ 4096) × (n ≤ 64)
    home_few n q = (o.small, rw q (omega (arith, x.whereabouts.inside number number_below, o.few)))

    -- what a move of the home asks
    pub asks : (n : ℕ) → n ≡ get_or look.homes number 0
        → TwoUnits (length s) g.size (n * g.size) to × (512 ≤ g.size) × (g.size ≤ 4096) × (number < 65536) × (is_copyable g (part s (n * g.size) g.size) ≡ true)
    asks n q = rw q (two, o.large, o.small, omega (arith, number_few), can)

    pub move_run : (n : ℕ) → n ≡ get_or look.homes number 0 → (t : Bytes) (r was : Run)
        → state t r ≡ run (move g number (physical (n * g.size) (part s (n * g.size) g.size)) (physical to (part s to g.size))) (state s was) → state t r ≡ run (finish_move g v) (state s was)
    move_run n q t r was f =
        f ∙ ap (λ (n : ℕ). run (move g number (physical (n * g.size) (part s (n * g.size) g.size)) (physical to (part s to g.size))) (state s was)) q
        ∙ sym (ap (λ (xs : List Step). run xs (state s was)) finish_move_lem)
