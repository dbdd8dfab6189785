-- The home of a logical number: the first live unit, else the first retired one; where there is none, nothing is current.
use Rattle.std.specs.Prelude.{◌≡◌, Option, Some, None, Bool, ◌&&◌, eqb, leb, get_or, slice_get}
use Rattle.std.specs.List.{find, range_with_len}
use Rattle.std.specs.Option.{option_map}
use Rattle.std.proofs.lemmas.Iterator.Adapters.{option_map_id}
use Rattle.std.proofs.Math.Path.{refl}
use Rattle.std.proofs.Common.{sym, ap, subst, ◌∙◌, zero-add}
use Rattle.std.proofs.Math.Bool.{true, false, cond}
use mathlib.Core.List.{List, [], ◌∷◌, map}
use Prim.Native.Nat.{ℕ, zero, suc, ◌+◌, ◌-◌, ◌≤◌, ◌<◌}
use native.Mathlib.Omega.{arith}
use Rattle.rules.specs.Flash.{Bytes, word}
use Rattle.rules.specs.Unit.{Descriptor, blank, is_current, is_empty, live, retired, lower, descriptor_bytes}
use Rattle.rules.specs.Unit
use Rattle.rules.specs.Settled.{Physical, Home, nowhere, the_first, units_of, homes_for, homes_from, survey}
use Rattle.rules.specs.Sound.{no_home, home_at}
use Rattle.rules.specs.declared.Geometry.{Geometry}
use Rattle.laws.specs.Units.{RightGeometry}
use Rattle.laws.specs.Homes.{home_of, home_from}
use Rattle.home_table.specs.Units.{logical_of, state_of}
use Rattle.home_table.specs.Who.{holders, head_holder}
use Rattle.home_table.specs.Bridge.{standing, candidates, candidates_law}
use Rattle.table_read.specs.Shapes.{home_for}

homes_past : (g : Geometry) (ps : List Physical) (k M L : ℕ) → k ≤ L → get_or (homes_from g k M ps) L no_home ≡ no_home
unfolding homes_from
homes_past g ps zero M L l = refl
homes_past g ps (suc k) M zero l = absurd (omega arith)
homes_past g ps (suc k) M (suc L) l = homes_past g ps k (suc M) L (omega arith)

-- ---- nobody's unit
abbrev NoneCurrent : List Descriptor → Type 0
NoneCurrent ds = (p : ℕ) → is_current (get_or ds p blank) ≡ false

none_blank : NoneCurrent []
unfolding is_current blank
none_blank p = refl

none_more : (d : Descriptor) (ds : List Descriptor) → is_current d ≡ false → NoneCurrent ds → NoneCurrent (d ∷ ds)
none_more d ds e h zero = e
none_more d ds e h (suc p) = h p

none_upward : (k at low : ℕ) → NoneCurrent (Unit.trim (Unit.upward k [] at low))
unfolding Unit.upward Unit.trim is_current Unit.descriptor word
none_upward zero at low = none_blank
none_upward (suc k) at low = go (leb (at + descriptor_bytes) low) (none_upward k (at + descriptor_bytes) (lower low (Unit.descriptor [])))
  where
    d : Descriptor
    d = Unit.descriptor []

    no : is_current d ≡ false
    no = refl

    trimmed : (ts : List Descriptor) → NoneCurrent ts → NoneCurrent (elim ts as (λ (l : List Descriptor). List Descriptor) [ [] ↦ cond (is_empty d) [] (d ∷ []) | e ∷ es ↦ d ∷ (e ∷ es) ])
    trimmed [] h = kept (is_empty d)
      where
        kept : (b : Bool) → NoneCurrent (cond b [] (d ∷ []))
        kept true = none_blank
        kept false = none_more d [] no none_blank
    trimmed (e ∷ es) h = none_more d (e ∷ es) no h

    go : (b : Bool) → NoneCurrent (Unit.trim (Unit.upward k [] (at + descriptor_bytes) (lower low d))) → NoneCurrent (Unit.trim (elim b as (λ (x : Bool). List Descriptor) [ true ↦ d ∷ Unit.upward k [] (at + descriptor_bytes) (lower low d) | false ↦ [] ]))
    go true h = trimmed (Unit.trim (Unit.upward k [] (at + descriptor_bytes) (lower low d))) h
    go false h = none_blank

nowhere_none : (g : Geometry) → NoneCurrent (Unit.room_of g []).array
unfolding Unit.room_of Unit.room_for
nowhere_none g = none_upward g.size 16 g.size

-- ---- the home that an image has for L
candidates_head : (S U : ℕ) (s : Bytes) (L x : ℕ) (xs : List ℕ) → candidates S U s L ≡ x ∷ xs → x < U
unfolding candidates
candidates_head S U s L x xs e = go (holders S s live L U 0) refl e
  where
    go : (ls : List ℕ) → holders S s live L U 0 ≡ ls → (elim ls as (λ (l : List ℕ). List ℕ) [ [] ↦ holders S s retired L U 0 | y ∷ ys ↦ y ∷ ys ]) ≡ x ∷ xs → x < U
    go [] p q = omega (arith, (head_holder S s retired L U 0 x xs q).below)
    go (y ∷ ys) p q = omega (arith, (head_holder S s live L U 0 x xs (p ∙ q)).below)

-- what is at L among the homes: a unit that stands h-th, or nobody's, in which nothing is current
pub data HomeIs (g : Geometry) (s : Bytes) (L : ℕ) (x : Home) : Type 0 where
  stood : (h : ℕ) → h < g.units → home_for g.size g.units s L ≡ Some h → x.unit ≡ standing g.size s h → x.room ≡ Unit.room_of g (standing g.size s h).bytes → HomeIs g s L x
  nobody : home_for g.size g.units s L ≡ None → ((p : ℕ) → is_current (get_or x.room.array p blank) ≡ false) → HomeIs g s L x

pub outside : (g : Geometry) (s : Bytes) (L p : ℕ) → g.units - 1 ≤ L → is_current (get_or (home_at (survey g s).homes L).room.array p blank) ≡ false
unfolding survey home_at
outside g s L p l =
    let e : get_or (homes_from g (g.units - 1) 0 (units_of g s)) L no_home ≡ no_home = homes_past g (units_of g s) (g.units - 1) 0 L l in
    ap (λ (h : Home). is_current (get_or h.room.array p blank)) e ∙ unfold no_home in none_blank p

pub found : (g : Geometry) (s : Bytes) → RightGeometry g s → (L : ℕ) → L < g.units - 1 → HomeIs g s L (home_at (survey g s).homes L)
unfolding survey home_at home_of home_for the_first nowhere
found g s o L l =
    let e : get_or (homes_from g (g.units - 1) 0 (units_of g s)) L no_home ≡ home_of g (units_of g s) L = home_from g (units_of g s) (g.units - 1) 0 L l ∙ ap (home_of g (units_of g s)) (zero-add L) in
    subst (HomeIs g s L) (sym e) (go (candidates g.size g.units s L) refl)
  where
    law : homes_for (units_of g s) L ≡ map (standing g.size s) (candidates g.size g.units s L)
    law = candidates_law g s (omega (arith, o.large)) o.few L

    go : (cs : List ℕ) → candidates g.size g.units s L ≡ cs → HomeIs g s L (home_of g (units_of g s) L)
    go [] q =
        let n : the_first (homes_for (units_of g s) L) ≡ nowhere = ap the_first (law ∙ ap (map (standing g.size s)) q) in
        nobody (ap (λ (us : List ℕ). slice_get us 0) q) (λ p. ap (λ (u : Physical). is_current (get_or (Unit.room_of g u.bytes).array p blank)) n ∙ nowhere_none g p)
    go (h ∷ hs) q =
        let n : the_first (homes_for (units_of g s) L) ≡ standing g.size s h = ap the_first (law ∙ ap (map (standing g.size s)) q) in
        stood h (candidates_head g.size g.units s L h hs q) (ap (λ (us : List ℕ). slice_get us 0) q) n (ap (λ (u : Physical). Unit.room_of g u.bytes) n)

-- ---- the search
module _ (S : ℕ) (s : Bytes) (f L : ℕ) where
  -- the unit that stands u-th is in state f and has the number L
  abbrev pub holds : ℕ → Bool
  holds u = eqb (state_of S s u) f && eqb (logical_of S s u) L

  first_held : (k u : ℕ) → find holds (range_with_len u k) ≡ slice_get (holders S s f L k u) 0
  unfolding holders
  first_held zero u = refl
  first_held (suc k) u = go (eqb (state_of S s u) f) (eqb (logical_of S s u) L) (first_held k (u + 1))
    where
      more : List ℕ
      more = holders S s f L k (u + 1)

      go : (x y : Bool) → find holds (range_with_len (u + 1) k) ≡ slice_get more 0
          → cond (x && y) (Some u) (find holds (range_with_len (u + 1) k)) ≡ slice_get (cond x (cond y (u ∷ more) more) more) 0
      go true true e = refl
      go true false e = e
      go false y e = e

  pub search_is : (n : ℕ) (r : Option ℕ) → option_map (λ (u : ℕ). u) r ≡ find holds (range_with_len 0 n) → r ≡ slice_get (holders S s f L n 0) 0
  search_is n r e = sym (option_map_id r) ∙ e ∙ first_held n 0

-- the live one, else the retired one
module _ (S U : ℕ) (s : Bytes) (L : ℕ) where
  pub home_live : (slice_get (holders S s live L U 0) 0 ≡ None → ⊥) → slice_get (holders S s live L U 0) 0 ≡ home_for S U s L
  unfolding home_for candidates
  home_live n = go (holders S s live L U 0) n
    where
      go : (xs : List ℕ) → (slice_get xs 0 ≡ None → ⊥) → slice_get xs 0 ≡ slice_get (elim xs as (λ (y : List ℕ). List ℕ) [ [] ↦ holders S s retired L U 0 | x ∷ ys ↦ x ∷ ys ]) 0
      go [] n = absurd (n refl)
      go (x ∷ xs) n = refl

  pub home_old : slice_get (holders S s live L U 0) 0 ≡ None → slice_get (holders S s retired L U 0) 0 ≡ home_for S U s L
  unfolding home_for candidates
  home_old e = go (holders S s live L U 0) e
    where
      go : (xs : List ℕ) → slice_get xs 0 ≡ None → slice_get (holders S s retired L U 0) 0 ≡ slice_get (elim xs as (λ (y : List ℕ). List ℕ) [ [] ↦ holders S s retired L U 0 | x ∷ ys ↦ x ∷ ys ]) 0
      go [] e = refl
      go (x ∷ xs) e = cc

  pub home_below : (h : ℕ) → home_for S U s L ≡ Some h → h < U
  unfolding home_for
  home_below h e = go (candidates S U s L) refl e
    where
      go : (cs : List ℕ) → candidates S U s L ≡ cs → slice_get cs 0 ≡ Some h → h < U
      go [] q e = cc
      go (x ∷ xs) q e =
          let z : x ≡ h = cc in
          omega (arith, candidates_head S U s L x xs q)
