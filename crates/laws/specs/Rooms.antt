-- The lowest offset of a room: it is even where the offsets are.
use Rattle.std.specs.Prelude.{◌≡◌, Bool, true, false, cond, ◌&&◌, List, [], ◌∷◌, ℕ, ◌-◌, ◌%◌, ◌≤◌, min, take, drop}
use Rattle.std.proofs.Math.Path.{refl}
use Rattle.std.proofs.Common.{sym, ◌∙◌, true≢false, arith, eqb-true}
use Rattle.rules.specs.Lists.{all}
use Rattle.rules.specs.Flash.{Bytes, erased}
use Rattle.rules.specs.Unit.{Descriptor, Room, is_empty, is_allocated, is_pending, is_current, is_old, has_sector, lower, lowest, trim, room_for, room_of, stands, n, gap, is_listed, lies, is_placed, all_apart, is_home, blank, size}
use Rattle.rules.specs.Settled.{Home, units_of, survey}
use Rattle.rules.specs.Sound.{no_home, home_at, standing}
use Rattle.laws.specs.Tests.{and_inv, either}
use Rattle.laws.specs.Lists.{Every, every_map, every_apply, every_all, every_get}
use Rattle.laws.specs.Homes.{home_of, every_home, settled_parts}
use Rattle.laws.specs.Copies.{moved, size_even, packed_kept, packed_left}
use Rattle.rules.specs.Copy.{is_kept, packed}
use Rattle.rules.specs.declared.Geometry.{Geometry}
use Rattle.rules.specs.declared.Standing.TheVariants.{Settled}

-- ---- low
-- A descriptor with a sector lowers low to its offset.
pub lower_sector : (low : ℕ) (d : Descriptor) → has_sector d ≡ true → lower low d ≡ min low d.offset
unfolding lower
lower_sector low d e = rw e

-- One without a sector leaves it.
pub lower_none : (low : ℕ) (d : Descriptor) → has_sector d ≡ false → lower low d ≡ low
unfolding lower
lower_none low d e = rw e

-- Low never rises.
pub lower_le : (low : ℕ) (d : Descriptor) → lower low d ≤ low
lower_le low d = either (has_sector d) (λ e. rw (lower_sector low d e) (omega arith)) (λ e. rw (lower_none low d e) (omega arith))

-- Nor over many descriptors.
pub lowest_le : (low : ℕ) (ds : List Descriptor) → lowest low ds ≤ low
unfolding lowest
lowest_le low [] = omega arith
lowest_le low (d ∷ ds) = omega (arith, lowest_le (lower low d) ds, lower_le low d)

-- A descriptor whose flags are FFFF has no sector.
pub erased_none : (d : Descriptor) → d.flags ≡ 0xFFFF → has_sector d ≡ false
unfolding has_sector is_allocated is_pending is_current is_old
erased_none d e = rw e

-- So an empty one has none.
pub empty_none : (d : Descriptor) → is_empty d ≡ true → has_sector d ≡ false
unfolding is_empty
empty_none d e = erased_none d (eqb-true d.flags 0xFFFF (and_inv _ _ (and_inv _ _ (and_inv _ _ e).0).0).0)

-- The empty ones past the last non-empty one do nothing to low.
pub lowest_trim : (low : ℕ) (ds : List Descriptor) → lowest low (trim ds) ≡ lowest low ds
unfolding lowest trim
lowest_trim low [] = refl
lowest_trim low (d ∷ ds) = go (trim ds) (is_empty d) refl (lowest_trim (lower low d) ds)
  where
    go : (ts : List Descriptor) (b : Bool) → is_empty d ≡ b → lowest (lower low d) ts ≡ lowest (lower low d) ds
        → lowest low (elim ts as (λ j. List Descriptor) [ [] ↦ cond b [] (d ∷ []) | t ∷ ts ↦ d ∷ (t ∷ ts) ]) ≡ lowest (lower low d) ds
    go [] true e h = sym (lower_none low d (empty_none d e)) ∙ h
    go [] false e h = h
    go (t ∷ ts) b e h = h

-- A descriptor that is not empty stays.
pub trim_full : (d : Descriptor) (ds : List Descriptor) → is_empty d ≡ false → trim (d ∷ ds) ≡ d ∷ trim ds
unfolding trim
trim_full d ds e = go (trim ds)
  where
    go : (ts : List Descriptor) → (elim ts as (λ j. List Descriptor) [ [] ↦ cond (is_empty d) [] (d ∷ []) | t ∷ ts ↦ d ∷ (t ∷ ts) ]) ≡ d ∷ ts
    go [] = rw e
    go (t ∷ ts) = refl

-- An empty one with none behind it goes.
pub trim_none : (d : Descriptor) (ds : List Descriptor) → is_empty d ≡ true → trim ds ≡ [] → trim (d ∷ ds) ≡ []
unfolding trim
trim_none d ds e h = rw (h, trim, e)

-- One before another that stays, stays.
pub trim_more : (d t : Descriptor) (ds ts : List Descriptor) → trim ds ≡ t ∷ ts → trim (d ∷ ds) ≡ d ∷ (t ∷ ts)
unfolding trim
trim_more d t ds ts h = rw (h, trim)

-- ---- even offsets
-- If the descriptor has a sector, its offset is even.
abbrev pub EvenSector : Descriptor → Type 0
EvenSector d = has_sector d ≡ true → d.offset % 2 ≡ 0

-- Where all offsets are even, so is the lowest.
pub lowest_even : (low : ℕ) (ds : List Descriptor) → low % 2 ≡ 0 → Every EvenSector ds → lowest low ds % 2 ≡ 0
unfolding lowest
lowest_even low [] e h = e
lowest_even low (d ∷ ds) e h =
    lowest_even (lower low d) ds
    (either (has_sector d) (λ k. let o : d.offset % 2 ≡ 0 = h.0 k in rw (lower_sector low d k) (omega arith)) (λ k. rw (lower_none low d k) e))
    h.1

placed_even : (g : Geometry) (floor : ℕ) (d : Descriptor) → is_placed g floor d ≡ true → EvenSector d
unfolding is_placed lies
placed_even g floor d e k =
    let l : lies g floor d ≡ true = rw k at e in
    eqb-true (d.offset % 2) 0 (and_inv _ _ (and_inv _ _ (and_inv _ _ l).0).0).0

-- Packed sectors have even offsets.
pub packed_even : (low : ℕ) (ds : List Descriptor) → low % 2 ≡ 0 → Every EvenSector (packed low ds)
unfolding moved blank
packed_even low [] e = unfold packed in tt
packed_even low (d ∷ ds) e =
    let o : (low - size d) % 2 ≡ 0 = omega (arith, size_even d) in
    either (is_kept d)
    (λ k. rw (packed_kept d ds low k) ((λ h. o), packed_even (low - size d) ds o))
    (λ k. rw (packed_left d ds low k) ((λ h. absurd (true≢false (sym h ∙ erased_none blank refl))), packed_even low ds e))

-- What holds of every descriptor holds of those up to the last non-empty one.
pub every_trim : (P : Descriptor → Type 0) (ds : List Descriptor) → Every P ds → Every P (trim ds)
unfolding trim
every_trim P [] h = tt
every_trim P (d ∷ ds) h = go (trim ds) (is_empty d) (every_trim P ds h.1)
  where
    go : (ts : List Descriptor) (b : Bool) → Every P ts → Every P (elim ts as (λ j. List Descriptor) [ [] ↦ cond b [] (d ∷ []) | t ∷ ts ↦ d ∷ (t ∷ ts) ])
    go [] true k = tt
    go [] false k = (h.0, tt)
    go (t ∷ ts) b k = (h.0, k)

-- ---- homes
-- What is asked of a home, part by part.
pub record HomeParts (g : Geometry) (u : Bytes) (r : Room) : Type 0 where
  pub gap : erased (take (gap r) (drop (stands (n r)) u)) ≡ true
  pub listed : all is_listed r.array ≡ true
  pub placed : all (is_placed g (stands (n r))) r.array ≡ true
  pub apart : all_apart r.array ≡ true

-- A home, part by part.
pub home_parts : (g : Geometry) (u : Bytes) (r : Room) → is_home g u r ≡ true → HomeParts g u r
unfolding is_home
home_parts g u r e =
    let free = erased (take (gap r) (drop (stands (n r)) u)) in
    let a = and_inv (free && all is_listed r.array && all (is_placed g (stands (n r))) r.array) (all_apart r.array) e in
    let b = and_inv (free && all is_listed r.array) (all (is_placed g (stands (n r))) r.array) a.0 in
    let c = and_inv free (all is_listed r.array) b.0 in
    record { gap = c.0; listed = c.1; placed = b.1; apart = a.1 }

module _ (g : Geometry) (even : g.size % 2 ≡ 0) where
  -- A home that is as it must be has an even low.
  home_low : (u : Bytes) (ds : List Descriptor) → is_home g u (room_for g ds) ≡ true → (room_for g ds).low % 2 ≡ 0
  unfolding room_for
  home_low u ds e =
      let floor = stands (n (room_for g ds)) in
      lowest_even g.size (trim ds) even
      (every_map _ EvenSector (placed_even g floor) (trim ds) (every_all (is_placed g floor) (trim ds) (home_parts g u (room_for g ds) e).placed))

  -- In a settled image the low of every home is even.
  pub settled_low : (s : Bytes) → standing g (survey g s) ≡ Settled → (L : ℕ) → (home_at (survey g s).homes L).room.low % 2 ≡ 0
  unfolding home_at no_home survey home_of room_of
  settled_low s t L =
      let hs = (survey g s).homes in
      every_get (λ (h : Home). h.room.low % 2 ≡ 0) no_home refl hs
      (every_apply (λ (h : Home). is_home g h.unit.bytes h.room ≡ true) (λ (h : Home). h.room.low % 2 ≡ 0) hs
      (every_home g (units_of g s) _ (g.units - 1) 0 (λ i a b. home_low _ _))
      (every_all (λ (h : Home). is_home g h.unit.bytes h.room) hs (settled_parts g (survey g s) t).homes))
      L
