-- Document 01, "Sound": settled, or settled but for exactly one of three groups.
use Rattle.std.specs.Prelude.{Bool, true, false, not, cond, ◌&&◌, ◌||◌, List, [], ◌∷◌, ℕ, ◌-◌, length, get_or, take, drop, leb, ltb, eqb}
use Rattle.rules.specs.Lists.{filter}
use Rattle.rules.specs.Flash.{Bytes}
use Rattle.rules.specs.Unit.{header_bytes, receiving, retired}
use Rattle.rules.specs.Copy.{copy_of, is_copyable}
use Rattle.rules.specs.Settled.{Physical, Home, Survey, Counts, nowhere, counts, is_beside, is_quiet, is_housed, is_live, is_still}
use Rattle.rules.specs.declared.Geometry.{Geometry}
use Rattle.rules.specs.declared.Standing.{Standing}
use Rattle.rules.specs.declared.Standing.TheVariants.{Settled, Sound, Neither}

-- One torn or one allocated descriptor; one file with two pending descriptors; pending descriptors with no transaction
-- (the last two may come together). All else is as in a settled image: with a torn or allocated one the rest is too; else there may be
-- one pair of pending descriptors, and nothing is asked of what they stand beside. (`standing` takes what is settled first.)
unfoldable pub is_unfinished : Counts → Bool
is_unfinished c =
    eqb c.committed 0 && leb c.opened 1 && c.current_ok
    && ((eqb c.unfinished 1 && is_beside c && eqb c.pending_pairs 0)
    || (eqb c.unfinished 0 && leb c.pending_pairs 1))

-- One committed transaction and none open, each file having at most one pending descriptor.
unfoldable pub is_committing : Counts → Bool
is_committing c =
    eqb c.unfinished 0 && eqb c.committed 1 && eqb c.opened 0 && eqb c.pending_pairs 0 && c.current_ok

-- Each of its words is FFFF or its copy's value.
unfoldable pub is_within : Bytes → Bytes → Bool
is_within [] cs = true
is_within (a ∷ []) cs = false
is_within (a ∷ (b ∷ us)) cs =
    elim ((eqb a 255 && eqb b 255) || (eqb a (get_or cs 0 0) && eqb b (get_or cs 1 0)))
    [ true ↦ is_within us (drop 2 cs) | false ↦ false ]

unfoldable pub is_same : Bytes → Bytes → Bool
is_same [] [] = true
is_same [] (y ∷ ys) = false
is_same (x ∷ xs) [] = false
is_same (x ∷ xs) (y ∷ ys) = elim (eqb x y) [ true ↦ is_same xs ys | false ↦ false ]

unfoldable pub no_home : Home
no_home = record { number = 0; unit = nowhere; room = record { array = []; low = 0 } }

unfoldable pub home_at : List Home → ℕ → Home
home_at hs L = get_or hs L no_home

module _ (g : Geometry) where
  -- The copy u of the unit with bytes `from` is complete: past the state, each word of its header is FFFF or what is due there, and every
  -- byte from 16 on is the finished copy's.
  unfoldable pub is_complete : ℕ → Bytes → Bytes → Bool
  is_complete L from u =
      let x = copy_of g L from in
      is_copyable g from && is_within (take 12 (drop 4 u)) (drop 4 x) && is_same (drop header_bytes u) (drop header_bytes x)

  -- A moving unit, r being the remaining one and L its logical number: it is receiving while L's live unit stands and each of its
  -- words is FFFF or its copy's value; or L's old home is retired and the copy is complete, still receiving or live.
  unfoldable pub is_moving : List Home → Physical → Bool
  is_moving hs r =
      let L = r.logical in
      let h = home_at hs L in
      let is_receiving = eqb r.state receiving in
      let dead = length (filter (λ (x : Home). not (is_live x)) hs) in
      ltb L (g.units - 1)
      && ((is_receiving && eqb dead 0 && is_within r.bytes (copy_of g L h.unit.bytes))
      || (is_receiving && eqb dead 1 && not (is_live h) && is_complete L h.unit.bytes r.bytes)
      || (eqb r.state retired && eqb dead 0 && is_complete L r.bytes h.unit.bytes))

  -- Settled, or settled but for exactly one of the groups, or neither.
  unfoldable pub standing : Survey → Standing
  standing v =
      let c = counts v.entries in
      elim (is_housed g v) [
        | false ↦ Neither
        | true ↦
            elim (is_still v && is_quiet c) [
              | true ↦ Settled
              | false ↦
                  cond ((is_still v && (is_unfinished c || is_committing c)) || (is_quiet c && is_moving v.homes v.spare)) Sound Neither
            ]
      ]
