-- The round of the homes and the verdict, as the code goes.
use Rattle.std.specs.Prelude.{Bool, true, false, ◌&&◌, ◌||◌, cond, Option, Some, None, option_map, List, ℕ, zero, suc, ◌+◌, ◌-◌, get_or, replicate, ltb, eqb}
use Rattle.rules.specs.Flash.{Bytes, word}
use Rattle.rules.specs.Unit
use Rattle.rules.specs.Unit.{Descriptor, receiving, is_header, is_home}
use Rattle.rules.specs.Settled.{is_spare}
use Rattle.rules.specs.declared.Geometry.{Geometry}
use Rattle.unit.specs.Shapes.{room_of, array_of}
use Rattle.counts.specs.Few.{is_none}
use Rattle.counts.specs.Tally.{TallyNotes, tallied, tally_of, nothing, quiet, is_first, is_second}
use Rattle.home_table.specs.Units.{unit_at}
use Rattle.home_table.specs.Places.{housed, places_of, left_from}
use Rattle.copy.specs.Moving.{is_live, moves}
use Rattle.judge.specs.declared.HomesTally.{HomesTally}
use Rattle.rules.specs.declared.Standing.{Standing}
use Rattle.rules.specs.declared.Standing.TheVariants.{Settled, Sound, Neither}
use Rattle.judge.specs.declared.Remainder.{Remainder}
use Rattle.judge.specs.declared.Remainder.TheVariants.{Spare, Receiving, Retired}
use Rattle.judge.specs.declared.Transaction.{Transaction}
use Rattle.judge.specs.declared.Transaction.TheVariants.{Open, Committed}
use Rattle.judge.specs.declared.Look.{Look}

-- one more where u is not live
abbrev pub with_unit : Bytes → ℕ → ℕ
with_unit u others = cond (is_live u) others (others + 1)

abbrev pub descriptors_of : ℕ → Bytes → List Descriptor
descriptors_of S u = array_of (room_of S u).n u

-- the homes of the k logical numbers from L on
unfoldable pub round_from : Geometry → Bytes → List ℕ → ℕ → ℕ → ℕ → TallyNotes → Option HomesTally
round_from g s at zero L others t = Some (record { retired = others; tally = tally_of t })
round_from g s at (suc k) L others t =
    let u = unit_at g.size s (get_or at L 0) in
    elim (is_header u) [
      | false ↦ None
      | true ↦
          elim (is_home g u (Unit.room_of g u)) [
            | false ↦ None
            | true ↦ round_from g s at k (L + 1) (with_unit u others) (tallied (descriptors_of g.size u) t)
          ]
    ]

-- the remaining unit r moves beside the home of its number
abbrev pub moving : Geometry → Bytes → List ℕ → ℕ → Bytes → Bool
moving g s at others r = ltb (word r 0) (g.units - 1) && moves others r (unit_at g.size s (get_or at (word r 0) 0))

-- no home is retired, and the remaining unit is wholly FF
abbrev pub still : ℕ → Bool → Bool
still others blank = eqb others 0 && blank

-- blank: the remaining unit r is wholly FF
abbrev pub judged : Geometry → Bytes → List ℕ → Bool → Bytes → HomesTally → Standing
judged g s at blank r x =
    cond (still x.retired blank && quiet x.tally) Settled
    (cond ((still x.retired blank && (is_first x.tally || is_second x.tally)) || (quiet x.tally && moving g s at x.retired r)) Sound Neither)

abbrev pub remainder_by : Bool → Bytes → Remainder
remainder_by blank r = cond blank Spare (cond (eqb (word r 2) receiving) Receiving Retired)

abbrev pub transaction_by : HomesTally → Option Transaction
transaction_by x = cond (is_none x.tally.opened) (cond (is_none x.tally.committed) None (Some Committed)) (Some Open)

-- nothing is shown
abbrev pub blind : Look
blind =
    record {
      standing = Neither;
      homes = replicate 64 0;
      remaining = 0;
      state = Spare;
      transaction = None;
    }

-- with the remaining unit r at hand, by the number it stands at
abbrev pub look_with : Geometry → Bytes → List ℕ → ℕ → Bytes → HomesTally → Look
look_with g s at remaining r x =
    record {
      standing = judged g s at (is_spare r) r x;
      homes = at;
      remaining = remaining;
      state = remainder_by (is_spare r) r;
      transaction = transaction_by x;
    }

-- what is shown where each logical number has one home, and all are right
unfoldable pub look_of : Geometry → Bytes → Option Look
look_of g s =
    let at = places_of g.size g.units s in
    let remaining = left_from g.size s (g.units - 1) at g.units 0 in
    let rest = unit_at g.size s remaining in
    cond (housed g.units at (g.units - 1) 0) (option_map (look_with g s at remaining rest) (round_from g s at (g.units - 1) 0 0 nothing)) None
