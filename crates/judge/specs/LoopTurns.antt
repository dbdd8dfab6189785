-- One turn of the round.
use Rattle.std.specs.Prelude.{ℕ, suc, ◌+◌, ◌-◌, ◌≤◌, ◌<◌, ◌≡◌, Some, None, List, length, get_or}
use native.Mathlib.Omega.{arith}
use Rattle.std.proofs.Math.Bool.{true, false}
use Rattle.rules.specs.Flash.{Bytes}
use Rattle.rules.specs.Unit
use Rattle.rules.specs.Unit.{is_header, is_home}
use Rattle.rules.specs.declared.Geometry.{Geometry}
use Rattle.laws.specs.Units.{RightGeometry}
use Rattle.unit.specs.declared.Room.{Room}
use Rattle.unit.specs.Shapes.{room_of, Read}
use Rattle.counts.specs.Tally.{TallyNotes, tallied, tally_of}
use Rattle.home_table.specs.Units.{unit_at}
use Rattle.judge.specs.Round.{with_unit, descriptors_of, round_from}

-- what is read of a lent unit
pub read : (g : Geometry) (s : Bytes) → RightGeometry g s → (u : Bytes) → length u ≡ g.size → (r : Room) → r ≡ room_of (length u) u → Read g u r
read g s o u l r e = record { whole = l; large = omega (arith, o.large); small = o.small; room = rw l at e }

module _ (g : Geometry) (s : Bytes) (at : List ℕ) (n L others : ℕ) (t : TallyNotes) where
  module _ (lt : L < n) (u : Bytes) (eu : u ≡ unit_at g.size s (get_or at L 0)) where
    one_left : n - L ≡ suc (n - (L + 1))
    one_left = omega arith

    pub round_headless : is_header u ≡ false → round_from g s at (n - L) L others t ≡ None
    unfolding round_from
    round_headless e =
        let f : is_header (unit_at g.size s (get_or at L 0)) ≡ false = rw eu at e in
        rw one_left (rw (f, round_from))

    pub round_fault : is_header u ≡ true → is_home g u (Unit.room_of g u) ≡ false → round_from g s at (n - L) L others t ≡ None
    unfolding round_from
    round_fault d e =
        let h : is_header (unit_at g.size s (get_or at L 0)) ≡ true = rw eu at d in
        let f : is_home g (unit_at g.size s (get_or at L 0)) (Unit.room_of g (unit_at g.size s (get_or at L 0))) ≡ false = rw eu at e in
        rw one_left (rw (h, f, round_from))

    pub round_turn : is_header u ≡ true → is_home g u (Unit.room_of g u) ≡ true
        → round_from g s at (n - L) L others t
        ≡ round_from g s at (n - (L + 1)) (L + 1) (with_unit u others) (tallied (descriptors_of g.size u) t)
    unfolding round_from
    round_turn d e =
        let h : is_header (unit_at g.size s (get_or at L 0)) ≡ true = rw eu at d in
        let f : is_home g (unit_at g.size s (get_or at L 0)) (Unit.room_of g (unit_at g.size s (get_or at L 0))) ≡ true = rw eu at e in
        rw one_left (rw (h, f, round_from) (rw eu))

  pub round_end : n ≤ L → round_from g s at (n - L) L others t ≡ Some (record { retired = others; tally = tally_of t })
  unfolding round_from
  round_end le =
      let e : n - L ≡ 0 = omega arith in
      rw e
