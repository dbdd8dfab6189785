-- One turn of the loop over a home's descriptors.
use Rattle.std.specs.Prelude.{ℕ, ◌+◌, ◌-◌, ◌≤◌, ◌<◌, ◌≡◌, drop}
use Rattle.rules.specs.Flash.{Bytes}
use Rattle.rules.specs.Unit.{Descriptor, stands, file_of}
use Rattle.unit.specs.Shapes.{descriptor_at, table}
use Rattle.unit.specs.Laws.{table_turn, table_end}
use Rattle.counts.specs.Tally.{TallyNotes, class_of, note_as, tallied}

module _ (u : Bytes) (n p : ℕ) (t : TallyNotes) where
  module _ (lt : p < n) (d : Descriptor) (e : d ≡ descriptor_at u (stands p)) where
    pub tallied_turn : tallied (table (n - p) (drop (stands p) u)) t ≡ tallied (table (n - (p + 1)) (drop (stands (p + 1)) u)) (note_as (class_of d) (file_of d) t)
    unfolding tallied
    tallied_turn = rw (table_turn u n p lt, ← e)

  module _ (le : n ≤ p) where
    pub tallied_end : tallied (table (n - p) (drop (stands p) u)) t ≡ t
    unfolding tallied
    tallied_end = rw (table_end u n p le)
