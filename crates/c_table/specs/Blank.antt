-- The mark, written out, and what a stop leaves.
use Rattle.std.specs.Prelude.{◌≡◌, refl, cond, ℕ, eqb, set}
use Rattle.rules.specs.Table.{Table, mark}
use Rattle.rules.specs.declared.TableEntry.{TableEntry}

abbrev pub blank : TableEntry
blank = record { state = 0; unit = 0; position = 0; len = 0 }

pub mark_is : mark ≡ blank
unfolding mark
mark_is = refl

-- A stopped call (1) marks the first entry.
abbrev pub stopped : ℕ → Table → Table
stopped k t = cond (eqb k 1) (set t 0 blank) t
