-- What an entry shows of a unit, in the code's shape.
use Rattle.std.specs.Prelude.{Bool, true, not, cond, ◌&&◌, ◌||◌, Option, Some, None, ℕ, zero, suc, ◌+◌, length, drop, leb, eqb}
use Rattle.rules.specs.Flash.{Bytes}
use Rattle.rules.specs.Unit.{Descriptor, descriptor, header_bytes, descriptor_bytes, stands, is_current, is_data, file_of, has_sector, lies}
use Rattle.rules.specs.declared.Geometry.{Geometry}
use Rattle.rules.specs.declared.Handle.{Handle}
use Rattle.rules.specs.declared.TableEntry.{TableEntry}
use Rattle.rules.specs.declared.Given.{Given}
use Rattle.rules.specs.declared.Origin.TheVariants.{NotSaid}
use Rattle.unit.specs.Shapes.{descriptor_at}

-- current data of file f of length l, whose sector lies from floor up
unfoldable pub bears_by : Geometry → Descriptor → ℕ → ℕ → ℕ → Bool
bears_by g d floor l f = is_current d && is_data d && eqb (file_of d) f && eqb d.len l && lies g floor d

unfoldable pub given_by : Descriptor → ℕ → Handle → Given
given_by d base at = record { steps = 0; at = at; file = 0; start = cond (eqb d.len 0) 0 (base + d.offset); len = d.len; from = NotSaid }

-- it has no sector that begins below floor
unfoldable pub is_over : Descriptor → ℕ → Bool
is_over d floor = leb floor d.offset || not (has_sector d)

-- nor has any of the next k descriptors
unfoldable pub all_over : ℕ → Bytes → ℕ → Bool
all_over zero r floor = true
all_over (suc k) r floor = is_over (descriptor r) floor && all_over k (drop descriptor_bytes r) floor

-- by the positions before the entry's: `Reached.antt` has the law that it is below n so
unfoldable pub shown_in : Geometry → ℕ → Bytes → TableEntry → ℕ → Option Given
shown_in g base u x f =
    let p = x.position in
    let d = descriptor_at u (stands p) in
    let floor = stands (p + 1) in
    cond (leb floor (length u) && bears_by g d floor x.len f && all_over p (drop header_bytes u) floor)
    (Some (given_by d base (record { unit = x.unit; position = p })))
    None
