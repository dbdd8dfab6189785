-- What the two programs print for a whole standard input.
use Rattle.std.specs.Prelude.{Ok, Err, cond, ◌++◌, map, ℕ, ◌*◌, ltb, length}
use Rattle.std.proofs.Math.Option.{Option, none, some}
use Rattle.rules.specs.Flash.{Bytes, is_geometry}
use Rattle.rules.specs.Text.{Parsed, line}
use Rattle.rules.specs.Listing.{keyed}
use Rattle.rules.specs.declared.Geometry.{Geometry}
use Rattle.hex_lines.specs.Faults.{number}
use Rattle.hex_lines.specs.Reads.{Reading, read_text, or_erased}
use Rattle.hex_lines.specs.Writes.{hex_text}

-- A refusal prints only `refused=` and its number.
unfoldable pub refusal : ℕ → Bytes
refusal k = keyed "refused=" k

-- The listing program's two header lines, then f of the geometry and of what follows; other header lines than these are refusal 2.
unfoldable pub headed_as : (Geometry → Bytes → Bytes) → ℕ → Option Parsed → Bytes
headed_as f size none = refusal 2
headed_as f size (some p) = f (record { size = size; units = p.value }) p.rest

unfoldable pub headed_with : (Geometry → Bytes → Bytes) → Option Parsed → Bytes
headed_with f none = refusal 2
headed_with f (some p) = headed_as f p.value (line "units=" p.rest)

unfoldable pub headed : (Geometry → Bytes → Bytes) → Bytes → Bytes
headed f s = headed_with f (line "unit=" s)

-- `to_hex`: the HEX text of the image that follows.
unfoldable pub as_text : Geometry → Bytes → Bytes
as_text g s = cond (is_geometry g (length s)) (hex_text s) (refusal 2)

-- The longest input that is no refusal has 65,555 bytes.
unfoldable pub to_hex : Bytes → Bytes
to_hex s = cond (ltb 65555 (length s)) (refusal 2) (headed as_text s)

-- `from_hex`: the two lines again and the image that the HEX text names, or its refusal.
unfoldable pub as_image : Geometry → Reading → Bytes
as_image g (Err e) = refusal (number e)
as_image g (Ok cs) = keyed "unit=" g.size ++ (keyed "units=" g.units ++ map or_erased cs)

unfoldable pub from_text : Geometry → Bytes → Bytes
from_text g t = cond (is_geometry g (g.units * g.size)) (as_image g (read_text t (g.units * g.size))) (refusal 2)

-- More than 196,608 bytes of input are refusal 2.
unfoldable pub from_hex : Bytes → Bytes
from_hex s = cond (ltb 196608 (length s)) (refusal 2) (headed from_text s)
