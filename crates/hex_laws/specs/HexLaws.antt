-- Intel HEX: what is promised of writing and reading, for every geometry, image, text and target. A text comes to `reads g t s`, an image
-- to `writes g s b` and `hex_text s` (hex: Reads.antt, Writes.antt).
use Rattle.std.specs.Prelude.{true, false, ◌&&◌, ◌++◌, ◌⊎◌, ◌≡◌, ℕ, ◌+◌, ◌*◌, ◌/◌, ◌≤◌, ◌<◌, leb, length, get_or, drop}
use Rattle.std.proofs.Common.{◌∙◌, sym}
use Rattle.rules.specs.Flash.{Bytes, is_geometry}
use Rattle.laws.specs.Words.{AreBytes}
use Rattle.rules.specs.declared.Geometry.{Geometry}
use Rattle.hex_lines.specs.Records.{lines_of}
use Rattle.hex_lines.specs.Reads.{ReadAnswer, reads}
use Rattle.hex_lines.specs.Writes.{Output, hex_text, room_for, writes}
use Rattle.hex_laws.specs.RoundTrip as trip
use Rattle.hex_laws.specs.Named.{Names}
use Rattle.hex_laws.specs.Answers as answers
use Rattle.hex_laws.specs.Lengths.{full_rows}
use Rattle.hex_laws.specs.Lengths as lengths
use Rattle.hex_laws.specs.Alike.{upper, with_returns, no_returns}
use Rattle.hex_laws.specs.Alike as alike
use Rattle.hex_laws.specs.CaseG as case_g

-- 1. Reading what was written gives the image back, into any target of its length. Dropped: a byte might be lost between the two.
pub round_trip : (g : Geometry) (s t : Bytes) → is_geometry g (length s) ≡ true → AreBytes s → length t ≡ length s → reads g (hex_text s) t ≡ record { number = 0; image = s }
round_trip = trip.round

-- So two images with the same text are the same. Dropped: one text might stand for two images.
pub text_of_one : (g : Geometry) (s u : Bytes) → is_geometry g (length s) ≡ true → AreBytes s → AreBytes u → length u ≡ length s → hex_text s ≡ hex_text u → s ≡ u
text_of_one = answers.text_of_one

-- A write of a right geometry into a buffer with room is DONE: the text, its length, and the rest of the buffer as it was.
-- Dropped: a writer that refuses everything, or spoils what stands behind the text.
pub writes_text : (g : Geometry) (s b : Bytes) → is_geometry g (length s) ≡ true → room_for (length s) ≤ length b
    → writes g s b ≡ record { number = 0; length = length (hex_text s); buffer = hex_text s ++ drop (length (hex_text s)) b }
writes_text = answers.writes_text

-- Any other write is 2 and changes nothing. Dropped: a short buffer might be written beyond.
pub writes_two : (g : Geometry) (s b : Bytes) → is_geometry g (length s) && leb (room_for (length s)) (length b) ≡ false → writes g s b ≡ record { number = 2; length = 0; buffer = b }
writes_two = answers.writes_two

-- 2. A refused read leaves the target unchanged. Dropped: a bad file might spoil half an image.
pub refused_unchanged : (g : Geometry) (t s : Bytes) → ((reads g t s).number ≡ 0 → ⊥) → (reads g t s).image ≡ s
refused_unchanged = answers.refused_unchanged

-- 2 is given first, and exactly where the geometry is not right. Dropped: a bad file might hide a bad geometry.
pub two_first : (g : Geometry) (t s : Bytes) → (is_geometry g (length s) ≡ false → reads g t s ≡ record { number = 2; image = s }) × (is_geometry g (length s) ≡ true → (reads g t s).number ≡ 2 → ⊥)
two_first = answers.two_first

-- Otherwise the number is 0 or one of 30 to 35. Dropped: any number.
pub numbers : (g : Geometry) (t s : Bytes) → is_geometry g (length s) ≡ true → ((reads g t s).number ≡ 0) ⊎ ((30 ≤ (reads g t s).number) × ((reads g t s).number ≤ 35))
numbers = answers.numbers

-- 3. DONE: an address that a record names with x holds x ... Dropped: a record's bytes might go elsewhere.
pub done_named : (g : Geometry) (t s : Bytes) → is_geometry g (length s) ≡ true → (reads g t s).number ≡ 0 → (a x : ℕ) → Names a x (lines_of t) → get_or (reads g t s).image a 0 ≡ x
done_named = answers.done_named

-- ... and one that no record names holds FF. Dropped: what the target held might stay.
pub done_erased : (g : Geometry) (t s : Bytes) → is_geometry g (length s) ≡ true → (reads g t s).number ≡ 0 → (a : ℕ) → a < length s → ((x : ℕ) → Names a x (lines_of t) → ⊥) → get_or (reads g t s).image a 0 ≡ 255
done_erased = answers.done_erased

-- So two texts that are DONE and name the same leave the same image, whatever the order of their records, their cut and the two
-- targets. Dropped: the order of records might matter.
pub same_names : (g : Geometry) (t u s r : Bytes) → is_geometry g (length s) ≡ true → length r ≡ length s → (reads g t s).number ≡ 0 → (reads g u r).number ≡ 0
    → ((a x : ℕ) → Names a x (lines_of t) → Names a x (lines_of u)) → ((a x : ℕ) → Names a x (lines_of u) → Names a x (lines_of t)) → (reads g t s).image ≡ (reads g u r).image
same_names = answers.same_names

-- Letter case does not matter: a text in upper case comes to what the text comes to. Dropped: lower case might be refused.
pub case_alike : (g : Geometry) (t s : Bytes) → reads g (upper t) s ≡ reads g t s
case_alike = alike.case_alike

-- Line ends do not matter: with CR LF for each LF a text without CR comes to the same. Dropped: a file from another machine might be refused.
pub ends_alike : (g : Geometry) (t s : Bytes) → no_returns t ≡ true → reads g (with_returns t) s ≡ reads g t s
ends_alike = alike.ends_alike

-- 4. The text has 44 characters for each row that is not all FF, and 12; so at most 44 for each row, and 12. Dropped: rows of FF
-- might be written.
pub text_length : (g : Geometry) (s : Bytes) → is_geometry g (length s) ≡ true → (length (hex_text s) ≡ 44 * full_rows (length s / 16) s + 12) × (length (hex_text s) ≤ room_for (length s))
text_length = lengths.text_length

-- 5. One outcome for every input. Dropped: the statement might leave a choice.
pub one_read : (g : Geometry) (t s : Bytes) (x y : ReadAnswer) → x ≡ reads g t s → y ≡ reads g t s → x ≡ y
one_read g t s x y p q = p ∙ sym q

pub one_write : (g : Geometry) (s b : Bytes) (x y : Output) → x ≡ writes g s b → y ≡ writes g s b → x ≡ y
one_write g s b x y p q = p ∙ sym q

-- 6. The image of case G, as text.
pub case_g_lem : hex_text case_g.image ≡ case_g.lines
case_g_lem = case_g.written
