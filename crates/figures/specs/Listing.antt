-- Document 01, "The listing program", in figures.
use Rattle.std.specs.Prelude.{true, false, List, [], ◌∷◌, ◌++◌, map, ◌≡◌, refl, ℕ, replicate, drop}
use Rattle.std.proofs.Math.Option.{Option, none, some}
use Prim.Native.String.{String}
use Rattle.rules.specs.Flash.{Bytes}
use Rattle.rules.specs.Unit.{live}
use Rattle.rules.specs.Settled.{Entry, Survey}
use Rattle.rules.specs.Text.{text, lf, decimal, behind, is_digit, Parsed, number_of, line}
use Rattle.rules.specs.Listing.{keyed, refused_line, file_line, settled_lines, listing}
use Rattle.rules.specs.Opened.{opened}
use Rattle.rules.specs.declared.NotDone.TheVariants.{BadGeometry, BadImage, Unsettled, BadHandle}
use Rattle.figures.specs.Make.{small, d, put, blank_unit, unit, three, entry}

-- A text is its characters' codes, a line feed 10. Slip: backwards, or a carriage return.
pub text_bytes : (text "a=1:9\n" ∷ (lf ∷ []) ∷ []) ≡ ((97 ∷ 61 ∷ 49 ∷ 58 ∷ 57 ∷ 10 ∷ []) ∷ (10 ∷ []) ∷ [])
unfolding opened
text_bytes = refl

-- Decimal without leading zeros. Slip: a leading zero, digits backwards, 0 as nothing, hex.
pub decimals : map decimal (0 ∷ 9 ∷ 10 ∷ 99 ∷ 100 ∷ 512 ∷ 65536 ∷ []) ≡ ((48 ∷ []) ∷ (57 ∷ []) ∷ (49 ∷ 48 ∷ []) ∷ (57 ∷ 57 ∷ []) ∷ (49 ∷ 48 ∷ 48 ∷ []) ∷ (53 ∷ 49 ∷ 50 ∷ []) ∷ (54 ∷ 53 ∷ 53 ∷ 51 ∷ 54 ∷ []) ∷ [])
unfolding opened
decimals = refl

-- What stands behind a beginning. Slip: with another beginning too.
pub beginnings : map (behind (text "unit=")) (text "unit=5" ∷ text "unit=" ∷ text "unit" ∷ text "units=5" ∷ text "Unit=5" ∷ text " unit=5" ∷ [])
    ≡ (some (text "5") ∷ some [] ∷ none ∷ none ∷ none ∷ none ∷ [])
unfolding opened
beginnings = refl

-- The digits are 0 to 9. Slip: `/` or `:` among them, 0 or 9 not.
pub digits_are : map is_digit (47 ∷ 48 ∷ 53 ∷ 57 ∷ 58 ∷ 65 ∷ []) ≡ (false ∷ true ∷ true ∷ true ∷ false ∷ false ∷ [])
unfolding opened
digits_are = refl

abbrev value : Option Parsed → List ℕ
value none = []
value (some p) = p.value ∷ p.rest

-- A number is decimal without leading zeros, ended by a line feed. Slip: leading zeros, a sign, no line feed, another character.
pub numbers_read : map (λ (s : String). value (number_of (text s))) ("512\nab" ∷ "7\n" ∷ "10\n\n" ∷ "105\n" ∷ "0512\n" ∷ "0\n" ∷ "\n" ∷ "512" ∷ "5a\n" ∷ "a5\n" ∷ " 5\n" ∷ "5 \n" ∷ "+5\n" ∷ "5\r\n" ∷ "" ∷ [])
    ≡ ((512 ∷ 97 ∷ 98 ∷ []) ∷ (7 ∷ []) ∷ (10 ∷ 10 ∷ []) ∷ (105 ∷ []) ∷ [] ∷ [] ∷ [] ∷ [] ∷ [] ∷ [] ∷ [] ∷ [] ∷ [] ∷ [] ∷ [] ∷ [])
unfolding opened
numbers_read = refl

-- A header line: its key, then a number. Slip: another key.
pub header_lines : map (λ (s : String). value (line "units=" (text s))) ("units=3\nxy" ∷ "unit=3\n" ∷ "units=03\n" ∷ "units=\n" ∷ "units 3\n" ∷ []) ≡ ((3 ∷ 120 ∷ 121 ∷ []) ∷ [] ∷ [] ∷ [] ∷ [] ∷ [])
unfolding opened
header_lines = refl

-- Key=value lines. Slip: without the line feed.
pub key_lines : (keyed "open=" 0 ∷ keyed "files=" 12 ∷ []) ≡ (text "open=0\n" ∷ text "files=12\n" ∷ [])
unfolding opened
key_lines = refl

-- A refusal prints `refused=` and its number. Slip: another number.
pub refused_lines : map refused_line (BadGeometry ∷ BadImage ∷ Unsettled ∷ BadHandle ∷ []) ≡ (text "refused=2\n" ∷ text "refused=3\n" ∷ text "refused=4\n" ∷ text "refused=11\n" ∷ [])
unfolding opened
refused_lines = refl

-- Per file its number, length and handle. Slip: two of them the other way round, a line for a file that is not there.
pub file_line_lem : (file_line 7 (some (record { at = record { unit = 1; position = 20 }; place = 0; descriptor = d 0xFFF8 400 3 0x1009; start = 9; content = [] })) ∷ file_line 7 none ∷ []) ≡ (text "file=7 length=3 at=1:20\n" ∷ [] ∷ [])
unfolding opened
file_line_lem = refl

abbrev over : List Entry → Survey
over es = record { units = []; homes = []; spare = record { base = 0; bytes = []; logical = 0; state = 0 }; entries = es }

-- Files 255, 0, 10 and 9 current, file 8 pending in an open transaction.
abbrev some_files : Survey
some_files = over (entry 0 0 16 0xFFF8 0x10FF ∷ entry 0 1 24 0xFFF8 0x1000 ∷ entry 0 2 32 0xFFFC 0x3000 ∷ entry 1 0 40 0xFFF8 0x100A ∷ entry 1 1 48 0xFFFC 0x1008 ∷ entry 1 2 56 0xFFF8 0x1009 ∷ [])

-- Unit, units, open (0 or 1), files; then per committed file, ascending. Slip: another order, files as they stand, 255 or 0 left out, pending ones counted, open always 0.
pub all_lines : settled_lines small some_files
    ≡ text "unit=512\nunits=3\nopen=1\nfiles=4\nfile=0 length=0 at=0:1\nfile=9 length=0 at=1:2\nfile=10 length=0 at=1:0\nfile=255 length=0 at=0:0\n"
unfolding opened
all_lines = refl

-- Without files: the first four lines. Slip: another order.
pub no_files_lem : settled_lines (record { size = 4096; units = 16 }) (over []) ≡ text "unit=4096\nunits=16\nopen=0\nfiles=0\n"
unfolding opened
no_files_lem = refl

-- ---- whole inputs
-- Case G's image: the old transaction, file 7 of three bytes, file 9 of none.
abbrev image : Bytes
image = three (unit 0 live (0xFFF0 ∷ 512 ∷ 0 ∷ 0x3000 ∷ 0xFFF8 ∷ 508 ∷ 3 ∷ 0x1007 ∷ 0xFFF8 ∷ 508 ∷ 0 ∷ 0x1009 ∷ [])) (unit 1 live []) blank_unit

-- Case G prints, whole. Slip: any of its bytes.
pub case_g_lem : listing (text "unit=512\nunits=3\n" ++ image) ≡ text "unit=512\nunits=3\nopen=0\nfiles=2\nfile=7 length=3 at=0:1\nfile=9 length=0 at=0:2\n"
unfolding opened
case_g_lem = refl

-- Other header lines than these are refusal 2. Slip: the lines in the other order, leading zeros, a blank, a missing line feed, one line alone.
pub other_headers : map (λ (s : String). listing (text s ++ image))
    ("" ∷ "unit=512\n" ∷ "units=3\n" ∷ "units=3\nunit=512\n" ∷ "unit=0512\nunits=3\n" ∷ "unit=512\nunits=03\n" ∷ "unit=512 \nunits=3\n" ∷ "unit=512\nunits=3" ∷ "unit=512\n\nunits=3\n" ∷ "Unit=512\nunits=3\n" ∷ "unit=512\nunits=3\n\n" ∷ [])
    ≡ map text ("refused=2\n" ∷ "refused=2\n" ∷ "refused=2\n" ∷ "refused=2\n" ∷ "refused=2\n" ∷ "refused=2\n" ∷ "refused=2\n" ∷ "refused=2\n" ∷ "refused=2\n" ∷ "refused=2\n" ∷ "refused=2\n" ∷ [])
unfolding opened
other_headers = refl

-- A refusal prints only `refused=` and its number: another geometry, an image too short, one that is no store, one that is unsettled. Slip: lines before it, another number, or none.
pub refusals_printed : (listing (text "unit=512\nunits=4\n" ++ image) ∷ listing (text "unit=513\nunits=3\n" ++ image) ∷ listing (text "unit=512\nunits=3\n" ++ drop 1 image) ∷ listing (text "unit=512\nunits=3\n" ++ replicate 1536 0)
    ∷ listing (text "unit=512\nunits=3\n" ++ put 40 (0xFF ∷ 0xFF ∷ 0xFF ∷ 0xFF ∷ 0xFF ∷ 0xFF ∷ 7 ∷ 0x10 ∷ []) image) ∷ [])
    ≡ map text ("refused=2\n" ∷ "refused=2\n" ∷ "refused=2\n" ∷ "refused=3\n" ∷ "refused=4\n" ∷ [])
unfolding opened
refusals_printed = refl
