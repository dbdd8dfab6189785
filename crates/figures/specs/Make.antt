-- Units and images made by hand, of S = 512 and U = 3, for the rows.
use Rattle.std.specs.Prelude.{Bool, List, [], ◌∷◌, ◌++◌, ℕ, ◌+◌, ◌/◌, ◌%◌, length, replicate, take, drop}
use Rattle.rules.specs.Flash.{Bytes}
use Rattle.rules.specs.Unit.{Descriptor, receiving, live}
use Rattle.rules.specs.Settled.{Entry, Survey, Counts, survey}
use Rattle.rules.specs.Sound.{standing}
use Rattle.rules.specs.declared.Geometry.{Geometry}
use Rattle.rules.specs.declared.Given.{Given}
use Rattle.rules.specs.declared.Standing.{Standing}
use Rattle.rules.specs.declared.Standing.TheVariants.{Settled, Sound, Neither}

abbrev pub small : Geometry
small = record { size = 512; units = 3 }

abbrev pub d : ℕ → ℕ → ℕ → ℕ → Descriptor
d f o l t = record { flags = f; offset = o; len = l; tag = t }

abbrev pub bytes_of : List ℕ → Bytes
bytes_of [] = []
bytes_of (w ∷ ws) = w % 256 ∷ (w / 256 ∷ bytes_of ws)

-- The bytes s with x in the place of those from a on.
abbrev pub put : ℕ → Bytes → Bytes → Bytes
put a x s = take a s ++ (x ++ drop (a + length x) s)

abbrev pub blank_unit : Bytes
blank_unit = replicate 512 255

-- A unit from its logical number, its state and the words of its descriptors; all else is FF.
abbrev pub unit : ℕ → ℕ → List ℕ → Bytes
unit L state ds = put 0 (bytes_of (L ∷ state ∷ [])) (put 16 (bytes_of ds) blank_unit)

-- Three units one after the other.
abbrev pub three : Bytes → Bytes → Bytes → Bytes
three a b c = a ++ (b ++ c)

abbrev pub look : Bytes → Survey
look s = survey small s

-- Settled 0, sound 1, neither 2.
abbrev pub degree : Standing → ℕ
degree Settled = 0
degree Sound = 1
degree Neither = 2

abbrev pub stand : Bytes → ℕ
stand s = degree (standing small (look s))

-- An entry at a logical unit and a position, its descriptor at a place of the image, its sector empty.
abbrev pub entry : ℕ → ℕ → ℕ → ℕ → ℕ → Entry
entry L p place flags tag = record { at = record { unit = L; position = p }; place = place; descriptor = d flags 500 0 tag; start = 500; content = [] }

-- Counts: unfinished, committed, open, pending, pairs of pending ones, and whether what is current is as it must be.
abbrev pub tally : ℕ → ℕ → ℕ → ℕ → ℕ → Bool → Counts
tally u c o p q k = record { unfinished = u; committed = c; opened = o; pending = p; pending_pairs = q; current_ok = k }

-- Old file 1, the open transaction, file 7 = 61 62 63 at 500 with an odd tail that is not FF, and file 9 = 64 65 at 498.
abbrev pub home : Bytes
home = put 498 (0x64 ∷ 0x65 ∷ 0x61 ∷ 0x62 ∷ 0x63 ∷ 0x2A ∷ [])
    (unit 1 live (0xFFF0 ∷ 504 ∷ 8 ∷ 0x1001 ∷ 0xFFFC ∷ 504 ∷ 0 ∷ 0x3000 ∷ 0xFFF8 ∷ 500 ∷ 3 ∷ 0x1007 ∷ 0xFFFC ∷ 498 ∷ 2 ∷ 0x1009 ∷ []))

-- The copy, whole and still receiving.
abbrev pub copied : Bytes
copied = put 506 (0x64 ∷ 0x65 ∷ 0x61 ∷ 0x62 ∷ 0x63 ∷ 0x2A ∷ [])
    (unit 1 receiving (0xFFFF ∷ 0xFFFF ∷ 0xFFFF ∷ 0xFFFF ∷ 0xFFFC ∷ 512 ∷ 0 ∷ 0x3000 ∷ 0xFFF8 ∷ 508 ∷ 3 ∷ 0x1007 ∷ 0xFFFC ∷ 506 ∷ 2 ∷ 0x1009 ∷ []))

-- Steps, handle, file, and where the content stands.
abbrev pub fields : Given → List ℕ
fields r = r.steps ∷ r.at.unit ∷ r.at.position ∷ r.file ∷ r.start ∷ r.len ∷ []

-- An allowance that is never used up.
abbrev pub plenty : ℕ
plenty = 100000
