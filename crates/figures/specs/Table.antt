-- Rows on the read table: its entries, how it is filled, mended and marked, the calls through it and the read.
use Rattle.std.specs.Prelude.{true, false, List, [], ◌∷◌, ◌++◌, map, ◌≡◌, refl, ℕ, get_or, length, replicate, take, Err}
use Rattle.std.proofs.Math.Option.{Option, none, some}
use Rattle.rules.specs.Opened.{opened}
use Rattle.rules.specs.Flash.{Bytes}
use Rattle.rules.specs.Unit.{live}
use Rattle.rules.specs.Settled.{Entry, Home}
use Rattle.rules.specs.Sound.{home_at}
use Rattle.rules.specs.Answers.{Plan, carry_out, content, from_number, given, job_of, number, refuses, Answer}
use Rattle.rules.specs.Calls.{Call, format, mount, begin, commit, abort, write, delete, read, read_open, read_at}
use Rattle.rules.specs.declared.Rule.TheVariants.{Tightest}
use Rattle.rules.specs.Table.{Table, TableOutcome, no_file, a_file, entry_of, mark, says_none, says_file, is_usable, entries_from, fresh, mended, fills, mends, table_done, table_after, without_table, with_table, of_length, plan_through, through, fill_through, bears_out, shown_by, said_of, showing_or, judged, plan_read, read_through}
use Rattle.rules.specs.declared.NotDone.TheVariants.{Stopped, BadImage, NoRoom, StaleTable}
use Rattle.rules.specs.declared.TableEntry.{TableEntry}
use Rattle.figures.specs.Make.{blank_unit, d, entry, fields, home, look, plenty, small, three, unit}

abbrev cell : ℕ → ℕ → ℕ → ℕ → TableEntry
cell x u p m = record { state = x; unit = u; position = p; len = m }

abbrev cells : TableEntry → List ℕ
cells x = x.state ∷ x.unit ∷ x.position ∷ x.len ∷ []

-- The entries of these files.
abbrev at : List ℕ → Table → List (List ℕ)
at fs t = map (λ (f : ℕ). cells (get_or t f (cell 9 9 9 9))) fs

-- A usable table of n entries, each of another file, and the same with its first entry marked.
abbrev some256 : ℕ → Table
some256 n = replicate n (cell 2 1 5 6)

abbrev marked : Table
marked = cell 0 0 0 0 ∷ replicate 255 (cell 2 1 5 6)

-- Settled: unit 0 has file 3, which is empty; unit 1 the open transaction, file 7 = 61 62 63 current, file 9 pending.
abbrev whole : Bytes
whole = three (unit 0 live (0xFFF8 ∷ 512 ∷ 0 ∷ 0x1003 ∷ [])) home blank_unit

-- Sound and not settled: one descriptor is torn. Not sound: two units are logical number 0.
abbrev torn : Bytes
torn = three (unit 0 live (0xFFFF ∷ 0xFFFF ∷ 0xFFFF ∷ 0x1003 ∷ [])) (unit 1 live []) blank_unit

abbrev twice : Bytes
twice = three (unit 0 live []) (unit 0 live []) blank_unit

-- Settled and with no file.
abbrev bare : Bytes
bare = three (unit 0 live []) (unit 1 live []) blank_unit

-- Per file, presence, handle and length: state 1 no file, 2 a file, also an empty one; 0 neither. Slip: an empty file is left out, 0 is no file.
pub table_entries : map cells (no_file ∷ a_file (record { at = record { unit = 1; position = 2 }; place = 40; descriptor = d 0xFFF8 20 3 0x1007; start = 532; content = [] }) ∷ entry_of none ∷ entry_of (some (entry 0 3 40 0xFFF8 0x1007)) ∷ mark ∷ [])
    ≡ ((1 ∷ 0 ∷ 0 ∷ 0 ∷ []) ∷ (2 ∷ 1 ∷ 2 ∷ 3 ∷ []) ∷ (1 ∷ 0 ∷ 0 ∷ 0 ∷ []) ∷ (2 ∷ 0 ∷ 3 ∷ 0 ∷ []) ∷ (0 ∷ 0 ∷ 0 ∷ 0 ∷ []) ∷ [])
unfolding opened
table_entries = refl

-- Which states say no file, and a file. Slip: another state does.
pub entry_says : (map says_none (cell 0 0 0 0 ∷ cell 1 0 0 0 ∷ cell 2 0 0 0 ∷ cell 3 0 0 0 ∷ cell 255 0 0 0 ∷ []) ∷ map says_file (cell 0 0 0 0 ∷ cell 1 0 0 0 ∷ cell 2 0 0 0 ∷ cell 3 0 0 0 ∷ cell 255 0 0 0 ∷ []) ∷ [])
    ≡ ((false ∷ true ∷ false ∷ false ∷ false ∷ []) ∷ (false ∷ false ∷ true ∷ false ∷ false ∷ []) ∷ [])
unfolding opened
entry_says = refl

-- Marked in its first entry. Slip: in the last one, a zero state is usable.
pub usable_tables : map is_usable ([] ∷ (cell 0 0 0 0 ∷ no_file ∷ []) ∷ (cell 1 0 0 0 ∷ mark ∷ []) ∷ (cell 2 1 1 1 ∷ mark ∷ []) ∷ (cell 3 0 0 0 ∷ no_file ∷ []) ∷ (cell 255 255 0 0 ∷ no_file ∷ []) ∷ [])
    ≡ (false ∷ false ∷ true ∷ true ∷ false ∷ false ∷ [])
unfolding opened
usable_tables = refl

-- Filled: the committed view of files 0 to 255, an empty file too. Slip: what is pending, one file less or more.
pub filled_afresh : at (2 ∷ 3 ∷ 7 ∷ 9 ∷ 255 ∷ 256 ∷ []) (fresh small whole)
    ≡ ((1 ∷ 0 ∷ 0 ∷ 0 ∷ []) ∷ (2 ∷ 0 ∷ 0 ∷ 0 ∷ []) ∷ (2 ∷ 1 ∷ 2 ∷ 3 ∷ []) ∷ (1 ∷ 0 ∷ 0 ∷ 0 ∷ []) ∷ (1 ∷ 0 ∷ 0 ∷ 0 ∷ []) ∷ (9 ∷ 9 ∷ 9 ∷ 9 ∷ []) ∷ [])
unfolding opened
filled_afresh = refl

-- From a file on, so many. Slip: always from file 0.
pub entries_from_lem : map cells (entries_from 2 6 (look whole)) ≡ ((1 ∷ 0 ∷ 0 ∷ 0 ∷ []) ∷ (2 ∷ 1 ∷ 2 ∷ 3 ∷ []) ∷ [])
unfolding opened
entries_from_lem = refl

-- Commit mends the entries of the pending descriptors alone: file 7 written, 9 deleted. Slip: a deleted file's entry stays, all others go.
pub mended_entries : at (6 ∷ 7 ∷ 8 ∷ 9 ∷ []) (mended (record { at = record { unit = 1; position = 4 }; place = 560; descriptor = d 0xFFFC 400 5 0x1007; start = 912; content = [] } ∷ entry 0 3 40 0xFFFC 0x2009 ∷ []) (some256 10))
    ≡ ((2 ∷ 1 ∷ 5 ∷ 6 ∷ []) ∷ (2 ∷ 1 ∷ 4 ∷ 5 ∷ []) ∷ (2 ∷ 1 ∷ 5 ∷ 6 ∷ []) ∷ (1 ∷ 0 ∷ 0 ∷ 0 ∷ []) ∷ [])
unfolding opened
mended_entries = refl

abbrev calls : List Call
calls = format 1 ∷ mount 1 ∷ begin Tightest 1 ∷ commit 1 ∷ abort 1 ∷ write Tightest 7 [] 1 ∷ delete Tightest 7 1 ∷ read 7 ∷ read_open 7 ∷ read_at 0 0 ∷ []

-- Mount and format fill, commit mends. Slip: another call.
pub who_fills : (map fills calls ∷ map mends calls ∷ [])
    ≡ ((true ∷ true ∷ false ∷ false ∷ false ∷ false ∷ false ∷ false ∷ false ∷ false ∷ []) ∷ (false ∷ false ∷ false ∷ true ∷ false ∷ false ∷ false ∷ false ∷ false ∷ false ∷ []) ∷ [])
unfolding opened
who_fills = refl

-- A finished mount fills from the image afterwards, a commit mends from the image before; a begin leaves it. Slip: the other image.
pub table_when_done : map (at (3 ∷ 7 ∷ 9 ∷ [])) (table_done small (mount 1) bare whole (some256 256) ∷ table_done small (commit 1) whole bare (some256 256) ∷ table_done small (begin Tightest 1) whole bare (some256 256) ∷ [])
    ≡ (((2 ∷ 0 ∷ 0 ∷ 0 ∷ []) ∷ (2 ∷ 1 ∷ 2 ∷ 3 ∷ []) ∷ (1 ∷ 0 ∷ 0 ∷ 0 ∷ []) ∷ [])
    ∷ ((2 ∷ 1 ∷ 5 ∷ 6 ∷ []) ∷ (2 ∷ 1 ∷ 5 ∷ 6 ∷ []) ∷ (2 ∷ 1 ∷ 3 ∷ 2 ∷ []) ∷ [])
    ∷ ((2 ∷ 1 ∷ 5 ∷ 6 ∷ []) ∷ (2 ∷ 1 ∷ 5 ∷ 6 ∷ []) ∷ (2 ∷ 1 ∷ 5 ∷ 6 ∷ []) ∷ []) ∷ [])
unfolding opened
table_when_done = refl

-- A stop marks the first entry, also with 0 steps; a refusal marks nothing. Slip: a stop at 0 does not, the last entry, a refusal does.
pub table_after_answers : map (λ (a : Answer). map (λ (x : TableEntry). x.state) (table_after a (no_file ∷ no_file ∷ []) (cell 2 0 1 2 ∷ cell 2 0 3 4 ∷ []))) ((carry_out (plan_through small bare (some256 256) (mount 5)) 5 bare).answer ∷ Err (Stopped 0) ∷ Err (Stopped 4) ∷ Err BadImage ∷ Err NoRoom ∷ Err StaleTable ∷ [])
    ≡ ((1 ∷ 1 ∷ []) ∷ (0 ∷ 2 ∷ []) ∷ (0 ∷ 2 ∷ []) ∷ (2 ∷ 2 ∷ []) ∷ (2 ∷ 2 ∷ []) ∷ (2 ∷ 2 ∷ []) ∷ [])
unfolding opened
table_after_answers = refl

abbrev says : TableOutcome → List ℕ
says o = number o.answer ∷ (given o.answer).steps ∷ length o.table ∷ (get_or o.table 0 mark).state ∷ []

-- 2 for a table of other length, of every call. Slip: one entry less or more.
pub table_lengths : map says (through small bare (some256 255) (begin Tightest plenty) ∷ through small bare (some256 257) (mount plenty) ∷ fill_through small bare (some256 255) ∷ read_through small bare (some256 257) 7 ∷ read_through small bare [] 7 ∷ through small bare (some256 256) (begin Tightest plenty) ∷ [])
    ≡ ((2 ∷ 0 ∷ 255 ∷ 2 ∷ []) ∷ (2 ∷ 0 ∷ 257 ∷ 2 ∷ []) ∷ (2 ∷ 0 ∷ 255 ∷ 2 ∷ []) ∷ (2 ∷ 0 ∷ 257 ∷ 2 ∷ []) ∷ (2 ∷ 0 ∷ 0 ∷ 0 ∷ []) ∷ (0 ∷ 5 ∷ 256 ∷ 2 ∷ []) ∷ [])
unfolding opened
table_lengths = refl

-- 12 after 3 and 4, before 7 and 5: a commit with none open, a write of file 256, through a marked table and a usable one. Slip: 12 before 4.
pub stale_order : map (λ (o : TableOutcome). number o.answer)
    (through small twice marked (commit 9) ∷ through small torn marked (commit 9) ∷ through small bare marked (commit 9) ∷ through small bare marked (write Tightest 256 [] 9)
    ∷ through small twice (some256 256) (commit 9) ∷ through small torn (some256 256) (commit 9) ∷ through small bare (some256 256) (commit 9) ∷ through small bare (some256 256) (write Tightest 256 [] 9) ∷ [])
    ≡ (3 ∷ 4 ∷ 12 ∷ 12 ∷ 3 ∷ 4 ∷ 7 ∷ 5 ∷ [])
unfolding opened
stale_order = refl

-- Begin, write, delete, commit and abort are refused by an unusable table; mount, format and fill are not. Slip: begin takes it.
pub stale_calls : map says (map (λ (c : Call). through small whole marked c) (begin Tightest plenty ∷ write Tightest 7 [] plenty ∷ delete Tightest 7 plenty ∷ commit plenty ∷ abort plenty ∷ []))
    ≡ ((12 ∷ 0 ∷ 256 ∷ 0 ∷ []) ∷ (12 ∷ 0 ∷ 256 ∷ 0 ∷ []) ∷ (12 ∷ 0 ∷ 256 ∷ 0 ∷ []) ∷ (12 ∷ 0 ∷ 256 ∷ 0 ∷ []) ∷ (12 ∷ 0 ∷ 256 ∷ 0 ∷ []) ∷ [])
unfolding opened
stale_calls = refl

-- A mount that has nothing to do fills, with 0 steps; a format fills; a stopped one marks. Slip: a mount with 0 steps does not fill.
pub mounts_fill : map says (through small bare marked (mount 0) ∷ through small bare marked (format plenty) ∷ through small whole (some256 256) (mount 0) ∷ [])
    ≡ ((0 ∷ 0 ∷ 256 ∷ 1 ∷ []) ∷ (0 ∷ 6 ∷ 256 ∷ 1 ∷ []) ∷ (1 ∷ 0 ∷ 256 ∷ 0 ∷ []) ∷ [])
unfolding opened
mounts_fill = refl

-- Fill: 0, 3, 4; on an unsettled image the table stays. Slip: 12, or a fill of an unsettled image.
pub fill_answers : map says (fill_through small whole marked ∷ fill_through small twice (some256 256) ∷ fill_through small torn marked ∷ [])
    ≡ ((0 ∷ 0 ∷ 256 ∷ 1 ∷ []) ∷ (3 ∷ 0 ∷ 256 ∷ 2 ∷ []) ∷ (4 ∷ 0 ∷ 256 ∷ 0 ∷ []) ∷ [])
unfolding opened
fill_answers = refl

-- What is answered beside the table is the plain outcome. Slip: another image.
pub without_the_table : (length (without_table (through small bare marked (mount 0))).image ∷ length (with_table (carry_out (refuses NoRoom) 5 (1 ∷ 2 ∷ [])) [] (some256 3)).image ∷ length (job_of (of_length (some256 256) (plan_through small bare marked (mount 0)))) ∷ []) ≡ (1536 ∷ 2 ∷ 0 ∷ [])
unfolding opened
without_the_table = refl

abbrev unit1 : Home
unit1 = home_at (look whole).homes 1

-- A descriptor bears an entry out: current, data, of that file, of that length, and its sector lies: even, above 16 + 8n, inside. Slip: any of these is not asked.
pub borne_out : map (bears_out small unit1 (cell 2 1 2 3) 7) (d 0xFFF8 500 3 0x1007 ∷ d 0xFFFC 500 3 0x1007 ∷ d 0xFFF8 500 3 0x2007 ∷ d 0xFFF8 500 3 0x1008 ∷ d 0xFFF8 500 2 0x1007 ∷ d 0xFFF8 501 3 0x1007 ∷ d 0xFFF8 48 3 0x1007 ∷ d 0xFFF8 46 3 0x1007 ∷ d 0xFFF8 508 3 0x1007 ∷ d 0xFFF8 510 3 0x1007 ∷ [])
    ≡ (true ∷ false ∷ false ∷ false ∷ false ∷ false ∷ true ∷ false ∷ true ∷ false ∷ [])
unfolding opened
borne_out = refl

-- Of an empty file: a delete mark has length 0 too, and bears nothing out. Slip: it does.
pub no_mark_bears_out : map (bears_out small unit1 (cell 2 1 2 0) 7) (d 0xFFF8 500 0 0x1007 ∷ d 0xFFF8 500 0 0x2007 ∷ d 0xFFF8 512 0 0x1007 ∷ d 0xFFF8 514 0 0x1007 ∷ []) ≡ (true ∷ false ∷ true ∷ false ∷ [])
unfolding opened
no_mark_bears_out = refl

abbrev start : Option Entry → List ℕ
start none = []
start (some e) = e.at.unit ∷ e.at.position ∷ e.start ∷ []

-- What an entry shows: file 7 at 1:2; not at another unit, a unit over U-2, another position, one not below n, for another file, of another length or state. Slip: any of these.
pub shown_by_entries : map start (shown_by small (look whole) (cell 2 1 2 3) 7 ∷ shown_by small (look whole) (cell 2 0 2 3) 7 ∷ shown_by small (look whole) (cell 2 2 2 3) 7 ∷ shown_by small (look whole) (cell 2 1 3 3) 7 ∷ shown_by small (look whole) (cell 2 1 4 3) 7 ∷ shown_by small (look whole) (cell 2 1 2 3) 8
    ∷ shown_by small (look whole) (cell 2 1 2 4) 7 ∷ shown_by small (look whole) (cell 1 1 2 3) 7 ∷ shown_by small (look whole) (cell 3 1 2 3) 7 ∷ [])
    ≡ ((1 ∷ 2 ∷ 1012 ∷ []) ∷ [] ∷ [] ∷ [] ∷ [] ∷ [] ∷ [] ∷ [] ∷ [] ∷ [])
unfolding opened
shown_by_entries = refl

-- A usable table says something of files 0 to 255. Slip: of 256, of an unusable one.
pub said_of_files : map cells (said_of (some256 257) 255 ∷ said_of (some256 257) 256 ∷ said_of marked 255 ∷ []) ≡ ((2 ∷ 1 ∷ 5 ∷ 6 ∷ []) ∷ (0 ∷ 0 ∷ 0 ∷ 0 ∷ []) ∷ (0 ∷ 0 ∷ 0 ∷ 0 ∷ []) ∷ [])
unfolding opened
said_of_files = refl

abbrev numbered : Plan → ℕ
numbered p = number (carry_out p 0 []).answer

-- Where the table gives no answer: 3, 4, 12 of an unusable table, 5, and 12 of an entry that is contradicted. Slip: 12 first, 5 before 12.
pub judged_order : (numbered (judged small twice marked 256) ∷ numbered (judged small torn marked 256) ∷ numbered (judged small whole marked 256) ∷ numbered (judged small whole (some256 256) 256) ∷ numbered (judged small whole (some256 256) 7) ∷ numbered (showing_or (refuses NoRoom) none) ∷ numbered (plan_read small whole (some256 256) 7) ∷ [])
    ≡ (3 ∷ 4 ∷ 12 ∷ 5 ∷ 12 ∷ 10 ∷ 12 ∷ [])
unfolding opened
judged_order = refl

abbrev read7 : Bytes → ℕ → List ℕ
read7 s f = let o = read_through small s (fresh small whole) f in number o.answer ∷ (fields (given o.answer) ++ content (without_table o))

-- A read through the table: file 7, the empty file 3, a file that is not there, file 256. Slip: an empty file is absent, the start of an empty content.
pub reads_through : map (read7 whole) (7 ∷ 3 ∷ 8 ∷ 255 ∷ 256 ∷ [])
    ≡ ((0 ∷ 0 ∷ 1 ∷ 2 ∷ 0 ∷ 1012 ∷ 3 ∷ 0x61 ∷ 0x62 ∷ 0x63 ∷ []) ∷ (0 ∷ 0 ∷ 0 ∷ 0 ∷ 0 ∷ 0 ∷ 0 ∷ []) ∷ (9 ∷ 0 ∷ 0 ∷ 0 ∷ 0 ∷ 0 ∷ 0 ∷ []) ∷ (9 ∷ 0 ∷ 0 ∷ 0 ∷ 0 ∷ 0 ∷ 0 ∷ []) ∷ (5 ∷ 0 ∷ 0 ∷ 0 ∷ 0 ∷ 0 ∷ 0 ∷ []) ∷ [])
unfolding opened
reads_through = refl

-- Beside another image: 12 where it is settled and contradicts the entry, 4 and 3 where it is not. Slip: a stale entry is shown.
pub reads_elsewhere : map (λ (s : Bytes). number (read_through small s (fresh small whole) 7).answer) (bare ∷ torn ∷ twice ∷ []) ≡ (12 ∷ 4 ∷ 3 ∷ [])
unfolding opened
reads_elsewhere = refl

-- 2 where the image is of another length, whatever the table says. Slip: the table's word comes first.
pub read_geometries : map (λ (n : ℕ). number (read_through small (take n (whole ++ (255 ∷ []))) (fresh small whole) 8).answer) (1535 ∷ 1536 ∷ 1537 ∷ []) ≡ (2 ∷ 9 ∷ 2 ∷ [])
unfolding opened
read_geometries = refl

-- A read through the table does not say where it came from: it is of the committed view. Slip: committed before.
pub reads_say_nothing : map (λ (f : ℕ). from_number (given (read_through small whole (fresh small whole) f).answer).from) (7 ∷ 8 ∷ []) ≡ (0 ∷ 0 ∷ [])
unfolding opened
reads_say_nothing = refl
