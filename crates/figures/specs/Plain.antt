-- Histories and the plain store, in figures: what a call makes of it, and what it answers by itself.
use Rattle.std.specs.Prelude.{Bool, true, false, cond, List, [], ◌∷◌, ◌++◌, map, ◌≡◌, refl, ℕ, eqb, replicate, Some, Err}
use Rattle.std.proofs.Math.Option.{Option, none, some}
use Rattle.rules.specs.Flash.{Bytes, state}
use Rattle.rules.specs.Unit.{live}
use Rattle.rules.specs.Answers.{Outcome, ended, origin}
use Rattle.rules.specs.Calls.{Call, format, mount, begin, commit, abort, write, delete, read, read_open, read_at}
use Rattle.rules.specs.Histories.{Files, Changes, Plain, MayLeave, as_made, no_files, changed, laid_down, is_format, is_content, takes_bytes, follow}
use Rattle.rules.specs.Plain.{Seen, plain_number, plain_content, plain_file, plain_after, seen, is_unchanged, is_other, plain_listing}
use Rattle.rules.specs.Text.{text}
use Rattle.rules.specs.Opened.{opened}
use Rattle.rules.specs.declared.NotDone.TheVariants.{Stopped}
use Rattle.rules.specs.declared.Rule.TheVariants.{Tightest}
use Rattle.figures.specs.Make.{small, blank_unit, unit, three}

-- Files 7 = 1 and 9, which is empty; the transaction has 8 = 2 and the deletion of 7.
abbrev files : Files
files f = cond (eqb f 7) (some (1 ∷ [])) (cond (eqb f 9) (some []) none)

abbrev changes : Changes
changes f = cond (eqb f 8) (some (some (2 ∷ []))) (cond (eqb f 7) (some none) none)

abbrev shut : Plain
shut = record { files = files; changes = none }

abbrev within : Plain
within = record { files = files; changes = some changes }

abbrev some789 : List ℕ
some789 = 7 ∷ 8 ∷ 9 ∷ []

-- The files and the changes of 7, 8 and 9; no changes where no transaction is open.
abbrev files_of : Plain → List (Option Bytes)
files_of m = map m.files some789

abbrev changes_in : Option Changes → List (Option (Option Bytes))
changes_in none = []
changes_in (some o) = map o some789

abbrev changes_of : Plain → List (Option (Option Bytes))
changes_of m = changes_in m.changes

-- A map from file numbers to contents, and over it one transaction: laid down. Slip: the files over the changes, a deletion forgotten.
pub laid_down_lem : map (laid_down changes files) (6 ∷ some789) ≡ (none ∷ none ∷ some (2 ∷ []) ∷ some [] ∷ [])
unfolding opened
laid_down_lem = refl

-- A file's change put into the transaction. Slip: of another file.
pub changed_in : map (changed 9 none changes) some789 ≡ (some none ∷ some (some (2 ∷ [])) ∷ some none ∷ [])
unfolding opened
changed_in = refl

-- A history begins with no files and no transaction. Slip: an open one.
pub begins_empty : (files_of no_files ≡ (none ∷ none ∷ none ∷ [])) × (changes_of no_files ≡ [])
unfolding opened
begins_empty = (refl, refl)

abbrev calls : List Call
calls = format 9 ∷ mount 9 ∷ begin Tightest 9 ∷ commit 9 ∷ abort 9 ∷ write Tightest 7 (3 ∷ []) 9 ∷ delete Tightest 9 9 ∷ read 7 ∷ read_open 7 ∷ read_at 0 0 ∷ []

-- A stopped call may leave what its first steps leave, and nothing else: here three units, erased. Slip: the image before it.
pub leaves_as_made : (t : Bytes) → MayLeave small (format 3) (replicate 1536 0) t → t ≡ replicate 1536 255
unfolding opened
leaves_as_made t as_made = refl

-- A history goes on by calls other than format, with contents of bytes. Slip: a format let in, 256 taken for a byte.
pub calls_of_a_history : (map is_format calls ++ (map takes_bytes calls ++ map is_content ([] ∷ (0 ∷ 255 ∷ []) ∷ (256 ∷ []) ∷ (0 ∷ 256 ∷ []) ∷ [])))
    ≡ (true ∷ false ∷ false ∷ false ∷ false ∷ false ∷ false ∷ false ∷ false ∷ false ∷ true ∷ true ∷ true ∷ true ∷ true ∷ true ∷ true ∷ true ∷ true ∷ true ∷ true ∷ true ∷ false ∷ false ∷ [])
unfolding opened
calls_of_a_history = refl

-- A write of what is no byte is no call of a history. Slip: not asked.
pub contents_of_bytes : takes_bytes (write Tightest 7 (256 ∷ []) 9) ≡ false
unfolding opened
contents_of_bytes = refl

-- ---- what a call makes of it
abbrev open_image : Bytes
open_image = three (unit 0 live (0xFFFC ∷ 512 ∷ 0 ∷ 0x3000 ∷ [])) (unit 1 live []) blank_unit

abbrev shut_image : Bytes
shut_image = three (unit 0 live []) (unit 1 live []) blank_unit

-- DONE with so many steps, and STOPPED after so many.
abbrev done_in : ℕ → Bytes → Outcome
done_in k s = ended origin 9 (state s (Some k))

abbrev stopped_in : ℕ → Bytes → Outcome
stopped_in k s = record { answer = Err (Stopped k); image = s }

abbrev followed : Outcome → List (List (Option (Option Bytes)))
followed o = map (λ (c : Call). changes_of (follow small c o within)) calls

abbrev as_before : List (Option (Option Bytes))
as_before = some none ∷ some (some (2 ∷ [])) ∷ none ∷ []

-- A DONE begin opens, a write and a delete change, commit, abort and mount end the transaction. Slip: one that does not, or a read that does.
pub done_calls : followed (done_in 2 shut_image)
    ≡ (as_before ∷ [] ∷ (none ∷ none ∷ none ∷ []) ∷ [] ∷ [] ∷ (some (some (3 ∷ [])) ∷ some (some (2 ∷ [])) ∷ none ∷ []) ∷ (some none ∷ some (some (2 ∷ [])) ∷ some none ∷ []) ∷ as_before ∷ as_before ∷ as_before ∷ [])
unfolding opened
done_calls = refl

-- A commit lays the changes down over the files, all else leaves the files. Slip: an abort or a mount that commits.
pub files_of_calls : map (λ (c : Call). files_of (follow small c (done_in 2 shut_image) within)) (begin Tightest 9 ∷ abort 9 ∷ mount 9 ∷ write Tightest 7 (3 ∷ []) 9 ∷ commit 9 ∷ [])
    ≡ ((some (1 ∷ []) ∷ none ∷ some [] ∷ []) ∷ (some (1 ∷ []) ∷ none ∷ some [] ∷ []) ∷ (some (1 ∷ []) ∷ none ∷ some [] ∷ []) ∷ (some (1 ∷ []) ∷ none ∷ some [] ∷ []) ∷ (none ∷ some (2 ∷ []) ∷ some [] ∷ []) ∷ [])
unfolding opened
files_of_calls = refl

-- A stopped call leaves the map and any open transaction as before it. Slip: a stopped write that is taken as done.
pub stopped_calls : followed (stopped_in 0 open_image)
    ≡ (as_before ∷ as_before ∷ as_before ∷ as_before ∷ as_before ∷ as_before ∷ as_before ∷ as_before ∷ as_before ∷ as_before ∷ [])
unfolding opened
stopped_calls = refl

-- ... save a commit whose commit step was made. Slip: made by its last step, or by none.
pub commit_step_made : map (λ (k : ℕ). files_of (follow small (commit 9) (stopped_in k open_image) within)) (0 ∷ 1 ∷ 2 ∷ []) ≡ ((some (1 ∷ []) ∷ none ∷ some [] ∷ []) ∷ (none ∷ some (2 ∷ []) ∷ some [] ∷ []) ∷ (none ∷ some (2 ∷ []) ∷ some [] ∷ []) ∷ [])
unfolding opened
commit_step_made = refl

-- ... and an abort or mount that made the transaction FFF0. Slip: any that made a step, or a write too.
pub transaction_ended : (map (λ (c : Call). changes_of (follow small c (stopped_in 1 shut_image) within)) (abort 9 ∷ mount 9 ∷ write Tightest 7 [] 9 ∷ begin Tightest 9 ∷ []) ++ map (λ (c : Call). changes_of (follow small c (stopped_in 1 open_image) within)) (abort 9 ∷ mount 9 ∷ []))
    ≡ ([] ∷ [] ∷ as_before ∷ as_before ∷ as_before ∷ as_before ∷ [])
unfolding opened
transaction_ended = refl

-- ---- what the plain store answers by itself
abbrev sees : Bool → Bool → Bool → Option ℕ → Bool → Seen
sees a b c f e = record { settled = a; room = b; enough = c; file = f; ended = e }

abbrev asked : List Call
asked =
    format 9 ∷ mount 9 ∷ begin Tightest 9 ∷ commit 9 ∷ abort 9 ∷ write Tightest 256 (replicate 257 0) 9 ∷ write Tightest 255 (replicate 257 0) 9 ∷ write Tightest 255 [] 9 ∷ delete Tightest 256 9 ∷ delete Tightest 7 9 ∷ delete Tightest 8 9 ∷ read 256 ∷ read 7 ∷ read 8 ∷ read 9
    ∷ read_open 256 ∷ read_open 7 ∷ read_open 8 ∷ read_open 9 ∷ read_at 0 0 ∷ []

-- With a transaction open, none, unsettled, no room, the allowance too short: in the order of the table. Slip: another order, or the other view.
pub plain_numbers : (map (plain_number within (sees true true true none false)) asked ∷ map (plain_number shut (sees true true true (some 7) false)) asked ∷ map (plain_number within (sees false false false (some 7) false)) asked
    ∷ map (plain_number within (sees true false false none false)) asked ∷ map (plain_number within (sees true true false none false)) asked ∷ [])
    ≡ ((0 ∷ 0 ∷ 8 ∷ 0 ∷ 0 ∷ 5 ∷ 6 ∷ 0 ∷ 5 ∷ 9 ∷ 0 ∷ 5 ∷ 0 ∷ 9 ∷ 0 ∷ 5 ∷ 9 ∷ 0 ∷ 0 ∷ 11 ∷ [])
    ∷ (0 ∷ 0 ∷ 0 ∷ 7 ∷ 7 ∷ 5 ∷ 6 ∷ 7 ∷ 5 ∷ 7 ∷ 7 ∷ 5 ∷ 0 ∷ 9 ∷ 0 ∷ 5 ∷ 7 ∷ 7 ∷ 7 ∷ 0 ∷ [])
    ∷ (1 ∷ 1 ∷ 4 ∷ 4 ∷ 4 ∷ 4 ∷ 4 ∷ 4 ∷ 4 ∷ 4 ∷ 4 ∷ 4 ∷ 4 ∷ 4 ∷ 4 ∷ 4 ∷ 4 ∷ 4 ∷ 4 ∷ 4 ∷ [])
    ∷ (1 ∷ 1 ∷ 8 ∷ 1 ∷ 1 ∷ 5 ∷ 6 ∷ 10 ∷ 5 ∷ 9 ∷ 10 ∷ 5 ∷ 0 ∷ 9 ∷ 0 ∷ 5 ∷ 9 ∷ 0 ∷ 0 ∷ 11 ∷ [])
    ∷ (1 ∷ 1 ∷ 8 ∷ 1 ∷ 1 ∷ 5 ∷ 6 ∷ 1 ∷ 5 ∷ 9 ∷ 1 ∷ 5 ∷ 0 ∷ 9 ∷ 0 ∷ 5 ∷ 9 ∷ 0 ∷ 0 ∷ 11 ∷ []) ∷ [])
unfolding opened
plain_numbers = refl

-- A DONE read gives the file's content in its view, all else none. Slip: the other view, or a refused read's.
pub plain_contents : (map (plain_content within (sees true true true (some 7) false)) (read 7 ∷ read 8 ∷ read_open 7 ∷ read_open 8 ∷ read_at 0 0 ∷ write Tightest 7 (3 ∷ []) 9 ∷ commit 9 ∷ []) ++ map (plain_content within (sees false true true (some 7) false)) (read 7 ∷ read_at 0 0 ∷ []))
    ≡ ((1 ∷ []) ∷ [] ∷ [] ∷ (2 ∷ []) ∷ (1 ∷ []) ∷ [] ∷ [] ∷ [] ∷ [] ∷ [])
unfolding opened
plain_contents = refl

-- A DONE handle read gives the file. Slip: a refused one too.
pub plain_files : (plain_file within (sees true true true (some 7) false) (read_at 0 0) ∷ plain_file within (sees false true true (some 7) false) (read_at 0 0) ∷ plain_file within (sees true true true none false) (read 9) ∷ []) ≡ (7 ∷ 0 ∷ 0 ∷ [])
unfolding opened
plain_files = refl

abbrev after : Seen → List (List (Option (Option Bytes)))
after x = map (λ (c : Call). changes_of (plain_after within x c)) calls

-- What it becomes: as a call makes of it where DONE, where STOPPED by whether the transaction ended, refused as before. Slip: one for another.
pub plain_afters : (after (sees true true true none false) ∷ after (sees true true false none true) ∷ after (sees true true false none false) ∷ after (sees false true true none true) ∷ [])
    ≡ ((as_before ∷ [] ∷ as_before ∷ [] ∷ [] ∷ (some (some (3 ∷ [])) ∷ some (some (2 ∷ [])) ∷ none ∷ []) ∷ (some none ∷ some (some (2 ∷ [])) ∷ some none ∷ []) ∷ as_before ∷ as_before ∷ as_before ∷ [])
    ∷ (as_before ∷ [] ∷ as_before ∷ [] ∷ [] ∷ as_before ∷ as_before ∷ as_before ∷ as_before ∷ as_before ∷ [])
    ∷ (as_before ∷ as_before ∷ as_before ∷ as_before ∷ as_before ∷ as_before ∷ as_before ∷ as_before ∷ as_before ∷ as_before ∷ [])
    ∷ (as_before ∷ [] ∷ as_before ∷ as_before ∷ as_before ∷ as_before ∷ as_before ∷ as_before ∷ as_before ∷ as_before ∷ []) ∷ [])
unfolding opened
plain_afters = refl

-- The files that it then has: a commit's changes where its step was made. Slip: an abort's.
pub plain_files_after : map (λ (c : Call). files_of (plain_after within (sees true true false none true) c)) (commit 9 ∷ abort 9 ∷ mount 9 ∷ write Tightest 7 (3 ∷ []) 9 ∷ [])
    ≡ ((none ∷ some (2 ∷ []) ∷ some [] ∷ []) ∷ (some (1 ∷ []) ∷ none ∷ some [] ∷ []) ∷ (some (1 ∷ []) ∷ none ∷ some [] ∷ []) ∷ (some (1 ∷ []) ∷ none ∷ some [] ∷ []) ∷ [])
unfolding opened
plain_files_after = refl

abbrev bit : Bool → ℕ
bit true = 1
bit false = 0

abbrev seen_file : Option ℕ → ℕ
seen_file none = 999
seen_file (some f) = f

abbrev sights : Seen → List ℕ
sights x = bit x.settled ∷ bit x.room ∷ bit x.enough ∷ seen_file x.file ∷ bit x.ended ∷ []

-- Both units full, an open transaction, file 1 current at 0:0.
abbrev full_image : Bytes
full_image = three (unit 0 live (0xFFF8 ∷ 256 ∷ 256 ∷ 0x1001 ∷ 0xFFF8 ∷ 40 ∷ 216 ∷ 0x1002 ∷ 0xFFFC ∷ 40 ∷ 0 ∷ 0x3000 ∷ [])) (unit 1 live (0xFFF8 ∷ 256 ∷ 256 ∷ 0x1003 ∷ 0xFFF8 ∷ 32 ∷ 224 ∷ 0x1004 ∷ [])) blank_unit

-- Sound alone is not settled. Slip: an unsettled image taken for settled.
pub unsettled_sights : map (λ (c : Call). sights (seen small c (three (unit 0 live (0xFFFF ∷ 0xFFFF ∷ 0xFFFF ∷ 0x1007 ∷ [])) (unit 1 live []) blank_unit))) (begin Tightest 9 ∷ mount 1 ∷ mount 0 ∷ []) ≡ ((0 ∷ 1 ∷ 1 ∷ 999 ∷ 0 ∷ []) ∷ (0 ∷ 1 ∷ 1 ∷ 999 ∷ 1 ∷ []) ∷ (0 ∷ 1 ∷ 0 ∷ 999 ∷ 1 ∷ []) ∷ [])
unfolding opened
unsettled_sights = refl

-- What of the image an answer may depend on: settled, room, enough, the handle's file, ended. Slip: one for another.
pub sights_of_an_image : (map (λ (c : Call). sights (seen small c open_image)) (write Tightest 7 [] 5 ∷ write Tightest 7 [] 4 ∷ commit 0 ∷ commit 1 ∷ abort 0 ∷ abort 1 ∷ mount 0 ∷ read_at 0 0 ∷ [])
    ++ map (λ (c : Call). sights (seen small c full_image)) (write Tightest 7 [] 9 ∷ delete Tightest 1 9 ∷ begin Tightest 9 ∷ commit 9 ∷ read_at 0 0 ∷ read_at 0 2 ∷ []))
    ≡ ((1 ∷ 1 ∷ 1 ∷ 999 ∷ 0 ∷ []) ∷ (1 ∷ 1 ∷ 0 ∷ 999 ∷ 0 ∷ []) ∷ (1 ∷ 1 ∷ 0 ∷ 999 ∷ 0 ∷ []) ∷ (1 ∷ 1 ∷ 0 ∷ 999 ∷ 1 ∷ []) ∷ (1 ∷ 1 ∷ 0 ∷ 999 ∷ 0 ∷ []) ∷ (1 ∷ 1 ∷ 1 ∷ 999 ∷ 1 ∷ []) ∷ (1 ∷ 1 ∷ 0 ∷ 999 ∷ 0 ∷ []) ∷ (1 ∷ 1 ∷ 1 ∷ 999 ∷ 0 ∷ [])
    ∷ (1 ∷ 0 ∷ 1 ∷ 999 ∷ 0 ∷ []) ∷ (1 ∷ 0 ∷ 1 ∷ 999 ∷ 0 ∷ []) ∷ (1 ∷ 0 ∷ 1 ∷ 999 ∷ 0 ∷ []) ∷ (1 ∷ 1 ∷ 1 ∷ 999 ∷ 1 ∷ []) ∷ (1 ∷ 1 ∷ 1 ∷ 1 ∷ 0 ∷ []) ∷ (1 ∷ 1 ∷ 1 ∷ 999 ∷ 0 ∷ []) ∷ [])
unfolding opened
sights_of_an_image = refl

-- A call leaves a file unchanged, save a commit of a change of it whose commit step was made. Slip: every commit, or one that made no step.
pub unchanged_files : (map (λ (f : ℕ). is_unchanged f (commit 9) (stopped_in 1 open_image) within) (7 ∷ 8 ∷ 9 ∷ []) ++ (map (λ (k : ℕ). is_unchanged 7 (commit 9) (stopped_in k open_image) within) (0 ∷ 2 ∷ [])
    ++ (map (λ (c : Call). is_unchanged 7 c (stopped_in 1 open_image) within) (write Tightest 7 [] 9 ∷ delete Tightest 7 9 ∷ abort 9 ∷ mount 9 ∷ []) ++ (is_unchanged 7 (commit 9) (stopped_in 1 open_image) shut ∷ []))))
    ≡ (false ∷ false ∷ true ∷ true ∷ false ∷ true ∷ true ∷ true ∷ true ∷ true ∷ [])
unfolding opened
unchanged_files = refl

-- A call neither writes nor deletes a file. Slip: a delete let in.
pub other_files : map (λ (c : Call). is_other 7 c (stopped_in 1 open_image) within) (write Tightest 7 [] 9 ∷ delete Tightest 7 9 ∷ write Tightest 8 [] 9 ∷ delete Tightest 8 9 ∷ commit 9 ∷ []) ≡ (false ∷ false ∷ true ∷ true ∷ true ∷ [])
unfolding opened
other_files = refl

-- The plain store's listing. Slip: its changes listed, another order.
pub plain_list_lem : (plain_listing small within (λ f. record { unit = 1; position = f }) ∷ plain_listing small no_files (λ f. origin) ∷ [])
    ≡ (text "unit=512\nunits=3\nopen=1\nfiles=2\nfile=7 length=1 at=1:7\nfile=9 length=0 at=1:9\n" ∷ text "unit=512\nunits=3\nopen=0\nfiles=0\n" ∷ [])
unfolding opened
plain_list_lem = refl
