-- Document 01, "The numbers a call returns", in figures.
use Rattle.std.specs.Prelude.{true, false, List, [], ◌∷◌, map, ◌≡◌, refl, ℕ, replicate, None, Some, Err}
use Rattle.std.proofs.Math.Option.{Option, none, some}
use Rattle.rules.specs.Flash.{program, state}
use Rattle.rules.specs.Settled.{Entry, Survey}
use Rattle.rules.specs.Views.{committed_view, transaction_view, content_of}
use Rattle.rules.specs.Answers.{number, given, content, refuses, makes, shows, job_of, ended, carry_out}
use Rattle.rules.specs.Calls.{is_bad_file, is_too_long, has_none}
use Rattle.rules.specs.Opened.{opened}
use Rattle.rules.specs.declared.Handle.{Handle}
use Rattle.rules.specs.declared.Origin.TheVariants.{NotSaid}
use Rattle.rules.specs.declared.NotDone.{NotDone}
use Rattle.rules.specs.declared.NotDone.TheVariants.{Stopped, BadGeometry, BadImage, Unsettled, BadFile, TooLong, NoTransaction}
use Rattle.rules.specs.declared.NotDone.TheVariants.{Open, Absent, NoRoom, BadHandle, StaleTable}
use Rattle.figures.specs.Make.{d, entry, fields}

abbrev here : Handle
here = record { unit = 1; position = 2 }

abbrev found : Entry
found = record { at = here; place = 40; descriptor = d 0xFFF8 20 3 0x1007; start = 532; content = 1 ∷ 2 ∷ 3 ∷ [] }

abbrev refusals : List NotDone
refusals = BadGeometry ∷ BadImage ∷ Unsettled ∷ BadFile ∷ TooLong ∷ NoTransaction ∷ Open ∷ Absent NotSaid ∷ NoRoom ∷ BadHandle ∷ StaleTable ∷ []

-- The numbers. Slip: one for another.
pub numbers : (number (ended here 3 (state [] (Some 1))).answer ∷ number (Err (Stopped 4)) ∷ map (λ (a : NotDone). number (Err a)) refusals) ≡ (0 ∷ 1 ∷ 2 ∷ 3 ∷ 4 ∷ 5 ∷ 6 ∷ 7 ∷ 8 ∷ 9 ∷ 10 ∷ 11 ∷ 12 ∷ [])
unfolding opened
numbers = refl

abbrev empty : List ℕ
empty = 0 ∷ 0 ∷ 0 ∷ 0 ∷ 0 ∷ 0 ∷ []

-- Refusals 2 to 12 report 0 steps, an empty content, handle 0:0 and file 0. Slip: any of these.
pub refusals_give_nothing : map (λ (a : NotDone). fields (given (Err a))) refusals ≡ (empty ∷ empty ∷ empty ∷ empty ∷ empty ∷ empty ∷ empty ∷ empty ∷ empty ∷ empty ∷ empty ∷ [])
unfolding opened
refusals_give_nothing = refl

-- ... and no image byte changes. Slip: the image is lost.
pub refusals_change_nothing : ((carry_out (refuses NoRoom) 5 (1 ∷ 2 ∷ [])).image ∷ (carry_out (shows here 0 found NotSaid) 5 (1 ∷ 2 ∷ [])).image ∷ []) ≡ ((1 ∷ 2 ∷ []) ∷ (1 ∷ 2 ∷ []) ∷ [])
unfolding opened
refusals_change_nothing = refl

-- A stopped call reports its steps alone. Slip: its handle too.
pub stopped_gives_steps : (fields (given (Err (Stopped 4))) ∷ fields (given (ended here 4 (state [] None)).answer) ∷ []) ≡ ((4 ∷ 0 ∷ 0 ∷ 0 ∷ 0 ∷ 0 ∷ []) ∷ (4 ∷ 0 ∷ 0 ∷ 0 ∷ 0 ∷ 0 ∷ []) ∷ [])
unfolding opened
stopped_gives_steps = refl

-- A DONE write, delete or begin gives the handle of the new descriptor, and file 0. Slip: handle 0:0.
pub done_gives_the_handle : fields (given (ended here 9 (state [] (Some 2))).answer) ≡ (7 ∷ 1 ∷ 2 ∷ 0 ∷ 0 ∷ 0 ∷ [])
unfolding opened
done_gives_the_handle = refl

-- A read shows the entry's bytes where they stand; the start of an empty content is 0. Slip: rounded up, the offset in the unit.
pub shown_bytes : (fields (given (carry_out (shows here 0 found NotSaid) 5 []).answer) ∷ fields (given (carry_out (shows here 7 (entry 0 0 16 0xFFF8 0x1007) NotSaid) 5 []).answer) ∷ [])
    ≡ ((0 ∷ 1 ∷ 2 ∷ 0 ∷ 532 ∷ 3 ∷ []) ∷ (0 ∷ 1 ∷ 2 ∷ 7 ∷ 0 ∷ 0 ∷ []) ∷ [])
unfolding opened
shown_bytes = refl

-- The content is that part of the image. Slip: from its beginning, one byte more or less.
pub content_of_an_answer : content (record { answer = (carry_out (shows here 0 (record { at = here; place = 0; descriptor = d 0xFFF8 2 3 0x1007; start = 2; content = [] }) NotSaid) 0 []).answer; image = 9 ∷ 8 ∷ 7 ∷ 6 ∷ 5 ∷ 4 ∷ [] })
    ≡ (7 ∷ 6 ∷ 5 ∷ [])
unfolding opened
content_of_an_answer = refl

-- The job of a plan: a refusal and a read have none. Slip: one that is lost.
pub jobs_of_plans : (job_of (refuses (Absent NotSaid)) ∷ job_of (makes here (program 0 1 ∷ [])) ∷ job_of (shows here 0 found NotSaid) ∷ []) ≡ ([] ∷ (program 0 1 ∷ []) ∷ [] ∷ [])
unfolding opened
jobs_of_plans = refl

-- 5 BAD FILE: file over 255. Slip: over 254 or 256.
pub bad_files : map is_bad_file (0 ∷ 254 ∷ 255 ∷ 256 ∷ 257 ∷ []) ≡ (false ∷ false ∷ false ∷ true ∷ true ∷ [])
unfolding opened
bad_files = refl

-- 6 TOO LONG: content over 256 bytes. Slip: over 255 or 257.
pub too_long : map (λ (k : ℕ). is_too_long (replicate k 1)) (0 ∷ 255 ∷ 256 ∷ 257 ∷ 258 ∷ []) ≡ (false ∷ false ∷ false ∷ true ∷ true ∷ [])
unfolding opened
too_long = refl

-- ---- views
abbrev over : List Entry → Survey
over es = record { units = []; homes = []; spare = record { base = 0; bytes = []; logical = 0; state = 0 }; entries = es }

abbrev places : Option Entry → List ℕ
places none = []
places (some e) = e.place ∷ []

-- Current: 7 at 16, 8 at 24, 9 at 32. Old: 5 at 40. Pending: data of 8 at 48, a mark of 9 at 56, data of 6 at 64. A transaction at 72, tag 3000.
abbrev views : Survey
views = over
    (entry 0 0 16 0xFFF8 0x1007 ∷ entry 0 1 24 0xFFF8 0x1008 ∷ entry 0 2 32 0xFFF8 0x1009 ∷ entry 0 3 40 0xFFF0 0x1005
    ∷ entry 0 4 48 0xFFFC 0x1008 ∷ entry 0 5 56 0xFFFC 0x2009 ∷ entry 0 6 64 0xFFFC 0x1006 ∷ entry 0 7 72 0xFFFC 0x3000 ∷ entry 0 8 80 0xFFF8 0x3000 ∷ [])

-- The committed view shows current data. Slip: pending data, old data, the transaction.
pub committed_view_lem : map (λ (f : ℕ). places (committed_view f views)) (7 ∷ 8 ∷ 9 ∷ 6 ∷ 5 ∷ 0 ∷ []) ≡ ((16 ∷ []) ∷ (24 ∷ []) ∷ (32 ∷ []) ∷ [] ∷ [] ∷ [] ∷ [])
unfolding opened
committed_view_lem = refl

-- The transaction view lays pending data and delete marks over it. Slip: under it, without marks, a mark shown.
pub transaction_view_lem : map (λ (f : ℕ). places (transaction_view f views)) (7 ∷ 8 ∷ 9 ∷ 6 ∷ 5 ∷ 0 ∷ []) ≡ ((16 ∷ []) ∷ (48 ∷ []) ∷ [] ∷ (64 ∷ []) ∷ [] ∷ [] ∷ [])
unfolding opened
transaction_view_lem = refl

-- What a view shows of a file: nothing, or its content; empty is not absent. Slip: empty as absent.
pub contents_shown : (content_of none ∷ content_of (some found) ∷ content_of (some (entry 0 0 16 0xFFF8 0x1007)) ∷ []) ≡ (none ∷ some (1 ∷ 2 ∷ 3 ∷ []) ∷ some [] ∷ [])
unfolding opened
contents_shown = refl

-- With none open. Slip: a committed one, or a pending file, taken for it.
pub none_open : (has_none views ∷ has_none (over []) ∷ has_none (over (entry 0 0 16 0xFFFC 0x1007 ∷ entry 0 1 24 0xFFF8 0x3000 ∷ entry 0 2 32 0xFFF8 0x1008 ∷ [])) ∷ []) ≡ (false ∷ true ∷ true ∷ [])
unfolding opened
none_open = refl
