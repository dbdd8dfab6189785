-- Document 01, "Flash and geometry", in figures. Each row says the sentence in short, and the slip that makes it false.
use Rattle.std.specs.Prelude.{true, false, List, [], ◌∷◌, map, ◌≡◌, refl, ℕ, ◌*◌, None, Some}
use Rattle.rules.specs.Flash.{Bytes, is_geometry, word, lay, erased, Step, program, erase, apply, idle, steps_of, finish, state, step, run, programs, words}
use Rattle.rules.specs.Answers.{Outcome, ended, number, given}
use Rattle.rules.specs.Calls.{format, mount, begin, commit, abort, write, delete, read, read_open, read_at, allowance}
use Rattle.rules.specs.Opened.{opened}
use Rattle.rules.specs.declared.Geometry.{Geometry}
use Rattle.rules.specs.declared.Handle.{Handle}
use Rattle.rules.specs.declared.Rule.TheVariants.{Tightest}

abbrev with : ℕ → ℕ → Geometry
with s u = record { size = s; units = u }

-- S is 512, 1,024, 2,048 or 4,096. Slip: a size left out, or another let in.
pub sizes : map (λ (s : ℕ). is_geometry (with s 3) (3 * s)) (0 ∷ 256 ∷ 511 ∷ 512 ∷ 513 ∷ 768 ∷ 1024 ∷ 1536 ∷ 2048 ∷ 3072 ∷ 4096 ∷ 4098 ∷ 8192 ∷ [])
    ≡ (false ∷ false ∷ false ∷ true ∷ false ∷ false ∷ true ∷ false ∷ true ∷ false ∷ true ∷ false ∷ false ∷ [])
unfolding opened
sizes = refl

-- U is 3 to 64. Slip: 4 to 64, 2 to 64, to 63, to 65.
pub unit_numbers : map (λ (u : ℕ). is_geometry (with 512 u) (u * 512)) (0 ∷ 1 ∷ 2 ∷ 3 ∷ 4 ∷ 63 ∷ 64 ∷ 65 ∷ 128 ∷ [])
    ≡ (false ∷ false ∷ false ∷ true ∷ true ∷ true ∷ true ∷ false ∷ false ∷ [])
unfolding opened
unit_numbers = refl

-- U x S is at most 65,536. Slip: below 65,536, or no bound.
pub greatest_images : (is_geometry (with 1024 64) 65536 ∷ is_geometry (with 4096 16) 65536 ∷ is_geometry (with 4096 17) 69632 ∷ is_geometry (with 2048 33) 67584 ∷ is_geometry (with 2048 32) 65536 ∷ [])
    ≡ (true ∷ true ∷ false ∷ false ∷ true ∷ [])
unfolding opened
greatest_images = refl

-- The image is exactly U x S bytes. Slip: at least, or at most, so many.
pub image_lengths : map (is_geometry (with 512 3)) (0 ∷ 1024 ∷ 1535 ∷ 1536 ∷ 1537 ∷ 2048 ∷ []) ≡ (false ∷ false ∷ false ∷ true ∷ false ∷ false ∷ [])
unfolding opened
image_lengths = refl

abbrev eight : Bytes
eight = 1 ∷ 2 ∷ 3 ∷ 4 ∷ 5 ∷ 6 ∷ 7 ∷ 8 ∷ []

-- A word is two bytes, low byte first. Slip: high byte first, the next word.
pub low_byte_first : map (word eight) (0 ∷ 2 ∷ 6 ∷ []) ≡ (0x0201 ∷ 0x0403 ∷ 0x0807 ∷ [])
unfolding opened
low_byte_first = refl

-- ... and so it is laid. Slip: high byte first, the next word.
pub laid_low_first : lay eight 2 0xABCD ≡ (1 ∷ 2 ∷ 0xCD ∷ 0xAB ∷ 5 ∷ 6 ∷ 7 ∷ 8 ∷ [])
unfolding opened
laid_low_first = refl

-- An erased word is FFFF. Slip: 0000, or one byte of them.
pub erased_words : map erased ([] ∷ (255 ∷ 255 ∷ []) ∷ (255 ∷ 254 ∷ []) ∷ (254 ∷ 255 ∷ []) ∷ (127 ∷ 255 ∷ []) ∷ (0 ∷ 0 ∷ []) ∷ [])
    ≡ (true ∷ true ∷ false ∷ false ∷ false ∷ false ∷ [])
unfolding opened
erased_words = refl

-- Program one word: the new value is the old AND the given one. Slip: the given one, OR, another word.
pub programmed : apply (program 2 0xF0F5) (0 ∷ 0 ∷ 0x5C ∷ 0xA3 ∷ 9 ∷ 9 ∷ []) ≡ (0 ∷ 0 ∷ 0x54 ∷ 0xA0 ∷ 9 ∷ 9 ∷ [])
unfolding opened
programmed = refl

-- Erase one unit: all bytes become FF. Slip: 00, a byte more or less, the unit before.
pub erased_unit : apply (erase 2 4) eight ≡ (1 ∷ 2 ∷ 255 ∷ 255 ∷ 255 ∷ 255 ∷ 7 ∷ 8 ∷ [])
unfolding opened
erased_unit = refl

-- Programming a word that already holds its target is no step; an erase always is one. Slip: every program is a step, or an erase of FF is none.
pub no_steps : map (λ (x : Step). idle x (0xFC ∷ 0xFF ∷ 255 ∷ 255 ∷ [])) (program 0 0xFFFC ∷ program 0 0xFFFE ∷ program 0 0xFFFF ∷ program 0 0xFFF8 ∷ program 2 0xFFFE ∷ program 2 0xFFFF ∷ erase 2 2 ∷ [])
    ≡ (true ∷ true ∷ true ∷ false ∷ false ∷ true ∷ false ∷ [])
unfolding opened
no_steps = refl

abbrev two_words : Bytes
two_words = 255 ∷ 255 ∷ 255 ∷ 255 ∷ []

abbrev job : List Step
job = program 0 0xFFFE ∷ program 0 0xFFFE ∷ program 2 0xFFFC ∷ program 0 0xFFFC ∷ []

-- A job is a list of steps, each on the image that those before it left. Slip: all from the first image, or in another order.
pub list_of_steps : steps_of job two_words ≡ (program 0 0xFFFE ∷ program 2 0xFFFC ∷ program 0 0xFFFC ∷ [])
unfolding opened
list_of_steps = refl

-- ... and so is the image that it leaves. Slip: its steps backwards.
pub job_finished : finish (program 0 0xFFFE ∷ erase 0 2 ∷ program 2 0xFFFC ∷ program 0 0xFFF8 ∷ []) two_words ≡ (0xF8 ∷ 255 ∷ 0xFC ∷ 255 ∷ [])
unfolding opened
job_finished = refl

-- A step happens whole or not at all. Slip: one byte of a word.
pub whole_steps : map (λ (k : ℕ). step (program 2 0x1234) (state two_words (Some k))) (0 ∷ 1 ∷ 5 ∷ [])
    ≡ (state two_words None ∷ state (255 ∷ 255 ∷ 0x34 ∷ 0x12 ∷ []) (Some 0) ∷ state (255 ∷ 255 ∷ 0x34 ∷ 0x12 ∷ []) (Some 4) ∷ [])
unfolding opened
whole_steps = refl

-- If the list is longer than the allowance, its first steps are made; what is no step takes nothing of it. Slip: one step more or less, or its last steps.
pub first_steps : map (λ (k : ℕ). run job (state two_words (Some k))) (0 ∷ 1 ∷ 2 ∷ 3 ∷ 4 ∷ [])
    ≡ (state two_words None ∷ state (0xFE ∷ 255 ∷ 255 ∷ 255 ∷ []) None ∷ state (0xFE ∷ 255 ∷ 0xFC ∷ 255 ∷ []) None
    ∷ state (0xFC ∷ 255 ∷ 0xFC ∷ 255 ∷ []) (Some 0) ∷ state (0xFC ∷ 255 ∷ 0xFC ∷ 255 ∷ []) (Some 1) ∷ [])
unfolding opened
first_steps = refl

-- A stop is a power cut: nothing is done after it. Slip: the job goes on.
pub after_the_cut : run job (state two_words None) ≡ state two_words None
unfolding opened
after_the_cut = refl

-- What the programs of words after words are. Slip: backwards, or byte by byte.
pub words_ascending : programs 508 (0x6261 ∷ 0xFF63 ∷ 7 ∷ []) ≡ (program 508 0x6261 ∷ program 510 0xFF63 ∷ program 512 7 ∷ [])
unfolding opened
words_ascending = refl

-- An odd tail is filled with FF. Slip: with 00, or left out.
pub odd_tails : map words ([] ∷ (0x61 ∷ []) ∷ (0x61 ∷ 0x62 ∷ []) ∷ (0x61 ∷ 0x62 ∷ 0x63 ∷ []) ∷ [])
    ≡ ([] ∷ (0xFF61 ∷ []) ∷ (0x6261 ∷ []) ∷ (0x6261 ∷ 0xFF63 ∷ []) ∷ [])
unfolding opened
odd_tails = refl

-- Every changing call takes an allowance, a read none. Slip: another input in its place, or a call without one.
pub allowances : map allowance (format 11 ∷ mount 12 ∷ begin Tightest 13 ∷ commit 14 ∷ abort 15 ∷ write Tightest 1 (2 ∷ []) 16 ∷ delete Tightest 1 17 ∷ read 1 ∷ read_open 1 ∷ read_at 1 2 ∷ [])
    ≡ (11 ∷ 12 ∷ 13 ∷ 14 ∷ 15 ∷ 16 ∷ 17 ∷ 0 ∷ 0 ∷ 0 ∷ [])
unfolding opened
allowances = refl

abbrev numbered : Outcome → List ℕ
numbered o = number o.answer ∷ (given o.answer).steps ∷ []

abbrev somewhere : Handle
somewhere = record { unit = 1; position = 2 }

-- It reports the steps made. Slip: those left, or the allowance.
pub steps_made : map (λ (j : ℕ). numbered (ended somewhere 9 (state two_words (Some j)))) (9 ∷ 7 ∷ 0 ∷ []) ≡ ((0 ∷ 0 ∷ []) ∷ (0 ∷ 2 ∷ []) ∷ (0 ∷ 9 ∷ []) ∷ [])
unfolding opened
steps_made = refl

-- ... and the answer is STOPPED, with as many steps as the allowance had. Slip: DONE, or no steps.
pub stopped_short : map (λ (k : ℕ). numbered (ended somewhere k (run job (state two_words (Some k))))) (0 ∷ 2 ∷ 3 ∷ 4 ∷ [])
    ≡ ((1 ∷ 0 ∷ []) ∷ (1 ∷ 2 ∷ []) ∷ (0 ∷ 3 ∷ []) ∷ (0 ∷ 3 ∷ []) ∷ [])
unfolding opened
stopped_short = refl

-- The image afterwards is the one that the steps left. Slip: the image before.
pub image_left : (ended somewhere 3 (run job (state two_words (Some 3)))).image ≡ (0xFC ∷ 255 ∷ 0xFC ∷ 255 ∷ [])
unfolding opened
image_left = refl
