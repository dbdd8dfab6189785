-- The script: the command that a line is.
use Rattle.std.specs.Prelude.{Option, Some, None, cond, List, [], ◌∷◌, ℕ}
use Rattle.std.specs.Str.{bytes_eq}
use Prim.Native.String.{String}
use Rattle.rules.specs.Flash.{Bytes}
use Rattle.rules.specs.Text.{text}
use Rattle.rules.specs.declared.Rule.TheVariants.{Tightest, Lowest}
use Rattle.script.specs.Words.{◌>>=◌, words, number_of}
use Rattle.script.specs.declared.command.ImageChange.TheVariants.{New, Size, Put, Keep, Back}
use Rattle.script.specs.declared.command.CallLine.TheVariants.{Format, Mount, Begin, Commit, Abort, Write, Delete, Read, ReadOpen, ReadAt}
use Rattle.script.specs.declared.command.Command.{Command}
use Rattle.script.specs.declared.command.Command.TheVariants.{Change as changing, Call as calling, Judge, List as listing, Pass as passing}
use Rattle.script.specs.declared.command.PassLine.TheVariants.{Give, Staff, Register}

-- A command, where the word is its name; and else what follows.
unfoldable pub named : Bytes → String → Command → Option Command → Option Command
named v name c d = cond (bytes_eq v (text name)) (Some c) d

-- A word alone.
unfoldable pub alone : Bytes → Option Command
alone v =
    named v "keep" (changing Keep)
    (named v "back" (changing Back)
    (named v "judge" Judge
    (named v "list" listing
    (named v "staff" (passing Staff)
    (named v "register" (passing Register)
    None)))))

-- With one number: N, the allowance A, or FILE.
unfoldable pub with_one : Bytes → ℕ → Option Command
with_one v a =
    named v "size" (changing (Size a))
    (named v "format" (calling (Format a))
    (named v "mount" (calling (Mount a))
    (named v "begin" (calling (Begin Tightest a))
    (named v "commit" (calling (Commit a))
    (named v "abort" (calling (Abort a))
    (named v "read" (calling (Read a))
    (named v "readtx" (calling (ReadOpen a))
    (named v "begin-lowest" (calling (Begin Lowest a))
    None))))))))

-- With two: S and U, OFFSET and BYTE, FILE and A, UNIT and POSITION.
unfoldable pub with_two : Bytes → ℕ → ℕ → Option Command
with_two v a b =
    named v "new" (changing (New a b))
    (named v "put" (changing (Put a b))
    (named v "delete" (calling (Delete Tightest a b))
    (named v "readat" (calling (ReadAt a b))
    (named v "delete-lowest" (calling (Delete Lowest a b))
    None))))

-- `give FIRST SECOND A`.
unfoldable pub given : ℕ → Option ℕ → ℕ → Option Command
given a None k = None
given a (Some b) k = Some (passing (Give a b k))

-- `write FILE HEX A`, or `write-lowest`.
unfoldable pub with_content : Bytes → ℕ → Bytes → ℕ → Option Command
with_content v a x b =
    named v "write" (calling (Write Tightest a x b))
    (named v "write-lowest" (calling (Write Lowest a x b))
    None)

-- With a number, a word and a number.
unfoldable pub with_three : Bytes → ℕ → Bytes → ℕ → Option Command
with_three v a x b = cond (bytes_eq v (text "give")) (given a (number_of x) b) (with_content v a x b)

-- The command that words are: a name, then numbers, or a number, a word and a number.
unfoldable pub command_of : List Bytes → Option Command
command_of [] = None
command_of (v ∷ []) = alone v
command_of (v ∷ x ∷ []) = number_of x >>= with_one v
command_of (v ∷ x ∷ y ∷ []) = number_of x >>= λ a. number_of y >>= with_two v a
command_of (v ∷ x ∷ y ∷ z ∷ []) = number_of x >>= λ a. number_of z >>= with_three v a y
command_of (v ∷ x ∷ y ∷ z ∷ u ∷ us) = None

-- A line that is no such command is an error.
unfoldable pub command : Bytes → Option Command
command line = command_of (words line)
