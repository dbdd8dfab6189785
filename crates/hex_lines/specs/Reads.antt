-- Reading a HEX text into an image.
use Rattle.std.specs.Prelude.{Bool, true, false, cond, ◌&&◌, ◌||◌, List, [], ◌∷◌, map, Result, Ok, Err, ℕ, zero, suc, ◌+◌, ltb, length, get_or, replicate}
use Rattle.std.proofs.Math.Option.{Option, none, some}
use Rattle.std.proofs.lemmas.List.Edits.{sets}
use Rattle.rules.specs.Flash.{Bytes, is_geometry}
use Rattle.rules.specs.Lists.{is_none}
use Rattle.rules.specs.declared.Geometry.{Geometry}
use Rattle.hex_lines.specs.declared.Record.TheVariants.{End, Data}
use Rattle.hex_lines.specs.declared.HexFault.{HexFault}
use Rattle.hex_lines.specs.declared.HexFault.TheVariants.{BadLine, Outside, NamedTwice, NoEnd}
use Rattle.hex_lines.specs.Faults.{number}
use Rattle.hex_lines.specs.Records.{record_of, data_of, lines_of}

-- For each address of the image the byte that a record has named, or none.
abbrev pub Cells : Type 0
Cells = List (Option ℕ)

unfoldable pub is_named : Option ℕ → Bool
is_named none = false
is_named (some x) = true

-- 33 OUTSIDE: a byte at or beyond U x S.
unfoldable pub is_outside : ℕ → ℕ → Cells → Bool
is_outside a n cs = ltb 0 n && ltb (length cs) (a + n)

-- 34 NAMED TWICE: one of the n bytes from a on is named already.
unfoldable pub is_taken : ℕ → ℕ → Cells → Bool
is_taken a zero cs = false
is_taken a (suc n) cs = is_named (get_or cs a none) || is_taken (suc a) n cs

unfoldable pub name : ℕ → Bytes → Cells → Cells
name a xs cs = sets cs a (map some xs)

-- What a text comes to: a refusal, or what it names.
abbrev pub Reading : Type 0
Reading = Result Cells HexFault

-- The first line that is bad decides; a line after the end record is 30; 35 NO END where all lines are good and none is an end record.
unfoldable pub reading : List Bytes → Cells → Reading
reading [] cs = Err NoEnd
reading (l ∷ ls) cs =
    elim (record_of l) [
      | Err e ↦ Err e
      | Ok r ↦
          elim r [
            | End ↦ cond (is_none ls) (Ok cs) (Err BadLine)
            | Data a n ↦ cond (is_outside a n cs) (Err Outside) (cond (is_taken a n cs) (Err NamedTwice) (reading ls (name a (data_of l) cs)))
          ]
    ]

-- Bytes not named are FF.
unfoldable pub or_erased : Option ℕ → ℕ
or_erased none = 255
or_erased (some x) = x

-- The number that a read answers, and the image afterwards.
pub record ReadAnswer : Type 0 where
  pub number : ℕ
  pub image : Bytes

-- A refused file leaves the target image unchanged.
unfoldable pub settled : Reading → Bytes → ReadAnswer
settled (Err e) s = record { number = number e; image = s }
settled (Ok cs) s = record { number = 0; image = map or_erased cs }

unfoldable pub read_text : Bytes → ℕ → Reading
read_text t n = reading (lines_of t) (replicate n none)

unfoldable pub reads : Geometry → Bytes → Bytes → ReadAnswer
reads g t s = cond (is_geometry g (length s)) (settled (read_text t (length s)) s) (record { number = 2; image = s })
