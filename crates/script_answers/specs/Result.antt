-- The script: a result line.
use Rattle.std.specs.Prelude.{cond, [], ◌∷◌, ◌++◌, ℕ, ◌+◌, ◌*◌, ◌/◌, ◌%◌, ltb}
use Prim.Native.String.{String}
use Rattle.rules.specs.Flash.{Bytes}
use Rattle.rules.specs.Text.{text, lf, decimal}
use Rattle.rules.specs.Answers.{Answer, given}
use Rattle.c_report.specs.Exported.{exported}
use Rattle.c_report.specs.declared.Report.{Report}
use Rattle.call_read.specs.Shapes.{part_of}

-- From 0, for each byte b in order, h becomes (h x 257 + b + 1) mod 4,294,967,291.
unfoldable pub hash_from : ℕ → Bytes → ℕ
hash_from h [] = h
hash_from h (b ∷ s) = hash_from ((h * 257 + b + 1) % 4294967291) s

unfoldable pub hash_of : Bytes → ℕ
hash_of s = hash_from 0 s

-- A digit of lower-case hex.
unfoldable pub glyph_of : ℕ → ℕ
glyph_of d = cond (ltb d 10) (48 + d) (87 + d)

unfoldable pub hex_of : Bytes → Bytes
hex_of [] = []
hex_of (b ∷ s) = glyph_of (b / 16) ∷ glyph_of (b % 16) ∷ hex_of s

-- content is `-` where length is 0.
unfoldable pub content_text : Bytes → Bytes
content_text [] = 45 ∷ []
content_text (b ∷ s) = hex_of (b ∷ s)

unfoldable pub pair : String → ℕ → Bytes
pair key m = text key ++ decimal m

-- `number=N steps=K at=U:P`
unfoldable pub first_text : Report → Bytes
first_text r = pair "number=" r.number ++ pair " steps=" r.steps ++ pair " at=" r.unit ++ pair ":" r.position

-- ` file=F start=O length=L`
unfoldable pub second_text : Report → Bytes
second_text r = pair " file=" r.file ++ pair " start=" r.start ++ pair " length=" r.len

-- ` content=HEX image=H`; H is a hash of the image afterwards.
unfoldable pub third_text : Answer → Bytes → Bytes
third_text a s = text " content=" ++ content_text (part_of s (given a).start (given a).len) ++ pair " image=" (hash_of s)

-- ` from=W`; and the line's end.
unfoldable pub fourth_text : Report → Bytes
fourth_text r = pair " from=" r.from ++ (lf ∷ [])

unfoldable pub result_line : Answer → Bytes → Bytes
result_line a s = first_text (exported a) ++ second_text (exported a) ++ third_text a s ++ fourth_text (exported a)
