-- Document 01's case G as a text, computed.
use Rattle.std.specs.Prelude.{◌≡◌, refl, [], ◌∷◌, ◌++◌}
use Rattle.rules.specs.Flash.{Bytes}
use Rattle.rules.specs.Text.{text, lf}
use Rattle.rules.specs.Calls.{begin, commit, write}
use Rattle.rules.specs.Opened.{opened}
use Rattle.rules.specs.declared.Rule.TheVariants.{Tightest}
use Rattle.witness.specs.Short as short
use Rattle.hex_lines.specs.Records.{sum}
use Rattle.hex_lines.specs.Writes.{digit, digits_of, checksum, row_bytes, row_line, row_text, rows_text, end_line, hex_text}

-- File 7 is abc, file 9 is empty, both committed.
unfoldable pub image : Bytes
image = short.image (begin Tightest short.plenty ∷ write Tightest 7 short.abc short.plenty ∷ write Tightest 9 [] short.plenty ∷ commit short.plenty ∷ [])

unfoldable pub lines : Bytes
lines =
    text ":100000000000FEFFFFFFFFFFFFFFFFFFFFFFFFFFFF" ++ (lf ∷ (text ":10001000F0FF000200000030F8FFFC0103000710B1"
    ++ (lf ∷ (text ":10002000F8FFFC0100000910FFFFFFFFFFFFFFFFCB" ++ (lf ∷ (text ":1001F000FFFFFFFFFFFFFFFFFFFFFFFF616263FFE6"
    ++ (lf ∷ (text ":100200000100FEFFFFFFFFFFFFFFFFFFFFFFFFFFFC" ++ (lf ∷ (text ":00000001FF" ++ (lf ∷ [])))))))))))

pub written : hex_text image ≡ lines
unfolding opened image lines text sum digit digits_of checksum row_bytes row_line row_text rows_text end_line hex_text
written = refl
