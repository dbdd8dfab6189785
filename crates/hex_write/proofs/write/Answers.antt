use Rattle.std.proofs.Common.{refl, [], ◌∷◌, ◌≡◌, sym, ◌∙◌, arith}
use Rattle.rules.specs.Text.{text}
use Rattle.hex_lines.specs.Writes.{end_line}
use Rattle.hex_write.specs.Rows.{lines_of_rows, written, write_other, write_short, write_done, rows_few}
use Rattle.hex_write.proofs.write.Goals as goal
use Rattle.hex_write.proofs.write.Goals.{then-not-check-via-then-not-check, then-not-check-via-else-not-check+then-text-rows}

pub overflow_mul-rows : goal.overflow_mul-rows
overflow_mul-rows c = let h = rows_few c.args.g c.args.image.now c.args.text.now (sym c.check.ensures ∙ c.if-not-check.false) in omega (arith, c.as_chunks.ensures.front_len)

pub overflow_add-rows : goal.overflow_add-rows
overflow_add-rows c = let h = rows_few c.args.g c.args.image.now c.args.text.now (sym c.check.ensures ∙ c.if-not-check.false) in omega (arith, c.as_chunks.ensures.front_len)

pub returns-then-not-check : goal.returns-then-not-check
returns-then-not-check c =
    elim c.then-not-check.branch [
      | then-not-check-via-then-not-check w ↦ write_other c.args.g c.args.image.now c.args.text.now (sym c.check.ensures ∙ w.if-not-check.true)
      | then-not-check-via-else-not-check+then-text-rows w ↦ write_short c.args.g c.args.image.now c.args.text.now (sym c.check.ensures ∙ w.if-not-check.false) (omega (arith, w.if-text-rows.true, c.as_chunks.ensures.front_len))
    ]

pub put_rows-at-requires-clause-count : goal.put_rows-at-requires-clause-count
put_rows-at-requires-clause-count c = let h = rows_few c.args.g c.args.image.now c.args.text.now (sym c.check.ensures ∙ c.if-not-check.false) in omega (arith, c.as_chunks.ensures.front_len)

end_is : 58 ∷ (48 ∷ (48 ∷ (48 ∷ (48 ∷ (48 ∷ (48 ∷ (48 ∷ (49 ∷ (70 ∷ (70 ∷ (10 ∷ []))))))))))) ≡ end_line
unfolding end_line text
end_is = refl

pub returns : goal.returns
returns c =
    write_done c.args.g c.args.image.now c.args.text.now (sym c.check.ensures ∙ c.if-not-check.false) (omega (arith, c.if-text-rows.false, c.as_chunks.ensures.front_len)) c.as_chunks.result.0.now _ c.put_rows-at.result c.as_chunks.ensures.front c.put_rows-at.ensures.len
    (written c.args.text.now (lines_of_rows 0 c.as_chunks.result.0.now) end_line c.copy_from_slice.new.self c.put_rows-at.new.text c.put_rows-at.result _ 12 (c.copy_from_slice.ensures.after ∙ end_is) (omega arith) c.put_rows-at.ensures.len c.put_rows-at.ensures.text)
