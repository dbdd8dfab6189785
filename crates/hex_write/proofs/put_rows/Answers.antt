use Rattle.std.proofs.Common.{[], ◌*◌, length, get_or, take, refl, sym, ap, ◌∙◌, arith, length-append, take_all}
use Rattle.hex_lines.specs.Writes.{row_line}
use Rattle.hex_write.specs.Rows.{lines_of_rows, step_blank, step_row, line_length, written}
use Rattle.hex_write.proofs.put_rows.Goals as goal
use Rattle.hex_write.proofs.put_rows.Goals.{then-not-is_blank, else-not-is_blank}

pub loop-n-init : goal.loop-n-init
unfolding lines_of_rows
loop-n-init c = record { len = refl; room = omega arith; text = refl }

pub loop-n-preserved : goal.loop-n-preserved
loop-n-preserved c =
    elim c.if-not-is_blank.branch [
      | then-not-is_blank w ↦
          let s = step_row c.args.rows.now c.loop-n.n c.loop-n-test.true (sym c.is_blank.ensures ∙ w.if-not-is_blank.true) in
          let l = line_length (16 * c.loop-n.n) _ (c.told-rows c.loop-n.n c.loop-n-test.true) in
          record {
            len = omega (arith, w.at-is, c.loop-n.invariant.len, l, ap length s, length-append (lines_of_rows 0 (take c.loop-n.n c.args.rows.now)) (row_line (16 * c.loop-n.n) (get_or c.args.rows.now c.loop-n.n [])));
            room = omega (arith, w.at-is);
            text =
                w.text-is
                ∙ written c.args.text.now (lines_of_rows 0 (take c.loop-n.n c.args.rows.now)) (row_line (16 * c.loop-n.n) (get_or c.args.rows.now c.loop-n.n [])) w.put_row.new.line c.loop-n.text c.loop-n.at _ 44 w.put_row.ensures (omega arith) c.loop-n.invariant.len c.loop-n.invariant.text
                ∙ rw (s, w.at-is);
          }
      | else-not-is_blank w ↦
          let s = step_blank c.args.rows.now c.loop-n.n c.loop-n-test.true (sym c.is_blank.ensures ∙ w.if-not-is_blank.false) in
          record { len = w.at-is ∙ c.loop-n.invariant.len ∙ ap length (sym s); room = omega (arith, w.at-is); text = rw (w.text-is, w.at-is, s) c.loop-n.invariant.text }
    ]

pub returns-clause-len : goal.returns-clause-len
returns-clause-len c = c.loop-n.invariant.len ∙ ap (λ r. length (lines_of_rows 0 r)) (take_all c.loop-n.n c.args.rows.now (omega arith))

pub returns-clause-text : goal.returns-clause-text
returns-clause-text c = rw (take_all c.loop-n.n c.args.rows.now (omega arith)) at c.loop-n.invariant.text

pub returns-clause-fits : goal.returns-clause-fits
returns-clause-fits c = omega (arith, c.loop-n.invariant.room)
