use Rattle.std.proofs.Common.{◌-◌, take_all, length-drop, sym, ◌∙◌, arith, rules, tests, drop, length}
use Rattle.std.proofs.lemmas.Iterator.{YieldsList-from_slice}
use Rattle.std.proofs.lemmas.Iterator.Search.{all_from_yields_List}
use Rattle.std.specs.Char.{is_ascii_hexdigit}
use Rattle.hex_lines.specs.Data.{formed_by, other_length, other_digits, other_pair}
use Rattle.hex_lines.specs.Digits.{all_ascii}
use Rattle.hex_lines.proofs.RecordLine.new.Goals as goal
use Rattle.hex_lines.proofs.RecordLine.new.Goals.{then-line-count-via-then-line-count, then-line-count-via-else-line-count+then-not-all}

pub returns-in_err-byte_of-clause-formed : goal.returns-in_err-byte_of-clause-formed
returns-in_err-byte_of-clause-formed c = rw c.from_residual.ensures (other_pair c.args.line.now (omega arith) c.in_err-byte_of.ensures)

pub returns-then-line-count-clause-formed : goal.returns-then-line-count-clause-formed
returns-then-line-count-clause-formed c =
    elim c.then-line-count.branch [
      | then-line-count-via-then-line-count w ↦ other_length c.args.line.now c.in_ok-byte_of.field-0 c.in_ok-byte_of.ensures.1 (omega arith) (λ e. w.if-line-count.true (omega (arith, c.from-count.ensures, e)))
      | then-line-count-via-else-line-count+then-not-all w ↦
          let all = all_from_yields_List is_ascii_hexdigit _ _ w.all.result w.all.ensures.ran (YieldsList-from_slice (drop 1 c.args.line.now) (w.iter.ensures.rest ∙ take_all (length c.args.line.now - 1) (drop 1 c.args.line.now) (omega (arith, length-drop 1 c.args.line.now)))) (λ x b q k. search (rules, tests)) in
          other_digits c.args.line.now c.in_ok-byte_of.field-0 c.in_ok-byte_of.ensures.1 (omega arith) (sym (all_ascii (drop 1 c.args.line.now)) ∙ sym all ∙ w.if-not-all.true)
    ]

pub invariant_of-result : goal.invariant_of-result
invariant_of-result c =
    let all = all_from_yields_List is_ascii_hexdigit _ _ c.all.result c.all.ensures.ran (YieldsList-from_slice (drop 1 c.args.line.now) (c.iter.ensures.rest ∙ take_all (length c.args.line.now - 1) (drop 1 c.args.line.now) (omega (arith, length-drop 1 c.args.line.now)))) (λ x b q k. search (rules, tests)) in
    record { formed = formed_by c.args.line.now c.in_ok-byte_of.field-0 c.in_ok-byte_of.ensures.1 (omega arith) (omega arith) (omega (arith, c.from-count.ensures)) (sym (all_ascii (drop 1 c.args.line.now)) ∙ sym all ∙ c.if-not-all.false) }
