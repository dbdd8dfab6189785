use Rattle.std.proofs.Common.{◌≡◌, ap, ◌∙◌, arith, length, set, replicate, rules}
use Rattle.hex_lines.specs.Writes.{digits_of}
use Rattle.hex_write.specs.Rows.{record_length, line_more, line_all}
use Rattle.hex_write.proofs.put_row.Goals as goal

pub loop-k-init : goal.loop-k-init
unfolding digits_of
loop-k-init c =
    let e : c.fill.new.self ≡ replicate (length c.args.line.now) 10 = search rules in
    ap (λ b. set b 0 58) e ∙ ap (λ n. set (replicate n 10) 0 58) c.requires

pub loop-k-preserved : goal.loop-k-preserved
loop-k-preserved c = line_more c.record_of-record.result c.loop-k.k c.digit.result c.digit-in-loop-k.result c.loop-k.line c.loop-k-test.true (ap length c.record_of-record.ensures ∙ record_length c.args.a c.args.row.now c.told-row) c.digit.ensures c.digit-in-loop-k.ensures c.loop-k.invariant

pub returns : goal.returns
returns c = line_all c.args.a c.loop-k.k c.args.row.now c.record_of-record.result c.loop-k.line c.record_of-record.ensures c.loop-k-test.false (omega arith) (ap length c.record_of-record.ensures ∙ record_length c.args.a c.args.row.now c.told-row) c.loop-k.invariant
