use Rattle.std.proofs.Common.{◌≡◌, arith, append_assoc, append-nil, sym}
use Rattle.listing_text.specs.Lines.{lines_to, lines_turn, lines_all}
use Rattle.listing_text.proofs.put_files.Goals as goal

pub loop-file-init : goal.loop-file-init
unfolding lines_to
loop-file-init c = (omega arith, sym (append-nil c.args.out.now))

pub loop-file-preserved : goal.loop-file-preserved
loop-file-preserved c =
    (omega arith, rw (lines_turn, c.put_line.ensures.line, c.loop-file.invariant.1, c.requires.1.line c.loop-file.file (omega arith), append_assoc))

pub returns : goal.returns
returns c = let e : c.loop-file.file ≡ 256 = omega arith in rw (← lines_all, ← e) c.loop-file.invariant.1
