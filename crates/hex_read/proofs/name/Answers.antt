use Rattle.std.proofs.Common.{◌<◌, sym, ◌∙◌, arith}
use Rattle.hex_read.specs.Checks.{outside, noted_none, noted_more, noted_all, noted_twice}
use Rattle.hex_read.proofs.name.Goals as goal
use Rattle.hex_read.proofs.name.Goals.{else-n-gt0-via-then-n-gt0+else-size-a, else-n-gt0-via-else-n-gt0}

pub returns-then-size-a : goal.returns-then-size-a
returns-then-size-a c = outside c.if-n-gt0.true c.if-size-a.true

pub loop-k-init : goal.loop-k-init
loop-k-init c = record {
  fits = λ (h : 0 < c.args.n). elim c.else-n-gt0.branch [ else-n-gt0-via-then-n-gt0+else-size-a w ↦ omega (arith, w.if-size-a.false) | else-n-gt0-via-else-n-gt0 w ↦ absurd (omega (arith, w.if-n-gt0.false)) ];
  noted = noted_none c.args.named.now c.args.a;
}

pub returns-then-mark : goal.returns-then-mark
returns-then-mark c =
    noted_twice c.args.size c.args.a c.args.n c.loop-k.k c.args.named.now c.loop-k.named _ (omega arith) (omega arith) c.loop-k.invariant.fits c.loop-k.invariant.noted (sym c.mark.ensures.was ∙ c.if-mark.true)

pub loop-k-preserved : goal.loop-k-preserved
loop-k-preserved c = record {
  fits = c.loop-k.invariant.fits;
  noted = noted_more c.args.named.now c.loop-k.named _ c.args.a c.loop-k.k (omega arith) c.loop-k.invariant.noted (sym c.mark.ensures.was ∙ c.if-mark.false) c.mark.ensures.after;
}

pub returns : goal.returns
returns c = noted_all c.args.size c.args.a c.args.n c.loop-k.k c.args.named.now c.loop-k.named (omega arith) (omega arith) c.loop-k.invariant.fits c.loop-k.invariant.noted
