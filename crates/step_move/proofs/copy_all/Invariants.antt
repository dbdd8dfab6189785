use mathlib.Core.Path.{◌≡◌}
use lib.ListN.{length}
use Rattle.rules.specs.Flash.{state, run}
use Rattle.rules.specs.Unit.{stands}
use Rattle.step_move.specs.Copying.{part}
use Rattle.rules.specs.Unit.{header_bytes}
use Rattle.rules.specs.Copy.{packed, copies}
use Rattle.unit.specs.Shapes.{array_of}
use Rattle.unit.specs.LoopTurns
use Rattle.step_move.specs.Copying.{Packs}
use Rattle.step_move.proofs.copy_all.Given as goal

abbrev pub invariant-loop-p : goal.invariant-loop-p
invariant-loop-p l =
    let u = part l.initial.image l.way.from l.g.size in
    record {
      long : length l.image ≡ length l.initial.image;
      home : part l.image l.way.from l.g.size ≡ u;
      packs : Packs l.g u l.n l.p l.low;
      left : run (copies l.way.to u (stands l.p) (LoopTurns.from u l.n l.p) (packed l.low (LoopTurns.from u l.n l.p))) (state l.image l.r)
          ≡ run (copies l.way.to u header_bytes (array_of l.n u) (packed l.g.size (array_of l.n u))) (state l.initial.image l.initial.r);
    }
