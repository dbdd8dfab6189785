use Prim.Native.Nat.{ℕ, ◌*◌}
use native.Mathlib.Omega.{arith}
use mathlib.Core.Path.{sym, ap, ◌∙◌}
use lib.ListN.{get_or}
use Rattle.laws.specs.Units.{row}
use Rattle.place.specs.Laws.{lent_is, lent_whole, home_bytes}
use Rattle.place.proofs.HomeUnits.unit.Goals as goal

pub slice_bounds-result-end : goal.slice_bounds-result-end
slice_bounds-result-end c =
    let s = c.args.self.now in
    omega (arith, s.right.whole, row c.from.result s.g.units s.g.size (omega (arith, s.named c.args.number (omega arith))))

pub returns : goal.returns
returns c =
    let s = c.args.self.now in
    let lent = lent_is s.g s.image.now (get_or s.table.now c.args.number 0) c.base-base.result (c.base-base.ensures ∙ ap (λ (i : ℕ). i * s.g.size) c.from.ensures) in
    record {
      whole = rw lent (lent_whole s.g s.image.now (get_or s.table.now c.args.number 0) s.right (omega (arith, s.named c.args.number (omega arith))));
      same = lent ∙ sym (home_bytes s.g s.image.now s.table.now c.args.number);
    }
