use Prim.Native.Nat.{ℕ, ◌+◌}
use native.Mathlib.Omega.{arith}
use mathlib.Core.Path.{◌≡◌, sym, ap, ◌∙◌}
use mathlib.Core.List.{List}
use Rattle.rules.specs.Flash.{Bytes, Step, state, run, programs}
use Rattle.flash.specs.Laws.{run_on}
use Rattle.rules.specs.Unit.{stands}
use Rattle.step_move.specs.Copying.{part}
use Rattle.laws.specs.Copies.{four, moved, size_even}
use Rattle.step_new.specs.Leaves.{run_leaves}
use Rattle.step_move.specs.Laws.{copied_some, put_leaves, sector_is}
use Rattle.step_move.proofs.copy.Goals as goal

pub carry-requires : goal.carry-requires
carry-requires c = let t = c.requires.0 in (
  record { from_in = omega (arith, t.from_in); to_in = omega (arith, t.to_in); apart = t.apart },
  omega (arith, c.from-source.ensures, c.size.ensures),
  omega (arith, c.size.ensures),
  rw c.size.ensures.0 (size_even c.args.d),
)

pub returns : goal.returns
returns c =
    let u = part c.args.image.now c.args.way.from c.args.g.size in
    let q : part c.put-r.new.image c.args.way.from c.args.g.size ≡ u =
    run_leaves (λ (s : Bytes). part s c.args.way.from c.args.g.size) (programs (c.args.way.to + stands c.args.position) (four (moved c.args.low c.args.d))) c.args.image.now c.put-r.new.image c.args.was c.put-r.result
    (put_leaves c.requires.0 u c.args.position c.args.d c.args.low c.requires.2) c.put-r.ensures in
    run_on _ _ _ c.put-r.ensures (c.carry.ensures ∙ ap (λ (w : List ℕ). run (programs (c.args.way.to + c.args.low) w) (state c.put-r.new.image c.put-r.result)) (sector_is u (part c.put-r.new.image c.args.way.from c.args.g.size) c.args.d c.from-source.result c.size.result q c.from-source.ensures c.size.ensures.0))
    ∙ sym (ap (λ (l : List Step). run l (state c.args.image.now c.args.was)) (copied_some u c.args.way.to c.args.position c.args.d c.args.low c.requires.3))
