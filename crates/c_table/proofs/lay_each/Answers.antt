use Rattle.std.proofs.Common.{arith, refl, ◌≡◌, ◌∙◌, ap, ℕ, List, length, length-set, set, sym}
use lib.Seq.{set-set}
use Rattle.rules.specs.declared.TableEntry.{TableEntry}
use Rattle.laws_slices.specs.Lists.{laid_by, length_laid}
use Rattle.laws_slices.specs.Steps.{one_more_lem}
use Rattle.c_table.proofs.lay_each.Goals as goal

pub loop-i-init : goal.loop-i-init
loop-i-init c = (omega arith, refl)

-- The draft that is written first is written over.
pub loop-i-preserved : goal.loop-i-preserved
loop-i-preserved c =
    let draft : TableEntry = record { state = 0; unit = 0; position = c.args.e.position; len = c.args.e.len } in
    let t = c.loop-i.t in
    let i = c.loop-i.i in (
      omega (arith, length-set (set t i draft) i c.args.e, length-set t i draft),
      set-set t i draft c.args.e ∙ ap (λ (ys : List TableEntry). set ys i c.args.e) c.loop-i.invariant.1
          ∙ ap (λ (k : ℕ). laid_by (λ (j : ℕ). c.args.e) k c.args.t.now) (sym (one_more_lem i)),
    )

pub returns : goal.returns
returns c =
    let l : length c.loop-i.t ≡ length c.args.t.now = ap length c.loop-i.invariant.1 ∙ length_laid (λ (j : ℕ). c.args.e) c.loop-i.i c.args.t.now in
    let e : c.loop-i.i ≡ length c.args.t.now = omega (arith, l) in
    c.loop-i.invariant.1 ∙ ap (λ (k : ℕ). laid_by (λ (j : ℕ). c.args.e) k c.args.t.now) e
