use Rattle.std.proofs.Common.{refl, ◌≡◌, ◌∙◌, ap, ℕ, set, sym, get_or}
use Rattle.table_entries.specs.Puts.{laid_in, put, put_in}
use Rattle.laws_slices.specs.Steps.{one_more_lem}
use Rattle.c_table.proofs.lay_all.Goals as goal

pub loop-i-init : goal.loop-i-init
unfolding laid_in
loop-i-init c = refl

pub loop-i-preserved : goal.loop-i-preserved
unfolding laid_in put
loop-i-preserved c =
    let size = c.args.size in
    let s = c.args.image.now in
    let ps = c.args.places.now in
    let i = c.loop-i.i in
    let before = laid_in size s ps i c.args.t.now in
    let read : c.put_of-x.result ≡ put_in size s i (get_or ps i 0) = c.put_of-x.ensures in
    c.lay_at.ensures ∙ ap (λ ys. set ys c.put_of-x.result.at c.put_of-x.result.entry) c.loop-i.invariant
    ∙ ap (λ x. set before x.at x.entry) read
    ∙ ap (λ (k : ℕ). laid_in size s ps k c.args.t.now) (sym (one_more_lem i))
