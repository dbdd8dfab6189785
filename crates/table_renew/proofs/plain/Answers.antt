use mathlib.Core.Path.{◌≡◌, sym, subst}
use native.Mathlib.Omega.{arith}
use lib.ListN.{length}
use Rattle.table_renew.specs.Renews.{plain_fills}
use Rattle.c_store.specs.Reports.{geometry, Reports}
use Rattle.table_renew.specs.declared.FillCall.{FillCall}
use Rattle.table_renew.specs.Settles.{fill_call}
use borrow.Author.Rules.{rules}
use Rattle.table_renew.proofs.plain.Goals as goal

pub returns-in-Format : goal.returns-in-Format
unfolding fill_call
returns-in-Format c =
    let l : length c.us_format.new.image ≡ length c.args.image.now = search rules in
    let h = subst (λ (x : FillCall). Reports (geometry c.args.size c.args.units) (fill_call x c.args.allowance) c.args.image.now c.us_format.result c.us_format.new.image) (sym c.in-Format.is) c.us_format.ensures in
    (h, plain_fills (geometry c.args.size c.args.units) c.args.image.now c.args.call c.args.allowance c.us_format.result c.us_format.new.image h (λ i. omega (arith, c.slice_known-1.given i)) l)

pub returns-in-Mount : goal.returns-in-Mount
unfolding fill_call
returns-in-Mount c =
    let l : length c.us_mount.new.image ≡ length c.args.image.now = search rules in
    let h = subst (λ (x : FillCall). Reports (geometry c.args.size c.args.units) (fill_call x c.args.allowance) c.args.image.now c.us_mount.result c.us_mount.new.image) (sym c.in-Mount.is) c.us_mount.ensures in
    (h, plain_fills (geometry c.args.size c.args.units) c.args.image.now c.args.call c.args.allowance c.us_mount.result c.us_mount.new.image h (λ i. omega (arith, c.slice_known-1.given i)) l)
