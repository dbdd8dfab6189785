use Rattle.std.proofs.Common.{[], ◌∷◌, ◌+◌}
use Rattle.std.proofs.lemmas.Result.{err_from_is_err_and}
use Rattle.rules.specs.Calls.{commit, write}
use Rattle.rules.specs.declared.Rule.TheVariants.{Tightest}
use Rattle.c_store.specs.Reports.{geometry}
use Rattle.pass_rules.specs.Texts.{register_text}
use Rattle.pass_rules.specs.Give.{parts}
use Rattle.c_passes.specs.Parts.{all_made, begun, begun_within, not_begun}
use Rattle.c_passes.proofs.giving.Giving.give.Goals as goal

pub returns-then-begin-ne-DONE : goal.returns-then-begin-ne-DONE
returns-then-begin-ne-DONE c =
    let a = c.args.asked in
    not_begun (geometry c.args.sizes.size c.args.sizes.units) c.args.allowance c.args.image.now (parts a.n a.first a.second) c.us_begin-begin.result c.us_begin-begin.new.image c.us_begin-begin.ensures c.if-begin-ne-DONE.true

pub invariant_of-begun : goal.invariant_of-begun
invariant_of-begun c =
    let a = c.args.asked in
    record { within = begun_within (geometry c.args.sizes.size c.args.sizes.units) c.args.allowance c.args.image.now (parts a.n a.first a.second) c.us_begin-begin.result c.us_begin-begin.new.image c.us_begin-begin.ensures }

pub returns-in_err-passed : goal.returns-in_err-passed
unfolding parts
returns-in_err-passed c =
    let p = err_from_is_err_and c.from_residual.result c.from_residual.ensures.1 in
    let a = c.args.asked in
    let rest = write Tightest 1 (register_text (a.n + 1)) ∷ commit ∷ [] in
    let passing = rw (c.as_slice.ensures.value, c.pass_of-pass.ensures) at c.in_err-passed.ensures in
    rw (p.1, p.2) (begun (geometry c.args.sizes.size c.args.sizes.units) c.args.allowance c.args.image.now (parts a.n a.first a.second) c.us_begin-begin.result c.us_begin-begin.new.image c.us_begin-begin.ensures c.if-begin-ne-DONE.false (passing rest))

pub returns-in_err-registered : goal.returns-in_err-registered
unfolding parts
returns-in_err-registered c =
    let p = err_from_is_err_and c.from_residual-in_err-registered.result c.from_residual-in_err-registered.ensures.1 in
    let a = c.args.asked in
    let e = c.in_err-registered.field-0.0 in
    let last = commit ∷ [] in
    let rest = write Tightest 1 (register_text (a.n + 1)) ∷ last in
    let registering = rw (c.as_slice-2.ensures.value, c.register_of-register.ensures) at c.in_err-registered.ensures in
    let passing = rw (c.as_slice.ensures.value, c.pass_of-pass.ensures) at c.in_ok-passed.ensures in
    let l = passing rest e.number e.steps c.write-2.new.image (registering last) in
    rw (p.1, p.2) (begun (geometry c.args.sizes.size c.args.sizes.units) c.args.allowance c.args.image.now (parts a.n a.first a.second) c.us_begin-begin.result c.us_begin-begin.new.image c.us_begin-begin.ensures c.if-begin-ne-DONE.false l)

pub returns-in_err-committed : goal.returns-in_err-committed
unfolding parts
returns-in_err-committed c =
    let p = err_from_is_err_and c.from_residual-in_err-committed.result c.from_residual-in_err-committed.ensures.1 in
    let a = c.args.asked in
    let e = c.in_err-committed.field-0.0 in
    let last = commit ∷ [] in
    let rest = write Tightest 1 (register_text (a.n + 1)) ∷ last in
    let registering = rw (c.as_slice-2.ensures.value, c.register_of-register.ensures) at c.in_ok-registered.ensures in
    let l = registering last e.number e.steps c.commit.new.image (c.in_err-committed.ensures []) in
    let passing = rw (c.as_slice.ensures.value, c.pass_of-pass.ensures) at c.in_ok-passed.ensures in
    let l = passing rest e.number e.steps c.commit.new.image l in
    rw (p.1, p.2) (begun (geometry c.args.sizes.size c.args.sizes.units) c.args.allowance c.args.image.now (parts a.n a.first a.second) c.us_begin-begin.result c.us_begin-begin.new.image c.us_begin-begin.ensures c.if-begin-ne-DONE.false l)

pub returns : goal.returns
unfolding parts
returns c =
    let a = c.args.asked in
    let y = c.in_ok-committed.committed in
    let u = c.commit.new.image in
    let last = commit ∷ [] in
    let rest = write Tightest 1 (register_text (a.n + 1)) ∷ last in
    let l = c.in_ok-committed.ensures [] 0 y.made u (all_made (geometry y.sizes.size y.sizes.units) y.allowance y.made u) in
    let registering = rw (c.as_slice-2.ensures.value, c.register_of-register.ensures) at c.in_ok-registered.ensures in
    let l = registering last 0 y.made u l in
    let passing = rw (c.as_slice.ensures.value, c.pass_of-pass.ensures) at c.in_ok-passed.ensures in
    let l = passing rest 0 y.made u l in
    begun (geometry c.args.sizes.size c.args.sizes.units) c.args.allowance c.args.image.now (parts a.n a.first a.second) c.us_begin-begin.result c.us_begin-begin.new.image c.us_begin-begin.ensures c.if-begin-ne-DONE.false l
