use Rattle.std.proofs.Common.{◌≡◌, ◌&&◌, true, false, rules}
use Rattle.std.proofs.lemmas.Result.{err_from_is_err_and}
use Rattle.c_store.specs.Reports.{geometry}
use Rattle.pass_rules.specs.Give.{register_look, staff_look}
use Rattle.c_passes.specs.Shapes.{number_of, people_look}
use Rattle.c_passes.specs.Decides.{count_found, count_full, count_refused, list_refused, not_on, same_person}
use Rattle.c_passes.proofs.Sizes.people.Goals as goal

pub returns-in_err-roster : goal.returns-in_err-roster
unfolding people_look
returns-in_err-roster c =
    let p = err_from_is_err_and c.from_residual.result c.from_residual.ensures.1 in
    let g = geometry c.args.self.size c.args.self.units in
    let s = c.args.image.now in
    rw (p.1, p.2) (list_refused c.args.first c.args.second (staff_look g s) (register_look g s) (number_of c.in_err-roster.field-0.0) c.in_err-roster.ensures)

pub returns-then-not-roster : goal.returns-then-not-roster
unfolding people_look
returns-then-not-roster c =
    let g = geometry c.args.self.size c.args.self.units in
    let s = c.args.image.now in
    let t = c.in_ok-roster.roster in
    let l = c.in_ok-roster.ensures in
    let b : t.on.first && t.on.second ≡ false = search rules in
    not_on c.args.first c.args.second (staff_look g s) (register_look g s) l.0 t l.1 l.2 b

pub returns-then-first-second : goal.returns-then-first-second
unfolding people_look
returns-then-first-second c =
    let g = geometry c.args.self.size c.args.self.units in
    let s = c.args.image.now in
    let t = c.in_ok-roster.roster in
    let l = c.in_ok-roster.ensures in
    let b : t.on.first && t.on.second ≡ true = search rules in
    same_person c.args.first c.args.second (staff_look g s) (register_look g s) l.0 t l.1 l.2 b c.if-first-second.true

pub returns-in_err-n : goal.returns-in_err-n
unfolding people_look
returns-in_err-n c =
    let p = err_from_is_err_and c.from_residual-in_err-n.result c.from_residual-in_err-n.ensures.1 in
    let g = geometry c.args.self.size c.args.self.units in
    let s = c.args.image.now in
    let t = c.in_ok-roster.roster in
    let l = c.in_ok-roster.ensures in
    let b : t.on.first && t.on.second ≡ true = search rules in
    rw (p.1, p.2) (count_refused c.args.first c.args.second (staff_look g s) (register_look g s) l.0 t l.1 l.2 b c.if-first-second.false (number_of c.in_err-n.field-0.0) c.in_err-n.ensures)

pub returns-then-n-eq-FULL : goal.returns-then-n-eq-FULL
unfolding people_look
returns-then-n-eq-FULL c =
    let g = geometry c.args.self.size c.args.self.units in
    let s = c.args.image.now in
    let t = c.in_ok-roster.roster in
    let l = c.in_ok-roster.ensures in
    let b : t.on.first && t.on.second ≡ true = search rules in
    count_full c.args.first c.args.second (staff_look g s) (register_look g s) l.0 t l.1 l.2 b c.if-first-second.false c.in_ok-n.n c.in_ok-n.ensures c.if-n-eq-FULL.true

pub returns : goal.returns
unfolding people_look
returns c =
    let g = geometry c.args.self.size c.args.self.units in
    let s = c.args.image.now in
    let t = c.in_ok-roster.roster in
    let l = c.in_ok-roster.ensures in
    let b : t.on.first && t.on.second ≡ true = search rules in
    count_found c.args.first c.args.second (staff_look g s) (register_look g s) l.0 t l.1 l.2 b c.if-first-second.false c.in_ok-n.n c.in_ok-n.ensures c.if-n-eq-FULL.false
