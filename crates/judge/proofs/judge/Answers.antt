use Rattle.std.proofs.Common.{◌≡◌, ◌∙◌, ◌-◌, sym, arith}
use Rattle.std.proofs.lemmas.Option.{MatchOption-at_some, MatchOption-at_none}
use Rattle.rules.specs.Settled.{is_spare}
use Rattle.laws.specs.Units.{right_geometry}
use Rattle.counts.specs.Tally.{nothing}
use Rattle.home_table.specs.Places.{places_of}
use Rattle.judge.specs.Round.{round_from, look_of}
use Rattle.judge.proofs.Verdict.{seen_if}
use Rattle.judge.proofs.judge.Goals as goal

pub invariant_of-homes_of : goal.invariant_of-homes_of
invariant_of-homes_of c = record { right = right_geometry c.args.g c.args.image.now (sym c.check.ensures ∙ c.if-not-check.false) }

pub returns-in_default : goal.returns-in_default
unfolding look_of
returns-in_default c =
    seen_if c.args.g c.args.image.now (sym c.check.ensures ∙ c.if-not-check.false) (λ i. omega (arith, c.type_inv.image i)) _
    (rw (MatchOption-at_none _ _ c.in_default.is c.homes_of-homes.ensures))

pub returns-in_default-go_round : goal.returns-in_default-go_round
unfolding look_of
returns-in_default-go_round c =
    let h = MatchOption-at_some _ _ c.in-Some.homes c.in-Some.is c.homes_of-homes.ensures in
    let e : c.go_round.result ≡ round_from c.args.g c.args.image.now (places_of c.args.g.size c.args.g.units c.args.image.now) (c.args.g.units - 1) 0 0 nothing = rw (h.1, h.2) at c.go_round.ensures in
    seen_if c.args.g c.args.image.now (sym c.check.ensures ∙ c.if-not-check.false) (λ i. omega (arith, c.type_inv.image i)) _
    (rw (h.0, ← e, c.in_default-go_round.is))

pub returns : goal.returns
unfolding look_of is_spare
returns c =
    let h = MatchOption-at_some _ _ c.in-Some.homes c.in-Some.is c.homes_of-homes.ensures in
    let e : c.go_round.result ≡ round_from c.args.g c.args.image.now (places_of c.args.g.size c.args.g.units c.args.image.now) (c.args.g.units - 1) 0 0 nothing = rw (h.1, h.2) at c.go_round.ensures in
    seen_if c.args.g c.args.image.now (sym c.check.ensures ∙ c.if-not-check.false) (λ i. omega (arith, c.type_inv.image i)) _
    (rw (h.0, ← e, c.in-Some-go_round.is, c.transaction.ensures, c.remainder_of.ensures, c.standing_of.ensures, c.is_erased-blank.ensures, c.rest-r.ensures.0, h.1, h.3, h.2))
