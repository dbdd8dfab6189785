use Rattle.std.proofs.Common.{ℕ, ◌-◌, ◌≡◌, ◌∙◌, List, get_or, refl, true, sym, ap₂, arith}
use native.Mathlib.Nat.{sub-zero}
use Rattle.home_table.specs.Places.{housed, claims_of, places_of, either}
use Rattle.home_table.specs.LoopTurns.{eithers_turn, eithers_end, housed_all, housed_not, unit_some, unit_none}
use Rattle.home_table.specs.Who.{chosen}
use Rattle.std.proofs.lemmas.List.{get_or_read}
use Rattle.std.proofs.lemmas.Grind.{common_steps}
use Rattle.home_table.specs.Left.{left_below}
use Rattle.home_table.proofs.homes.homes_of.Goals as goal

pub loop-l-init : goal.loop-l-init
unfolding places_of claims_of
loop-l-init c = (rw (sub-zero, c.claim_all.ensures, c.claim_all-2.ensures), λ L h. absurd (omega arith))

pub returns-in_err-at : goal.returns-in_err-at
unfolding claims_of
returns-in_err-at c =
    let a : get_or c.claim_all.new.claims c.loop-l.l c.index-live-l.result ≡ get_or c.claim_all.new.claims c.loop-l.l 0 = sym c.index-live-l.is ∙ get_or_read c.claim_all.new.claims c.loop-l.l c.index-live-l.result (omega arith) c.index-live-l.is 0 in
    let b : get_or c.claim_all-2.new.claims c.loop-l.l c.index-retired-l.result ≡ get_or c.claim_all-2.new.claims c.loop-l.l 0 = sym c.index-retired-l.is ∙ get_or_read c.claim_all-2.new.claims c.loop-l.l c.index-retired-l.result (omega arith) c.index-retired-l.is 0 in
    let v : get_or (places_of c.args.store.g.size c.args.store.g.units c.args.store.image.now) c.loop-l.l 0 ≡ c.or.result =
    chosen c.args.store.g.size c.args.store.g.units c.args.store.image.now c.loop-l.l (omega arith) (omega arith)
    ∙ ap₂ (λ (x y : List ℕ). either (get_or x c.loop-l.l 0) (get_or y c.loop-l.l 0)) (sym c.claim_all.ensures) (sym c.claim_all-2.ensures)
    ∙ sym (c.or.ensures ∙ ap₂ either a b)
    in
    rw c.from_residual.ensures (housed_not _ _ _ 0 c.loop-l.l (omega arith) (omega arith) (rw v (unit_none _ _ (sym c.unit.ensures ∙ c.in_err-at.was))))

pub loop-l-preserved : goal.loop-l-preserved
loop-l-preserved c =
    let a : get_or c.claim_all.new.claims c.loop-l.l c.index-live-l.result ≡ get_or c.claim_all.new.claims c.loop-l.l 0 = sym c.index-live-l.is ∙ get_or_read c.claim_all.new.claims c.loop-l.l c.index-live-l.result (omega arith) c.index-live-l.is 0 in
    let b : get_or c.claim_all-2.new.claims c.loop-l.l c.index-retired-l.result ≡ get_or c.claim_all-2.new.claims c.loop-l.l 0 = sym c.index-retired-l.is ∙ get_or_read c.claim_all-2.new.claims c.loop-l.l c.index-retired-l.result (omega arith) c.index-retired-l.is 0 in
    let u = unit_some _ _ _ (sym c.unit.ensures ∙ c.in_ok-at.was) in
    let v : c.in_ok-at.field-0 ≡ either (get_or c.claim_all.new.claims c.loop-l.l 0) (get_or c.claim_all-2.new.claims c.loop-l.l 0) = u.0 ∙ c.or.ensures ∙ ap₂ either a b in
    (rw v (sym (eithers_turn c.claim_all.new.claims c.claim_all-2.new.claims (c.args.store.g.units - 1) c.loop-l.l c.loop-l.at (omega arith)) ∙ c.loop-l.invariant.0), λ L h. let below = c.loop-l.invariant.1 L in grind (arith, common_steps))

pub invariant_of-result : goal.invariant_of-result
invariant_of-result c =
    let there : c.loop-l.at ≡ places_of c.args.store.g.size c.args.store.g.units c.args.store.image.now = sym (eithers_end c.claim_all.new.claims c.claim_all-2.new.claims (c.args.store.g.units - 1) c.loop-l.l c.loop-l.at (omega arith)) ∙ c.loop-l.invariant.0 in
    let all : housed c.args.store.g.units c.loop-l.at (c.args.store.g.units - 1) 0 ≡ true = housed_all c.args.store.g.units c.loop-l.at (c.args.store.g.units - 1) 0 (λ i l. c.loop-l.invariant.1 i (omega arith)) in
    record {
      inside = λ L l. c.loop-l.invariant.1 L (omega arith);
      left = rw (c.remaining_of-remaining.ensures.0, there) (left_below c.args.store.g c.args.store.image.now (omega arith) (omega arith) (omega arith) (rw there at all));
    }

pub returns : goal.returns
returns c =
    let there : c.loop-l.at ≡ places_of c.args.store.g.size c.args.store.g.units c.args.store.image.now = sym (eithers_end c.claim_all.new.claims c.claim_all-2.new.claims (c.args.store.g.units - 1) c.loop-l.l c.loop-l.at (omega arith)) ∙ c.loop-l.invariant.0 in
    let all : housed c.args.store.g.units c.loop-l.at (c.args.store.g.units - 1) 0 ≡ true = housed_all c.args.store.g.units c.loop-l.at (c.args.store.g.units - 1) 0 (λ i l. c.loop-l.invariant.1 i (omega arith)) in
    (rw there at all, refl, there, rw there at c.remaining_of-remaining.ensures.0)
