-- What `reduce` gives of a chain whose list is known.
use Rattle.std.specs.Prelude.{◌≡◌, length, Option, Some, None}
use Rattle.std.specs.List.{reduce}
use Rattle.std.specs.Option.{MatchOption}
use Rattle.std.specs.Iterator.{ActsAsOnTwo, DrainsIf}
use Rattle.std.specs.Iterator.Runs.{Run, WholeRun, IsReduceRun, YieldsRun}
use Rattle.std.proofs.Common.{sym, ap, subst, ◌∙◌, refl, arith}
use Rattle.std.proofs.lemmas.Iterator.{YieldsList, items_from_drains}
use mathlib.Core.List.{List, [], ◌∷◌, map-id}
use denote.Param.Members.{Mut}

module _ {S A : Type 0} {steps : S → Option A → S → Type 0} {s : S} where
  pub reduce_is : {F : Type 0} {g : Mut F (A × (A × Unit {0})) A} {f : F} (all : List A) → YieldsList steps (λ (x : A). x) s all → (h : A → A → A) (r : Option A)
      → WholeRun steps s (λ (p : Run steps). MatchOption r (p.len ≡ 0) (IsReduceRun p g f)) → ActsAsOnTwo g f h → r ≡ reduce h all
  unfolding YieldsRun
  reduce_is {g = g} {f} all y h r run acts = go r run.3 ∙ ap (reduce h) items
    where
      p : Run steps
      p = run.0

      items : p.items ≡ all
      items =
          let d : DrainsIf steps (Unit {0}) p.from p.items = (p.gave.0.0, p.gave.0.1, λ _. p.gave.0.2 run.2) in
          sym (map-id p.items) ∙ items_from_drains p.items (subst (λ (z : S). DrainsIf steps (Unit {0}) z p.items) run.1 d) y

      go : (r : Option A) → MatchOption r (p.len ≡ 0) (IsReduceRun p g f) → r ≡ reduce h p.items
      go None e = none_left p.items (sym p.long ∙ e)
        where
          none_left : (xs : List A) → length xs ≡ 0 → None ≡ reduce h xs
          none_left [] q = refl
          none_left (x ∷ xs) q = absurd (omega arith)
      go (Some z) e = rw e.1.2 (ap Some (e.1.3 h acts))
