use Prim.Native.Nat.{ℕ, suc, ◌+◌, ◌-◌, ◌<◌}
use Rattle.std.proofs.Common.{◌≡◌, rules, tests, arith, ◌∙◌, Option, List}
use Rattle.std.proofs.lemmas.Iterator.{YieldsList}
use Rattle.std.proofs.lemmas.Iterator.Consumers.{YieldsList-from_shown}
use Rattle.std.proofs.lemmas.Iterator.Search.{all_from_yields_List}
use Rattle.std.specs.Option.{MatchOption}
use Rattle.std.specs.declared.iter.Rev.{Rev}
use Rattle.std.specs.declared.ops.Range.{Range}
use native.Mathlib.Nat.{sub-zero}
use Rattle.rules.specs.Unit.{stands, apart}
use Rattle.unit.specs.Shapes.{descriptor_at}
use Rattle.unit.specs.Apart.{down, clear_is}
use Rattle.home.proofs.is_clear.Goals as goal

-- a range from its end
abbrev back : Rev (Range ℕ) → Option ℕ → Rev (Range ℕ) → Type 0
back s r t = (t.iter.start ≡ s.iter.start) × MatchOption r ((s.iter.end - s.iter.start ≡ 0) × (t.iter.end ≡ s.iter.end)) (λ x. (0 < s.iter.end - s.iter.start) × (x ≡ t.iter.end) × (s.iter.end ≡ t.iter.end + 1))

abbrev left : Rev (Range ℕ) → List ℕ
left s = down s.iter.start (s.iter.end - s.iter.start)

yields_down : (n : ℕ) (s : Rev (Range ℕ)) → s.iter ≡ record { start = 0; end = n } → YieldsList back (λ x. x) s (down 0 n)
yields_down n s e =
    let all : left s ≡ down 0 n = rw (e, sub-zero) in
    rw all at (yielded s)
  where
    yielded : (s : Rev (Range ℕ)) → YieldsList back (λ x. x) s (left s)
    yielded = YieldsList-from_shown back (λ x. x) left (λ s t h. rw (h.1.0)) (λ s x t h.
        let m : s.iter.end - s.iter.start ≡ suc (t.iter.end - t.iter.start) = omega (arith, h.0, h.1.0, h.1.2) in
        let e : s.iter.start + (t.iter.end - t.iter.start) ≡ x = omega (arith, h.0, h.1.0, h.1.1, h.1.2) in
        rw (m, e, h.0))

pub returns : goal.returns
returns c =
    let u = c.args.unit.now in
    all_from_yields_List (λ (q : ℕ). apart c.args.d (descriptor_at u (stands q))) _ _ c.all.result c.all.ensures.ran (yields_down c.args.p c.rev.result c.rev.ensures.source) (λ x b q k. search (rules, tests))
    ∙ clear_is u c.args.d c.args.p
