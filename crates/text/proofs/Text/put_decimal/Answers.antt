use Rattle.std.proofs.Common.{arith, rules, refl, ◌∙◌, sym, ap, append-nil, append_assoc, length-drop, length-set, drop, set, take_all, length, take, ◌≡◌, List, ℕ, ◌<◌, ◌≤◌, ◌+◌, ◌-◌, ◌/◌, ◌%◌, ◌∷◌, ◌++◌, []}
use Rattle.std.proofs.lemmas.List.{drop-set}
use Rattle.rules.specs.Text.{decimal}
use Rattle.text.specs.Put.{decimal_one, decimal_more, decimal_longer, decimal_some, decimal_within}
use Rattle.text.proofs.Text.put_decimal.Goals as goal

-- one digit more
more : (ds : List ℕ) (start left m : ℕ) → length ds ≡ 20 → start < 20 → 10 ≤ left → 0 < start → decimal left ++ drop (start + 1) ds ≡ decimal m
    → decimal (left / 10) ++ drop (start - 1 + 1) (set ds start (48 + left % 10)) ≡ decimal m
more ds start left m l h t z e =
    let n : start - 1 + 1 ≡ start = omega arith in
    rw (n, drop-set ds start (48 + left % 10) (omega arith), ← append_assoc (decimal (left / 10)) ((48 + left % 10) ∷ []) (drop (start + 1) ds), ← decimal_more left t) e

-- the first one
whole : (ds : List ℕ) (start left m : ℕ) → length ds ≡ 20 → start < 20 → left < 10 → decimal left ++ drop (start + 1) ds ≡ decimal m
    → take (20 - start) (drop start (set ds start (48 + left))) ≡ decimal m
whole ds start left m l h t e =
    take_all (20 - start) (drop start (set ds start (48 + left))) (omega (arith, length-drop start (set ds start (48 + left)), length-set ds start (48 + left)))
    ∙ drop-set ds start (48 + left) (omega arith) ∙ ap (λ (x : List ℕ). x ++ drop (start + 1) ds) (sym (decimal_one left t)) ∙ e

pub loop-left-init : goal.loop-left-init
loop-left-init g c = (refl, decimal_within 19 c.args.m (omega arith), omega arith, append-nil (decimal c.args.m))

pub overflow_sub-start : goal.overflow_sub-start
overflow_sub-start g c = omega (arith, decimal_longer c.loop-left.left c.loop-left-test.true, decimal_some (c.loop-left.left / 10))

pub loop-left-preserved : goal.loop-left-preserved
loop-left-preserved g c =
    let l = c.loop-left in
    let longer = decimal_longer l.left c.loop-left-test.true in
    let some = decimal_some (l.left / 10) in
    (length-set l.digits l.start (48 + l.left % 10) ∙ l.invariant.0, omega arith, omega arith, more l.digits l.start l.left c.args.m l.invariant.0 l.invariant.2 c.loop-left-test.true (omega arith) l.invariant.3)

pub returns : goal.returns
returns g c =
    let l = c.loop-left in
    c.put.ensures ∙ ap (λ (x : List ℕ). c.args.self.now ++ x) (whole l.digits l.start l.left c.args.m l.invariant.0 l.invariant.2 c.loop-left-test.false l.invariant.3)

pub put-requires : goal.put-requires
put-requires g c =
    let l = c.loop-left in
    (search rules, rw (whole l.digits l.start l.left c.args.m l.invariant.0 l.invariant.2 c.loop-left-test.false l.invariant.3) c.requires)
