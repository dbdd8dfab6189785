use Rattle.std.proofs.Common.{◌≡◌, ◌++◌, ◌∷◌, [], ℕ, suc, refl, List, ◌+◌, ◌-◌, ◌<◌, ◌≤◌, length, get_or, set, take, replicate, ap, sym, ◌∙◌, arith, add-one, take-suc, take_all, append_assoc}
use Rattle.std.proofs.Math.Seq.{length-take-le}
use Rattle.std.proofs.lemmas.List.{set_at, take_at}
use Rattle.c_passes.proofs.giving.alone.Goals as goal

-- One byte more is copied.
one_more : (xs ys : List ℕ) (i : ℕ) → i < length xs → length xs ≤ 64 → ys ≡ take i xs ++ replicate (64 - i) 0 → set ys i (get_or xs i 0) ≡ take (i + 1) xs ++ replicate (64 - (i + 1)) 0
one_more xs ys i h b e =
    let rest : List ℕ = replicate (64 - (i + 1)) 0 in
    let r : 64 - i ≡ suc (64 - (i + 1)) = omega arith in
    let last : take (i + 1) xs ≡ take i xs ++ (get_or xs i 0 ∷ []) = ap (λ (j : ℕ). take j xs) (add-one i) ∙ take-suc xs i 0 h in
    ap (λ (s : List ℕ). set s i (get_or xs i 0)) (e ∙ ap (λ (j : ℕ). take i xs ++ replicate j 0) r)
    ∙ set_at (take i xs) 0 rest (get_or xs i 0) i (length-take-le i xs (omega arith))
    ∙ sym (append_assoc (take i xs) (get_or xs i 0 ∷ []) rest)
    ∙ ap (λ (s : List ℕ). s ++ rest) (sym last)

pub loop-i-preserved : goal.loop-i-preserved
loop-i-preserved c = one_more c.args.content.now c.loop-i.bytes c.loop-i.i c.loop-i-test.true c.requires c.loop-i.invariant

pub returns : goal.returns
returns c =
    let x = c.args.content.now in
    let all : take c.loop-i.i x ≡ x = take_all c.loop-i.i x (omega arith) in
    ap (take (length x)) (c.loop-i.invariant ∙ ap (λ (s : List ℕ). s ++ replicate (64 - c.loop-i.i) 0) all) ∙ take_at x (replicate (64 - c.loop-i.i) 0) (length x) refl
