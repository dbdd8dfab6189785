-- Bytes stored one text after another.
use Rattle.std.specs.Prelude.{◌≡◌, [], ◌∷◌, ◌++◌, ℕ, suc, ◌+◌, ◌≤◌, ◌<◌, length, get_or, set, take}
use Rattle.std.proofs.Common.{sym, ap, ◌∙◌, add-zero, add-one, arith, take-suc, length-take-le, take_all}
use Rattle.std.proofs.lemmas.List.Edits.{sets}
use Rattle.rules.specs.Flash.{Bytes}

pub sets_more : (xs ys s : Bytes) (a : ℕ) → sets (sets s a xs) (a + length xs) ys ≡ sets s a (xs ++ ys)
sets_more [] ys s a = rw (add-zero a)
sets_more (x ∷ xs) ys s a =
    let e : a + suc (length xs) ≡ suc a + length xs = omega arith in
    rw e (sets_more xs ys (set s a x) (suc a))

-- One byte more of a text.
pub sets_turn : (s t xs : Bytes) (a k v : ℕ) → k < length xs → v ≡ get_or xs k 0 → t ≡ sets s a (take k xs) → set t (a + k) v ≡ sets s a (take (k + 1) xs)
sets_turn s t xs a k v h e f =
    let n : length (take k xs) ≡ k = length-take-le k xs (omega arith) in
    let q : sets (sets s a (take k xs)) (a + k) (v ∷ []) ≡ sets s a (take k xs ++ (v ∷ [])) = ap (λ (j : ℕ). sets (sets s a (take k xs)) (a + j) (v ∷ [])) (sym n) ∙ sets_more (take k xs) (v ∷ []) s a in
    ap (λ (r : Bytes). sets r (a + k) (v ∷ [])) f ∙ q ∙ ap (λ (x : ℕ). sets s a (take k xs ++ (x ∷ []))) e ∙ ap (sets s a) (sym (take-suc xs k 0 h) ∙ ap (λ (j : ℕ). take j xs) (sym (add-one k)))

-- The whole of it.
pub sets_end : (s t xs : Bytes) (a k : ℕ) → length xs ≤ k → t ≡ sets s a (take k xs) → t ≡ sets s a xs
sets_end s t xs a k h f = f ∙ ap (sets s a) (take_all k xs h)
