-- What a mount has left to do, where it ends, and the number that falls however often mounting is begun again.
use Rattle.std.specs.Prelude.{Bool, cond, false, true, List, [], ◌++◌, ◌∷◌, ◌≡◌, refl, ◌+◌, suc, ℕ, drop, length, take}
use Rattle.std.proofs.Common.{◌∙◌, ap, sym, arith, take-append-drop}
use Rattle.rules.specs.Flash.{Bytes, Step, finish, steps_of}
use Rattle.rules.specs.Jobs.{mount_job}
use Rattle.rules.specs.Lists.{filter}
use Rattle.rules.specs.Settled.{survey}
use Rattle.rules.specs.declared.Geometry.{Geometry}

-- the steps that a mount of s has left to do
abbrev pub left : Geometry → Bytes → List Step
left g s = steps_of (mount_job g s (survey g s)) s

-- the image that a finished mount of s leaves
abbrev pub end_of : Geometry → Bytes → Bytes
end_of g s = finish (mount_job g s (survey g s)) s

-- Is a step made only once, however often mounting is begun again? Each is.
unfoldable pub is_once : Geometry → Step → Bool
is_once g x = true

-- THE measure: how many such steps a list has
unfoldable pub once_in : Geometry → List Step → ℕ
once_in g xs = length (filter (is_once g) xs)

-- of two lists one behind the other; of a list in two parts
pub once_append : (g : Geometry) (xs ys : List Step) → once_in g (xs ++ ys) ≡ once_in g xs + once_in g ys
unfolding once_in filter
once_append g [] ys = omega arith
once_append g (x ∷ xs) ys = go (is_once g x) (once_append g xs ys)
  where
    go : (b : Bool) → length (filter (is_once g) (xs ++ ys)) ≡ length (filter (is_once g) xs) + length (filter (is_once g) ys)
        → length (cond b (x ∷ filter (is_once g) (xs ++ ys)) (filter (is_once g) (xs ++ ys))) ≡ length (cond b (x ∷ filter (is_once g) xs) (filter (is_once g) xs)) + length (filter (is_once g) ys)
    go true e = omega (arith, e)
    go false e = e

pub once_split : (g : Geometry) (k : ℕ) (xs : List Step) → once_in g (take k xs) + once_in g (drop k xs) ≡ once_in g xs
once_split g k xs = sym (once_append g (take k xs) (drop k xs)) ∙ ap (once_in g) (take-append-drop k xs)

-- ---- the one place that says that each step is made only once
pub once_all : (g : Geometry) (xs : List Step) → once_in g xs ≡ length xs
unfolding once_in is_once filter
once_all g [] = refl
once_all g (x ∷ xs) = ap suc (once_all g xs)
