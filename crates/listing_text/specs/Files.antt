-- The files of a settled or sound image, counted by their places: as many as it has current descriptors.
use Rattle.std.specs.Prelude.{◌≡◌, Bool, true, false, not, cond, List, [], ◌∷◌, eqb, ltb, length, get_or, take, count_by}
use Rattle.std.proofs.Math.Path.{refl}
use Rattle.std.proofs.Common.{sym, ap, ◌∙◌, add-one, take_all}
use Rattle.std.proofs.lemmas.List.Sums.{count_by_more_no, count_by_more_yes}
use Prim.Native.Nat.{ℕ, zero, suc, ◌+◌, ◌≤◌, ◌<◌}
use native.Mathlib.Omega.{arith}
use borrow.Author.Tests.{eqb-true, eqb-false, lt-ltb, le-ltb, ltb-true, ltb-false}
use Rattle.rules.specs.Lists.{filter}
use Rattle.rules.specs.Flash.{Bytes}
use Rattle.rules.specs.Unit.{file_of, is_current_file}
use Rattle.rules.specs.Settled.{Entry, survey, select, of_file}
use Rattle.rules.specs.Sound.{standing}
use Rattle.rules.specs.declared.Geometry.{Geometry}
use Rattle.rules.specs.declared.Standing.TheVariants.{Neither}
use Rattle.unit.specs.Spots.{one_at}
use Rattle.index.specs.declared.Index.{Index}
use Rattle.index.specs.Shapes.{places, Indexed}
use Rattle.index.specs.Only.{whole}

-- There is a place.
abbrev pub is_place : ℕ → Bool
is_place a = not (eqb a 0)

-- ---- the entries of the first k files
total : ℕ → List Entry → ℕ
total zero es = 0
total (suc k) es = total k es + length (filter (of_file k) es)

one_below : (x k : ℕ) → cond (ltb x (suc k)) 1 0 ≡ cond (ltb x k) 1 0 + cond (eqb x k) 1 0
one_below x k = go (ltb x k) refl (eqb x k) refl
  where
    go : (a : Bool) → ltb x k ≡ a → (b : Bool) → eqb x k ≡ b → cond (ltb x (suc k)) 1 0 ≡ cond a 1 0 + cond b 1 0
    go true p true q = absurd (omega (arith, ltb-true x k p, eqb-true x k q))
    go true p false q = let h : x < suc k = omega (arith, ltb-true x k p) in rw (lt-ltb x (suc k) h)
    go false p true q = let h : x < suc k = omega (arith, eqb-true x k q) in rw (lt-ltb x (suc k) h)
    go false p false q =
        let n : x ≡ k → ⊥ = eqb-false x k q in
        let h : suc k ≤ x = omega (arith, ltb-false x k p) in
        rw (le-ltb x (suc k) h)

filter_cons : (k : ℕ) (e : Entry) (es : List Entry) → length (filter (of_file k) (e ∷ es)) ≡ length (filter (of_file k) es) + cond (eqb (file_of e.descriptor) k) 1 0
unfolding filter of_file
filter_cons k e es = go (eqb (file_of e.descriptor) k)
  where
    go : (b : Bool) → length (cond b (e ∷ filter (of_file k) es) (filter (of_file k) es)) ≡ length (filter (of_file k) es) + cond b 1 0
    go true = omega arith
    go false = omega arith

total_cons : (k : ℕ) (e : Entry) (es : List Entry) → total k (e ∷ es) ≡ total k es + cond (ltb (file_of e.descriptor) k) 1 0
unfolding total
total_cons zero e es = rw (le-ltb (file_of e.descriptor) 0 (omega arith))
total_cons (suc k) e es = omega (arith, total_cons k e es, filter_cons k e es, one_below (file_of e.descriptor) k)

total_none : (k : ℕ) → total k [] ≡ 0
unfolding total filter
total_none zero = refl
total_none (suc k) = omega (arith, total_none k)

total_all : (es : List Entry) → total 256 es ≡ length es
total_all [] = total_none 256
total_all (e ∷ es) =
    let f : file_of e.descriptor < 256 = unfold file_of in omega arith in
    total_cons 256 e es ∙ rw (lt-ltb (file_of e.descriptor) 256 f, total_all es) (omega arith)

-- ---- counted by places
length_places : (es : List Entry) → length (places es) ≡ length es
unfolding places
length_places [] = refl
length_places (e ∷ es) = ap suc (length_places es)

length_one : (a : ℕ) → length (one_at a) ≡ cond (is_place a) 1 0
unfolding one_at
length_one a = go (eqb a 0)
  where
    go : (b : Bool) → length (cond b [] (a ∷ [])) ≡ cond (not b) 1 0
    go true = refl
    go false = refl

module _ (g : Geometry) (s : Bytes) (r : Index) (x : Indexed g s r) (sound : standing g (survey g s) ≡ Neither → ⊥) (long : length r.current ≡ 256) where
  abbrev current : List Entry
  current = select is_current_file (survey g s)

  one : (f : ℕ) → f < 256 → cond (is_place (get_or r.current f 0)) 1 0 ≡ length (filter (of_file f) current)
  one f l = sym (length_one (get_or r.current f 0)) ∙ sym (ap length ((whole g s r x sound).current f l)) ∙ length_places (filter (of_file f) current)

  counted : (k : ℕ) → k ≤ 256 → count_by is_place (take k r.current) ≡ total k current
  unfolding total
  counted zero l = refl
  counted (suc k) l =
      let p = get_or r.current k 0 in
      let h : k < length r.current = omega arith in
      go (is_place p) refl (one k (omega arith)) (counted k (omega arith)) h
    where
      go : (b : Bool) → is_place (get_or r.current k 0) ≡ b → cond b 1 0 ≡ length (filter (of_file k) current) → count_by is_place (take k r.current) ≡ total k current → k < length r.current
          → count_by is_place (take (suc k) r.current) ≡ total k current + length (filter (of_file k) current)
      go true e n m h = ap (λ (j : ℕ). count_by is_place (take j r.current)) (sym (add-one k)) ∙ count_by_more_yes is_place r.current k 0 h e ∙ omega (arith, n, m)
      go false e n m h = ap (λ (j : ℕ). count_by is_place (take j r.current)) (sym (add-one k)) ∙ count_by_more_no is_place r.current k 0 h e ∙ omega (arith, n, m)

  -- As many files as current descriptors.
  pub files_are_lem : count_by is_place r.current ≡ length current
  files_are_lem = ap (count_by is_place) (sym (take_all 256 r.current (omega arith))) ∙ counted 256 (omega arith) ∙ total_all current
