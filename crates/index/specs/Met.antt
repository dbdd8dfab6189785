-- What a walk over all entries leaves: the first place of a kind, and all places of a kind.
use Prim.Native.Nat.{ℕ, suc, ◌+◌, ◌≤◌}
use Rattle.std.proofs.Common.{arith, ◌∙◌, ne_eqb, eqb-true, lt-ltb}
use Rattle.std.specs.Prelude.{◌≡◌, Bool, cond, ◌&&◌, length}
use Rattle.std.proofs.Math.Path.{refl, sym, ap}
use Rattle.std.proofs.Math.Bool.{true, false}
use mathlib.Core.List.{List, [], ◌∷◌, ◌++◌, append_assoc, append-nil}
use Rattle.std.proofs.lemmas.List.{length-append}
use Rattle.std.proofs.Math.Dec.{eqb}
use Rattle.rules.specs.Lists.{filter, first}
use Rattle.rules.specs.Flash.{Bytes}
use Rattle.rules.specs.Unit.{Descriptor, stands, file_of}
use Rattle.rules.specs.Settled.{Entry, pick, of_file}
use Rattle.rules.specs.declared.Geometry.{Geometry}
use Rattle.index.specs.Places.{with_place}
use Rattle.index.specs.Shapes.{place_of, places, EachEntry, end, and, Stood, once}
use Rattle.index.specs.Walk.{met_all}

pub once_none : (v : ℕ) → once v 0 ≡ v
unfolding once
once_none v = go (eqb v 0) refl
  where
    go : (b : Bool) → eqb v 0 ≡ b → cond b 0 v ≡ v
    go true e = sym (eqb-true v 0 e)
    go false e = refl

-- one that is a place stays
once_kept : (v a p : ℕ) → (a ≡ 0 → ⊥) → once (once v a) p ≡ once v a
unfolding once
once_kept v a p n = go (eqb v 0) refl
  where
    go : (b : Bool) → eqb v 0 ≡ b → cond (eqb (cond b a v) 0) p (cond b a v) ≡ cond b a v
    go true e = rw (ne_eqb a 0 n)
    go false e = rw e

high : {g : Geometry} {s : Bytes} {e : Entry} → Stood g s e → e.place ≡ 0 → ⊥
unfolding stands
high p z = omega (arith, p.place)

module _ {V : Type 0} (m : ℕ → Descriptor → V → V) (t : Descriptor → Bool) where
  -- Where each descriptor of a kind leaves the first place of the two, the first of the kind is left.
  pub first_met : {g : Geometry} {s : Bytes} (get : V → ℕ) (Kept : V → Type 0)
      → ((a : ℕ) (d : Descriptor) (x : V) → Kept x → Kept (m a d x))
      → ((a : ℕ) (d : Descriptor) (x : V) → Kept x → get (m a d x) ≡ cond (t d) (once (get x) a) (get x))
      → {es : List Entry} → EachEntry (Stood g s) es → (x : V) → Kept x → get (met_all m es x) ≡ once (get x) (place_of (first (pick t es)))
  unfolding met_all pick filter first place_of
  first_met get Kept keeps law end x k = sym (once_none (get x))
  first_met get Kept keeps law (and {e} {es} p r) x k =
      first_met get Kept keeps law r (m e.place e.descriptor x) (keeps e.place e.descriptor x k)
      ∙ ap (λ (v : ℕ). once v (place_of (first (pick t es)))) (law e.place e.descriptor x k)
      ∙ go (t e.descriptor)
    where
      go : (b : Bool) → once (cond b (once (get x) e.place) (get x)) (place_of (first (pick t es))) ≡ once (get x) (place_of (first (cond b (e ∷ pick t es) (pick t es))))
      go true = once_kept (get x) e.place (place_of (first (pick t es))) (high p)
      go false = refl

  -- Where each descriptor of a kind leaves one place more, the places of all of the kind are left, if there is room for them.
  pub places_met : (get : V → List ℕ) → ((a : ℕ) (d : Descriptor) (x : V) → get (m a d x) ≡ cond (t d) (with_place a (get x)) (get x))
      → (es : List Entry) (x : V) → length (get x) + length (pick t es) ≤ 257 → get (met_all m es x) ≡ get x ++ places (pick t es)
  unfolding met_all pick filter places with_place
  places_met get law [] x l = sym (append-nil (get x))
  places_met get law (e ∷ es) x l = go (t e.descriptor) refl l (places_met get law es (m e.place e.descriptor x))
    where
      next : V
      next = m e.place e.descriptor x

      go : (b : Bool) → t e.descriptor ≡ b → length (get x) + length (cond b (e ∷ pick t es) (pick t es)) ≤ 257
          → (length (get next) + length (pick t es) ≤ 257 → get (met_all m es next) ≡ get next ++ places (pick t es))
          → get (met_all m es next) ≡ get x ++ places (cond b (e ∷ pick t es) (pick t es))
      go true q l rec =
          let n : get next ≡ get x ++ (e.place ∷ []) = law e.place e.descriptor x ∙ rw (q, lt-ltb (length (get x)) 257 (omega arith)) in
          rec (rw n (omega (arith, length-append (get x) (e.place ∷ [])))) ∙ rw n (append_assoc (get x) (e.place ∷ []) (places (pick t es)))
      go false q l rec =
          let n : get next ≡ get x = law e.place e.descriptor x ∙ rw q in
          rec (rw n l) ∙ rw n

pub length_places : (es : List Entry) → length (places es) ≡ length es
unfolding places
length_places [] = refl
length_places (e ∷ es) = ap suc (length_places es)

-- those of a kind that are of a file, and of the file those of a kind
pub filter_both : (k : Descriptor → Bool) (f : ℕ) (es : List Entry) → pick (λ (d : Descriptor). k d && eqb (file_of d) f) es ≡ filter (of_file f) (pick k es)
unfolding pick filter of_file
filter_both k f [] = refl
filter_both k f (e ∷ es) = go (k e.descriptor) (eqb (file_of e.descriptor) f) refl (filter_both k f es)
  where
    both : List Entry
    both = pick (λ (d : Descriptor). k d && eqb (file_of d) f) es

    go : (b t : Bool) → eqb (file_of e.descriptor) f ≡ t → both ≡ filter (of_file f) (pick k es)
        → cond (b && t) (e ∷ both) both ≡ filter (of_file f) (cond b (e ∷ pick k es) (pick k es))
    go true true q h = rw (q, h)
    go true false q h = rw (q, h)
    go false t q h = h
