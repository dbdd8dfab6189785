-- Jobs on lists of entries that shorten by their first step.
use Rattle.std.specs.Prelude.{List, [], ◌++◌, ◌∷◌, ◌≡◌, refl, suc, zero, ℕ, length}
use Rattle.std.proofs.Common.{ap, subst, sym, arith}
use Rattle.rules.specs.Flash.{Step, program}
use Rattle.rules.specs.Settled.{Entry}
use Rattle.theory.specs.Images.Turn.{set_e}
use Rattle.theory.specs.Images.Stand.{Turnable, Turns, stay, turning}

module _ (P : List Entry → Type 0) (R : List Entry → List Entry → Type 0) (job : List Entry → List Step) where
  pub data Next (es : List Entry) : Type 0 where
    finished : job es ≡ [] → Next es
    more : (front : List Entry) (e : Entry) (back : List Entry) (v f : ℕ) → es ≡ front ++ e ∷ back → Turnable e v f
        → job es ≡ program e.place v ∷ job (front ++ set_e f e ∷ back) → P (front ++ set_e f e ∷ back) → R es (front ++ set_e f e ∷ back) → Next es

  pub record Finishes (es : List Entry) : Type 0 where
    pub last : List Entry
    pub turns : Turns P es (job es) last
    pub none : job last ≡ []
    pub holds : P last

  finishes_in : (k : ℕ) (es : List Entry) → length (job es) ≡ k → ((l : List Entry) → P l → Next l) → P es → Finishes es
  finishes_in zero es n next p = go (next es p)
    where
      go : Next es → Finishes es
      go (finished h) = record { last = es; turns = subst (λ (l : List Step). Turns P es l es) (sym h) (stay p); none = h; holds = p }
      go (more front e back v f w t j q r) = absurd (let z : ⊥ = omega (arith, n, ap length j) in z)
  finishes_in (suc k) es n next p = go (next es p) (λ l m q. finishes_in k l m next q)
    where
      go : Next es → ((l : List Entry) → length (job l) ≡ k → P l → Finishes l) → Finishes es
      go (finished h) f = absurd (let z : ⊥ = omega (arith, n, ap length h) in z)
      go (more front e back v f w t j q k) g =
          let r = g (front ++ set_e f e ∷ back) (omega (arith, n, ap length j)) q in
          record { last = r.last; turns = subst (λ (l : List Step). Turns P es l r.last) (sym j) (turning front e back v f p w t r.turns); none = r.none; holds = r.holds }

  pub finishes : ((l : List Entry) → P l → Next l) → (es : List Entry) → P es → Finishes es
  finishes next es p = finishes_in (length (job es)) es refl next p

-- P together with what each step keeps
module _ (P Q : List Entry → Type 0) (R : List Entry → List Entry → Type 0) (job : List Entry → List Step) (keeps : (a b : List Entry) → R a b → Q a → Q b) where
  abbrev pub Both : List Entry → Type 0
  Both es = P es × Q es

  pub next_both : ((l : List Entry) → P l → Next P R job l) → (l : List Entry) → Both l → Next Both R job l
  next_both next l b = go (next l b.0)
    where
      go : Next P R job l → Next Both R job l
      go (finished h) = finished h
      go (more front e back v f w t j q r) = more front e back v f w t j (q, keeps l (front ++ set_e f e ∷ back) r b.1) r
