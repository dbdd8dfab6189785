-- The people of a list, line by line.
use Rattle.std.specs.Prelude.{◌≡◌, Bool, true, false, ◌||◌, List, [], ◌∷◌, ℕ, zero, suc, ◌≤◌, ◌<◌, eqb, ltb, length, None, Some, Option as Maybe}
use Rattle.std.proofs.Math.Path.{refl, sym, ap}
use Rattle.std.proofs.Common.{◌∙◌, arith, le-ltb, lt-ltb, ne_eqb}
use Rattle.std.proofs.lemmas.Bool.Decides.{nat_tests}
use Rattle.std.specs.Bool.{then_some}
use Rattle.std.proofs.Math.Option.{Option, none, some}
use Rattle.rules.specs.Flash.{Bytes}
use Rattle.rules.specs.Lists.{is_none}
use Rattle.rules.specs.Text.{Parsed, text}
use Rattle.pass_rules.specs.Texts.{above, after, joined, line_in, people_in}
use Rattle.pass_rules.specs.Give.{is_on}
use Rattle.pass_text.specs.Shapes.{found_in}
use Rattle.pass_text.specs.declared.BothOn.{BothOn}

abbrev person : Bytes → Option Parsed
person s = line_in (text "person=") 65535 s

or_assoc : (a b c : Bool) → a || (b || c) ≡ (a || b) || c
or_assoc true b c = refl
or_assoc false b c = refl

eqb_sym : (x v : ℕ) → eqb v x ≡ eqb x v
eqb_sym x v = grind (arith, nat_tests)

found_joined : (x y v : ℕ) (a b : Bool) (o : Option (List ℕ)) → found_in x y a b (joined v o) ≡ found_in x y (a || eqb v x) (b || eqb v y) o
unfolding found_in joined is_on
found_joined x y v a b none = refl
found_joined x y v a b (some people) = rw (eqb_sym x v, eqb_sym y v, or_assoc a (eqb x v) (is_on x people), or_assoc b (eqb y v) (is_on y people))

-- One line, with k more behind it, after so many people found and the one before.
module _ (x y : ℕ) (a b : Bool) (k before : ℕ) (s : Bytes) where
  pub people_bad : person s ≡ none → None ≡ found_in x y a b (people_in (suc k) before s)
  unfolding people_in after found_in
  people_bad e = rw (e, people_in)

  module _ (v : ℕ) (rest : Bytes) (e : person s ≡ some (record { value = v; rest = rest })) where
    pub people_back : v ≤ before → None ≡ found_in x y a b (people_in (suc k) before s)
    unfolding people_in after found_in above
    people_back h = rw (e, people_in) (rw (le-ltb before v h, above))

    pub people_turn : before < v → found_in x y (a || eqb v x) (b || eqb v y) (people_in k v rest) ≡ found_in x y a b (people_in (suc k) before s)
    unfolding people_in after above
    people_turn h = rw (e, people_in) (rw (lt-ltb before v h, above) (sym (found_joined x y v a b (people_in k v rest))))

-- Behind the last.
pub people_end : (x y before : ℕ) (a b : Bool) (s : Bytes) → then_some (eqb (length s) 0) (record { first = a; second = b }) ≡ found_in x y a b (people_in 0 before s)
unfolding people_in found_in is_on is_none
people_end x y before a b [] = go a b
  where
    go : (a b : Bool) → ◌≡◌ {A = Maybe BothOn} (Some (record { first = a; second = b })) (Some (record { first = a || false; second = b || false }))
    go true true = refl
    go true false = refl
    go false true = refl
    go false false = refl
people_end x y before a b (c ∷ s) = let n : eqb (length (c ∷ s)) 0 ≡ false = ne_eqb (length (c ∷ s)) 0 (λ e. omega (arith, e)) in rw n

-- As many as the count says.
pub people_many : (k before : ℕ) (s : Bytes) (people : List ℕ) → people_in k before s ≡ some people → length people ≡ k
unfolding people_in after joined above
people_many zero before s people e = go (is_none s) e
  where
    go : (b : Bool) → (elim b as (λ j. Option (List ℕ)) [ true ↦ some [] | false ↦ none ]) ≡ some people → length people ≡ 0
    go true e = let p : [] ≡ people = cc in sym (ap length p)
    go false e = let z : ◌≡◌ {A = ℕ} 0 1 = cc in absurd (omega arith)
people_many (suc k) before s people e = line (person s) e (λ x rest. people_many k x rest)
  where
    line : (o : Option Parsed) → after o (λ x rest. above before x (joined x (people_in k x rest))) ≡ some people
        → ((x : ℕ) (rest : Bytes) (ps : List ℕ) → people_in k x rest ≡ some ps → length ps ≡ k) → length people ≡ suc k
    line none e f = let z : ◌≡◌ {A = ℕ} 0 1 = cc in absurd (omega arith)
    line (some p) e f = test (ltb before p.value) (people_in k p.value p.rest) e (f p.value p.rest)
      where
        test : (b : Bool) (o : Option (List ℕ)) → (elim b as (λ j. Option (List ℕ)) [ true ↦ joined p.value o | false ↦ none ]) ≡ some people
            → ((ps : List ℕ) → o ≡ some ps → length ps ≡ k) → length people ≡ suc k
        test true none e f = let z : ◌≡◌ {A = ℕ} 0 1 = cc in absurd (omega arith)
        test true (some ps) e f = let q : p.value ∷ ps ≡ people = cc in sym (ap length q) ∙ ap suc (f ps refl)
        test false o e f = let z : ◌≡◌ {A = ℕ} 0 1 = cc in absurd (omega arith)
