-- Facts of tests and lists that the theorems use: a test is stated as `b ≡ true`.
use Rattle.std.specs.Prelude.{Bool, ◌&&◌, ◌||◌, ◌≢◌, ◌≡◌, T, eqb, leb, ltb, replicate}
use Rattle.std.proofs.Math.Bool.{cond, false, not, true}
use mathlib.Core.List.{List, [], ◌++◌, ◌∷◌}
use Rattle.std.proofs.Common.{◌∙◌, ap₂, subst, sym, le_of_suc-le-suc, not-suc-le-zero, arith, eqb→eq, leb→le, le→leb, ltb→lt, lt→ltb, length-append}
use Rattle.std.proofs.Math.Path.{ap, refl}
use Prim.Native.Nat.{◌+◌, ◌<◌, ◌≤◌, suc, zero, ℕ}
use Rattle.std.proofs.Math.Decide.{ℕ_discrete}
use Rattle.std.proofs.Math.Dec.{eqb_refl}
use Rattle.std.proofs.Math.ListN.{drop, get_or, length}
use Rattle.rules.specs.Lists.{all, filter}
pub use Rattle.laws.specs.Tests.{all_cons, all_uncons}

-- ---- tests
pub is_true : (b : Bool) → T b → b ≡ true
is_true true t = refl
is_true false t = absurd t

pub of_true : {b : Bool} → b ≡ true → T b
of_true e = subst (λ (b : Bool). T b) (sym e) tt

pub true_false : {A : Type 0} (b : Bool) → b ≡ true → b ≡ false → A
true_false b p q = absurd (let z : ◌≡◌ {A = ℕ} 0 1 = cc in let w : ⊥ = omega arith in w)

pub both : {a b : Bool} → a ≡ true → b ≡ true → a && b ≡ true
both {a} {b} s t = ap (λ (x : Bool). x && b) s ∙ t

pub and_l : (a b : Bool) → a && b ≡ true → a ≡ true
and_l true b h = refl
and_l false b h = h

pub and_r : (a b : Bool) → a && b ≡ true → b ≡ true
and_r true b h = h
and_r false b h = true_false false h refl

pub and_false : (a : Bool) → a && false ≡ false
and_false true = refl
and_false false = refl

pub or_right : (a : Bool) {b : Bool} → b ≡ true → a || b ≡ true
or_right true e = refl
or_right false e = e

pub or_last : (a b c : Bool) {d : Bool} → d ≡ true → a || b || c || d ≡ true
or_last true b c q = refl
or_last false true c q = refl
or_last false false true q = refl
or_last false false false q = q

pub or_left : {a : Bool} (b : Bool) → a ≡ true → a || b ≡ true
or_left b e = ap (λ (x : Bool). x || b) e

pub not-true : (b : Bool) → not b ≡ true → b ≡ false
not-true true h = sym h
not-true false h = refl

-- ---- tests of numbers
pub eq_of : (a b : ℕ) → eqb a b ≡ true → a ≡ b
eq_of a b h = eqb→eq a b (of_true h)

pub differ : {a b : ℕ} → a ≢ b → eqb a b ≡ false
differ {a} {b} h = go (eqb a b) refl
  where
    go : (c : Bool) → eqb a b ≡ c → c ≡ false
    go true e = absurd (h (eq_of a b e))
    go false e = refl

pub eqb_same : (a : ℕ) → eqb a a ≡ true
eqb_same a = is_true (eqb a a) (eqb_refl a)

pub eqb_sym : (a b : ℕ) → eqb a b ≡ eqb b a
eqb_sym a b = go (ℕ_discrete a b)
  where
    go : Dec (a ≡ b) → eqb a b ≡ eqb b a
    go (yes e) = ap (λ (x : ℕ). eqb x b) e ∙ ap (λ (x : ℕ). eqb b x) (sym e)
    go (no n) = differ n ∙ sym (differ (λ (e : b ≡ a). n (sym e)))

pub leb_of : (a b : ℕ) → a ≤ b → leb a b ≡ true
leb_of a b h = is_true (leb a b) (le→leb a b h)

pub le_of : (a b : ℕ) → leb a b ≡ true → a ≤ b
le_of a b h = leb→le a b (of_true h)

pub ltb_of : (a b : ℕ) → a < b → ltb a b ≡ true
ltb_of a b h = is_true (ltb a b) (lt→ltb a b h)

pub lt_of : (a b : ℕ) → ltb a b ≡ true → a < b
lt_of a b h = ltb→lt a b (of_true h)

-- ---- lists
pub is_nil : {A : Type 0} (l : List A) → length l ≡ 0 → l ≡ []
is_nil [] h = refl
is_nil (x ∷ l) h = absurd (let w : ⊥ = omega arith in w)

pub both_nil : {A : Type 0} (a b : List A) → a ++ b ≡ [] → (a ≡ []) × (b ≡ [])
both_nil a b e = (is_nil a (omega (arith, ap length e, length-append a b)), is_nil b (omega (arith, ap length e, length-append a b)))

pub append-nil : {A : Type 0} (xs : List A) → xs ++ [] ≡ xs
append-nil [] = refl
append-nil {A} (x ∷ xs) = ap {B = List A} (λ l. x ∷ l) (append-nil xs)

pub length_mid : {A : Type 0} (xs : List A) (d e : A) (ys : List A) → length (xs ++ e ∷ ys) ≡ length (xs ++ d ∷ ys)
length_mid [] d e ys = refl
length_mid (x ∷ xs) d e ys = ap suc (length_mid xs d e ys)

-- a list split twice at one place
pub record Splits {A : Type 0} (a : List A) (x : A) (b c : List A) (y : A) (d : List A) : Type 0 where
  pub front : a ≡ c
  pub mid : x ≡ y
  pub back : b ≡ d

pub splits : {A : Type 0} (a : List A) (x : A) (b c : List A) (y : A) (d : List A) → a ++ x ∷ b ≡ c ++ y ∷ d → length a ≡ length c → Splits a x b c y d
splits [] x b [] y d e l = record { front = refl; mid = ap (λ r. get_or r 0 x) e; back = ap (λ r. drop 1 r) e }
splits [] x b (z ∷ c) y d e l = absurd (let w : ⊥ = omega arith in w)
splits (z ∷ a) x b [] y d e l = absurd (let w : ⊥ = omega arith in w)
splits (z ∷ a) x b (w ∷ c) y d e l =
    let r = splits a x b c y d (ap (λ r. drop 1 r) e) (omega arith) in
    record { front = ap₂ (λ u v. u ∷ v) (ap (λ r. get_or r 0 z) e) r.front; mid = r.mid; back = r.back }

-- ---- all
module _ {A : Type 0} (p : A → Bool) where
  pub all_append : (xs ys : List A) → all p xs ≡ true → all p ys ≡ true → all p (xs ++ ys) ≡ true
  unfolding all
  all_append [] ys h k = k
  all_append (x ∷ xs) ys h k = all_cons p x (xs ++ ys) (all_uncons p x xs h).0 (all_append xs ys (all_uncons p x xs h).1 k)

  pub all_front : (xs ys : List A) → all p (xs ++ ys) ≡ true → all p xs ≡ true
  unfolding all
  all_front [] ys h = refl
  all_front (x ∷ xs) ys h = all_cons p x xs (all_uncons p x (xs ++ ys) h).0 (all_front xs ys (all_uncons p x (xs ++ ys) h).1)

  pub all_back : (xs ys : List A) → all p (xs ++ ys) ≡ true → all p ys ≡ true
  unfolding all
  all_back [] ys h = h
  all_back (x ∷ xs) ys h = all_back xs ys (all_uncons p x (xs ++ ys) h).1

  pub all_yes : ((x : A) → p x ≡ true) → (xs : List A) → all p xs ≡ true
  unfolding all
  all_yes h [] = refl
  all_yes h (x ∷ xs) = all_cons p x xs (h x) (all_yes h xs)

  pub all_replicate : (k : ℕ) (x : A) → p x ≡ true → all p (replicate k x) ≡ true
  unfolding all
  all_replicate zero x e = refl
  all_replicate (suc k) x e = all_cons p x (replicate k x) e (all_replicate k x e)

  pub all_get : (xs : List A) (i : ℕ) (d : A) → i < length xs → all p xs ≡ true → p (get_or xs i d) ≡ true
  unfolding all
  all_get [] i d l h = absurd (not-suc-le-zero l)
  all_get (x ∷ xs) zero d l h = (all_uncons p x xs h).0
  all_get (x ∷ xs) (suc i) d l h = all_get xs i d (le_of_suc-le-suc l) (all_uncons p x xs h).1

  pub all_change : (xs : List A) (d e : A) (ys : List A) → p e ≡ p d → all p (xs ++ e ∷ ys) ≡ all p (xs ++ d ∷ ys)
  unfolding all
  all_change [] d e ys h = ap (λ (b : Bool). elim b as (λ j. Bool) [ true ↦ all p ys | false ↦ false ]) h
  all_change (x ∷ xs) d e ys h = ap (λ (r : Bool). elim (p x) as (λ j. Bool) [ true ↦ r | false ↦ false ]) (all_change xs d e ys h)

  pub all_replace : (xs : List A) (d e : A) (ys : List A) → p e ≡ true → all p (xs ++ d ∷ ys) ≡ true → all p (xs ++ e ∷ ys) ≡ true
  unfolding all
  all_replace xs d e ys h k = all_append xs (e ∷ ys) (all_front xs (d ∷ ys) k) (all_cons p e ys h (all_uncons p d ys (all_back xs (d ∷ ys) k)).1)

  pub all_mid : (xs : List A) (e : A) (ys : List A) → all p (xs ++ e ∷ ys) ≡ p e && all p (xs ++ ys)
  unfolding all
  all_mid [] e ys = go (p e)
    where
      go : (b : Bool) → (elim b as (λ j. Bool) [ true ↦ all p ys | false ↦ false ]) ≡ b && all p ys
      go true = refl
      go false = refl
  all_mid (x ∷ xs) e ys = ap (λ (r : Bool). elim (p x) as (λ j. Bool) [ true ↦ r | false ↦ false ]) (all_mid xs e ys) ∙ go (p x) (p e)
    where
      go : (a b : Bool) → (elim a as (λ j. Bool) [ true ↦ b && all p (xs ++ ys) | false ↦ false ]) ≡ b && (elim a as (λ j. Bool) [ true ↦ all p (xs ++ ys) | false ↦ false ])
      go true b = refl
      go false true = refl
      go false false = refl

-- ---- filter
module _ {A : Type 0} (p : A → Bool) where
  pub filter_append : (xs ys : List A) → filter p (xs ++ ys) ≡ filter p xs ++ filter p ys
  unfolding filter
  filter_append [] ys = refl
  filter_append (x ∷ xs) ys = go (p x) (filter_append xs ys)
    where
      go : (b : Bool) → filter p (xs ++ ys) ≡ filter p xs ++ filter p ys → cond b (x ∷ filter p (xs ++ ys)) (filter p (xs ++ ys)) ≡ cond b (x ∷ filter p xs) (filter p xs) ++ filter p ys
      go true e = ap {B = List A} (λ l. x ∷ l) e
      go false e = e

  pub filter_out : (xs : List A) (e : A) (ys : List A) → p e ≡ false → filter p (xs ++ e ∷ ys) ≡ filter p xs ++ filter p ys
  unfolding filter
  filter_out xs e ys h = filter_append xs (e ∷ ys) ∙ ap (λ (b : Bool). filter p xs ++ cond b (e ∷ filter p ys) (filter p ys)) h

  pub filter_in : (xs : List A) (e : A) (ys : List A) → p e ≡ true → filter p (xs ++ e ∷ ys) ≡ filter p xs ++ e ∷ filter p ys
  unfolding filter
  filter_in xs e ys h = filter_append xs (e ∷ ys) ∙ ap (λ (b : Bool). filter p xs ++ cond b (e ∷ filter p ys) (filter p ys)) h

  pub filter_same : (xs : List A) (e d : A) (ys : List A) → p e ≡ false → p d ≡ false → filter p (xs ++ d ∷ ys) ≡ filter p (xs ++ e ∷ ys)
  filter_same xs e d ys h k = filter_out xs d ys k ∙ sym (filter_out xs e ys h)

  -- where the first that passes stands
  pub record FirstThat (es : List A) (e : A) (qs : List A) : Type 0 where
    pub front : List A
    pub back : List A
    pub whole : es ≡ front ++ e ∷ back
    pub none : filter p front ≡ []
    pub rest : filter p back ≡ qs
    pub pass : p e ≡ true

  pub filter_head : (es : List A) (e : A) (qs : List A) → filter p es ≡ e ∷ qs → FirstThat es e qs
  unfolding filter
  filter_head [] e qs h = absurd (let w : ⊥ = omega (arith, ap length h) in w)
  filter_head (x ∷ es) e qs h = go (p x) refl h (filter_head es e qs)
    where
      go : (b : Bool) → p x ≡ b → cond b (x ∷ filter p es) (filter p es) ≡ e ∷ qs → (filter p es ≡ e ∷ qs → FirstThat es e qs) → FirstThat (x ∷ es) e qs
      go true t k f =
          record { front = []; back = es; whole = ap (λ (a : A). a ∷ es) same; none = refl; rest = ap (λ l. drop 1 l) k; pass = ap p (sym same) ∙ t }
        where
          same : x ≡ e
          same = ap (λ l. get_or l 0 x) k
      go false t k f =
          let r = f k in
          record {
            front = x ∷ r.front;
            back = r.back;
            whole = ap {B = List A} (λ l. x ∷ l) r.whole;
            none = ap (λ (b : Bool). cond b (x ∷ filter p r.front) (filter p r.front)) t ∙ r.none;
            rest = r.rest;
            pass = r.pass;
          }

  -- once it is turned into one that does not pass, the others are left
  pub head_gone : (es : List A) (e : A) (qs : List A) (h : FirstThat es e qs) (d : A) → p d ≡ false → filter p (h.front ++ d ∷ h.back) ≡ qs
  head_gone es e qs h d n = filter_out h.front d h.back n ∙ ap₂ (λ (a b : List A). a ++ b) h.none h.rest

  -- those that pass and those that do not
  pub filter_halves : (es : List A) → length (filter p es) + length (filter (λ (x : A). not (p x)) es) ≡ length es
  unfolding filter
  filter_halves [] = refl
  filter_halves (e ∷ es) = go (p e) (filter_halves es)
    where
      go : (b : Bool) → length (filter p es) + length (filter (λ (x : A). not (p x)) es) ≡ length es → length (cond b (e ∷ filter p es) (filter p es)) + length (cond (not b) (e ∷ filter (λ (x : A). not (p x)) es) (filter (λ (x : A). not (p x)) es)) ≡ suc (length es)
      go true h = omega (arith, h)
      go false h = omega (arith, h)

pub filter_filter : {A : Type 0} (p q : A → Bool) (es : List A) → filter q (filter p es) ≡ filter (λ (x : A). p x && q x) es
unfolding filter
filter_filter p q [] = refl
filter_filter {A} p q (x ∷ es) = go (p x) (filter_filter p q es)
  where
    go : (b : Bool) → filter q (filter p es) ≡ filter (λ (y : A). p y && q y) es → filter q (cond b (x ∷ filter p es) (filter p es)) ≡ cond (b && q x) (x ∷ filter (λ (y : A). p y && q y) es) (filter (λ (y : A). p y && q y) es)
    go true e = ap (λ (l : List A). cond (q x) (x ∷ l) l) e
    go false e = e
