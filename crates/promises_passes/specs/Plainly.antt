-- A give answers, and goes on, as the plain store says.
use Rattle.std.specs.Prelude.{◌≡◌, Bool, true, false, List, [], ◌∷◌, ℕ, ◌+◌, ◌-◌, eqb}
use Rattle.std.proofs.Math.Path.{refl, ap, subst}
use Rattle.std.proofs.Common.{◌∙◌}
use Rattle.std.proofs.Math.Bool.{cond}
use Rattle.rules.specs.Flash.{Bytes}
use Rattle.rules.specs.Answers.{Outcome, given, number}
use Rattle.rules.specs.Calls.{Call, abort, begin, commit, outcome, write}
use Rattle.rules.specs.Histories.{Plain, Reached, as_made, called, follow, is_format, takes_bytes}
use Rattle.rules.specs.Plain.{Seen, cut_short, plain_after, plain_number, plainly, seen}
use Rattle.rules.specs.declared.Geometry.{Geometry}
use Rattle.rules.specs.declared.Rule.TheVariants.{Tightest}
use Rattle.pass_rules.specs.Texts.{pass_text, register_text}
use Rattle.pass_rules.specs.Give.{Looked, Went, broken, ends, finds, give, give_look, gives_at, goes_on, midway, noting, parts, refuses, starts}
use Rattle.promises.specs.Demands.{answers_plainly, goes_on_plainly}
use Rattle.promises_passes.specs.Grammar.{pass_bytes, register_bytes}
use Rattle.promises_passes.specs.Looked.{look_plainly, still}
use Rattle.promises_passes.specs.Words.{Ended, first_seen, follow_all, later_seen, plain_gives, plain_look, plain_midway, plain_parts, plain_starts, seen_all}

-- What a walk answers and makes of the plain store.
pub record Plainly (g : Geometry) (s : Bytes) (m : Plain) (w : Went) (e : Ended) : Type 0 where
  pub number : w.number ≡ e.number
  pub store : follow_all g w.calls s m ≡ e.store

-- Calls of a history, of which the plain store says the same whatever their allowance.
data AnyAllowance : (ℕ → Call) → Type 0 where
  told : {c : ℕ → Call} → ((k : ℕ) → is_format (c k) ≡ false) → ((k : ℕ) → takes_bytes (c k) ≡ true)
      → ((m : Plain) (x : Seen) (k : ℕ) → plain_number m x (c k) ≡ plain_number m x (c 0)) → ((m : Plain) (x : Seen) (k : ℕ) → plain_after m x (c k) ≡ plain_after m x (c 0)) → AnyAllowance c

data AllAnyAllowance : List (ℕ → Call) → Type 0 where
  end : AllAnyAllowance []
  and : {c : ℕ → Call} {cs : List (ℕ → Call)} → AnyAllowance c → AllAnyAllowance cs → AllAnyAllowance (c ∷ cs)

write_told : (f : ℕ) (c : Bytes) → takes_bytes (write Tightest f c 0) ≡ true → AnyAllowance (write Tightest f c)
unfolding plain_number plain_after plainly cut_short is_format takes_bytes
write_told f c h = told (λ k. refl) (λ k. h) (λ m x k. refl) (λ m x k. refl)

commit_told : AnyAllowance commit
unfolding plain_number plain_after plainly cut_short is_format takes_bytes
commit_told = told (λ k. refl) (λ k. refl) (λ m x k. refl) (λ m x k. refl)

begin_told : AnyAllowance (begin Tightest)
unfolding plain_number plain_after plainly cut_short is_format takes_bytes
begin_told = told (λ k. refl) (λ k. refl) (λ m x k. refl) (λ m x k. refl)

abort_told : AnyAllowance abort
unfolding plain_number plain_after plainly cut_short is_format takes_bytes
abort_told = told (λ k. refl) (λ k. refl) (λ m x k. refl) (λ m x k. refl)

pass_told : (n a b : ℕ) → AllAnyAllowance (parts n a b)
unfolding parts takes_bytes
pass_told n a b = and (write_told (2 + n) (pass_text n a b) (pass_bytes n a b)) (and (write_told 1 (register_text (n + 1)) (register_bytes (n + 1))) (and commit_told end))

module _ (g : Geometry) where
  -- One call: its number, what it makes of the plain store, and a history that goes on.
  one_number : {c : ℕ → Call} → AnyAllowance c → (k : ℕ) {s : Bytes} {m : Plain} → Reached g s m → number (outcome g (c k) s).answer ≡ plain_number m (seen g (c k) s) (c 0)
  one_number {c} (told f t p q) k {s} {m} r = (answers_plainly g s m r (c k)).0 ∙ p m (seen g (c k) s) k

  one_after : {c : ℕ → Call} → AnyAllowance c → (k : ℕ) {s : Bytes} {m : Plain} → Reached g s m → follow g (c k) (outcome g (c k) s) m ≡ plain_after m (seen g (c k) s) (c 0)
  one_after {c} (told f t p q) k {s} {m} r = goes_on_plainly g s m r (c k) (f k) ∙ q m (seen g (c k) s) k

  one_reached : {c : ℕ → Call} → AnyAllowance c → (k : ℕ) {s : Bytes} {m : Plain} → Reached g s m → Reached g (outcome g (c k) s).image (follow g (c k) (outcome g (c k) s) m)
  one_reached {c} (told f t p q) k r = called (c k) (f k) (t k) r as_made

  module _ (k : ℕ) where
    mid_plainly : (n j : ℕ) (s : Bytes) (m : Plain) → Reached g s m → Plainly g s m (midway g k n j s) (plain_midway n (seen_all g (midway g k n j s).calls s) m)
    unfolding midway noting ends plain_midway follow_all seen_all first_seen
    mid_plainly n j s m r = record { number = ap (λ (i : ℕ). cond (eqb i 1) 1 n) (one_number abort_told (k - j) r); store = one_after abort_told (k - j) r }

    -- What the plain store says after a part with number n.
    unfoldable after : List (ℕ → Call) → ℕ → List Seen → Plain → Ended
    after cs n xs t = elim (eqb n 0) [ true ↦ plain_parts cs xs t | false ↦ elim (eqb n 1) [ true ↦ record { number = 1; store = t } | false ↦ plain_midway n xs t ] ]

    part_plainly : {c : ℕ → Call} → AnyAllowance c → (cs : List (ℕ → Call)) (j : ℕ) (s : Bytes) (m : Plain) → Reached g s m
        → ((i : ℕ) (u : Bytes) (n : Plain) → Reached g u n → Plainly g u n (goes_on g k cs i u) (plain_parts cs (seen_all g (goes_on g k cs i u).calls u) n))
        → Plainly g s m (goes_on g k (c ∷ cs) j s) (plain_parts (c ∷ cs) (seen_all g (goes_on g k (c ∷ cs) j s).calls s) m)
    unfolding goes_on noting plain_parts follow_all seen_all first_seen later_seen broken ends after
    part_plainly {c} t cs j s m r next =
        let h = go (eqb (number a.answer) 0) refl (eqb (number a.answer) 1) refl in
        let e : after cs (number a.answer) (seen_all g w.calls a.image) (follow g (c (k - j)) a m) ≡ after cs (plain_number m (seen g (c (k - j)) s) (c 0)) (seen_all g w.calls a.image) (plain_after m (seen g (c (k - j)) s) (c 0)) =
        ap (λ (n : ℕ). after cs n (seen_all g w.calls a.image) (follow g (c (k - j)) a m)) (one_number t (k - j) r)
        ∙ ap (λ (y : Plain). after cs (plain_number m (seen g (c (k - j)) s) (c 0)) (seen_all g w.calls a.image) y) (one_after t (k - j) r) in
        record { number = h.number ∙ ap (λ (x : Ended). x.number) e; store = h.store ∙ ap (λ (x : Ended). x.store) e }
      where
        a : Outcome
        a = outcome g (c (k - j)) s

        i : ℕ
        i = j + (given a.answer).steps

        w : Went
        w = elim (eqb (number a.answer) 0) as (λ j. Went) [ true ↦ goes_on g k cs i a.image | false ↦ broken g k (number a.answer) i a.image ]

        walk : Bool → Bool → Went
        walk b d = elim b as (λ j. Went) [ true ↦ goes_on g k cs i a.image | false ↦ elim d as (λ j. Went) [ true ↦ ends 1 i a.image | false ↦ midway g k (number a.answer) i a.image ] ]

        go : (b : Bool) → eqb (number a.answer) 0 ≡ b → (d : Bool) → eqb (number a.answer) 1 ≡ d
            → Plainly g a.image (follow g (c (k - j)) a m) (walk b d)
            (elim b as (λ j. Ended) [
              | true ↦ plain_parts cs (seen_all g (walk b d).calls a.image) (follow g (c (k - j)) a m)
              | false ↦ elim d as (λ j. Ended) [ true ↦ record { number = 1; store = follow g (c (k - j)) a m } | false ↦ plain_midway (number a.answer) (seen_all g (walk b d).calls a.image) (follow g (c (k - j)) a m) ]
            ])
        go true e d u = next i a.image (follow g (c (k - j)) a m) (one_reached t (k - j) r)
        go false e true u = record { number = refl; store = refl }
        go false e false u = mid_plainly (number a.answer) i a.image (follow g (c (k - j)) a m) (one_reached t (k - j) r)

    goes_plainly : {cs : List (ℕ → Call)} → AllAnyAllowance cs → (j : ℕ) (s : Bytes) (m : Plain) → Reached g s m → Plainly g s m (goes_on g k cs j s) (plain_parts cs (seen_all g (goes_on g k cs j s).calls s) m)
    unfolding goes_on ends plain_parts follow_all
    goes_plainly end j s m r = record { number = refl; store = refl }
    goes_plainly (and {c} {cs} t ts) j s m r = part_plainly t cs j s m r (λ i u n q. goes_plainly ts i u n q)

    start_plainly : {cs : List (ℕ → Call)} → AllAnyAllowance cs → (s : Bytes) (m : Plain) → Reached g s m → Plainly g s m (starts g k cs s) (plain_starts cs (seen_all g (starts g k cs s).calls s) m)
    unfolding starts noting plain_starts follow_all seen_all first_seen later_seen ends
    start_plainly {cs} ts s m r =
        let h = go (eqb (number a.answer) 0) refl in
        let e = ap (λ (n : ℕ). first n (follow g (begin Tightest k) a m)) (one_number begin_told k r) ∙ ap (λ (y : Plain). first (plain_number m (seen g (begin Tightest k) s) (begin Tightest 0)) y) (one_after begin_told k r) in
        record { number = h.number ∙ ap (λ (x : Ended). x.number) e; store = h.store ∙ ap (λ (x : Ended). x.store) e }
      where
        a : Outcome
        a = outcome g (begin Tightest k) s

        i : ℕ
        i = (given a.answer).steps

        walk : Bool → Went
        walk b = elim b as (λ j. Went) [ true ↦ goes_on g k cs i a.image | false ↦ ends (number a.answer) i a.image ]

        first : ℕ → Plain → Ended
        first n y = elim (eqb n 0) as (λ j. Ended) [ true ↦ plain_parts cs (seen_all g (walk (eqb (number a.answer) 0)).calls a.image) y | false ↦ record { number = n; store = y } ]

        go : (b : Bool) → eqb (number a.answer) 0 ≡ b
            → Plainly g a.image (follow g (begin Tightest k) a m) (walk b)
            (elim b as (λ j. Ended) [ true ↦ plain_parts cs (seen_all g (walk b).calls a.image) (follow g (begin Tightest k) a m) | false ↦ record { number = number a.answer; store = follow g (begin Tightest k) a m } ])
        go true e = goes_plainly ts i a.image (follow g (begin Tightest k) a m) (one_reached begin_told k r)
        go false e = record { number = refl; store = refl }

    pub give_plainly : (a b : ℕ) (t : Bytes) (m : Plain) (r : Reached g t m) → Plainly g t m (give g k a b t) (plain_gives a b (plain_look (still g t m r) m a b) (seen_all g (give g k a b t).calls t) m)
    unfolding give
    give_plainly a b t m r =
        subst (λ (x : Looked ℕ). Plainly g t m (give g k a b t) (plain_gives a b x (seen_all g (give g k a b t).calls t) m)) (look_plainly g t m r a b) (go (give_look g t a b))
      where
        go : (x : Looked ℕ) → Plainly g t m (gives_at g k a b x t) (plain_gives a b x (seen_all g (gives_at g k a b x t).calls t) m)
        go (refuses n) = unfold gives_at ends plain_gives follow_all in (record { number = refl; store = refl })
        go (finds n) = unfold gives_at plain_gives in start_plainly (pass_told n a b) t m r
