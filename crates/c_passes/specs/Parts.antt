-- The parts of a pass, from what the store's calls report.
use Rattle.std.specs.Prelude.{◌≡◌, Bool, true, false, cond, List, [], ◌∷◌, ℕ, ◌+◌, ◌-◌, ◌≤◌, eqb, MatchResult, Result, Ok, Err}
use Rattle.std.proofs.Math.Path.{refl, sym, ap}
use Rattle.std.proofs.Common.{◌∙◌, subst, arith, eq-eqb, ne_eqb}
use Rattle.rules.specs.Flash.{Bytes}
use Rattle.rules.specs.Answers.{given, number}
use Rattle.rules.specs.Calls.{Call, abort, begin, outcome}
use Rattle.laws.specs.Calls.{call_steps}
use Rattle.rules.specs.declared.Geometry.{Geometry}
use Rattle.rules.specs.declared.Rule.TheVariants.{Tightest}
use Rattle.c_report.specs.Exported.{exported}
use Rattle.c_report.specs.declared.Report.{Report}
use Rattle.c_store.specs.Reports.{Reports, geometry}
use Rattle.c_store.specs.Allowances.{ChangingCall, begins, its_allowance}
use Rattle.pass_rules.specs.Give.{Looked, Went, broken, ends, finds, give, give_look, gives_at, goes_on, midway, noting, parts, pass_at, pass_report, refuses, starts}
use Rattle.c_passes.specs.Shapes.{GivesPass}
use Rattle.c_passes.specs.declared.Sizes.{Sizes}
use Rattle.c_passes.specs.declared.giving.Asked.{Asked}
use Rattle.c_passes.specs.declared.giving.Giving.{Giving}
use Rattle.c_passes.specs.declared.giving.Stop.{Stop}

-- A number and the steps made, and the image that is left.
pub record Leaves (w : Went) (n i : ℕ) (t : Bytes) : Type 0 where
  pub number : n ≡ w.number
  pub steps : i ≡ w.steps
  pub image : t ≡ w.image

-- y goes on where x stands, with i steps made.
pub record GoesOn (x : Giving) (i : ℕ) (y : Giving) : Type 0 where
  pub sizes : y.sizes ≡ x.sizes
  pub allowance : y.allowance ≡ x.allowance
  pub made : y.made ≡ i

-- After a part's report: DONE, or where giving ends.
abbrev pub After : Giving → Report → Bytes → Result Giving Stop → Bytes → Type 0
After x p s r t =
    MatchResult r (λ y. GoesOn x (x.made + p.steps) y × (p.number ≡ 0) × (t ≡ s))
    (λ e. Leaves (broken (geometry x.sizes.size x.sizes.units) x.allowance p.number (x.made + p.steps) s) e.number e.steps t × (p.number ≡ 0 → ⊥))

-- What follows where x stands: the parts cs.
abbrev pub follows : Giving → List (ℕ → Call) → Bytes → Went
follows x cs s = goes_on (geometry x.sizes.size x.sizes.units) x.allowance cs x.made s

-- A part c is done, and what parts follow it follow where y stands; or giving ends there.
abbrev pub Part : Giving → (ℕ → Call) → Bytes → Result Giving Stop → Bytes → Type 0
Part x c s r t =
    MatchResult r (λ y. (cs : List (ℕ → Call)) (n i : ℕ) (u : Bytes) → Leaves (follows y cs t) n i u → Leaves (follows x (c ∷ cs) s) n i u)
    (λ e. (cs : List (ℕ → Call)) → Leaves (follows x (c ∷ cs) s) e.number e.steps t)

-- The whole transaction.
abbrev pub GivingEnds : Sizes → ℕ → Asked → Bytes → Result ℕ Stop → Bytes → Type 0
GivingEnds z k a s r t =
    let w = starts (geometry z.size z.units) k (parts a.n a.first a.second) s in
    MatchResult r (λ i. Leaves w 0 i t) (λ e. Leaves w e.number e.steps t)

module _ (g : Geometry) (c : Call) (s : Bytes) (r : Report) (t : Bytes) (h : Reports g c s r t) where
  reported_number : r.number ≡ number (outcome g c s).answer
  unfolding exported
  reported_number = ap (λ (q : Report). q.number) h.report

  reported_steps : r.steps ≡ (given (outcome g c s).answer).steps
  unfolding exported
  reported_steps = ap (λ (q : Report). q.steps) h.report

noted : (c : Call) (w : Went) {m i : ℕ} {u : Bytes} → Leaves w m i u → Leaves (noting c w) m i u
unfolding noting
noted c w h = record { number = h.number; steps = h.steps; image = h.image }

same : {w v : Went} {m i : ℕ} {u : Bytes} → w ≡ v → Leaves w m i u → Leaves v m i u
same {w} {v} {m} {i} {u} e h = subst (λ (x : Went). Leaves x m i u) e h

-- After a part with number n.
unfoldable pick : Geometry → ℕ → List (ℕ → Call) → ℕ → ℕ → Bytes → Went
pick g k cs n i t = elim (eqb n 0) [ true ↦ goes_on g k cs i t | false ↦ broken g k n i t ]

module _ (g : Geometry) (k j : ℕ) (s : Bytes) where
  -- The steps that are made stay within the allowance.
  pub steps_within : {c : ℕ → Call} → ChangingCall c → (r : Report) (t : Bytes) → j ≤ k → Reports g (c (k - j)) s r t → j + r.steps ≤ k
  steps_within {c} ch r t l h = omega (arith, reported_steps g (c (k - j)) s r t h, call_steps g (c (k - j)) s, its_allowance ch (k - j))

  module _ (n : ℕ) (r : Report) (t : Bytes) (h : Reports g (abort (k - j)) s r t) where
    abbrev o : ℕ
    o = number (outcome g (abort (k - j)) s).answer

    aborted : (m : ℕ) → m ≡ cond (eqb o 1) 1 n → Leaves (midway g k n j s) m (j + r.steps) t
    unfolding midway noting ends
    aborted m e = record { number = e; steps = ap (λ (i : ℕ). j + i) (reported_steps g (abort (k - j)) s r t h); image = h.image }

    pub abort_stopped : r.number ≡ 1 → Leaves (midway g k n j s) 1 (j + r.steps) t
    abort_stopped e = aborted 1 (sym (ap (λ (b : Bool). cond b 1 n) (eq-eqb o 1 (sym (reported_number g (abort (k - j)) s r t h) ∙ e))))

    pub abort_ended : (r.number ≡ 1 → ⊥) → Leaves (midway g k n j s) n (j + r.steps) t
    abort_ended e = aborted n (sym (ap (λ (b : Bool). cond b 1 n) (ne_eqb o 1 (λ x. e (reported_number g (abort (k - j)) s r t h ∙ x)))))

  module _ (n : ℕ) where
    pub broken_stopped : n ≡ 1 → Leaves (broken g k n j s) 1 j s
    unfolding broken ends
    broken_stopped e =
        let p : broken g k n j s ≡ ends 1 j s = rw (eq-eqb n 1 e, broken) in
        same (sym p) (record { number = refl; steps = refl; image = refl })

    pub broken_midway : (n ≡ 1 → ⊥) → {m i : ℕ} {u : Bytes} → Leaves (midway g k n j s) m i u → Leaves (broken g k n j s) m i u
    unfolding broken
    broken_midway e h =
        let p : broken g k n j s ≡ midway g k n j s = rw (ne_eqb n 1 e, broken) in
        same (sym p) h

  pub all_made : Leaves (goes_on g k [] j s) 0 j s
  unfolding goes_on ends
  all_made = record { number = refl; steps = refl; image = refl }

  module _ (c : ℕ → Call) (cs : List (ℕ → Call)) (r : Report) (t : Bytes) (h : Reports g (c (k - j)) s r t) where
    going : goes_on g k (c ∷ cs) j s ≡ noting (c (k - j)) (pick g k cs (number (outcome g (c (k - j)) s).answer) (j + (given (outcome g (c (k - j)) s).answer).steps) (outcome g (c (k - j)) s).image)
    unfolding goes_on pick
    going = refl

    picked : pick g k cs (number (outcome g (c (k - j)) s).answer) (j + (given (outcome g (c (k - j)) s).answer).steps) (outcome g (c (k - j)) s).image ≡ pick g k cs r.number (j + r.steps) t
    picked = rw (reported_number g (c (k - j)) s r t h, reported_steps g (c (k - j)) s r t h, h.image)

    pub part_done : r.number ≡ 0 → {m i : ℕ} {u : Bytes} → Leaves (goes_on g k cs (j + r.steps) t) m i u → Leaves (goes_on g k (c ∷ cs) j s) m i u
    unfolding pick
    part_done e l =
        let p = picked ∙ ap (λ (n : ℕ). pick g k cs n (j + r.steps) t) e in
        same (sym going) (noted (c (k - j)) (pick g k cs (number (outcome g (c (k - j)) s).answer) (j + (given (outcome g (c (k - j)) s).answer).steps) (outcome g (c (k - j)) s).image) (same (sym p) l))

    pub part_broken : (r.number ≡ 0 → ⊥) → {m i : ℕ} {u : Bytes} → Leaves (broken g k r.number (j + r.steps) t) m i u → Leaves (goes_on g k (c ∷ cs) j s) m i u
    unfolding pick
    part_broken e l =
        let p : pick g k cs r.number (j + r.steps) t ≡ broken g k r.number (j + r.steps) t = rw (ne_eqb r.number 0 e, pick) in
        same (sym going) (noted (c (k - j)) (pick g k cs (number (outcome g (c (k - j)) s).answer) (j + (given (outcome g (c (k - j)) s).answer).steps) (outcome g (c (k - j)) s).image) (same (sym (picked ∙ p)) l))

-- A part, from its report and what follows it.
pub part_after : (x : Giving) (c : ℕ → Call) (s : Bytes) (p : Report) (t u : Bytes) (r : Result Giving Stop)
    → Reports (geometry x.sizes.size x.sizes.units) (c (x.allowance - x.made)) s p t → After x p t r u → Part x c s r u
part_after x c s p t u (Ok y) h a =
    λ cs n i w l. part_done (geometry x.sizes.size x.sizes.units) x.allowance x.made s c cs p t h a.1 (rw (← a.2, ← a.0.made, ← a.0.sizes, ← a.0.allowance) l)
part_after x c s p t u (Err e) h a = λ cs. part_broken (geometry x.sizes.size x.sizes.units) x.allowance x.made s c cs p t h a.1 a.0

-- After a begin with number n.
unfoldable first : Geometry → ℕ → List (ℕ → Call) → ℕ → ℕ → Bytes → Went
first g k cs n i u = elim (eqb n 0) [ true ↦ goes_on g k cs i u | false ↦ ends n i u ]

module _ (g : Geometry) (k : ℕ) (s : Bytes) (cs : List (ℕ → Call)) (r : Report) (t : Bytes) (h : Reports g (begin Tightest k) s r t) where
  abbrev here : Went
  here = first g k cs (number (outcome g (begin Tightest k) s).answer) (given (outcome g (begin Tightest k) s).answer).steps (outcome g (begin Tightest k) s).image

  starting : starts g k cs s ≡ noting (begin Tightest k) here
  unfolding starts first
  starting = refl

  firstly : here ≡ first g k cs r.number r.steps t
  firstly = rw (reported_number g (begin Tightest k) s r t h, reported_steps g (begin Tightest k) s r t h, h.image)

  pub begun_within : r.steps ≤ k
  begun_within = omega (arith, reported_steps g (begin Tightest k) s r t h, call_steps g (begin Tightest k) s, its_allowance (begins Tightest) k)

  pub begun : r.number ≡ 0 → {m i : ℕ} {u : Bytes} → Leaves (goes_on g k cs r.steps t) m i u → Leaves (starts g k cs s) m i u
  unfolding first
  begun e l =
      let p = firstly ∙ ap (λ (n : ℕ). first g k cs n r.steps t) e in
      same (sym starting) (noted (begin Tightest k) here (same (sym p) l))

  pub not_begun : (r.number ≡ 0 → ⊥) → Leaves (starts g k cs s) r.number r.steps t
  unfolding first ends
  not_begun e =
      let p : first g k cs r.number r.steps t ≡ ends r.number r.steps t = rw (ne_eqb r.number 0 e, first) in
      same (sym starting) (noted (begin Tightest k) here (same (sym (firstly ∙ p)) (record { number = refl; steps = refl; image = refl })))

module _ (g : Geometry) (k a b : ℕ) (s : Bytes) (n : ℕ) where
  pub give_refused : give_look g s a b ≡ refuses n → GivesPass g a b k s (record { number = n; steps = 0; pass = 0 }) s
  unfolding give gives_at pass_report pass_at ends
  give_refused e =
      record {
        report = sym (ap (λ (x : Looked ℕ). pass_report x (gives_at g k a b x s)) e);
        image = sym (ap (λ (x : Looked ℕ). (gives_at g k a b x s).image) e);
      }

  module _ (e : give_look g s a b ≡ finds n) (m i : ℕ) (t : Bytes) (h : Leaves (starts g k (parts n a b) s) m i t) where
    given_at : pass_report (give_look g s a b) (give g k a b s) ≡ record { number = m; steps = i; pass = cond (eqb m 0) n 0 }
    unfolding give gives_at pass_report pass_at
    given_at = rw e (sym (rw (h.number, h.steps)))

    left_at : t ≡ (give g k a b s).image
    unfolding give gives_at
    left_at = h.image ∙ sym (ap (λ (x : Looked ℕ). (gives_at g k a b x s).image) e)

  pub give_done : give_look g s a b ≡ finds n → (i : ℕ) (t : Bytes) → Leaves (starts g k (parts n a b) s) 0 i t → GivesPass g a b k s (record { number = 0; steps = i; pass = n }) t
  give_done e i t h = record { report = sym (given_at e 0 i t h); image = left_at e 0 i t h }

  pub give_stopped : give_look g s a b ≡ finds n → (m i : ℕ) (t : Bytes) → (m ≡ 0 → ⊥) → Leaves (starts g k (parts n a b) s) m i t → GivesPass g a b k s (record { number = m; steps = i; pass = 0 }) t
  give_stopped e m i t z h = record { report = sym (given_at e m i t h ∙ rw (ne_eqb m 0 z)); image = left_at e m i t h }
