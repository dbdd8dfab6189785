-- Giving has one list of steps, of any bytes.
use Rattle.std.specs.Prelude.{◌≡◌, ◌↔◌, Bool, eqb, length, take}
use Rattle.std.proofs.Math.Path.{refl, ap, subst}
use Rattle.std.proofs.Common.{sym, ◌∙◌, length-append, take_all}
use Rattle.std.proofs.Math.Bool.{true, false, cond}
use mathlib.Core.List.{List, [], ◌∷◌, ◌++◌}
use Prim.Native.Nat.{ℕ, zero, suc, ◌+◌, ◌-◌, ◌≤◌, ◌<◌, min}
use native.Mathlib.Omega.{arith}
use Rattle.std.proofs.Math.Decide.{dec_lt}
use borrow.Author.Tests.{eq-eqb, eqb-false, eqb-true, leb-false, leb-true, ne_eqb}
use Rattle.std.proofs.lemmas.List.{take-append-le}
use Rattle.std.proofs.Math.Seq.{take-nil}
use Rattle.rules.specs.Flash.{Bytes, Step}
use Rattle.rules.specs.Answers.{Outcome, given, number}
use Rattle.rules.specs.Calls.{Call, abort, begin, list_of, outcome}
use Rattle.laws.specs.Calls.{call_image, call_refused, call_steps, call_stopped}
use Rattle.laws.specs.Runs.{applied}
use Rattle.rules.specs.declared.Geometry.{Geometry}
use Rattle.rules.specs.declared.Rule.TheVariants.{Tightest}
use Rattle.c_store.specs.Allowances.{ChangingCall, aborts, begins, commits, its_allowance, same_list, same_refusal, writes}
use Rattle.pass_rules.specs.Texts.{pass_text, register_text}
use Rattle.pass_rules.specs.Give.{Looked, Went, broken, ends, finds, give, give_look, gives_at, goes_on, midway, noting, parts, refuses, starts}
use Rattle.promises_passes.specs.Words.{refused, steps_from, steps_of_give, whole}
use Rattle.promises_passes.specs.Fine.{Fine, finding, look_fine, refusal}

-- What an allowance of k makes of a list of steps from s, j steps being made before.
pub record By (k j : ℕ) (xs : List Step) (s : Bytes) (w : Went) : Type 0 where
  pub image : w.image ≡ applied (take k xs) s
  pub steps : w.steps ≡ j + min k (length xs)
  pub stopped : w.number ≡ 1 ↔ k < length xs

-- Parts that change the image.
pub data EachChanges : List (ℕ → Call) → Type 0 where
  end : EachChanges []
  each : {c : ℕ → Call} {cs : List (ℕ → Call)} → ChangingCall c → EachChanges cs → EachChanges (c ∷ cs)

applied_append : (xs ys : List Step) (s : Bytes) → applied (xs ++ ys) s ≡ applied ys (applied xs s)
unfolding applied
applied_append [] ys s = refl
applied_append (x ∷ xs) ys s = applied_append xs ys _

take_more : (n : ℕ) (xs ys : List Step) → length xs ≤ n → take n (xs ++ ys) ≡ xs ++ take (n - length xs) ys
take_more n [] ys h = let e : n ≡ n - 0 = omega arith in ap (λ (i : ℕ). take i ys) e
take_more zero (x ∷ xs) ys h = absurd (omega arith)
take_more (suc n) (x ∷ xs) ys h =
    let e : n - length xs ≡ suc n - suc (length xs) = omega arith in
    ap (λ (zs : List Step). x ∷ zs) (take_more n xs ys (omega arith)) ∙ ap (λ (i : ℕ). x ∷ (xs ++ take i ys)) e

module _ (g : Geometry) where
  -- A call's list, whatever its allowance.
  module _ {c : ℕ → Call} (ch : ChangingCall c) (s : Bytes) (i : ℕ) where
    abbrev xs : List Step
    xs = list_of g (c 0) s

    abbrev o : Outcome
    o = outcome g (c i) s

    its_image : o.image ≡ applied (take i xs) s
    its_image =
        call_image g (c i) s
        ∙ ap (λ (n : ℕ). applied (take n (list_of g (c i) s)) s) (its_allowance ch i)
        ∙ ap (λ ys. applied (take i ys) s) (same_list g s ch i 0)

    its_steps : (given o.answer).steps ≡ min i (length xs)
    its_steps = call_steps g (c i) s ∙ ap (λ (n : ℕ). min n (length (list_of g (c i) s))) (its_allowance ch i) ∙ ap (λ ys. min i (length ys)) (same_list g s ch i 0)

    its_stop : number o.answer ≡ 1 → i < length xs
    its_stop e =
        let l = (call_stopped g (c i) s).0 e in
        omega (arith, l, its_allowance ch i, ap length (same_list g s ch i 0))

    its_cut : i < length xs → number o.answer ≡ 1
    its_cut l = (call_stopped g (c i) s).1 (omega (arith, its_allowance ch i, ap length (same_list g s ch i 0)))

    -- Refused: nothing changed, and nothing to make.
    its_refusal : 2 ≤ number o.answer → (o.image ≡ s) × ((given o.answer).steps ≡ 0) × (length xs ≡ 0)
    its_refusal h =
        let u = call_refused g (c i) s h in
        let l : length xs ≤ i = within (dec_lt i (length xs)) in
        (u.image, u.steps, omega (arith, u.steps, its_steps))
      where
        within : Dec (i < length xs) → length xs ≤ i
        within (yes l) = absurd (omega (arith, its_cut l))
        within (no l) = omega arith

    -- Whether it is refused does not depend on its allowance.
    refused_or : (b : Bool) → refused g c s ≡ b → cond b (2 ≤ number o.answer) (number o.answer ≤ 1)
    unfolding refused
    refused_or true e =
        let l = leb-true 2 (number (outcome g (c 0) s).answer) e in
        omega (arith, same_refusal g s ch 0 i l)
    refused_or false e =
        let l = leb-false 2 (number (outcome g (c 0) s).answer) e in
        go (dec_lt 1 (number o.answer))
      where
        go : Dec (1 < number o.answer) → number o.answer ≤ 1
        go (yes h) = absurd (omega (arith, same_refusal g s ch i 0 h, leb-false 2 (number (outcome g (c 0) s).answer) e))
        go (no h) = omega arith

  -- All its steps made.
  whole_is : {c : ℕ → Call} → ChangingCall c → (s : Bytes) → whole g c s ≡ applied (list_of g (c 0) s) s
  unfolding whole
  whole_is {c} ch s = its_image ch s (length (list_of g (c 0) s)) ∙ ap (λ ys. applied ys s) (take_all (length (list_of g (c 0) s)) (list_of g (c 0) s) (omega arith))

  -- One part with the allowance i, and what follows it: more where it is DONE, and else what ends it.
  part_by : {c : ℕ → Call} → ChangingCall c → (i j : ℕ) (s : Bytes) (alt : List Step) (more : Bytes → List Step) (goes : ℕ → Bytes → Went) (bad : ℕ → ℕ → Bytes → Went)
      → ((m : ℕ) (t : Bytes) → By (i - m) (j + m) (more t) t (goes m t))
      → (2 ≤ number (outcome g (c i) s).answer → By i j alt s (bad (number (outcome g (c i) s).answer) (given (outcome g (c i) s).answer).steps (outcome g (c i) s).image))
      → (number (outcome g (c i) s).answer ≡ 1 → bad (number (outcome g (c i) s).answer) (given (outcome g (c i) s).answer).steps (outcome g (c i) s).image ≡ ends 1 (j + (given (outcome g (c i) s).answer).steps) (outcome g (c i) s).image)
      → By i j (elim (refused g c s) as (λ j. List Step) [ true ↦ alt | false ↦ list_of g (c 0) s ++ more (whole g c s) ]) s
      (noting (c i) (elim (eqb (number (outcome g (c i) s).answer) 0) as (λ j. Went) [
        | true ↦ goes (given (outcome g (c i) s).answer).steps (outcome g (c i) s).image
        | false ↦ bad (number (outcome g (c i) s).answer) (given (outcome g (c i) s).answer).steps (outcome g (c i) s).image
      ]))
  unfolding noting ends
  part_by {c} ch i j s alt more goes bad next hbad hstop = go (refused g c s) (refused_or ch s i (refused g c s) refl) (eqb n 0) refl
    where
      a : Outcome
      a = outcome g (c i) s

      n : ℕ
      n = number a.answer

      m : ℕ
      m = (given a.answer).steps

      xs : List Step
      xs = list_of g (c 0) s

      rest : List Step
      rest = more (whole g c s)

      done : n ≡ 0 → By i j (xs ++ rest) s (goes m a.image)
      done e =
          let z : length xs ≤ i = all_made (dec_lt i (length xs)) in
          let st : m ≡ length xs = omega (arith, its_steps ch s i) in
          let t : a.image ≡ whole g c s = its_image ch s i ∙ ap (λ (ys : List Step). applied ys s) (take_all i xs z) ∙ sym (whole_is ch s) in
          let h = next m a.image in
          let w : a.image ≡ applied xs s = t ∙ whole_is ch s in
          let ki : i - m ≡ i - length xs = omega arith in
          let hm : more a.image ≡ rest = ap more t in
          let ls = length-append xs rest in
          let lm : length (more a.image) ≡ length rest = ap length hm in
          record {
            image =
                h.image ∙ ap (λ (ys : List Step). applied (take (i - m) ys) a.image) hm ∙ ap (λ (b : Bytes). applied (take (i - m) rest) b) w
                ∙ ap (λ (v : ℕ). applied (take v rest) (applied xs s)) ki ∙ sym (applied_append xs (take (i - length xs) rest) s)
                ∙ ap (λ (ys : List Step). applied ys s) (sym (take_more i xs rest z));
            steps = h.steps ∙ omega (arith, ls, lm, st);
            stopped = (λ q. let v = h.stopped.0 q in omega (arith, ls, lm, v), λ q. h.stopped.1 (omega (arith, ls, lm, q)));
          }
        where
          all_made : Dec (i < length xs) → length xs ≤ i
          all_made (yes q) = absurd (omega (arith, its_cut ch s i q))
          all_made (no q) = omega arith

      cut : n ≡ 1 → By i j (xs ++ rest) s (bad n m a.image)
      cut e =
          let z : i < length xs = its_stop ch s i e in
          let st : m ≡ i = omega (arith, its_steps ch s i) in
          let ls = length-append xs rest in
          let b = hstop e in
          record {
            image = ap (λ (w : Went). w.image) b ∙ its_image ch s i ∙ ap (λ (ys : List Step). applied ys s) (sym (take-append-le i xs rest (omega arith)));
            steps = ap (λ (w : Went). w.steps) b ∙ omega (arith, ls, st);
            stopped = (λ q. omega (arith, ls), λ q. ap (λ (w : Went). w.number) b);
          }

      go : (r : Bool) → cond r (2 ≤ n) (n ≤ 1) → (b : Bool) → eqb n 0 ≡ b
          → By i j (elim r as (λ j. List Step) [ true ↦ alt | false ↦ xs ++ rest ]) s (noting (c i) (elim b as (λ j. Went) [ true ↦ goes m a.image | false ↦ bad n m a.image ]))
      go true l true e = absurd (omega (arith, eqb-true n 0 e))
      go true l false e = let h = hbad l in record { image = h.image; steps = h.steps; stopped = h.stopped }
      go false l true e = let h = done (eqb-true n 0 e) in record { image = h.image; steps = h.steps; stopped = h.stopped }
      go false l false e = let h = cut (let q = eqb-false n 0 e in omega arith) in record { image = h.image; steps = h.steps; stopped = h.stopped }

  module _ (k : ℕ) where
    mid_by : (r j : ℕ) (s : Bytes) → 2 ≤ r → By (k - j) j (list_of g (abort 0) s) s (midway g k r j s)
    unfolding midway noting ends
    mid_by r j s l =
        record {
          image = its_image aborts s (k - j);
          steps = ap (λ (n : ℕ). j + n) (its_steps aborts s (k - j));
          stopped = (λ e. its_stop aborts s (k - j) (cut (eqb n 1) refl e), λ e. ap (λ (b : Bool). cond b 1 r) (eq-eqb n 1 (its_cut aborts s (k - j) e)));
        }
      where
        n : ℕ
        n = number (outcome g (abort (k - j)) s).answer

        cut : (b : Bool) → eqb n 1 ≡ b → cond b 1 r ≡ 1 → n ≡ 1
        cut true e h = eqb-true n 1 e
        cut false e h = absurd (omega arith)

    -- A part that was refused: its image is the one before, and it made no step.
    broken_by : {c : ℕ → Call} → ChangingCall c → (j : ℕ) (s : Bytes) → 2 ≤ number (outcome g (c (k - j)) s).answer
        → By (k - j) j (list_of g (abort 0) s) s (broken g k (number (outcome g (c (k - j)) s).answer) (j + (given (outcome g (c (k - j)) s).answer).steps) (outcome g (c (k - j)) s).image)
    unfolding broken
    broken_by {c} ch j s l =
        let z = its_refusal ch s (k - j) l in
        let ij : j + (given (outcome g (c (k - j)) s).answer).steps ≡ j = omega (arith, z.1) in
        let n = number (outcome g (c (k - j)) s).answer in
        let t = ne_eqb n 1 (λ e. omega arith) in
        let p : broken g k n (j + (given (outcome g (c (k - j)) s).answer).steps) (outcome g (c (k - j)) s).image ≡ midway g k n j s =
        ap (λ (i : ℕ). broken g k n i (outcome g (c (k - j)) s).image) ij ∙ ap (λ (x : Bytes). broken g k n j x) z.0 ∙ rw (t, broken) in
        subst (λ (w : Went). By (k - j) j (list_of g (abort 0) s) s w) (sym p) (mid_by n j s l)

    goes_by : {cs : List (ℕ → Call)} → EachChanges cs → (j : ℕ) (s : Bytes) → By (k - j) j (steps_from g cs s) s (goes_on g k cs j s)
    unfolding goes_on ends steps_from applied broken
    goes_by end j s =
        record { image = ap (λ (ys : List Step). applied ys s) (sym (take-nil (k - j))); steps = omega arith; stopped = (λ e. absurd (omega arith), λ e. absurd (omega arith)) }
    goes_by (each {c} {cs} ch f) j s =
        part_by ch (k - j) j s (list_of g (abort 0) s) (steps_from g cs) (λ m t. goes_on g k cs (j + m) t) (λ n m t. broken g k n (j + m) t)
        (λ m t. let e : k - (j + m) ≡ k - j - m = omega arith in subst (λ (i : ℕ). By i (j + m) (steps_from g cs t) t (goes_on g k cs (j + m) t)) e (goes_by f (j + m) t))
        (broken_by ch j s)
        (λ e. rw (eq-eqb (number (outcome g (c (k - j)) s).answer) 1 e, broken))

    pass_each : (n a b : ℕ) → EachChanges (parts n a b)
    unfolding parts
    pass_each n a b = each (writes Tightest (2 + n) (pass_text n a b)) (each (writes Tightest 1 (register_text (n + 1))) (each commits end))

    start_by : {cs : List (ℕ → Call)} → EachChanges cs → (s : Bytes)
        → By k 0 (elim (refused g (begin Tightest) s) as (λ j. List Step) [ true ↦ [] | false ↦ list_of g (begin Tightest 0) s ++ steps_from g cs (whole g (begin Tightest) s) ]) s (starts g k cs s)
    unfolding starts ends applied
    start_by {cs} f s =
        part_by (begins Tightest) k 0 s [] (steps_from g cs) (λ m t. goes_on g k cs m t) (λ n m t. ends n m t)
        (λ m t. let e : m ≡ 0 + m = omega arith in subst (λ (i : ℕ). By (k - m) i (steps_from g cs t) t (goes_on g k cs m t)) e (goes_by f m t))
        (λ l. let z = its_refusal (begins Tightest) s k l in
        record { image = z.0 ∙ ap (λ (ys : List Step). applied ys s) (sym (take-nil k)); steps = omega (arith, z.1); stopped = (λ e. absurd (omega arith), λ e. absurd (omega arith)) })
        (λ e. let q : (given (outcome g (begin Tightest k) s).answer).steps ≡ 0 + (given (outcome g (begin Tightest k) s).answer).steps = omega arith in
        ap (λ (n : ℕ). ends n (given (outcome g (begin Tightest k) s).answer).steps (outcome g (begin Tightest k) s).image) e ∙ ap (λ (m : ℕ). ends 1 m (outcome g (begin Tightest k) s).image) q)

module _ (g : Geometry) (s : Bytes) where
  pub give_by : (k a b : ℕ) → By k 0 (steps_of_give g a b (give_look g s a b) s) s (give g k a b s)
  unfolding give gives_at steps_of_give ends applied
  give_by k a b = go (give_look g s a b) (look_fine g s a b)
    where
      go : (x : Looked ℕ) → Fine x → By k 0 (steps_of_give g a b x s) s (gives_at g k a b x s)
      go (refuses r) (refusal h) = record { image = ap (λ (ys : List Step). applied ys s) (sym (take-nil k)); steps = omega arith; stopped = (λ e. absurd (h e), λ e. absurd (omega arith)) }
      go (finds n) (finding x) = start_by g k (pass_each g k n a b) s
