-- What a give makes of the plain store, where a history reaches its image.
use Rattle.std.specs.Prelude.{◌≡◌, Bool, ◌||◌, List, [], ◌∷◌, ℕ, zero, suc, ◌+◌, ◌-◌, ◌≤◌, eqb, ltb}
use Rattle.std.proofs.Math.Path.{refl, ap, subst}
use Rattle.std.proofs.Common.{sym, ◌∙◌, true≢false, eqb-true}
use Rattle.std.proofs.Math.Bool.{true, false, cond}
use Rattle.std.proofs.Math.Option.{none, some}
use native.Mathlib.Omega.{arith}
use Rattle.std.proofs.lemmas.Bool.{eqb-false}
use Rattle.rules.specs.Flash.{Bytes}
use Rattle.rules.specs.Answers.{Outcome, given, number}
use Rattle.rules.specs.Calls.{Call, abort, begin, commit, has_none, outcome, write}
use Rattle.rules.specs.Histories.{Changes, Files, Plain, Reached, as_made, begun, called, changed, changed_to, committed, dropped, ended_in, follow, is_content, is_done, is_format, laid_down, no_changes, takes_bytes}
use Rattle.laws.specs.Calls.{call_refused}
use Rattle.rules.specs.Plain.{Seen, cut_short, ending, is_settled, is_shut, plain_after, plain_number, plainly, seen, when_settled}
use Rattle.rules.specs.Settled.{survey}
use Rattle.rules.specs.Sound.{standing}
use Rattle.rules.specs.declared.Geometry.{Geometry}
use Rattle.rules.specs.declared.Rule.TheVariants.{Tightest}
use Rattle.rules.specs.declared.Standing.TheVariants.{Settled}
use Rattle.pass_rules.specs.Texts.{pass_text, register_text}
use Rattle.pass_rules.specs.Give.{Went, broken, ends, goes_on, midway, noting, parts, starts}
use Rattle.promises.specs.Demands.{answers_plainly, done_settles, goes_on_plainly}
use Rattle.promises_passes.specs.Grammar.{pass_bytes, register_bytes}
use Rattle.promises_passes.specs.Words.{follow_all, is_commit, is_committed, pass_changes}

-- What a walk from the image s and the plain store x leaves: the files F, or F' where a commit step was made; unless it is STOPPED,
-- none open and the image settled; DONE only with a commit step, and a commit step only where it is DONE or STOPPED.
pub record WalkResult (g : Geometry) (F F' : Files) (s : Bytes) (x : Plain) (w : Went) : Type 0 where
  pub files : (follow_all g w.calls s x).files ≡ cond (is_committed g w.calls s) F' F
  pub shut : (w.number ≡ 1 → ⊥) → (follow_all g w.calls s x).changes ≡ none
  pub settled : (w.number ≡ 1 → ⊥) → standing g (survey g w.image) ≡ Settled
  pub done : w.number ≡ 0 → is_committed g w.calls s ≡ true
  pub low : is_committed g w.calls s ≡ true → w.number ≤ 1

-- The parts: writes, then a commit; with the changes before and after the writes.
pub data WriteParts : List (ℕ → Call) → Changes → Changes → Type 0 where
  commits : {o : Changes} → WriteParts (commit ∷ []) o o
  writes : {cs : List (ℕ → Call)} {o p : Changes} (f : ℕ) (c : Bytes) → is_content c ≡ true → WriteParts cs (changed f (some c) o) p → WriteParts (write Tightest f c ∷ cs) o p

pub pass_writes : (n a b : ℕ) → WriteParts (parts n a b) no_changes (pass_changes n a b)
unfolding parts pass_changes
pass_writes n a b = writes (2 + n) (pass_text n a b) (pass_bytes n a b) (writes 1 (register_text (n + 1)) (register_bytes (n + 1)) commits)

or_false : (b : Bool) → b || false ≡ b
or_false true = refl
or_false false = refl

-- Neither 0 nor 1.
more : (n : ℕ) → (n ≡ 0 → ⊥) → (n ≡ 1 → ⊥) → 2 ≤ n
more n a b = omega arith

-- Where a call is DONE the plain store goes on as the plain call says.
after_done : (m : Plain) (x : Seen) (c : Call) → plain_number m x c ≡ 0 → plain_after m x c ≡ plainly m x c
unfolding plain_after
after_done m x c e = ap (λ (n : ℕ). cond (eqb n 0) (plainly m x c) (cond (eqb n 1) (cut_short m x c) m)) e

module _ (g : Geometry) (k : ℕ) (F : Files) where
  pub done_after : (m : Plain) (s : Bytes) → Reached g s m → (c : Call) → is_format c ≡ false → number (outcome g c s).answer ≡ 0 → follow g c (outcome g c s) m ≡ plainly m (seen g c s) c
  done_after m s r c f e = goes_on_plainly g s m r c f ∙ after_done m (seen g c s) c (sym (answers_plainly g s m r c).0 ∙ e)

  -- With one open.
  abbrev over : Changes → Plain
  over o = record { files = F; changes = some o }

  module _ (s : Bytes) (o : Changes) (r : Reached g s (over o)) (st : standing g (survey g s) ≡ Settled) where
    -- An abort, and a commit, of a settled image with one open is DONE or STOPPED.
    ends_low : (c : Call) → plain_number (over o) (seen g c s) c ≡ when_settled (over o) (seen g c s) (cond (is_shut (some o)) 7 (ending (over o) (seen g c s))) → number (outcome g c s).answer ≤ 1
    unfolding when_settled seen ending is_shut is_settled
    ends_low c e =
        let n = (answers_plainly g s (over o) r c).0 ∙ e ∙ ap (λ x. cond (is_settled x) (cond (seen g c s).enough 0 1) 4) st in
        omega (arith, n, low (seen g c s).enough)
      where
        low : (b : Bool) → cond b 0 1 ≤ 1
        low true = omega arith
        low false = omega arith

    -- Refused midway.
    mid : (F' : Files) (n j : ℕ) → 2 ≤ n → WalkResult g F F' s (over o) (midway g k n j s)
    unfolding midway noting ends follow_all is_committed is_commit follow ended_in dropped plain_number
    mid F' n j l =
        record {
          files = kept (has_none (survey g a.image));
          shut = λ h. go (eqb (number a.answer) 1) refl h;
          settled = λ h. done_settles g s (over o) r (abort (k - j)) (unfold takes_bytes in refl) (zero h);
          done = λ h. absurd (no (eqb (number a.answer) 1) h);
          low = λ h. absurd (true≢false (sym h));
        }
      where
        a : Outcome
        a = outcome g (abort (k - j)) s

        kept : (b : Bool) → (cond b (dropped (over o)) (over o)).files ≡ F
        kept true = refl
        kept false = refl

        no : (b : Bool) → cond b 1 n ≡ 0 → ⊥
        no true e = omega arith
        no false e = omega arith

        -- Unless it is STOPPED the abort is DONE.
        zero : (cond (eqb (number a.answer) 1) 1 n ≡ 1 → ⊥) → number a.answer ≡ 0
        zero h = pick (eqb (number a.answer) 1) refl h
          where
            pick : (b : Bool) → eqb (number a.answer) 1 ≡ b → (cond b 1 n ≡ 1 → ⊥) → number a.answer ≡ 0
            pick true e h = absurd (h refl)
            pick false e h = omega (arith, ends_low (abort (k - j)) refl, eqb-false (number a.answer) 1 e)

        go : (b : Bool) → eqb (number a.answer) 1 ≡ b → (cond b 1 n ≡ 1 → ⊥) → (cond (has_none (survey g a.image)) (dropped (over o)) (over o)).changes ≡ none
        go true e h = absurd (h refl)
        go false e h =
            let z : number a.answer ≡ 0 = omega (arith, ends_low (abort (k - j)) refl, eqb-false (number a.answer) 1 e) in
            let p : plainly (over o) (seen g (abort (k - j)) s) (abort (k - j)) ≡ dropped (over o) = unfold plainly in refl in
            ap (λ (m : Plain). m.changes) (done_after (over o) s r (abort (k - j)) (unfold is_format in refl) z ∙ p)

    -- The commit.
    commit_result : (j : ℕ) → WalkResult g F (laid_down o F) s (over o) (goes_on g k (commit ∷ []) j s)
    unfolding goes_on noting broken ends follow_all is_committed is_commit follow committed plain_number
    commit_result j = go (number a.answer) refl (ends_low (commit (k - j)) refl)
      where
        a : Outcome
        a = outcome g (commit (k - j)) s

        i : ℕ
        i = j + (given a.answer).steps

        now : Plain
        now = cond (ltb 0 (given a.answer).steps) (record { files = laid_down o F; changes = none }) (over o)

        files : (b : Bool) → (cond b (record { files = laid_down o F; changes = none }) (over o)).files ≡ cond (b || false) (laid_down o F) F
        files true = refl
        files false = refl

        -- DONE, its commit step was made.
        made : number a.answer ≡ 0 → ltb 0 (given a.answer).steps ≡ true
        made z = pick (ltb 0 (given a.answer).steps) (done_after (over o) s r (commit (k - j)) (unfold is_format in refl) z ∙ unfold plainly committed in refl)
          where
            pick : (b : Bool) → cond b (record { files = laid_down o F; changes = none }) (over o) ≡ record { files = laid_down o F; changes = none } → b ≡ true
            pick true e = refl
            pick false e = let w : some o ≡ none = ap (λ (m : Plain). m.changes) e in cc

        go : (n : ℕ) → number a.answer ≡ n → n ≤ 1
            → WalkResult g F (laid_down o F) s (over o) (noting (commit (k - j)) (elim (eqb n 0) as (λ j. Went) [ true ↦ ends 0 i a.image | false ↦ elim (eqb n 1) as (λ j. Went) [ true ↦ ends 1 i a.image | false ↦ midway g k n i a.image ] ]))
        go zero e l =
            record {
              files = files (ltb 0 (given a.answer).steps);
              shut = λ h. ap (λ (b : Bool). (cond b (record { files = laid_down o F; changes = none }) (over o)).changes) (made e);
              settled = λ h. done_settles g s (over o) r (commit (k - j)) (unfold takes_bytes in refl) e;
              done = λ h. or_false (ltb 0 (given a.answer).steps) ∙ made e;
              low = λ h. omega arith;
            }
        go (suc zero) e l =
            record {
              files = files (ltb 0 (given a.answer).steps);
              shut = λ h. absurd (h refl);
              settled = λ h. absurd (h refl);
              done = λ h. absurd (omega arith);
              low = λ h. omega arith;
            }
        go (suc (suc n)) e l = absurd (omega arith)

  -- A write, and what follows it.
  write_result : (cs : List (ℕ → Call)) (o p : Changes) (f : ℕ) (c : Bytes) → is_content c ≡ true → (s : Bytes) → Reached g s (over o) → standing g (survey g s) ≡ Settled → (j : ℕ)
      → ((t : Bytes) → Reached g t (over (changed f (some c) o)) → standing g (survey g t) ≡ Settled → (i : ℕ) → WalkResult g F (laid_down p F) t (over (changed f (some c) o)) (goes_on g k cs i t))
      → WalkResult g F (laid_down p F) s (over o) (goes_on g k (write Tightest f c ∷ cs) j s)
  unfolding goes_on noting broken ends follow_all is_committed is_commit follow changed_to is_done
  write_result cs o p f c h s r st j next =
      go (eqb (number a.answer) 0) refl (eqb (number a.answer) 1) refl (called (write Tightest f c (k - j)) (unfold is_format in refl) (unfold takes_bytes in h) r as_made)
    where
      a : Outcome
      a = outcome g (write Tightest f c (k - j)) s

      n : ℕ
      n = number a.answer

      i : ℕ
      i = j + (given a.answer).steps

      now : Bool → Plain
      now b = cond b (over (changed f (some c) o)) (over o)

      noted : (b : Bool) (w : Went) → eqb n 0 ≡ b → WalkResult g F (laid_down p F) a.image (now b) w → WalkResult g F (laid_down p F) s (over o) (noting (write Tightest f c (k - j)) w)
      noted b w e q =
          let v = subst (λ (y : Bool). WalkResult g F (laid_down p F) a.image (now y) w) (sym e) q in
          record { files = v.files; shut = v.shut; settled = v.settled; done = v.done; low = v.low }

      go : (b : Bool) → eqb n 0 ≡ b → (d : Bool) → eqb n 1 ≡ d → Reached g a.image (now b)
          → WalkResult g F (laid_down p F) s (over o) (noting (write Tightest f c (k - j)) (elim b as (λ j. Went) [ true ↦ goes_on g k cs i a.image | false ↦ elim d as (λ j. Went) [ true ↦ ends 1 i a.image | false ↦ midway g k n i a.image ] ]))
      go true e d u q =
          noted true (goes_on g k cs i a.image) e (next a.image q (done_settles g s (over o) r (write Tightest f c (k - j)) (unfold takes_bytes in h) (eqb-true n 0 e)) i)
      go false e true u q =
          noted false (ends 1 i a.image) e
          (record { files = refl; shut = λ h. absurd (h refl); settled = λ h. absurd (h refl); done = λ h. absurd (omega arith); low = λ h. absurd (true≢false (sym h)) })
      go false e false u q =
          let l : 2 ≤ n = more n (eqb-false n 0 e) (eqb-false n 1 u) in
          let w = (call_refused g (write Tightest f c (k - j)) s l).image in
          noted false (midway g k n i a.image) e
          (mid a.image o q (subst (λ (t : Bytes). standing g (survey g t) ≡ Settled) (sym w) st) (laid_down p F) n i l)

  -- Writes and the commit.
  goes_result : {cs : List (ℕ → Call)} {o p : Changes} → WriteParts cs o p → (s : Bytes) → Reached g s (over o) → standing g (survey g s) ≡ Settled → (j : ℕ) → WalkResult g F (laid_down p F) s (over o) (goes_on g k cs j s)
  goes_result (commits {o}) s r st j = commit_result s o r st j
  goes_result (writes {cs} {o} {p} f c h w) s r st j = write_result cs o p f c h s r st j (λ t q u i. goes_result w t q u i)

-- The whole: begin, and what follows it.
pub starts_result : (g : Geometry) (k : ℕ) (m : Plain) {cs : List (ℕ → Call)} {p : Changes} → WriteParts cs no_changes p → (s : Bytes) → Reached g s m → m.changes ≡ none → standing g (survey g s) ≡ Settled
    → WalkResult g m.files (laid_down p m.files) s m (starts g k cs s)
unfolding starts noting ends follow_all is_committed is_commit follow begun is_done
starts_result g k m {cs} {p} w s r shut st = go (eqb (number a.answer) 0) refl (called (begin Tightest k) (unfold is_format in refl) (unfold takes_bytes in refl) r as_made)
  where
    a : Outcome
    a = outcome g (begin Tightest k) s

    n : ℕ
    n = number a.answer

    i : ℕ
    i = (given a.answer).steps

    now : Bool → Plain
    now b = cond b (over g k m.files no_changes) m

    noted : (b : Bool) (v : Went) → eqb n 0 ≡ b → WalkResult g m.files (laid_down p m.files) a.image (now b) v → WalkResult g m.files (laid_down p m.files) s m (noting (begin Tightest k) v)
    noted b v e q =
        let u = subst (λ (y : Bool). WalkResult g m.files (laid_down p m.files) a.image (now y) v) (sym e) q in
        record { files = u.files; shut = u.shut; settled = u.settled; done = u.done; low = u.low }

    -- Neither DONE nor STOPPED, it is refused.
    same : eqb n 0 ≡ false → (n ≡ 1 → ⊥) → a.image ≡ s
    same e h = (call_refused g (begin Tightest k) s (more n (eqb-false n 0 e) h)).image

    go : (b : Bool) → eqb n 0 ≡ b → Reached g a.image (now b)
        → WalkResult g m.files (laid_down p m.files) s m (noting (begin Tightest k) (elim b as (λ j. Went) [ true ↦ goes_on g k cs i a.image | false ↦ ends n i a.image ]))
    go true e q = noted true (goes_on g k cs i a.image) e (goes_result g k m.files w a.image q (done_settles g s m r (begin Tightest k) (unfold takes_bytes in refl) (eqb-true n 0 e)) i)
    go false e q =
        noted false (ends n i a.image) e
        (record {
          files = refl;
          shut = λ h. shut;
          settled = λ h. subst (λ (t : Bytes). standing g (survey g t) ≡ Settled) (sym (same e h)) st;
          done = λ h. absurd (eqb-false n 0 e h);
          low = λ h. absurd (true≢false (sym h));
        })
