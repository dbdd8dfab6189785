-- A commit programs flags alone: an entry's tag and length, and its unit's number, stay.
use Rattle.std.specs.Prelude.{◌≡◌, ◌≢◌, Bool, List, [], ◌∷◌, ◌++◌, ℕ, zero, suc, ◌+◌, ◌*◌, ◌%◌, ◌≤◌, length, None, Some}
use Rattle.std.proofs.Math.Path.{refl, ap}
use Rattle.std.proofs.Common.{◌∙◌}
use Rattle.std.proofs.Math.Bool.{true, false}
use native.Mathlib.Omega.{arith}
use borrow.Author.Tests.{ltb-true, ltb-false}
use Rattle.std.proofs.Math.Dec.{ltb}
use Rattle.rules.specs.Lists.{filter}
use Rattle.rules.specs.Flash.{Bytes, word, Step, program, erase, State, state, apply, idle, step, run, Run}
use Rattle.rules.specs.Unit.{stands, is_open, is_current_file, is_pending_file, file_of, current, old}
use Rattle.rules.specs.Settled.{Entry, Survey, survey, pick, select, of_file}
use Rattle.rules.specs.Jobs.{become, turn, turns, clean_up, commit_job}
use Rattle.laws.specs.Words.{word_aside}
use Rattle.laws.specs.Lists.{Every, every_append, every_filter}
use Rattle.rules.specs.declared.Geometry.{Geometry}
use Rattle.laws.specs.Units.{RightGeometry, row}
use Rattle.index.specs.Shapes.{EachEntry, end, and, Stood}
use Rattle.index.specs.Lent.{rows_eight}
use Rattle.table_entries.specs.Puts.{SameThere}

-- the step leaves the word at b
abbrev LeavesWord : ℕ → Step → Type 0
LeavesWord b (program a v) = (b ≢ a) × (b ≢ a + 1) × (b + 1 ≢ a)
LeavesWord b (erase a k) = ⊥

abbrev image_in : State → Bytes
image_in (state s r) = s

step_keeps : (b : ℕ) (x : Step) (s : Bytes) (r : Run) → LeavesWord b x → word (image_in (step x (state s r))) b ≡ word s b
unfolding step
step_keeps b x s None h = refl
step_keeps b (erase a k) s (Some m) h = absurd h
step_keeps b (program a v) s (Some m) h = go (idle (program a v) s) m
  where
    go : (t : Bool) (j : ℕ) → word (image_in (elim t as (λ (y : Bool). State) [ true ↦ state s (Some j) | false ↦ elim j as (λ (y : ℕ). State) [ zero ↦ state s None | suc i ↦ state (apply (program a v) s) (Some i) ] ])) b ≡ word s b
    go true j = refl
    go false zero = refl
    go false (suc i) = unfold apply in word_aside s a _ b h.0 h.1 h.2

run_keeps : (b : ℕ) (xs : List Step) (q : State) → Every (LeavesWord b) xs → word (image_in (run xs q)) b ≡ word (image_in q) b
unfolding run
run_keeps b [] q h = refl
run_keeps b (x ∷ xs) (state s r) h = run_keeps b xs (step x (state s r)) h.1 ∙ step_keeps b x s r h.0

-- ---- the steps of a commit stand at entries' places
become_aside : (b v : ℕ) (es : List Entry) → Every (λ (e : Entry). LeavesWord b (program e.place v)) es → Every (LeavesWord b) (become v es)
unfolding become
become_aside b v [] h = tt
become_aside b v (e ∷ es) h = (h.0, become_aside b v es h.1)

abbrev ClearOf : ℕ → Entry → Type 0
ClearOf b e = (b ≢ e.place) × (b ≢ e.place + 1) × (b + 1 ≢ e.place)

become_clear : (b v : ℕ) (es : List Entry) → Every (ClearOf b) es → Every (LeavesWord b) (become v es)
become_clear b v es h = become_aside b v es h

turns_clear : (b : ℕ) (cs es : List Entry) → Every (ClearOf b) cs → Every (ClearOf b) es → Every (LeavesWord b) (turns cs es)
unfolding turns turn
turns_clear b cs [] hc h = tt
turns_clear b cs (e ∷ es) hc h =
    every_append (LeavesWord b) (become old (filter (of_file (file_of e.descriptor)) cs) ++ (program e.place _ ∷ [])) (turns cs es)
    (every_append (LeavesWord b) (become old (filter (of_file (file_of e.descriptor)) cs)) (program e.place _ ∷ [])
    (become_clear b old (filter (of_file (file_of e.descriptor)) cs) (every_filter (ClearOf b) (of_file (file_of e.descriptor)) cs hc)) (h.0, tt))
    (turns_clear b cs es hc h.1)

commit_clear : (b : ℕ) (v : Survey) → Every (ClearOf b) v.entries → Every (LeavesWord b) (commit_job v)
unfolding commit_job clean_up select pick
commit_clear b v h =
    let ts = every_filter (ClearOf b) (λ (e : Entry). is_open e.descriptor) v.entries h in
    let cs = every_filter (ClearOf b) (λ (e : Entry). is_current_file e.descriptor) v.entries h in
    let ps = every_filter (ClearOf b) (λ (e : Entry). is_pending_file e.descriptor) v.entries h in
    every_append (LeavesWord b) (become current (select is_open v)) _ (become_clear b current _ ts)
    (every_append (LeavesWord b) (turns (select is_current_file v) (select is_pending_file v)) _ (turns_clear b _ _ cs ps) (become_clear b old _ ts))

-- ---- which words are clear of every entry's flags
module _ (g : Geometry) (s : Bytes) (o : RightGeometry g s) where
  eight : (e : Entry) → Stood g s e → e.place % 8 ≡ 0
  unfolding stands
  eight e at =
      let z : (at.unit * g.size) % 8 ≡ 0 = rows_eight at.unit g.size o.eight in
      rw at.place (omega arith)

  past_clear : (b : ℕ) → 2 ≤ b % 8 → b % 8 ≤ 6 → (e : Entry) → Stood g s e → ClearOf b e
  past_clear b l m e at =
      let z = eight e at in
      (λ q. omega (arith, z), λ q. omega (arith, z), λ q. omega (arith, z))

  base_clear : (k : ℕ) (e : Entry) → Stood g s e → ClearOf (k * g.size) e
  unfolding stands
  base_clear k e at = go (ltb k at.unit) (ltb at.unit k) refl refl
    where
      go : (x y : Bool) → ltb k at.unit ≡ x → ltb at.unit k ≡ y → ClearOf (k * g.size) e
      go true y p q =
          let r = row k at.unit g.size (ltb-true k at.unit p) in
          let h : k * g.size + 16 ≤ e.place = omega (arith, at.place, r, o.large) in
          (λ z. omega arith, λ z. omega arith, λ z. omega arith)
      go false true p q =
          let r = row at.unit k g.size (ltb-true at.unit k q) in
          let h : e.place + 8 ≤ k * g.size = omega (arith, at.place, at.within, r) in
          (λ z. omega arith, λ z. omega arith, λ z. omega arith)
      go false false p q =
          let l = ltb-false k at.unit p in
          let m = ltb-false at.unit k q in
          let same : k ≡ at.unit = omega arith in
          let b : k * g.size ≡ at.unit * g.size = ap (λ (n : ℕ). n * g.size) same in
          let h : k * g.size + 16 ≤ e.place = omega (arith, at.place, b) in
          (λ z. omega arith, λ z. omega arith, λ z. omega arith)

  every : (P : Entry → Type 0) → ((e : Entry) → Stood g s e → P e) → {es : List Entry} → EachEntry (Stood g s) es → Every P es
  every P h end = tt
  every P h (and {e} p q) = (h e p, every P h q)

  module _ (stood : EachEntry (Stood g s) (survey g s).entries) (k : ℕ) (u : Bytes) (r : Run) (ran : state u r ≡ run (commit_job (survey g s)) (state s (Some k))) where
    kept : (b : ℕ) → Every (ClearOf b) (survey g s).entries → word u b ≡ word s b
    kept b h = ap (λ (q : State). word (image_in q) b) ran ∙ run_keeps b (commit_job (survey g s)) (state s (Some k)) (commit_clear b (survey g s) h)

    -- what the image left has of an entry as s has it
    pub commit_alike : length u ≡ length s → (e : Entry) (at : Stood g s e) → SameThere g s u e at.unit
    commit_alike l e at =
        let z = eight e at in
        record {
          long = l;
          len = kept (e.place + 4) (every (ClearOf (e.place + 4)) (past_clear (e.place + 4) (omega (arith, z)) (omega (arith, z))) stood);
          tag = kept (e.place + 6) (every (ClearOf (e.place + 6)) (past_clear (e.place + 6) (omega (arith, z)) (omega (arith, z))) stood);
          number = kept (at.unit * g.size) (every (ClearOf (at.unit * g.size)) (base_clear at.unit) stood);
        }
