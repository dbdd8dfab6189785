-- A look is not STOPPED.
use Rattle.std.specs.Prelude.{◌≡◌, Bool, true, false, ◌&&◌, ◌||◌, List, ℕ, ◌≤◌, eqb, length}
use Rattle.std.proofs.Common.{ap, arith}
use Rattle.std.proofs.Math.Option.{Option, none, some}
use Rattle.rules.specs.Flash.{Bytes}
use Rattle.rules.specs.Answers.{number}
use Rattle.rules.specs.Calls.{Call, outcome, read_open}
use Rattle.laws.specs.Calls.{ReadingCall, call_stopped, read_list, reads, reads_open}
use Rattle.rules.specs.declared.Geometry.{Geometry}
use Rattle.rules.specs.Lists.{is_none}
use Rattle.pass_rules.specs.Texts.{StaffList, register_in, staff_in}
use Rattle.pass_rules.specs.Give.{Looked, FileRead, count_from, counted, finds, give_look, is_on, list_from, listed, next, not_full, refuses, register_look, read_by, shut, staff_look, two_of}

pub data Fine {A : Type 0} : Looked A → Type 0 where
  refusal : {r : ℕ} → (r ≡ 1 → ⊥) → Fine (refuses r)
  finding : (x : A) → Fine (finds x)

fine_at : {A : Type 0} (r : ℕ) → 2 ≤ r → Fine {A = A} (refuses r)
fine_at r l = refusal (λ (e : r ≡ 1). omega arith)

fine_next : {A B : Type 0} (x : Looked A) (f : A → Looked B) → Fine x → ((y : A) → Fine (f y)) → Fine (next x f)
unfolding next
fine_next x f (refusal h) k = refusal h
fine_next x f (finding y) k = k y

fine_list : (q : FileRead) → (q.number ≡ 1 → ⊥) → Fine (list_from q)
unfolding list_from listed
fine_list q h = go (eqb q.number 0) (eqb q.number 9)
  where
    inner : (o : Option StaffList) → Fine (listed o)
    inner none = fine_at 21 (omega arith)
    inner (some l) = test (is_none l.people)
      where
        test : (b : Bool) → Fine {A = StaffList} (elim b as (λ j. Looked StaffList) [ true ↦ refuses 20 | false ↦ finds l ])
        test true = fine_at 20 (omega arith)
        test false = finding l

    go : (a b : Bool) → Fine {A = StaffList} (elim a as (λ j. Looked StaffList) [ true ↦ listed (staff_in q.content) | false ↦ elim b as (λ j. Looked StaffList) [ true ↦ refuses 20 | false ↦ refuses q.number ] ])
    go true b = inner (staff_in q.content)
    go false true = fine_at 20 (omega arith)
    go false false = refusal h

fine_count : (q : FileRead) → (q.number ≡ 1 → ⊥) → Fine (count_from q)
unfolding count_from counted
fine_count q h = go (eqb q.number 0) (eqb q.number 9)
  where
    inner : (o : Option ℕ) → Fine (counted o)
    inner none = fine_at 24 (omega arith)
    inner (some n) = finding n

    go : (a b : Bool) → Fine {A = ℕ} (elim a as (λ j. Looked ℕ) [ true ↦ counted (register_in q.content) | false ↦ elim b as (λ j. Looked ℕ) [ true ↦ finds 0 | false ↦ refuses q.number ] ])
    go true b = inner (register_in q.content)
    go false true = finding 0
    go false false = refusal h

fine_two : (a b : ℕ) (people : List ℕ) (x : Looked ℕ) → Fine x → Fine (two_of a b people x)
unfolding two_of
fine_two a b people x h = go (is_on a people && is_on b people) (eqb a b)
  where
    go : (c d : Bool) → Fine {A = ℕ} (elim c as (λ j. Looked ℕ) [ true ↦ elim d as (λ j. Looked ℕ) [ true ↦ refuses 23 | false ↦ x ] | false ↦ refuses 22 ])
    go true true = fine_at 23 (omega arith)
    go true false = h
    go false d = fine_at 22 (omega arith)

fine_full : (n : ℕ) → Fine (not_full n)
unfolding not_full
fine_full n = go (eqb n 126)
  where
    go : (b : Bool) → Fine {A = ℕ} (elim b as (λ j. Looked ℕ) [ true ↦ refuses 25 | false ↦ finds n ])
    go true = fine_at 25 (omega arith)
    go false = finding n

fine_shut : (n : ℕ) (x : Looked ℕ) → (n ≡ 1 → ⊥) → Fine x → Fine (shut n x)
unfolding shut
fine_shut n x h k = go (eqb n 7) (eqb n 0 || eqb n 9)
  where
    go : (a b : Bool) → Fine {A = ℕ} (elim a as (λ j. Looked ℕ) [ true ↦ x | false ↦ elim b as (λ j. Looked ℕ) [ true ↦ refuses 8 | false ↦ refuses n ] ])
    go true b = k
    go false true = fine_at 8 (omega arith)
    go false false = refusal h

module _ (g : Geometry) (s : Bytes) where
  read_ends : {c : Call} → ReadingCall c → number (outcome g c s).answer ≡ 1 → ⊥
  read_ends {c} r e = let l = (call_stopped g c s).0 e in omega (arith, l, ap length (read_list g s r))

  pub look_fine : (a b : ℕ) → Fine (give_look g s a b)
  unfolding give_look staff_look register_look read_by
  look_fine a b =
      fine_shut (number (outcome g (read_open 0) s).answer) _ (read_ends (reads_open 0))
      (fine_next _ _ (fine_list _ (read_ends (reads 0))) λ l.
      fine_two a b l.people _ (fine_next _ not_full (fine_count _ (read_ends (reads 1))) fine_full))
