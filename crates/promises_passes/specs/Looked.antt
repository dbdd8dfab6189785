-- What give decides of an image that a history reaches is what the plain store says.
use Rattle.std.proofs.Math.Path.{◌≡◌, refl, sym, ap}
use Rattle.std.proofs.Common.{◌∙◌, arith}
use Rattle.std.specs.Prelude.{Bool, ◌&&◌, List, []}
use Rattle.std.proofs.Math.Bool.{true, false, cond}
use Rattle.std.proofs.Math.Option.{Option, none, some}
use Prim.Native.Nat.{ℕ}
use borrow.Author.Tests.{eqb-false}
use Rattle.std.proofs.Math.Dec.{eqb}
use Rattle.rules.specs.Flash.{Bytes}
use Rattle.rules.specs.Lists.{is_none}
use Rattle.rules.specs.Answers.{number}
use Rattle.rules.specs.Calls.{is_bad_file, outcome, read, read_open}
use Rattle.rules.specs.Histories.{Changes, Plain, Reached}
use Rattle.rules.specs.Plain.{bytes_in, content_by, in_view, is_absent_in, is_settled, is_shut, plain_content, plain_number, seen, when_settled}
use Rattle.rules.specs.Settled.{survey}
use Rattle.rules.specs.Sound.{standing}
use Rattle.rules.specs.declared.Geometry.{Geometry}
use Rattle.pass_rules.specs.Texts.{StaffList, staff_in}
use Rattle.pass_rules.specs.Give.{Looked, FileRead, count_from, finds, give_look, is_on, list_from, listed, next, not_full, refuses, register_look, read_by, shut, staff_look, two_of}
use Rattle.promises.specs.Demands.{answers_plainly}
use Rattle.promises_passes.specs.Words.{plain_count, plain_list, plain_look}

at_list : (q : FileRead) (n : ℕ) (c : Bytes) → q.number ≡ n → q.content ≡ c → list_from q ≡ list_from (record { number = n; content = c })
at_list q n c e f = ap (λ (i : ℕ). list_from (record { number = i; content = q.content })) e ∙ ap (λ (b : Bytes). list_from (record { number = n; content = b })) f

at_count : (q : FileRead) (n : ℕ) (c : Bytes) → q.number ≡ n → q.content ≡ c → count_from q ≡ count_from (record { number = n; content = c })
at_count q n c e f = ap (λ (i : ℕ). count_from (record { number = i; content = q.content })) e ∙ ap (λ (b : Bytes). count_from (record { number = n; content = b })) f

module _ (g : Geometry) (t : Bytes) (m : Plain) (r : Reached g t m) where
  -- Whether the image is settled.
  abbrev pub still : Bool
  still = is_settled (standing g (survey g t))

  open_number : number (outcome g (read_open 0) t).answer ≡ cond still (cond (is_shut m.changes) 7 (cond (is_absent_in (in_view m.changes m.files 0)) 9 0)) 4
  unfolding plain_number when_settled seen is_bad_file
  open_number = (answers_plainly g t m r (read_open 0)).0

  module _ (f : ℕ) (low : is_bad_file f ≡ false) (is : still ≡ true) where
    pub read_number : (o : Option Bytes) → m.files f ≡ o → (read_by g (read f) t).number ≡ cond (is_absent_in o) 9 0
    unfolding read_by plain_number when_settled seen
    read_number o e =
        (answers_plainly g t m r (read f)).0
        ∙ ap (λ (b : Bool). cond b (cond (is_bad_file f) 5 (cond (is_absent_in (m.files f)) 9 0)) 4) is
        ∙ ap (λ (b : Bool). cond b 5 (cond (is_absent_in (m.files f)) 9 0)) low
        ∙ ap (λ (x : Option Bytes). cond (is_absent_in x) 9 0) e

    pub read_bytes : (c : Bytes) → m.files f ≡ some c → (read_by g (read f) t).content ≡ c
    unfolding read_by plain_content content_by is_absent_in bytes_in
    read_bytes c e =
        let n : plain_number m (seen g (read f) t) (read f) ≡ 0 = sym (answers_plainly g t m r (read f)).0 ∙ read_number (some c) e in
        (answers_plainly g t m r (read f)).1
        ∙ ap (λ (i : ℕ). cond (eqb i 0) (bytes_in (m.files f)) []) n
        ∙ ap bytes_in e

  list_plainly : still ≡ true → staff_look g t ≡ plain_list (m.files 0)
  unfolding staff_look plain_list list_from is_bad_file is_absent_in
  list_plainly is = go (m.files 0) refl
    where
      go : (o : Option Bytes) → m.files 0 ≡ o → list_from (read_by g (read 0) t) ≡ plain_list o
      go none e = at_list (read_by g (read 0) t) 9 (read_by g (read 0) t).content (read_number 0 refl is none e) refl
      go (some c) e = at_list (read_by g (read 0) t) 0 c (read_number 0 refl is (some c) e) (read_bytes 0 refl is c e)

  pub count_plainly : still ≡ true → register_look g t ≡ plain_count (m.files 1)
  unfolding register_look plain_count count_from is_bad_file is_absent_in
  count_plainly is = go (m.files 1) refl
    where
      go : (o : Option Bytes) → m.files 1 ≡ o → count_from (read_by g (read 1) t) ≡ plain_count o
      go none e = at_count (read_by g (read 1) t) 9 (read_by g (read 1) t).content (read_number 1 refl is none e) refl
      go (some c) e = at_count (read_by g (read 1) t) 0 c (read_number 1 refl is (some c) e) (read_bytes 1 refl is c e)

  -- What give decides.
  pub look_plainly : (a b : ℕ) → give_look g t a b ≡ plain_look still m a b
  unfolding give_look plain_look
  look_plainly a b = ap (λ (n : ℕ). shut n real) open_number ∙ go still refl (is_shut m.changes) (is_absent_in (in_view m.changes m.files 0))
    where
      real : Looked ℕ
      real = next (staff_look g t) λ l. two_of a b l.people (next (register_look g t) not_full)

      plain : Looked ℕ
      plain = next (plain_list (m.files 0)) λ l. two_of a b l.people (next (plain_count (m.files 1)) not_full)

      same : still ≡ true → real ≡ plain
      same is =
          ap (λ (x : Looked StaffList). next x λ l. two_of a b l.people (next (register_look g t) not_full)) (list_plainly is)
          ∙ ap (λ (x : Looked ℕ). next (plain_list (m.files 0)) λ l. two_of a b l.people (next x not_full)) (count_plainly is)

      go : (s : Bool) → still ≡ s → (c d : Bool) → shut (cond s (cond c 7 (cond d 9 0)) 4) real ≡ elim s as (λ j. Looked ℕ) [ true ↦ elim c as (λ j. Looked ℕ) [ true ↦ plain | false ↦ refuses 8 ] | false ↦ refuses 4 ]
      go true is true d = unfold shut in same is
      go true is false true = unfold shut in refl
      go true is false false = unfold shut in refl
      go false is c d = unfold shut in refl

-- ---- where a pass may be given
pub record MayGive (settled : Bool) (m : Plain) (a b n : ℕ) : Type 0 where
  pub still : settled ≡ true
  pub shut : m.changes ≡ none
  pub content : Bytes
  pub file : m.files 0 ≡ some content
  pub list : StaffList
  pub reads : staff_in content ≡ some list
  pub first : is_on a list.people ≡ true
  pub second : is_on b list.people ≡ true
  pub differ : a ≡ b → ⊥
  pub count : plain_count (m.files 1) ≡ finds n
  pub low : n ≡ 126 → ⊥

module _ (m : Plain) (a b n : ℕ) where
  at_count_of : (x : Looked ℕ) → next x not_full ≡ finds n → (x ≡ finds n) × (n ≡ 126 → ⊥)
  unfolding next not_full
  at_count_of (refuses r) e = let z : ◌≡◌ {A = ℕ} 0 1 = cc in absurd (omega arith)
  at_count_of (finds i) e = go (eqb i 126) refl e
    where
      go : (b : Bool) → eqb i 126 ≡ b → (elim b as (λ j. Looked ℕ) [ true ↦ refuses 25 | false ↦ finds i ]) ≡ finds n → (finds i ≡ finds n) × (n ≡ 126 → ⊥)
      go true k e = let z : ◌≡◌ {A = ℕ} 0 1 = cc in absurd (omega arith)
      go false k e = let w : i ≡ n = cc in (e, λ q. eqb-false i 126 k (w ∙ q))

  two : (people : List ℕ) (x : Looked ℕ) → two_of a b people x ≡ finds n → (is_on a people ≡ true) × (is_on b people ≡ true) × (a ≡ b → ⊥) × (x ≡ finds n)
  unfolding two_of
  two people x e = go (is_on a people) refl (is_on b people) refl (eqb a b) refl e
    where
      go : (c : Bool) → is_on a people ≡ c → (d : Bool) → is_on b people ≡ d → (s : Bool) → eqb a b ≡ s
          → (elim (c && d) as (λ j. Looked ℕ) [ true ↦ elim s as (λ j. Looked ℕ) [ true ↦ refuses 23 | false ↦ x ] | false ↦ refuses 22 ]) ≡ finds n
          → (is_on a people ≡ true) × (is_on b people ≡ true) × (a ≡ b → ⊥) × (x ≡ finds n)
      go true p true q true s e = let z : ◌≡◌ {A = ℕ} 0 1 = cc in absurd (omega arith)
      go true p true q false s e = (p, q, eqb-false a b s, e)
      go true p false q s h e = let z : ◌≡◌ {A = ℕ} 0 1 = cc in absurd (omega arith)
      go false p d q s h e = let z : ◌≡◌ {A = ℕ} 0 1 = cc in absurd (omega arith)

  -- The list that was looked at.
  the_list : (o : Option Bytes) (k : StaffList → Looked ℕ) → next (plain_list o) k ≡ finds n → (c : Bytes) × (l : StaffList) × (o ≡ some c) × (staff_in c ≡ some l) × (k l ≡ finds n)
  unfolding plain_list next listed
  the_list none k e = let z : ◌≡◌ {A = ℕ} 0 1 = cc in absurd (omega arith)
  the_list (some c) k e = go (staff_in c) refl e
    where
      go : (o : Option StaffList) → staff_in c ≡ o → next (listed o) k ≡ finds n → (x : Bytes) × (l : StaffList) × (some c ≡ some x) × (staff_in x ≡ some l) × (k l ≡ finds n)
      go none h e = let z : ◌≡◌ {A = ℕ} 0 1 = cc in absurd (omega arith)
      go (some l) h e = test (is_none l.people) e
        where
          test : (b : Bool) → next (elim b as (λ j. Looked StaffList) [ true ↦ refuses 20 | false ↦ finds l ]) k ≡ finds n → (x : Bytes) × (l : StaffList) × (some c ≡ some x) × (staff_in x ≡ some l) × (k l ≡ finds n)
          test true e = let z : ◌≡◌ {A = ℕ} 0 1 = cc in absurd (omega arith)
          test false e = (c, l, refl, h, e)

  shut_none : (o : Option Changes) → is_shut o ≡ true → o ≡ none
  unfolding is_shut
  shut_none none e = refl
  shut_none (some x) e = let z : ◌≡◌ {A = ℕ} 0 1 = cc in absurd (omega arith)

  pub allowed : (s : Bool) → plain_look s m a b ≡ finds n → MayGive s m a b n
  unfolding plain_look
  allowed true e = go (is_shut m.changes) refl e
    where
      go : (c : Bool) → is_shut m.changes ≡ c
          → (elim c as (λ j. Looked ℕ) [ true ↦ next (plain_list (m.files 0)) λ l. two_of a b l.people (next (plain_count (m.files 1)) not_full) | false ↦ refuses 8 ]) ≡ finds n
          → MayGive true m a b n
      go false h e = let z : ◌≡◌ {A = ℕ} 0 1 = cc in absurd (omega arith)
      go true h e =
          let l = the_list (m.files 0) (λ l. two_of a b l.people (next (plain_count (m.files 1)) not_full)) e in
          let t = two l.1.people (next (plain_count (m.files 1)) not_full) l.4 in
          let c = at_count_of (plain_count (m.files 1)) t.3 in
          record {
            still = refl;
            shut = shut_none m.changes h;
            content = l.0;
            file = l.2;
            list = l.1;
            reads = l.3;
            first = t.0;
            second = t.1;
            differ = t.2;
            count = c.0;
            low = c.1;
          }
  allowed false e = let z : ◌≡◌ {A = ℕ} 0 1 = cc in absurd (omega arith)
