-- A content is a list, and a register, exactly where it is the text of one.
use Rattle.std.specs.Prelude.{◌≡◌, refl, ◌↔◌, Bool, true, false, ◌&&◌, List, [], ◌∷◌, ◌++◌, ℕ, zero, suc, ◌≤◌, leb, ltb, length}
use Rattle.std.proofs.Common.{sym, ap, ◌∙◌, append-nil, arith, le-leb, leb-true}
use Rattle.std.proofs.Math.Option.{Option, none, some}
use Rattle.rules.specs.Flash.{Bytes}
use Rattle.rules.specs.Lists.{all, is_none}
use Rattle.rules.specs.Histories.{is_content}
use Rattle.rules.specs.Listing.{keyed}
use Rattle.rules.specs.Text.{Parsed, text}
use Rattle.pass_rules.specs.Texts.{StaffList, above, after, is_ascending, is_staff_list, joined, line_in, pass_text, people_in, person_lines, register_in, register_text, staff_in, staff_of, staff_text}
use Rattle.promises_passes.specs.Decimals.{all_append, line_bytes, line_inv, line_text}

and_inv : (a b : Bool) → a && b ≡ true → (a ≡ true) × (b ≡ true)
and_inv true true e = (refl, refl)
and_inv true false e = let z : ◌≡◌ {A = ℕ} 0 1 = cc in absurd (omega arith)
and_inv false b e = let z : ◌≡◌ {A = ℕ} 0 1 = cc in absurd (omega arith)

and : {a b : Bool} → a ≡ true → b ≡ true → a && b ≡ true
and {a} {b} p q = cc

-- ---- the people
people_text : (before : ℕ) (xs : List ℕ) → is_ascending before xs ≡ true → people_in (length xs) before (person_lines xs) ≡ some xs
unfolding people_in person_lines is_none is_ascending after above joined
people_text before [] h = refl
people_text before (x ∷ xs) h =
    let p = and_inv (ltb before x && leb x 65535) (is_ascending x xs) h in
    let q = and_inv (ltb before x) (leb x 65535) p.0 in
    ap (λ (o : Option Parsed). after o (λ x rest. above before x (joined x (people_in (length xs) x rest)))) (line_text "person=" 65535 x (person_lines xs) (leb-true x 65535 q.1))
    ∙ rw (q.0, above) (ap (joined x) (people_text x xs p.1))

record People (k before : ℕ) (s : Bytes) (xs : List ℕ) : Type 0 where
  many : length xs ≡ k
  ascending : is_ascending before xs ≡ true
  same : s ≡ person_lines xs

people_inv : (k before : ℕ) (s : Bytes) (xs : List ℕ) → people_in k before s ≡ some xs → People k before s xs
unfolding people_in after above joined is_none person_lines is_ascending
people_inv zero before [] xs e =
    let z : [] ≡ xs = cc in
    record { many = sym (ap length z); ascending = sym (ap (is_ascending before) z); same = ap person_lines z }
people_inv zero before (b ∷ s) xs e = let z : ◌≡◌ {A = ℕ} 0 1 = cc in absurd (omega arith)
people_inv (suc k) before s xs e = line (line_in (text "person=") 65535 s) refl e (λ x r ys q. people_inv k x r ys q)
  where
    line : (o : Option Parsed) → line_in (text "person=") 65535 s ≡ o → after o (λ x rest. above before x (joined x (people_in k x rest))) ≡ some xs
        → ((x : ℕ) (r : Bytes) (ys : List ℕ) → people_in k x r ≡ some ys → People k x r ys) → People (suc k) before s xs
    line none h e f = let z : ◌≡◌ {A = ℕ} 0 1 = cc in absurd (omega arith)
    line (some p) h e f = test (ltb before p.value) refl (people_in k p.value p.rest) refl e
      where
        test : (b : Bool) → ltb before p.value ≡ b → (o : Option (List ℕ)) → people_in k p.value p.rest ≡ o
            → (elim b as (λ j. Option (List ℕ)) [ true ↦ joined p.value o | false ↦ none ]) ≡ some xs → People (suc k) before s xs
        test true t none q e = let z : ◌≡◌ {A = ℕ} 0 1 = cc in absurd (omega arith)
        test true t (some ys) q e =
            let w : p.value ∷ ys ≡ xs = cc in
            let r = f p.value p.rest ys q in
            let l = line_inv "person=" 65535 s p h in
            record {
              many = sym (ap length w) ∙ ap suc r.many;
              ascending = sym (ap (is_ascending before) w) ∙ and (and t (le-leb p.value 65535 l.0)) r.ascending;
              same = l.1 ∙ ap (λ (x : Bytes). keyed "person=" p.value ++ x) r.same ∙ ap person_lines w;
            }
        test false t o q e = let z : ◌≡◌ {A = ℕ} 0 1 = cc in absurd (omega arith)

-- ---- the list
staff_text_lem : (l : StaffList) → is_staff_list l ≡ true → staff_in (staff_text l) ≡ some l
unfolding staff_in staff_text is_staff_list after staff_of
staff_text_lem l h =
    let a = and_inv (leb l.night 999 && leb l.zone 999 && leb (length l.people) 16) (is_ascending 0 l.people) h in
    let b = and_inv (leb l.night 999 && leb l.zone 999) (leb (length l.people) 16) a.0 in
    let c = and_inv (leb l.night 999) (leb l.zone 999) b.0 in
    let s3 = person_lines l.people in
    let s2 = keyed "people=" (length l.people) ++ s3 in
    let s1 = keyed "zone=" l.zone ++ s2 in
    rw (line_text "night=" 999 l.night s1 (leb-true l.night 999 c.0))
    (rw (line_text "zone=" 999 l.zone s2 (leb-true l.zone 999 c.1))
    (rw (line_text "people=" 16 (length l.people) s3 (leb-true (length l.people) 16 b.1))
    (rw (people_text 0 l.people a.1))))

staff_inv : (s : Bytes) (l : StaffList) → staff_in s ≡ some l → (is_staff_list l ≡ true) × (s ≡ staff_text l)
unfolding staff_in staff_text is_staff_list after staff_of
staff_inv s l e = night (line_in (text "night=") 999 s) refl e
  where
    last : (n z : ℕ) (o : Option (List ℕ)) → staff_of n z o ≡ some l → (people : List ℕ) × (o ≡ some people) × (record { night = n; zone = z; people = people } ≡ l)
    last n z none e = let z : ◌≡◌ {A = ℕ} 0 1 = cc in absurd (omega arith)
    last n z (some people) e = (people, refl, cc)

    night : (o : Option Parsed) → line_in (text "night=") 999 s ≡ o
        → after o (λ night s1. after (line_in (text "zone=") 999 s1) λ zone s2. after (line_in (text "people=") 16 s2) λ count s3. staff_of night zone (people_in count 0 s3)) ≡ some l
        → (is_staff_list l ≡ true) × (s ≡ staff_text l)
    night none h e = let z : ◌≡◌ {A = ℕ} 0 1 = cc in absurd (omega arith)
    night (some a) h e = zone (line_in (text "zone=") 999 a.rest) refl e
      where
        zone : (o : Option Parsed) → line_in (text "zone=") 999 a.rest ≡ o
            → after o (λ zone s2. after (line_in (text "people=") 16 s2) λ count s3. staff_of a.value zone (people_in count 0 s3)) ≡ some l
            → (is_staff_list l ≡ true) × (s ≡ staff_text l)
        zone none k e = let z : ◌≡◌ {A = ℕ} 0 1 = cc in absurd (omega arith)
        zone (some b) k e = people (line_in (text "people=") 16 b.rest) refl e
          where
            people : (o : Option Parsed) → line_in (text "people=") 16 b.rest ≡ o → after o (λ count s3. staff_of a.value b.value (people_in count 0 s3)) ≡ some l
                → (is_staff_list l ≡ true) × (s ≡ staff_text l)
            people none m e = let z : ◌≡◌ {A = ℕ} 0 1 = cc in absurd (omega arith)
            people (some c) m e =
                let w = last a.value b.value (people_in c.value 0 c.rest) e in
                let r = people_inv c.value 0 c.rest w.0 w.1 in
                let x = line_inv "night=" 999 s a h in
                let y = line_inv "zone=" 999 a.rest b k in
                let z = line_inv "people=" 16 b.rest c m in
                let t : c.rest ≡ person_lines w.0 = r.same in
                let u : b.rest ≡ keyed "people=" (length w.0) ++ person_lines w.0 =
                z.1 ∙ ap (λ (q : Bytes). keyed "people=" c.value ++ q) t ∙ ap (λ (n : ℕ). keyed "people=" n ++ person_lines w.0) (sym r.many) in
                let v : a.rest ≡ keyed "zone=" b.value ++ (keyed "people=" (length w.0) ++ person_lines w.0) = y.1 ∙ ap (λ (q : Bytes). keyed "zone=" b.value ++ q) u in
                let n : length w.0 ≤ 16 = omega (arith, r.many, z.0) in
                let good : is_staff_list (record { night = a.value; zone = b.value; people = w.0 }) ≡ true =
                and (and (and (le-leb a.value 999 x.0) (le-leb b.value 999 y.0)) (le-leb (length w.0) 16 n)) r.ascending in
                (sym (ap is_staff_list w.2) ∙ good, x.1 ∙ ap (λ (q : Bytes). keyed "night=" a.value ++ q) v ∙ ap staff_text w.2)

-- A content is a list exactly where it is the text of one in range.
pub list_of_text : (c : Bytes) (l : StaffList) → staff_in c ≡ some l ↔ (is_staff_list l ≡ true) × (c ≡ staff_text l)
list_of_text c l = (staff_inv c l, λ h. ap staff_in h.1 ∙ staff_text_lem l h.0)

-- ---- the register
register_text_lem : (n : ℕ) → n ≤ 126 → register_in (register_text n) ≡ some n
unfolding register_in register_text after is_none
register_text_lem n h = ap (λ (x : Bytes). register_in x) (sym (append-nil (keyed "count=" n))) ∙ rw (line_text "count=" 126 n [] h)

register_inv : (s : Bytes) (n : ℕ) → register_in s ≡ some n → (n ≤ 126) × (s ≡ register_text n)
unfolding register_in register_text after is_none
register_inv s n e = line (line_in (text "count=") 126 s) refl e
  where
    line : (o : Option Parsed) → line_in (text "count=") 126 s ≡ o → after o (λ count rest. elim (is_none rest) as (λ j. Option ℕ) [ true ↦ some count | false ↦ none ]) ≡ some n → (n ≤ 126) × (s ≡ register_text n)
    line none h e = let z : ◌≡◌ {A = ℕ} 0 1 = cc in absurd (omega arith)
    line (some p) h e = end p.rest refl e
      where
        end : (r : Bytes) → p.rest ≡ r → (elim (is_none r) as (λ j. Option ℕ) [ true ↦ some p.value | false ↦ none ]) ≡ some n → (n ≤ 126) × (s ≡ register_text n)
        end [] q e =
            let w : p.value ≡ n = cc in
            let l = line_inv "count=" 126 s p h in
            (omega (arith, l.0), l.1 ∙ ap (λ (x : Bytes). keyed "count=" p.value ++ x) q ∙ append-nil (keyed "count=" p.value) ∙ ap (keyed "count=") w)
        end (b ∷ r) q e = let z : ◌≡◌ {A = ℕ} 0 1 = cc in absurd (omega arith)

-- A content is a register exactly where it is the text of a count up to 126.
pub register_of_text : (c : Bytes) (n : ℕ) → register_in c ≡ some n ↔ (n ≤ 126) × (c ≡ register_text n)
register_of_text c n = (register_inv c n, λ h. ap register_in h.1 ∙ register_text_lem n h.0)

-- ---- bytes
pub pass_bytes : (n a b : ℕ) → is_content (pass_text n a b) ≡ true
unfolding pass_text is_content all text
pass_bytes n a b =
    all_append (λ (x : ℕ). ltb x 256) (keyed "pass=" n) (keyed "first=" a ++ keyed "second=" b) (line_bytes "pass=" n refl)
    (all_append (λ (x : ℕ). ltb x 256) (keyed "first=" a) (keyed "second=" b) (line_bytes "first=" a refl) (line_bytes "second=" b refl))

pub register_bytes : (n : ℕ) → is_content (register_text n) ≡ true
unfolding register_text is_content all text
register_bytes n = line_bytes "count=" n refl
