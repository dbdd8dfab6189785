-- A read's number and image; a write's.
use Rattle.std.proofs.Math.Path.{◌≡◌, sym, ap}
use Rattle.std.specs.Prelude.{refl, Bool, true, false, cond, ◌&&◌, Result, Ok, Err, List, [], ◌∷◌, ◌++◌, map, ◌⊎◌, ℕ, zero, suc, ◌≤◌, ◌<◌, leb, drop, replicate}
use Rattle.std.proofs.Common.{◌∙◌, inl, inr, arith, ext_get_or}
use Rattle.std.proofs.Math.Option.{Option, none, some}
use borrow.Author.Tests.{le-leb}
use Rattle.std.proofs.Math.ListN.{length, get_or, length-replicate, length-map}
use Rattle.rules.specs.Flash.{Bytes, is_geometry}
use Rattle.rules.specs.Lists.{is_none}
use Rattle.laws.specs.Words.{AreBytes}
use Rattle.rules.specs.declared.Geometry.{Geometry}
use Rattle.hex_lines.specs.declared.Record.{Record}
use Rattle.hex_lines.specs.declared.Record.TheVariants.{End, Data}
use Rattle.hex_lines.specs.declared.HexFault.{HexFault}
use Rattle.hex_lines.specs.declared.HexFault.TheVariants.{BadLine, Outside, NamedTwice, NoEnd}
use Rattle.hex_lines.specs.Faults.{number}
use Rattle.hex_lines.specs.Records.{record_of, data_of, lines_of}
use Rattle.hex_lines.specs.Reads.{Cells, Reading, reading, is_outside, is_taken, name, or_erased, settled, read_text, ReadAnswer, reads}
use Rattle.hex_lines.specs.Writes.{hex_text, room_for, writes}
use Rattle.hex_lines.specs.Data.{fault_number}
use Rattle.hex_lines.specs.Steps.{reading_bad, reading_end, reading_outside, reading_taken, reading_on, read_geometry}
use Rattle.hex_laws.specs.RoundTrip.{round, none_at}
use Rattle.hex_laws.specs.Named.{Names, named_is, is_named_lem, reading_long}

-- ---- writing
module _ (g : Geometry) (s b : Bytes) where
  pub writes_text : is_geometry g (length s) ≡ true → room_for (length s) ≤ length b → writes g s b ≡ record { number = 0; length = length (hex_text s); buffer = hex_text s ++ drop (length (hex_text s)) b }
  unfolding writes
  writes_text e h = rw (e, le-leb (room_for (length s)) (length b) h)

  pub writes_two : is_geometry g (length s) && leb (room_for (length s)) (length b) ≡ false → writes g s b ≡ record { number = 2; length = 0; buffer = b }
  unfolding writes
  writes_two e = rw e

pub text_of_one : (g : Geometry) (s u : Bytes) → is_geometry g (length s) ≡ true → AreBytes s → AreBytes u → length u ≡ length s → hex_text s ≡ hex_text u → s ≡ u
text_of_one g s u e h k l q =
    let a : reads g (hex_text s) s ≡ record { number = 0; image = s } = round g s s e h refl in
    let b : reads g (hex_text u) s ≡ record { number = 0; image = u } = round g u s (ap (is_geometry g) l ∙ e) k (sym l) in
    sym (ap (λ (r : ReadAnswer). r.image) a) ∙ ap (λ (t : Bytes). (reads g t s).image) q ∙ ap (λ (r : ReadAnswer). r.image) b

-- An address is named, or it is not.
pub data IsNamed (a : ℕ) (ls : List Bytes) : Type 0 where
  by_record : (x : ℕ) → Names a x ls → IsNamed a ls
  unnamed : ((x : ℕ) → Names a x ls → ⊥) → IsNamed a ls

-- ---- cells and bytes
there : (fs : Cells) (a x : ℕ) → get_or fs a none ≡ some x → get_or (map or_erased fs) a 0 ≡ x
unfolding or_erased
there [] a x e = let z : ◌≡◌ {A = ℕ} 0 1 = cc in absurd (omega arith)
there (f ∷ fs) zero x e = ap or_erased e
there (f ∷ fs) (suc a) x e = there fs a x e

blank : (fs : Cells) (a : ℕ) → a < length fs → get_or fs a none ≡ none → get_or (map or_erased fs) a 0 ≡ 255
unfolding or_erased
blank [] a l e = absurd (omega arith)
blank (f ∷ fs) zero l e = ap or_erased e
blank (f ∷ fs) (suc a) l e = blank fs a (omega arith) e

-- ---- a read's number
-- A refusal is one of 30 to 35.
refused_number : (ls : List Bytes) (cs : Cells) (k : HexFault) → reading ls cs ≡ Err k → (30 ≤ number k) × (number k ≤ 35)
unfolding reading
refused_number [] cs k e = let q : NoEnd ≡ k = cc in rw (← q) (omega arith, omega arith)
refused_number (l ∷ ls) cs k e = go (record_of l) refl (λ us q. refused_number ls us k q)
  where
    is : (j : HexFault) → reading (l ∷ ls) cs ≡ Err j → 30 ≤ number j → number j ≤ 35 → (30 ≤ number k) × (number k ≤ 35)
    is j q a b = let z : ◌≡◌ {A = Reading} (Err j) (Err k) = sym q ∙ e in let y : j ≡ k = cc in rw (← y) (a, b)

    last : (b : Bool) → is_none ls ≡ b → record_of l ≡ Ok End → (30 ≤ number k) × (number k ≤ 35)
    last true q r =
        let z : ◌≡◌ {A = Reading} (Ok cs) (Err k) = sym (reading_end l ls cs r ∙ ap (λ (b : Bool). cond b (Ok cs) (Err BadLine)) q) ∙ e in
        absurd (cc)
    last false q r = is BadLine (reading_end l ls cs r ∙ ap (λ (b : Bool). cond b (Ok cs) (Err BadLine)) q) (omega arith) (omega arith)

    data_line : (b n : ℕ) → record_of l ≡ Ok (Data b n) → (o t : Bool) → is_outside b n cs ≡ o → is_taken b n cs ≡ t → ((us : Cells) → reading ls us ≡ Err k → (30 ≤ number k) × (number k ≤ 35))
        → (30 ≤ number k) × (number k ≤ 35)
    data_line b n r true t p q f = is Outside (reading_outside l ls cs b n r p) (omega arith) (omega arith)
    data_line b n r false true p q f = is NamedTwice (reading_taken l ls cs b n r p q) (omega arith) (omega arith)
    data_line b n r false false p q f = f (name b (data_of l) cs) (sym (reading_on l ls cs b n r p q) ∙ e)

    go : (r : Result Record HexFault) → record_of l ≡ r → ((us : Cells) → reading ls us ≡ Err k → (30 ≤ number k) × (number k ≤ 35)) → (30 ≤ number k) × (number k ≤ 35)
    go (Err j) r f = let h = fault_number l j r in is j (reading_bad l ls cs j r) h.0 (omega (arith, h.1))
    go (Ok End) r f = last (is_none ls) refl r
    go (Ok (Data b n)) r f = data_line b n r (is_outside b n cs) (is_taken b n cs) refl refl f

module _ (g : Geometry) (t s : Bytes) where
  right : is_geometry g (length s) ≡ true → reads g t s ≡ settled (read_text t (length s)) s
  unfolding reads
  right e = rw e

  module _ (e : is_geometry g (length s) ≡ true) where
    as_refused : (k : HexFault) → read_text t (length s) ≡ Err k → reads g t s ≡ record { number = number k; image = s }
    unfolding settled
    as_refused k q = right e ∙ ap (λ (r : Reading). settled r s) q

    as_named : (fs : Cells) → read_text t (length s) ≡ Ok fs → reads g t s ≡ record { number = 0; image = map or_erased fs }
    unfolding settled
    as_named fs q = right e ∙ ap (λ (r : Reading). settled r s) q

    pub few : (k : HexFault) → read_text t (length s) ≡ Err k → (30 ≤ number k) × (number k ≤ 35)
    unfolding read_text
    few k q = refused_number (lines_of t) (replicate (length s) none) k q

    pub numbers : ((reads g t s).number ≡ 0) ⊎ ((30 ≤ (reads g t s).number) × ((reads g t s).number ≤ 35))
    numbers = go (read_text t (length s)) refl
      where
        go : (r : Reading) → read_text t (length s) ≡ r → ((reads g t s).number ≡ 0) ⊎ ((30 ≤ (reads g t s).number) × ((reads g t s).number ≤ 35))
        go (Err k) q = let h = few k q in let m : (reads g t s).number ≡ number k = ap (λ (r : ReadAnswer). r.number) (as_refused k q) in inr (omega (arith, h.0), omega (arith, h.1))
        go (Ok fs) q = inl (ap (λ (r : ReadAnswer). r.number) (as_named fs q))

    kept : ((reads g t s).number ≡ 0 → ⊥) → (reads g t s).image ≡ s
    kept n = go (read_text t (length s)) refl
      where
        go : (r : Reading) → read_text t (length s) ≡ r → (reads g t s).image ≡ s
        go (Err k) q = ap (λ (r : ReadAnswer). r.image) (as_refused k q)
        go (Ok fs) q = absurd (n (ap (λ (r : ReadAnswer). r.number) (as_named fs q)))

    not_two : (reads g t s).number ≡ 2 → ⊥
    not_two h = go (read_text t (length s)) refl
      where
        go : (r : Reading) → read_text t (length s) ≡ r → ⊥
        go (Err k) q = omega (arith, (few k q).0, ap (λ (r : ReadAnswer). r.number) (as_refused k q))
        go (Ok fs) q = omega (arith, ap (λ (r : ReadAnswer). r.number) (as_named fs q))

    -- what it names, where it is DONE
    module _ (z : (reads g t s).number ≡ 0) where
      data NamedDone : Type 0 where
        done : (fs : Cells) → read_text t (length s) ≡ Ok fs → (reads g t s).image ≡ map or_erased fs → NamedDone

      is_done_lem : NamedDone
      is_done_lem = go (read_text t (length s)) refl
        where
          go : (r : Reading) → read_text t (length s) ≡ r → NamedDone
          go (Err k) q = absurd (omega (arith, (few k q).0, ap (λ (r : ReadAnswer). r.number) (as_refused k q)))
          go (Ok fs) q = done fs q (ap (λ (r : ReadAnswer). r.image) (as_named fs q))

      pub done_named : (a x : ℕ) → Names a x (lines_of t) → get_or (reads g t s).image a 0 ≡ x
      unfolding read_text or_erased
      done_named a x n = go is_done_lem
        where
          go : NamedDone → get_or (reads g t s).image a 0 ≡ x
          go (done fs q i) =
              let w : get_or fs a none ≡ some x = named_is a x n (replicate (length s) none) fs q in
              ap (λ (r : Bytes). get_or r a 0) i ∙ there fs a x w

      pub done_erased : (a : ℕ) → a < length s → ((x : ℕ) → Names a x (lines_of t) → ⊥) → get_or (reads g t s).image a 0 ≡ 255
      unfolding read_text
      done_erased a l n = go is_done_lem
        where
          off : (fs : Cells) → reading (lines_of t) (replicate (length s) none) ≡ Ok fs → (o : Option ℕ) → get_or fs a none ≡ o → get_or fs a none ≡ none
          off fs q none w = w
          off fs q (some x) w = never (is_named_lem (lines_of t) (replicate (length s) none) fs q a x w)
            where
              never : (get_or (replicate (length s) none) a none ≡ some x) ⊎ Names a x (lines_of t) → get_or fs a none ≡ none
              never (inl y) = let z : some x ≡ none = sym y ∙ none_at (length s) a in let u : ◌≡◌ {A = ℕ} 0 1 = cc in absurd (omega arith)
              never (inr y) = absurd (n x y)

          go : NamedDone → get_or (reads g t s).image a 0 ≡ 255
          go (done fs q i) =
              let m : length fs ≡ length s = reading_long (lines_of t) (replicate (length s) none) fs q ∙ length-replicate (length s) none in
              ap (λ (r : Bytes). get_or r a 0) i ∙ blank fs a (omega arith) (off fs q (get_or fs a none) refl)

      pub done_long : length (reads g t s).image ≡ length s
      unfolding read_text
      done_long = go is_done_lem
        where
          go : NamedDone → length (reads g t s).image ≡ length s
          go (done fs q i) = ap length i ∙ length-map fs or_erased ∙ reading_long (lines_of t) (replicate (length s) none) fs q ∙ length-replicate (length s) none

      pub told : (a : ℕ) → IsNamed a (lines_of t)
      unfolding read_text
      told a = go is_done_lem
        where
          by : (fs : Cells) → reading (lines_of t) (replicate (length s) none) ≡ Ok fs → (o : Option ℕ) → get_or fs a none ≡ o → IsNamed a (lines_of t)
          by fs q none w = unnamed (λ x n. let z : some x ≡ none = sym (named_is a x n (replicate (length s) none) fs q) ∙ w in let u : ◌≡◌ {A = ℕ} 0 1 = cc in omega arith)
          by fs q (some x) w = from (is_named_lem (lines_of t) (replicate (length s) none) fs q a x w)
            where
              from : (get_or (replicate (length s) none) a none ≡ some x) ⊎ Names a x (lines_of t) → IsNamed a (lines_of t)
              from (inl y) = let z : some x ≡ none = sym y ∙ none_at (length s) a in let u : ◌≡◌ {A = ℕ} 0 1 = cc in absurd (omega arith)
              from (inr y) = by_record x y

          go : NamedDone → IsNamed a (lines_of t)
          go (done fs q i) = by fs q (get_or fs a none) refl

  pub refused_unchanged : ((reads g t s).number ≡ 0 → ⊥) → (reads g t s).image ≡ s
  refused_unchanged n = go (is_geometry g (length s)) refl
    where
      go : (b : Bool) → is_geometry g (length s) ≡ b → (reads g t s).image ≡ s
      go true e = kept e n
      go false e = ap (λ (r : ReadAnswer). r.image) (read_geometry g t s e)

  pub two_first : (is_geometry g (length s) ≡ false → reads g t s ≡ record { number = 2; image = s }) × (is_geometry g (length s) ≡ true → (reads g t s).number ≡ 2 → ⊥)
  two_first = (read_geometry g t s, not_two)

-- Two texts that name the same leave the same image.
pub same_names : (g : Geometry) (t u s r : Bytes) → is_geometry g (length s) ≡ true → length r ≡ length s → (reads g t s).number ≡ 0 → (reads g u r).number ≡ 0
    → ((a x : ℕ) → Names a x (lines_of t) → Names a x (lines_of u)) → ((a x : ℕ) → Names a x (lines_of u) → Names a x (lines_of t)) → (reads g t s).image ≡ (reads g u r).image
same_names g t u s r e l z y f h =
    let d : is_geometry g (length r) ≡ true = ap (is_geometry g) l ∙ e in
    ext_get_or 0 (reads g t s).image (reads g u r).image (done_long g t s e z ∙ sym l ∙ sym (done_long g u r d y))
    (λ a m. at a (omega (arith, done_long g t s e z)) (told g t s e z a))
  where
    at : (a : ℕ) → a < length s → IsNamed a (lines_of t) → get_or (reads g t s).image a 0 ≡ get_or (reads g u r).image a 0
    at a m (by_record x n) = done_named g t s e z a x n ∙ sym (done_named g u r (ap (is_geometry g) l ∙ e) y a x (f a x n))
    at a m (unnamed n) = done_erased g t s e z a m n ∙ sym (done_erased g u r (ap (is_geometry g) l ∙ e) y a (omega arith) (λ x q. n x (h a x q)))
