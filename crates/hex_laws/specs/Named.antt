-- What a text that is not refused leaves at each address.
use Rattle.std.specs.Prelude.{◌≡◌, refl, Bool, true, false, cond, ◌||◌, Result, Ok, Err, List, [], ◌∷◌, map, ◌⊎◌, ℕ, zero, suc, ◌+◌, ◌-◌, ◌≤◌, ◌<◌, length, get_or, set}
use Rattle.std.proofs.Common.{sym, ap, ◌∙◌, inl, inr, add-zero, arith, length-set, get_or-set_same, get_or-set_other}
use Rattle.std.proofs.Math.Option.{Option, none, some}
use Rattle.std.proofs.Math.Decide.{dec_lt}
use borrow.Author.Tests.{ltb-false, lt-ltb}
use Rattle.std.proofs.lemmas.List.{length-map}
use Rattle.std.proofs.lemmas.List.Edits.{sets}
use Rattle.std.proofs.Math.Seq.{length-sets}
use Rattle.rules.specs.Flash.{Bytes}
use Rattle.rules.specs.Lists.{is_none}
use Rattle.hex_lines.specs.declared.Record.{Record}
use Rattle.hex_lines.specs.declared.Record.TheVariants.{End, Data}
use Rattle.hex_lines.specs.declared.HexFault.{HexFault}
use Rattle.hex_lines.specs.declared.HexFault.TheVariants.{BadLine, Outside, NamedTwice, NoEnd}
use Rattle.hex_lines.specs.Records.{record_of, data_of}
use Rattle.hex_lines.specs.Reads.{Cells, Reading, reading, is_named, is_outside, is_taken, name}
use Rattle.hex_lines.specs.Data.{data_formed, data_counted, data_length}
use Rattle.hex_lines.specs.Steps.{reading_bad, reading_end, reading_outside, reading_taken, reading_on, never_refused}

-- A data record of one of the lines names the address a with the byte x.
pub data Names (a x : ℕ) : List Bytes → Type 0 where
  here : {l : Bytes} {ls : List Bytes} (b n i : ℕ) → record_of l ≡ Ok (Data b n) → i < n → a ≡ b + i → x ≡ get_or (data_of l) i 0 → Names a x (l ∷ ls)
  later : {l : Bytes} {ls : List Bytes} → Names a x ls → Names a x (l ∷ ls)

-- ---- a run of stores, address by address
module _ {A : Type 0} (d : A) where
  sets_below : (vs l : List A) (i j : ℕ) → j < i → get_or (sets l i vs) j d ≡ get_or l j d
  sets_below [] l i j h = refl
  sets_below (v ∷ vs) l i j h = sets_below vs (set l i v) (suc i) j (omega arith) ∙ get_or-set_other l i j v d (λ e. omega arith)

  sets_above : (vs l : List A) (i j : ℕ) → i + length vs ≤ j → get_or (sets l i vs) j d ≡ get_or l j d
  sets_above [] l i j h = refl
  sets_above (v ∷ vs) l i j h = sets_above vs (set l i v) (suc i) j (omega arith) ∙ get_or-set_other l i j v d (λ e. omega arith)

  sets_inside : (vs l : List A) (i k : ℕ) → i + length vs ≤ length l → k < length vs → get_or (sets l i vs) (i + k) d ≡ get_or vs k d
  sets_inside [] l i k h m = absurd (omega arith)
  sets_inside (v ∷ vs) l i zero h m =
      ap (λ (j : ℕ). get_or (sets (set l i v) (suc i) vs) j d) (add-zero i) ∙ sets_below vs (set l i v) (suc i) i (omega arith) ∙ get_or-set_same l i v d (omega arith)
  sets_inside (v ∷ vs) l i (suc k) h m =
      let e : i + suc k ≡ suc i + k = omega arith in
      ap (λ (j : ℕ). get_or (sets (set l i v) (suc i) vs) j d) e ∙ sets_inside vs (set l i v) (suc i) k (omega (arith, length-set l i v)) (omega arith)

free : (n b k : ℕ) (cs : Cells) → is_taken b n cs ≡ false → k < n → get_or cs (b + k) none ≡ none
unfolding is_taken is_named
free zero b k cs e h = absurd (omega arith)
free (suc n) b k cs e h = go (get_or cs b none) refl e k h (λ j q l. free n (suc b) j cs q l)
  where
    go : (o : Option ℕ) → get_or cs b none ≡ o → (is_named o || is_taken (suc b) n cs) ≡ false → (k : ℕ) → k < suc n → ((j : ℕ) → is_taken (suc b) n cs ≡ false → j < n → get_or cs (suc b + j) none ≡ none) → get_or cs (b + k) none ≡ none
    go none q e zero h f = ap (λ (j : ℕ). get_or cs j none) (add-zero b) ∙ q
    go none q e (suc k) h f =
        let w : b + suc k ≡ suc b + k = omega arith in
        ap (λ (j : ℕ). get_or cs j none) w ∙ f k e (omega arith)
    go (some x) q e k h f = let z : ◌≡◌ {A = ℕ} 0 1 = cc in absurd (omega arith)

some_at : (xs : Bytes) (i : ℕ) → i < length xs → get_or (map some xs) i none ≡ some (get_or xs i 0)
some_at [] i h = absurd (omega arith)
some_at (x ∷ xs) zero h = refl
some_at (x ∷ xs) (suc i) h = some_at xs i (omega arith)

-- ---- one line
data LineStep (l : Bytes) (ls : List Bytes) (cs fs : Cells) : Type 0 where
  ended : record_of l ≡ Ok End → is_none ls ≡ true → cs ≡ fs → LineStep l ls cs fs
  on : (b n : ℕ) → record_of l ≡ Ok (Data b n) → is_outside b n cs ≡ false → is_taken b n cs ≡ false → reading ls (name b (data_of l) cs) ≡ Ok fs → LineStep l ls cs fs

step_of : (l : Bytes) (ls : List Bytes) (cs fs : Cells) → reading (l ∷ ls) cs ≡ Ok fs → LineStep l ls cs fs
step_of l ls cs fs e = go (record_of l) refl
  where
    same : (x y : Cells) → ◌≡◌ {A = Reading} (Ok x) (Ok y) → x ≡ y
    same x y q = cc

    last : (b : Bool) → is_none ls ≡ b → record_of l ≡ Ok End → LineStep l ls cs fs
    last true q r = ended r q (same cs fs (sym (reading_end l ls cs r ∙ ap (λ (b : Bool). cond b (Ok cs) (Err BadLine)) q) ∙ e))
    last false q r = absurd (never_refused BadLine fs (reading (l ∷ ls) cs) e (reading_end l ls cs r ∙ ap (λ (b : Bool). cond b (Ok cs) (Err BadLine)) q))

    data_line : (b n : ℕ) → record_of l ≡ Ok (Data b n) → (o t : Bool) → is_outside b n cs ≡ o → is_taken b n cs ≡ t → LineStep l ls cs fs
    data_line b n r true t p q = absurd (never_refused Outside fs (reading (l ∷ ls) cs) e (reading_outside l ls cs b n r p))
    data_line b n r false true p q = absurd (never_refused NamedTwice fs (reading (l ∷ ls) cs) e (reading_taken l ls cs b n r p q))
    data_line b n r false false p q = on b n r p q (sym (reading_on l ls cs b n r p q) ∙ e)

    go : (r : Result Record HexFault) → record_of l ≡ r → LineStep l ls cs fs
    go (Err k) r = absurd (never_refused k fs (reading (l ∷ ls) cs) e (reading_bad l ls cs k r))
    go (Ok End) r = last (is_none ls) refl r
    go (Ok (Data b n)) r = data_line b n r (is_outside b n cs) (is_taken b n cs) refl refl

module _ (l : Bytes) (cs : Cells) (b n : ℕ) (r : record_of l ≡ Ok (Data b n)) (o : is_outside b n cs ≡ false) (t : is_taken b n cs ≡ false) where
  long : length (map some (data_of l)) ≡ n
  long = length-map (data_of l) some ∙ data_length l (data_formed l b n r) ∙ data_counted l b n r

  fits : 0 < n → b + n ≤ length cs
  unfolding is_outside
  fits h = ltb-false (length cs) (b + n) (rw (lt-ltb 0 n h) at o)

  name_inside : (i : ℕ) → i < n → get_or (name b (data_of l) cs) (b + i) none ≡ some (get_or (data_of l) i 0)
  unfolding name
  name_inside i h = sets_inside none (map some (data_of l)) cs b i (omega (arith, long, fits (omega arith))) (omega (arith, long)) ∙ some_at (data_of l) i (omega (arith, data_length l (data_formed l b n r) ∙ data_counted l b n r))

  name_outside : (a : ℕ) → (a < b) ⊎ (b + n ≤ a) → get_or (name b (data_of l) cs) a none ≡ get_or cs a none
  unfolding name
  name_outside a (inl h) = sets_below none (map some (data_of l)) cs b a h
  name_outside a (inr h) = sets_above none (map some (data_of l)) cs b a (omega (arith, long))

  -- an address is one of the record's, or it is not
  data InRecord (a : ℕ) : Type 0 where
    inside : (i : ℕ) → i < n → a ≡ b + i → InRecord a
    apart : get_or (name b (data_of l) cs) a none ≡ get_or cs a none → InRecord a

  placed : (a : ℕ) → InRecord a
  placed a = go (dec_lt a b) (dec_lt a (b + n))
    where
      go : Dec (a < b) → Dec (a < b + n) → InRecord a
      go (yes h) k = apart (name_outside a (inl h))
      go (no h) (yes k) = inside (a - b) (omega arith) (omega arith)
      go (no h) (no k) = apart (name_outside a (inr (omega arith)))

clash : (x : ℕ) (o : Option ℕ) → o ≡ some x → o ≡ none → ⊥
clash x o p q = let z : ◌≡◌ {A = ℕ} 0 1 = cc in omega arith

-- What is named stays named.
keeps : (ls : List Bytes) (cs fs : Cells) → reading ls cs ≡ Ok fs → (a x : ℕ) → get_or cs a none ≡ some x → get_or fs a none ≡ some x
unfolding reading
keeps [] cs fs e a x h = absurd (never_refused NoEnd fs (reading [] cs) e refl)
keeps (l ∷ ls) cs fs e a x h = go (step_of l ls cs fs e) (λ us q k. keeps ls us fs q a x k)
  where
    go : LineStep l ls cs fs → ((us : Cells) → reading ls us ≡ Ok fs → get_or us a none ≡ some x → get_or fs a none ≡ some x) → get_or fs a none ≡ some x
    go (ended r o q) f = ap (λ (c : Cells). get_or c a none) (sym q) ∙ h
    go (on b n r o t q) f = f (name b (data_of l) cs) q (at (placed l cs b n r o t a))
      where
        at : InRecord l cs b n r o t a → get_or (name b (data_of l) cs) a none ≡ some x
        at (inside i m w) = absurd (clash x (get_or cs a none) h (ap (λ (j : ℕ). get_or cs j none) w ∙ free n b i cs t m))
        at (apart w) = w ∙ h

no_names : (a x : ℕ) {ls : List Bytes} → Names a x ls → is_none ls ≡ true → ⊥
unfolding is_none
no_names a x (here b n i r m w z) e = let z : ◌≡◌ {A = ℕ} 0 1 = cc in omega arith
no_names a x (later k) e = let z : ◌≡◌ {A = ℕ} 0 1 = cc in omega arith

-- What a record names is there at the end.
pub named_is : (a x : ℕ) {ls : List Bytes} → Names a x ls → (cs fs : Cells) → reading ls cs ≡ Ok fs → get_or fs a none ≡ some x
named_is a x (here {l} {ls} b n i r m w z) cs fs e = go (step_of l ls cs fs e)
  where
    go : LineStep l ls cs fs → get_or fs a none ≡ some x
    go (ended q o p) = let y : ◌≡◌ {A = ℕ} 0 1 = cc in absurd (omega arith)
    go (on c k q o t p) =
        let u : b ≡ c = cc in
        let v : n ≡ k = cc in
        let y : a ≡ c + i = w ∙ ap (λ (j : ℕ). j + i) u in
        keeps ls (name c (data_of l) cs) fs p a x (ap (λ (j : ℕ). get_or (name c (data_of l) cs) j none) y ∙ name_inside l cs c k q o t i (omega arith) ∙ ap some (sym z))
named_is a x (later {l} {ls} k) cs fs e = go (step_of l ls cs fs e) (λ us p. named_is a x k us fs p)
  where
    go : LineStep l ls cs fs → ((us : Cells) → reading ls us ≡ Ok fs → get_or fs a none ≡ some x) → get_or fs a none ≡ some x
    go (ended q o p) f = absurd (no_names a x k o)
    go (on c n q o t p) f = f (name c (data_of l) cs) p

-- What is there at the end was there at first, or a record names it.
pub is_named_lem : (ls : List Bytes) (cs fs : Cells) → reading ls cs ≡ Ok fs → (a x : ℕ) → get_or fs a none ≡ some x → (get_or cs a none ≡ some x) ⊎ Names a x ls
unfolding reading
is_named_lem [] cs fs e a x h = absurd (never_refused NoEnd fs (reading [] cs) e refl)
is_named_lem (l ∷ ls) cs fs e a x h = go (step_of l ls cs fs e) (λ us q. is_named_lem ls us fs q a x h)
  where
    go : LineStep l ls cs fs → ((us : Cells) → reading ls us ≡ Ok fs → (get_or us a none ≡ some x) ⊎ Names a x ls) → (get_or cs a none ≡ some x) ⊎ Names a x (l ∷ ls)
    go (ended r o q) f = inl (ap (λ (c : Cells). get_or c a none) q ∙ h)
    go (on b n r o t q) f = from (f (name b (data_of l) cs) q) (placed l cs b n r o t a)
      where
        from : (get_or (name b (data_of l) cs) a none ≡ some x) ⊎ Names a x ls → InRecord l cs b n r o t a → (get_or cs a none ≡ some x) ⊎ Names a x (l ∷ ls)
        from (inr k) p = inr (later k)
        from (inl k) (apart w) = inl (sym w ∙ k)
        from (inl k) (inside i m w) =
            let y : some x ≡ some (get_or (data_of l) i 0) = sym k ∙ ap (λ (j : ℕ). get_or (name b (data_of l) cs) j none) w ∙ name_inside l cs b n r o t i m in
            let z : x ≡ get_or (data_of l) i 0 = cc in
            inr (here b n i r m w z)

-- The cells stay as many.
pub reading_long : (ls : List Bytes) (cs fs : Cells) → reading ls cs ≡ Ok fs → length fs ≡ length cs
unfolding reading name
reading_long [] cs fs e = absurd (never_refused NoEnd fs (reading [] cs) e refl)
reading_long (l ∷ ls) cs fs e = go (step_of l ls cs fs e) (λ us q. reading_long ls us fs q)
  where
    go : LineStep l ls cs fs → ((us : Cells) → reading ls us ≡ Ok fs → length fs ≡ length us) → length fs ≡ length cs
    go (ended r o q) f = ap length (sym q)
    go (on b n r o t q) f = f (name b (data_of l) cs) q ∙ length-sets cs b (map some (data_of l))
