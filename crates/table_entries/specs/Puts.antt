-- What is laid into a table from an image: by places of descriptors, one after the other.
use Rattle.std.specs.Prelude.{◌≡◌, Bool, List, [], ◌∷◌, ◌++◌, ℕ, zero, suc, ◌+◌, ◌-◌, ◌*◌, ◌/◌, ◌%◌, ◌≤◌, ◌<◌, leb, get_or, set, take}
use Rattle.std.proofs.Math.Path.{refl, ap}
use Rattle.std.proofs.Common.{sym, ◌∙◌, arith, mod-eq_of_lt, length-set}
use Rattle.std.proofs.Math.Bool.{true, false, cond}
use Rattle.std.proofs.Math.Option.{none, some}
use Rattle.std.proofs.Math.Nat.{mul-div_right}
use borrow.Author.Tests.{ne_eqb, eqb-false, le-leb, leb-true}
use Rattle.std.proofs.Math.Dec.{eqb}
use Rattle.std.proofs.Math.ListN.{length}
use Rattle.rules.specs.Flash.{Bytes, word}
use Rattle.rules.specs.Unit.{Descriptor, stands, is_mark, file_of}
use Rattle.rules.specs.Unit
use Rattle.rules.specs.Settled.{Entry}
use Rattle.rules.specs.Views.{unless_mark}
use Rattle.rules.specs.Table.{Table, no_file, a_file, entry_of, mended}
use Rattle.laws.specs.Words.{word_drop}
use Rattle.rules.specs.declared.Geometry.{Geometry}
use Rattle.rules.specs.declared.TableEntry.{TableEntry}
use Rattle.laws.specs.Units.{RightGeometry, row}
use Rattle.unit.specs.Spots.{places}
use Rattle.index.specs.Shapes.{EachEntry, end, and, Stood, descriptor_in, base_at}
use Rattle.index.specs.Entries.{base_is}
use Rattle.table_entries.specs.declared.Put.{Put}

-- A descriptor can stand there: 0 is no place.
unfoldable pub is_in : ℕ → Bytes → ℕ → Bool
is_in size s a = cond (eqb a 0) false (cond (eqb size 0) false (leb (a + 8) (length s)))

unfoldable pub base_in : ℕ → ℕ → ℕ
base_in size a = a / size * size

unfoldable pub position_in : ℕ → ℕ → ℕ
position_in a base = (a - base - 16) / 8

-- The entry of the descriptor at a; a delete mark: no file.
unfoldable pub entry_at : ℕ → Bytes → ℕ → TableEntry
entry_at size s a =
    cond (is_mark (descriptor_in s a)) no_file
    (record { state = 2; unit = word s (base_in size a) % 256; position = position_in a (base_in size a); len = (descriptor_in s a).len })

unfoldable pub put_in : ℕ → Bytes → ℕ → ℕ → Put
put_in size s i a =
    cond (is_in size s a)
    (record { at = file_of (descriptor_in s a); entry = entry_at size s a })
    (record { at = i; entry = no_file })

unfoldable pub put : Table → Put → Table
put t x = set t x.at x.entry

-- The table with what the first n places tell laid into it.
unfoldable pub laid_in : ℕ → Bytes → List ℕ → ℕ → Table → Table
laid_in size s ps zero t = t
laid_in size s ps (suc n) t = put (laid_in size s ps n t) (put_in size s n (get_or ps n 0))

pub length_laid : (size : ℕ) (s : Bytes) (ps : List ℕ) (n : ℕ) (t : Table) → length (laid_in size s ps n t) ≡ length t
unfolding laid_in put
length_laid size s ps zero t = refl
length_laid size s ps (suc n) t = length-set (laid_in size s ps n t) _ _ ∙ length_laid size s ps n t

-- ---- one descriptor
tag_at : (s : Bytes) (a : ℕ) → (descriptor_in s a).tag ≡ word s (a + 6)
unfolding Unit.descriptor
tag_at s a = word_drop a s 6

len_at : (s : Bytes) (a : ℕ) → (descriptor_in s a).len ≡ word s (a + 4)
unfolding Unit.descriptor
len_at s a = word_drop a s 4

-- what is laid for an entry: its file's
unfoldable pub put_for : Entry → Put
put_for e = record { at = file_of e.descriptor; entry = entry_of (unless_mark e) }

-- the image u has the entry's tag and length, and its unit's number, as s has
pub record SameThere (g : Geometry) (s u : Bytes) (e : Entry) (unit : ℕ) : Type 0 where
  pub long : length u ≡ length s
  pub len : word u (e.place + 4) ≡ word s (e.place + 4)
  pub tag : word u (e.place + 6) ≡ word s (e.place + 6)
  pub number : word u (unit * g.size) ≡ word s (unit * g.size)

pub alike_same : (g : Geometry) (s : Bytes) (e : Entry) (k : ℕ) → SameThere g s s e k
alike_same g s e k = record { long = refl; len = refl; tag = refl; number = refl }

module _ (g : Geometry) (s u : Bytes) (o : RightGeometry g s) (e : Entry) (at : Stood g s e) (small : e.at.unit < 256) (same : SameThere g s u e at.unit) where
  tag : (descriptor_in u e.place).tag ≡ e.descriptor.tag
  tag = tag_at u e.place ∙ same.tag ∙ sym (tag_at s e.place) ∙ ap (λ (d : Descriptor). d.tag) at.descriptor

  len : (descriptor_in u e.place).len ≡ e.descriptor.len
  len = len_at u e.place ∙ same.len ∙ sym (len_at s e.place) ∙ ap (λ (d : Descriptor). d.len) at.descriptor

  base : base_in g.size e.place ≡ at.unit * g.size
  unfolding base_in base_at
  base = base_is g s e o at

  number : word u (base_in g.size e.place) % 256 ≡ e.at.unit
  number = rw (base, same.number, at.number) (mod-eq_of_lt small)

  position : position_in e.place (base_in g.size e.place) ≡ e.at.position
  unfolding position_in stands
  position =
      let p = e.at.position in
      let d : e.place - at.unit * g.size - 16 ≡ 8 * p = omega (arith, at.place) in
      let q : 8 * p / 8 ≡ p = mul-div_right p (omega arith) in
      rw (base, d, q)

  is_in_lem : is_in g.size u e.place ≡ true
  unfolding is_in stands
  is_in_lem =
      let z : eqb e.place 0 ≡ false = ne_eqb e.place 0 (λ q. omega (arith, at.place)) in
      let w : eqb g.size 0 ≡ false = ne_eqb g.size 0 (λ q. omega (arith, o.large)) in
      let l : e.place + 8 ≤ length u = omega (arith, at.place, at.within, row at.unit g.units g.size at.below, o.whole, same.long) in
      rw (z, w) (le-leb (e.place + 8) (length u) l)

  entry : entry_at g.size u e.place ≡ entry_of (unless_mark e)
  unfolding entry_at entry_of a_file unless_mark
  entry =
      let m : is_mark (descriptor_in u e.place) ≡ is_mark e.descriptor = unfold is_mark in ap (λ (t : ℕ). eqb (t / 256) 0x20) tag in
      rw (m, number, position, len) (go (is_mark e.descriptor))
    where
      go : (b : Bool) → cond b no_file (record { state = 2; unit = e.at.unit; position = e.at.position; len = e.descriptor.len }) ≡ entry_of (cond b none (some e))
      go true = refl
      go false = refl

  pub put_says : (i : ℕ) → put_in g.size u i e.place ≡ put_for e
  unfolding put_in put_for unless_mark
  put_says i =
      let f : file_of (descriptor_in u e.place) ≡ file_of e.descriptor = unfold file_of in ap (λ (t : ℕ). t % 256) tag in
      rw (is_in_lem, f, entry)

-- ---- the places as a list
abbrev laid_list : ℕ → Bytes → ℕ → List ℕ → Table → Table
laid_list size u k [] t = t
laid_list size u k (a ∷ rest) t = laid_list size u (suc k) rest (put t (put_in size u k a))

list_snoc : (size : ℕ) (u : Bytes) (k : ℕ) (rest : List ℕ) (a : ℕ) (t : Table) → laid_list size u k (rest ++ (a ∷ [])) t ≡ put (laid_list size u k rest t) (put_in size u (k + length rest) a)
list_snoc size u k [] a t =
    let e : k + 0 ≡ k = omega arith in
    ap (λ (j : ℕ). put t (put_in size u j a)) (sym e)
list_snoc size u k (b ∷ rest) a t =
    let e : suc k + length rest ≡ k + suc (length rest) = omega arith in
    list_snoc size u (suc k) rest a (put t (put_in size u k b)) ∙ ap (λ (j : ℕ). put (laid_list size u (suc k) rest (put t (put_in size u k b))) (put_in size u j a)) e

take_snoc : (n : ℕ) (xs : List ℕ) → n < length xs → take (suc n) xs ≡ take n xs ++ (get_or xs n 0 ∷ [])
take_snoc n [] l = absurd (omega arith)
take_snoc zero (x ∷ xs) l = refl
take_snoc (suc n) (x ∷ xs) l = ap (λ (r : List ℕ). x ∷ r) (take_snoc n xs (omega arith))

length_taken : (n : ℕ) (xs : List ℕ) → n ≤ length xs → length (take n xs) ≡ n
length_taken zero xs l = refl
length_taken (suc n) [] l = absurd (omega arith)
length_taken (suc n) (x ∷ xs) l = ap suc (length_taken n xs (omega arith))

laid_list_lem : (size : ℕ) (u : Bytes) (ps : List ℕ) (n : ℕ) (t : Table) → n ≤ length ps → laid_in size u ps n t ≡ laid_list size u 0 (take n ps) t
unfolding laid_in
laid_list_lem size u ps zero t l = refl
laid_list_lem size u ps (suc n) t l =
    let a : length (take n ps) ≡ n = length_taken n ps (omega arith) in
    let b : laid_list size u 0 (take (suc n) ps) t ≡ put (laid_list size u 0 (take n ps) t) (put_in size u (0 + length (take n ps)) (get_or ps n 0)) = ap (λ (xs : List ℕ). laid_list size u 0 xs t) (take_snoc n ps (omega arith)) ∙ list_snoc size u 0 (take n ps) (get_or ps n 0) t in
    let c : 0 + length (take n ps) ≡ n = omega (arith, a) in
    rw (laid_list_lem size u ps n t (omega arith)) (sym (b ∙ ap (λ (j : ℕ). put (laid_list size u 0 (take n ps) t) (put_in size u j (get_or ps n 0))) c))

-- what is laid at the entries' places is what a commit mends
list_mended : (size : ℕ) (u : Bytes) (k : ℕ) (es : List Entry) (t : Table) → EachEntry (λ (e : Entry). (i : ℕ) → put_in size u i e.place ≡ put_for e) es → laid_list size u k (places es) t ≡ mended es t
unfolding mended places put put_for
list_mended size u k [] t end = refl
list_mended size u k (e ∷ es) t (and p q) =
    ap (λ (x : Put). laid_list size u (suc k) (places es) (put t x)) (p k) ∙ list_mended size u (suc k) es (put t (put_for e)) q

pub laid_mended : (size : ℕ) (u : Bytes) (ps : List ℕ) (n : ℕ) (es : List Entry) (t : Table) → n ≤ length ps → take n ps ≡ places es
    → EachEntry (λ (e : Entry). (i : ℕ) → put_in size u i e.place ≡ put_for e) es → laid_in size u ps n t ≡ mended es t
laid_mended size u ps n es t l e h = laid_list_lem size u ps n t l ∙ ap (λ (xs : List ℕ). laid_list size u 0 xs t) e ∙ list_mended size u 0 es t h

-- ---- as the code makes them
pub entry_mark : (size : ℕ) (s : Bytes) (a : ℕ) → is_mark (descriptor_in s a) ≡ true → entry_at size s a ≡ no_file
unfolding entry_at
entry_mark size s a e = rw e

pub entry_made : (size : ℕ) (s : Bytes) (a base number unit position len : ℕ) → is_mark (descriptor_in s a) ≡ false → base ≡ a / size * size → number ≡ word s base → unit ≡ number % 256
    → position ≡ position_in a base → len ≡ word s (a + 4) → record { state = 2; unit = unit; position = position; len = len } ≡ entry_at size s a
unfolding entry_at base_in
entry_made size s a base number unit position len m b n u p l = rw (m, u, n, p, b, l, len_at s a)

pub in_false : (size : ℕ) (s : Bytes) (i a : ℕ) (x : TableEntry) → is_in size s a ≡ false → x ≡ no_file → record { at = i; entry = x } ≡ put_in size s i a
unfolding put_in
in_false size s i a x e q = rw (e, q)

pub in_true : (size : ℕ) (s : Bytes) (i a f : ℕ) (x : TableEntry) → is_in size s a ≡ true → f ≡ file_of (descriptor_in s a) → x ≡ entry_at size s a → record { at = f; entry = x } ≡ put_in size s i a
unfolding put_in
in_true size s i a f x e p q = rw (e, p, q)

-- what stands at a place
pub record PlaceInside (size : ℕ) (s : Bytes) (a : ℕ) : Type 0 where
  pub fits : a + 8 ≤ length s
  pub some_size : 1 ≤ size

pub inside : (size : ℕ) (s : Bytes) (a : ℕ) → is_in size s a ≡ true → PlaceInside size s a
unfolding is_in
inside size s a e = go (eqb a 0) (eqb size 0) refl e
  where
    go : (x y : Bool) → eqb size 0 ≡ y → cond x false (cond y false (leb (a + 8) (length s))) ≡ true → PlaceInside size s a
    go true y p q = let z : ◌≡◌ {A = ℕ} 0 1 = cc in absurd (omega arith)
    go false true p q = let z : ◌≡◌ {A = ℕ} 0 1 = cc in absurd (omega arith)
    go false false p q =
        let n : size ≡ 0 → ⊥ = eqb-false size 0 p in
        record { fits = leb-true (a + 8) (length s) q; some_size = omega arith }
