-- A unit that fits is ready for a store.
use Rattle.std.specs.Prelude.{Bool, ◌&&◌, ◌||◌, false, true, ◌≡◌, eqb, leb, ltb, replicate}
use mathlib.Core.List.{List, [], ◌++◌, ◌∷◌, append_assoc}
use Rattle.std.proofs.Common.{◌∙◌, subst, sym, le_of_suc-le-suc, not-suc-le-zero, arith, leb→le, length-append}
use Rattle.std.proofs.Math.Path.{ap, refl}
use Prim.Native.Nat.{◌%◌, ◌*◌, ◌+◌, ◌-◌, ◌<◌, ◌≤◌, suc, ℕ}
use Rattle.std.proofs.Math.Decide.{dec_lt}
use Rattle.std.proofs.Math.ListN.{length}
use Rattle.rules.specs.Flash.{Bytes}
use Rattle.rules.specs.Jobs.{fits, vacant}
use Rattle.rules.specs.Unit.{Descriptor, blank, gap, has_sector, is_allocated, is_current, is_empty, is_old, is_pending, is_tagged, n, stands}
use Rattle.rules.specs.declared.Geometry.{Geometry}
use Rattle.theory.specs.Base.Facts.{and_l, and_r, eq_of, lt_of, of_true}
use Rattle.theory.specs.Base.Along.{le}
use Rattle.theory.specs.Images.Head.{Head, head_bytes}
use Rattle.theory.specs.Images.Layout.{Good, array_bytes, layout}
use Rattle.theory.specs.Images.Model.{all_entries, home_entries, LaidHome, entry_at, state_word}
use Rattle.theory.specs.Images.Located.{entries_split, from_append}
use Rattle.theory.specs.Tidying.Sorted.{sorted}
use Rattle.theory.specs.Storing.Grow.{longer_good, plain_good}
use Rattle.theory.specs.Storing.Fill.{SmallWords}
use Rattle.theory.specs.Storing.Placed.{sum, sum_blank, sum_none}
use Rattle.theory.specs.Storing.Focus.{Foc}
use Rattle.theory.specs.Storing.Store.{Ready}

pub empty_blank : (d : Descriptor) → is_empty d ≡ true → d ≡ blank
unfolding is_empty blank
empty_blank d h = λ i. record { flags = eq d.flags a i; offset = eq d.offset c i; len = eq d.len e i; tag = eq d.tag b i }
  where
    A : Bool
    A = eqb d.flags 0xFFFF

    B : Bool
    B = eqb d.tag 0xFFFF

    C : Bool
    C = eqb d.offset 0xFFFF

    D : Bool
    D = eqb d.len 0xFFFF

    h' : A && B && C && D ≡ true
    h' = h

    abc : A && B && C ≡ true
    abc = and_l (A && B && C) D h'

    e : D ≡ true
    e = and_r (A && B && C) D h'

    c : C ≡ true
    c = and_r (A && B) C abc

    b : B ≡ true
    b = and_r A B (and_l (A && B) C abc)

    a : A ≡ true
    a = and_l A B (and_l (A && B) C abc)

    eq : (x : ℕ) → eqb x 0xFFFF ≡ true → x ≡ 0xFFFF
    eq x q = eq_of x 0xFFFF q

pub record Vacancy (ds : List Descriptor) : Type 0 where
  pub xs : List Descriptor
  pub ys : List Descriptor
  pub whole : ds ≡ xs ++ blank ∷ ys
  pub pos : length xs ≡ vacant ds

vacant_split : (ds : List Descriptor) → vacant ds < length ds → Vacancy ds
unfolding vacant
vacant_split [] h = absurd (not-suc-le-zero h)
vacant_split (d ∷ ds) h = go (is_empty d) refl h (vacant_split ds)
  where
    go : (b : Bool) → is_empty d ≡ b → (elim b as (λ j. ℕ) [ true ↦ 0 | false ↦ suc (vacant ds) ]) < suc (length ds) → (vacant ds < length ds → Vacancy ds) → Vacancy (d ∷ ds)
    go true q l f = record { xs = []; ys = ds; whole = ap (λ (x : Descriptor). x ∷ ds) (empty_blank d q); pos = sym (ap (λ (b : Bool). elim b as (λ j. ℕ) [ true ↦ 0 | false ↦ suc (vacant ds) ]) q) }
    go false q l f =
        let r = f (le_of_suc-le-suc l) in
        record {
          xs = d ∷ r.xs;
          ys = r.ys;
          whole = ap {B = List Descriptor} (λ (x : List Descriptor). d ∷ x) r.whole;
          pos = ap suc r.pos ∙ sym (ap (λ (b : Bool). elim b as (λ j. ℕ) [ true ↦ 0 | false ↦ suc (vacant ds) ]) q);
        }

pub vacant_le : (ds : List Descriptor) → vacant ds ≤ length ds
unfolding vacant
vacant_le [] = omega arith
vacant_le (d ∷ ds) = go (is_empty d) (vacant_le ds)
  where
    go : (b : Bool) → vacant ds ≤ length ds → (elim b as (λ j. ℕ) [ true ↦ 0 | false ↦ suc (vacant ds) ]) ≤ suc (length ds)
    go true h = omega arith
    go false h = omega arith

-- the first of the gap is as good as a blank one
one_longer : (L st : ℕ) (head : Head) (ds : List Descriptor) (free : ℕ) (rest : Bytes) → 8 ≤ free → layout L st head ds free rest ≡ layout L st head (ds ++ blank ∷ []) (free - 8) rest
unfolding blank
one_longer L st head ds free rest h = ap (λ (x : Bytes). le L (le st (head_bytes head x))) (ap (λ (n : ℕ). array_bytes ds (replicate n 255 ++ rest)) (sym eight) ∙ walk ds)
  where
    eight : suc (suc (suc (suc (suc (suc (suc (suc (free - 8)))))))) ≡ free
    eight = omega arith

    walk : (xs : List Descriptor) → array_bytes xs (replicate (suc (suc (suc (suc (suc (suc (suc (suc (free - 8))))))))) 255 ++ rest) ≡ array_bytes (xs ++ blank ∷ []) (replicate (free - 8) 255 ++ rest)
    walk [] = refl
    walk (x ∷ xs) = ap (λ (l : Bytes). le x.flags (le x.offset (le x.len (le x.tag l)))) (walk xs)

-- what a store writes
pub record Writing (tag len : ℕ) (ws : Bytes) : Type 0 where
  pub small_tag : tag < 65535
  pub small_len : len < 65536
  pub tags : (f o : ℕ) → is_tagged (record { flags = f; offset = o; len = len; tag = tag }) ≡ true
  pub words_are : length ws * 2 ≡ len + len % 2
  pub small_words : SmallWords ws

module _ (g : Geometry) (hs bs : List LaidHome) (sp : ℕ) (p : LaidHome) (tag len : ℕ) (ws : Bytes) (w : Writing tag len ws) (s : Bytes)
    (foc : Foc g hs bs sp p s) (good : Good g p.array p.gap p.rest) where
  abbrev offset : ℕ
  offset = stands (length p.array) + p.gap - (len + len % 2)

  pub record ReadyAt : Type 0 where
    pub xs : List Descriptor
    pub ys : List Descriptor
    pub free : ℕ
    pub pos : length xs ≡ vacant p.array
    pub ready : Ready g hs bs sp p xs ys free tag len offset ws s
    pub lists : sorted (all_entries g 0 (hs ++ p ∷ bs)) ≡ sum (all_entries g 0 hs ++ home_entries g (0 + length hs) p.phys p.rest 0 xs) (home_entries g (0 + length hs) p.phys p.rest (suc (0 + length xs)) ys ++ all_entries g (suc (0 + length hs)) bs)

  inside : len + len % 2 ≤ p.gap → vacant p.array < length p.array → ReadyAt
  unfolding has_sector is_allocated blank is_pending is_current is_old
  inside fit l =
      record {
        xs = v.xs;
        ys = v.ys;
        free = p.gap;
        pos = v.pos;
        ready = record {
          foc = foc;
          blank_there = ap (λ (d : List Descriptor). layout (0 + length hs) (state_word p.up) p.head d p.gap p.rest) v.whole;
          good = λ e a b c. plain_good g v.xs blank e v.ys p.gap p.rest refl a b c (subst (λ (d : List Descriptor). Good g d p.gap p.rest) v.whole good);
          small_tag = w.small_tag;
          small_len = w.small_len;
          small_off = omega (arith, good.fills, foc.stands.shape.right.small);
          tags = w.tags 0xFFFE offset;
          fit = fit;
          off_is = ap (λ (n : ℕ). stands n + p.gap - (len + len % 2)) (ap length v.whole ∙ lens);
          words_are = w.words_are;
          small_words = w.small_words;
        };
        lists = lists;
      }
    where
      v : Vacancy p.array
      v = vacant_split p.array l

      lens : length (v.xs ++ blank ∷ v.ys) ≡ length (v.xs ++ record { flags = 0xFFFF; offset = offset; len = len; tag = tag } ∷ v.ys)
      lens = length-append v.xs (blank ∷ v.ys) ∙ sym (length-append v.xs (record { flags = 0xFFFF; offset = offset; len = len; tag = tag } ∷ v.ys))

      lists : sorted (all_entries g 0 (hs ++ p ∷ bs)) ≡ sum (all_entries g 0 hs ++ home_entries g (0 + length hs) p.phys p.rest 0 v.xs) (home_entries g (0 + length hs) p.phys p.rest (suc (0 + length v.xs)) v.ys ++ all_entries g (suc (0 + length hs)) bs)
      lists = ap sorted ((λ i. all_entries g 0 (hs ++ record { phys = p.phys; up = p.up; head = p.head; array = v.whole i; gap = p.gap; rest = p.rest } ∷ bs)) ∙ entries_split g hs bs p v.xs v.ys blank)
          ∙ sum_blank (all_entries g 0 hs ++ home_entries g (0 + length hs) p.phys p.rest 0 v.xs) (entry_at g (0 + length hs) p.phys p.rest (0 + length v.xs) blank) (home_entries g (0 + length hs) p.phys p.rest (suc (0 + length v.xs)) v.ys ++ all_entries g (suc (0 + length hs)) bs) refl

  at_end : len + len % 2 + 8 ≤ p.gap → length p.array ≡ vacant p.array → ReadyAt
  unfolding stands
  at_end fit l =
      record {
        xs = p.array;
        ys = [];
        free = p.gap - 8;
        pos = l;
        ready = record {
          foc = foc;
          blank_there = one_longer (0 + length hs) (state_word p.up) p.head p.array p.gap p.rest (omega (arith, fit));
          good = λ e a b c. longer_good g p.array e p.gap p.rest a b c (omega (arith, fit)) good;
          small_tag = w.small_tag;
          small_len = w.small_len;
          small_off = omega (arith, good.fills, foc.stands.shape.right.small);
          tags = w.tags 0xFFFE offset;
          fit = omega (arith, fit);
          off_is = down;
          words_are = w.words_are;
          small_words = w.small_words;
        };
        lists = lists;
      }
    where
      e : Descriptor
      e = record { flags = 0xFFFF; offset = offset; len = len; tag = tag }

      down : stands (length p.array) + p.gap - (len + len % 2) ≡ stands (length (p.array ++ record { flags = 0xFFFF; offset = offset; len = len; tag = tag } ∷ [])) + (p.gap - 8) - (len + len % 2)
      down = omega (arith, length-append p.array (record { flags = 0xFFFF; offset = offset; len = len; tag = tag } ∷ []), fit)

      lists : sorted (all_entries g 0 (hs ++ p ∷ bs)) ≡ sum (all_entries g 0 hs ++ home_entries g (0 + length hs) p.phys p.rest 0 p.array) ([] ++ all_entries g (suc (0 + length hs)) bs)
      lists = ap sorted (from_append g 0 hs (p ∷ bs) ∙ sym (append_assoc (all_entries g 0 hs) (home_entries g (0 + length hs) p.phys p.rest 0 p.array) (all_entries g (suc (0 + length hs)) bs)))
          ∙ sum_none (all_entries g 0 hs ++ home_entries g (0 + length hs) p.phys p.rest 0 p.array) (all_entries g (suc (0 + length hs)) bs)

  -- a unit that fits
  pub found : fits (len + len % 2) (record { array = p.array; low = stands (length p.array) + p.gap }) ≡ true → ReadyAt
  unfolding fits n gap
  found h = go (dec_lt (vacant p.array) (length p.array))
    where
      N : ℕ
      N = length p.array

      gap_is : stands (length p.array) + p.gap - (stands (length p.array)) ≡ p.gap
      gap_is = omega arith

      A : Bool
      A = ltb (vacant p.array) (length p.array)

      B : Bool
      B = leb (len + len % 2) (stands (length p.array) + p.gap - (stands (length p.array)))

      C : Bool
      C = leb (len + len % 2 + 8) (stands (length p.array) + p.gap - (stands (length p.array)))

      either : (a b c : Bool) → (a && b) || c ≡ true → (a ≡ true → b ≡ true → ReadyAt) → (c ≡ true → ReadyAt) → ReadyAt
      either true true c q f free = f refl refl
      either true false c q f free = free q
      either false b c q f free = free q

      large : C ≡ true → len + len % 2 + 8 ≤ p.gap
      large q = omega (arith, leb→le (len + len % 2 + 8) (stands (length p.array) + p.gap - (stands (length p.array))) (of_true q))

      enough : B ≡ true → len + len % 2 ≤ p.gap
      enough q = omega (arith, leb→le (len + len % 2) (stands (length p.array) + p.gap - (stands (length p.array))) (of_true q))

      go : Dec (vacant p.array < length p.array) → ReadyAt
      go (yes l) = either A B C h (λ a b. inside (enough b) l) (λ c. inside (omega (arith, large c)) l)
      go (no n) = either A B C h (λ a b. absurd (n (lt_of (vacant p.array) (length p.array) a))) (λ c. at_end (large c) (omega (arith, n, vacant_le p.array)))
