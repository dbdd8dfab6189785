-- Laws of a unit's shapes, one turn of a loop at a time.
use Prim.Native.Nat.{ℕ, zero, suc, ◌+◌, ◌-◌, ◌*◌, ◌/◌, ◌%◌, ◌≤◌, ◌<◌}
use native.Mathlib.Omega.{arith}
use Rattle.std.specs.Prelude.{◌≡◌, Bool, cond, List, [], ◌∷◌, length, get_or, drop}
use Rattle.std.proofs.Math.Path.{refl}
use Rattle.std.proofs.Common.{sym, ap, ◌∙◌, drop-drop}
use Rattle.std.proofs.Math.Bool.{true, false}
use borrow.Author.Tests.{le-leb, lt-leb, leb-true, leb-false}
use Rattle.std.proofs.Math.Dec.{leb}
use Rattle.rules.specs.Flash.{Bytes, words}
use Rattle.rules.specs.Unit.{Descriptor, descriptor, is_empty, lower, stands, descriptor_bytes, header_bytes, blank}
use Rattle.laws.specs.Words.{two_bytes, word_drop, word_bytes}
use Rattle.laws.specs.Rooms.{lower_none, lower_le, empty_none}
use Rattle.unit.specs.declared.Room.{Room}
use Rattle.unit.specs.Shapes.{descriptor_at, reach, upward, used_from, room_of, table, array_of, bytes_of}

-- ---- a descriptor's words and bytes

-- a list of four is its four elements
four : (d : List ℕ) → length d ≡ 4 → d ≡ get_or d 0 0 ∷ get_or d 1 0 ∷ get_or d 2 0 ∷ get_or d 3 0 ∷ []
four [] h = absurd (omega arith)
four (a ∷ []) h = absurd (omega arith)
four (a ∷ b ∷ []) h = absurd (omega arith)
four (a ∷ b ∷ c ∷ []) h = absurd (omega arith)
four (a ∷ b ∷ c ∷ e ∷ []) h = refl
four (a ∷ b ∷ c ∷ e ∷ f ∷ r) h = absurd (omega arith)

pub bytes_four : (d : List ℕ) → length d ≡ 4
    → bytes_of d ≡ get_or d 0 0 % 256 ∷ get_or d 0 0 / 256 ∷ get_or d 1 0 % 256 ∷ get_or d 1 0 / 256 ∷ get_or d 2 0 % 256 ∷ get_or d 2 0 / 256 ∷ get_or d 3 0 % 256 ∷ get_or d 3 0 / 256 ∷ []
unfolding bytes_of
bytes_four d h = ap bytes_of (four d h)

-- packed into bytes and taken back, words are the same
pub round_trip : (d : List ℕ) → words (bytes_of d) ≡ d
unfolding bytes_of words
round_trip [] = refl
round_trip (w ∷ ws) = rw (two_bytes w, round_trip ws)

-- eight bytes are four words
pub words_eight : (b : Bytes) → length b ≡ 8
    → words b ≡ (get_or b 0 0 + 256 * get_or b 1 0) ∷ (get_or b 2 0 + 256 * get_or b 3 0) ∷ (get_or b 4 0 + 256 * get_or b 5 0) ∷ (get_or b 6 0 + 256 * get_or b 7 0) ∷ []
unfolding words
words_eight (a ∷ b ∷ c ∷ d ∷ e ∷ f ∷ g ∷ h ∷ []) l = refl
words_eight [] l = absurd (omega arith)
words_eight (a ∷ []) l = absurd (omega arith)
words_eight (a ∷ b ∷ []) l = absurd (omega arith)
words_eight (a ∷ b ∷ c ∷ []) l = absurd (omega arith)
words_eight (a ∷ b ∷ c ∷ d ∷ []) l = absurd (omega arith)
words_eight (a ∷ b ∷ c ∷ d ∷ e ∷ []) l = absurd (omega arith)
words_eight (a ∷ b ∷ c ∷ d ∷ e ∷ f ∷ []) l = absurd (omega arith)
words_eight (a ∷ b ∷ c ∷ d ∷ e ∷ f ∷ g ∷ []) l = absurd (omega arith)
words_eight (a ∷ b ∷ c ∷ d ∷ e ∷ f ∷ g ∷ h ∷ i ∷ r) l = absurd (omega arith)

-- the descriptor whose words the eight bytes at an offset are is the one there
pub eight_bytes : (d : Descriptor) (u : Bytes) (a : ℕ)
    → words (get_or u a 0 ∷ get_or u (a + 1) 0 ∷ get_or u (a + 2) 0 ∷ get_or u (a + 3) 0 ∷ get_or u (a + 4) 0 ∷ get_or u (a + 5) 0 ∷ get_or u (a + 6) 0 ∷ get_or u (a + 7) 0 ∷ []) ≡ d.flags ∷ d.offset ∷ d.len ∷ d.tag ∷ []
    → d ≡ descriptor_at u a
unfolding words descriptor
eight_bytes d u a h =
    let e₀ : a + 0 ≡ a = omega arith in
    let e₃ : a + 2 + 1 ≡ a + 3 = omega arith in
    let e₅ : a + 4 + 1 ≡ a + 5 = omega arith in
    let e₇ : a + 6 + 1 ≡ a + 7 = omega arith in
    rw (word_drop a u 0, word_drop a u 2, word_drop a u 4, word_drop a u 6, e₀)
    (rw (word_bytes u a, word_bytes u (a + 2), word_bytes u (a + 4), word_bytes u (a + 6)) (rw (e₃, e₅, e₇) (ap of_words (sym h))))
  where
    of_words : List ℕ → Descriptor
    of_words l = record { flags = get_or l 0 0; offset = get_or l 1 0; len = get_or l 2 0; tag = get_or l 3 0 }

-- the next position's bytes
pub next_place : (u : List ℕ) (p : ℕ) → drop 8 (drop (stands p) u) ≡ drop (stands (p + 1)) u
unfolding stands
next_place u p =
    let e : stands p + 8 ≡ stands (p + 1) = omega arith in
    drop-drop 8 (stands p) u ∙ ap (λ (n : ℕ). drop n u) e

pub cond_le : (b : Bool) (x y m : ℕ) → (b ≡ true → x ≤ m) → y ≤ m → cond b x y ≤ m
cond_le true x y m h k = h refl
cond_le false x y m h k = k

pub reach_le : (d : Descriptor) (n p : ℕ) → n ≤ p → reach d n p ≤ p + 1
unfolding reach
reach_le d n p h = cond_le (is_empty d) n (p + 1) (p + 1) (λ _. omega arith) (omega arith)

-- ---- the array read upward
module _ (u : List ℕ) (S p low n : ℕ) where
  upward_turn : p < S → stands p + 8 ≤ low
      → upward (S - p) (drop (stands p) u) p low n
      ≡ upward (S - (p + 1)) (drop (stands (p + 1)) u) (p + 1) (lower low (descriptor_at u (stands p))) (reach (descriptor_at u (stands p)) n p)
  unfolding upward
  upward_turn h k =
      let e : S - p ≡ suc (S - (p + 1)) = omega arith in
      rw e (rw (le-leb (stands p + 8) low k, upward) (rw (next_place u p)))

  -- an empty position changes neither n nor low
  upward_empty : p < S → stands p + 8 ≤ low → is_empty (descriptor_at u (stands p)) ≡ true
      → upward (S - p) (drop (stands p) u) p low n ≡ upward (S - (p + 1)) (drop (stands (p + 1)) u) (p + 1) low n
  unfolding reach
  upward_empty h k e = upward_turn h k ∙ rw (lower_none low (descriptor_at u (stands p)) (empty_none (descriptor_at u (stands p)) e), e)

  pub upward_used : p < S → stands p + 8 ≤ low → is_empty (descriptor_at u (stands p)) ≡ false
      → upward (S - p) (drop (stands p) u) p low n ≡ upward (S - (p + 1)) (drop (stands (p + 1)) u) (p + 1) (lower low (descriptor_at u (stands p))) (p + 1)
  unfolding reach
  upward_used h k e = upward_turn h k ∙ rw e

  pub upward_end : low < stands p + 8 → upward (S - p) (drop (stands p) u) p low n ≡ record { n = n; low = low }
  unfolding upward
  upward_end k = go (S - p)
    where
      go : (f : ℕ) → upward f (drop (stands p) u) p low n ≡ record { n = n; low = low }
      go zero = refl
      go (suc f) = rw (lt-leb (stands p + 8) low k, upward)

-- ---- empty positions passed over
module _ (u : List ℕ) (S p low : ℕ) where
  pub used_next : p < S → stands p + 8 ≤ low → is_empty (descriptor_at u (stands p)) ≡ true
      → used_from (S - p) (drop (stands p) u) p low ≡ used_from (S - (p + 1)) (drop (stands (p + 1)) u) (p + 1) low
  unfolding used_from
  used_next h k e =
      let f : S - p ≡ suc (S - (p + 1)) = omega arith in
      rw f (rw (le-leb (stands p + 8) low k, e, next_place u p))

  pub used_here : p < S → stands p + 8 ≤ low → is_empty (descriptor_at u (stands p)) ≡ false → used_from (S - p) (drop (stands p) u) p low ≡ p
  unfolding used_from
  used_here h k e =
      let f : S - p ≡ suc (S - (p + 1)) = omega arith in
      rw f (rw (le-leb (stands p + 8) low k, e))

  pub used_end : low < stands p + 8 → used_from (S - p) (drop (stands p) u) p low ≡ p
  unfolding used_from
  used_end k = go (S - p)
    where
      go : (f : ℕ) → used_from f (drop (stands p) u) p low ≡ p
      go zero = refl
      go (suc f) = rw (lt-leb (stands p + 8) low k)

-- from p on, q is the first position that is used or has no room below low: reading on from q gives the same
pub record PassedTo (u : Bytes) (S p low q : ℕ) : Type 0 where
  pub onward : p ≤ q
  pub inside : stands q ≤ S
  pub same : (n : ℕ) → upward (S - p) (drop (stands p) u) p low n ≡ upward (S - q) (drop (stands q) u) q low n
  pub used : stands q + 8 ≤ low → is_empty (descriptor_at u (stands q)) ≡ false

module _ (u : Bytes) (S low : ℕ) (l : low ≤ S) where
  passed_by : (k p : ℕ) → k ≡ S - p → stands p ≤ S → PassedTo u S p low (used_from (S - p) (drop (stands p) u) p low)
  unfolding stands
  passed_by zero p f h = rw (used_end u S p low (omega arith)) (record { onward = omega arith; inside = h; same = λ n. refl; used = λ w. absurd (omega arith) })
  passed_by (suc k) p f h = go (λ w. passed_by k (p + 1) (omega arith) (omega arith)) (leb (stands p + 8) low) (is_empty (descriptor_at u (stands p))) refl refl
    where
      go : (stands p + 8 ≤ low → PassedTo u S (p + 1) low (used_from (S - (p + 1)) (drop (stands (p + 1)) u) (p + 1) low))
          → (x y : Bool) → leb (stands p + 8) low ≡ x → is_empty (descriptor_at u (stands p)) ≡ y → PassedTo u S p low (used_from (S - p) (drop (stands p) u) p low)
      go rec false y d e =
          let t : low < stands p + 8 = leb-false (stands p + 8) low d in
          rw (used_end u S p low t) (record { onward = omega arith; inside = h; same = λ n. refl; used = λ w. absurd (omega (arith, t)) })
      go rec true false d e =
          let t : stands p + 8 ≤ low = leb-true (stands p + 8) low d in
          rw (used_here u S p low (omega arith) t e) (record { onward = omega arith; inside = h; same = λ n. refl; used = λ w. e })
      go rec true true d e =
          let t : stands p + 8 ≤ low = leb-true (stands p + 8) low d in
          rw (used_next u S p low (omega arith) t e)
          (record { onward = omega (arith, (rec t).onward); inside = (rec t).inside; same = λ n. upward_empty u S p low n (omega arith) t e ∙ (rec t).same n; used = (rec t).used })

  pub passed : (p q : ℕ) → stands p ≤ S → q ≡ used_from (S - p) (drop (stands p) u) p low → PassedTo u S p low q
  passed p q h e = rw e (passed_by (S - p) p refl h)

-- ---- one descriptor more of the table
pub table_turn : (u : List ℕ) (n p : ℕ) → p < n → table (n - p) (drop (stands p) u) ≡ descriptor_at u (stands p) ∷ table (n - (p + 1)) (drop (stands (p + 1)) u)
unfolding table
table_turn u n p h =
    let e : n - p ≡ suc (n - (p + 1)) = omega arith in
    rw e (rw (next_place u p))

pub table_end : (u : List ℕ) (n p : ℕ) → n ≤ p → table (n - p) (drop (stands p) u) ≡ []
unfolding table
table_end u n p h =
    let e : n - p ≡ 0 = omega arith in
    rw e

-- n and low lie within the unit
reach_in : (d : Descriptor) (n p S : ℕ) → stands n ≤ S → stands p + descriptor_bytes ≤ S → stands (reach d n p) ≤ S
unfolding reach stands
reach_in d n p S hn hp = go (is_empty d)
  where
    go : (x : Bool) → stands (cond x n (p + 1)) ≤ S
    go true = hn
    go false = omega arith

pub record Inside (r : Room) (S : ℕ) : Type 0 where
  pub n : stands r.n ≤ S
  pub low : r.low ≤ S

upward_in : (k : ℕ) (r : Bytes) (p low n S : ℕ) → stands n ≤ S → low ≤ S → Inside (upward k r p low n) S
unfolding upward
upward_in zero r p low n S hn hl = record { n = hn; low = hl }
upward_in (suc k) r p low n S hn hl =
    go (λ l m. upward_in k (drop descriptor_bytes r) (p + 1) (lower low (descriptor r)) (reach (descriptor r) n p) S m l) (leb (stands p + descriptor_bytes) low) refl
  where
    go : (lower low (descriptor r) ≤ S → stands (reach (descriptor r) n p) ≤ S → Inside (upward k (drop descriptor_bytes r) (p + 1) (lower low (descriptor r)) (reach (descriptor r) n p)) S)
        → (x : Bool) → leb (stands p + descriptor_bytes) low ≡ x
        → Inside (elim x as (λ (b : Bool). Room) [ true ↦ upward k (drop descriptor_bytes r) (p + 1) (lower low (descriptor r)) (reach (descriptor r) n p) | false ↦ record { n = n; low = low } ]) S
    go rec true e = rec (omega (arith, lower_le low (descriptor r))) (reach_in (descriptor r) n p S hn (omega (arith, leb-true (stands p + descriptor_bytes) low e)))
    go rec false e = record { n = hn; low = hl }

pub room_in_lem : (S : ℕ) (u : Bytes) → header_bytes ≤ S → Inside (room_of S u) S
unfolding room_of stands
room_in_lem S u h = upward_in S (drop header_bytes u) 0 S 0 S (omega arith) (omega arith)

-- n grows
pub upward_least : (k : ℕ) (r : Bytes) (p low n : ℕ) → n ≤ p → n ≤ (upward k r p low n).n
unfolding upward reach
upward_least zero r p low n h = omega arith
upward_least (suc k) r p low n h =
    go (leb (stands p + descriptor_bytes) low) (upward_least k (drop descriptor_bytes r) (p + 1) (lower low (descriptor r)) (reach (descriptor r) n p) (reach_le (descriptor r) n p h))
  where
    grows : (b : Bool) → n ≤ cond b n (p + 1)
    grows true = omega arith
    grows false = omega arith

    go : (b : Bool) → reach (descriptor r) n p ≤ (upward k (drop descriptor_bytes r) (p + 1) (lower low (descriptor r)) (reach (descriptor r) n p)).n → n ≤ (elim b as (λ (x : Bool). Room) [ true ↦ upward k (drop descriptor_bytes r) (p + 1) (lower low (descriptor r)) (reach (descriptor r) n p) | false ↦ record { n = n; low = low } ]).n
    go true i = omega (arith, i, grows (is_empty (descriptor r)))
    go false i = omega arith

-- ---- the array, by its positions
-- the p-th of the first n descriptors
table_at : (n p : ℕ) (r : Bytes) → p < n → get_or (table n r) p blank ≡ descriptor (drop (8 * p) r)
unfolding table
table_at zero p r l = absurd (omega arith)
table_at (suc n) zero r l = refl
table_at (suc n) (suc p) r l =
    let e : 8 + 8 * p ≡ 8 * suc p = omega arith in
    table_at n p (drop 8 r) (omega arith) ∙ ap descriptor (drop-drop (8 * p) 8 r ∙ ap (λ (k : ℕ). drop k r) e)

table_past : (n p : ℕ) (r : Bytes) → n ≤ p → get_or (table n r) p blank ≡ blank
unfolding table
table_past zero p r l = refl
table_past (suc n) zero r l = absurd (omega arith)
table_past (suc n) (suc p) r l = table_past n p (drop 8 r) (omega arith)

pub array_at : (n p : ℕ) (u : Bytes) → p < n → get_or (array_of n u) p blank ≡ descriptor_at u (stands p)
unfolding array_of stands
array_at n p u l = table_at n p (drop header_bytes u) l ∙ ap descriptor (drop-drop (8 * p) header_bytes u)

pub array_past : (n p : ℕ) (u : Bytes) → n ≤ p → get_or (array_of n u) p blank ≡ blank
unfolding array_of
array_past n p u l = table_past n p (drop header_bytes u) l
