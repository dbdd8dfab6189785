-- The sectors of a home, none sharing a byte with another, fit above its array once packed.
use Prim.Native.Nat.{ℕ, zero, suc, ◌+◌, ◌-◌, ◌%◌, ◌≤◌, ◌<◌}
use native.Mathlib.Omega.{arith}
use Rattle.std.specs.Prelude.{◌≡◌, Bool, not, cond, ◌&&◌, ◌||◌}
use Rattle.std.proofs.Math.Path.{refl}
use Rattle.std.proofs.Math.Bool.{true, false}
use mathlib.Core.List.{List, [], ◌∷◌}
use borrow.Author.Tests.{le-leb, leb-true, eqb-true, ltb-true, ltb-false, lt-ltb}
use Rattle.std.proofs.Math.Dec.{leb, ltb, eqb}
use Rattle.rules.specs.Lists.{all}
use Rattle.rules.specs.Unit.{Descriptor, has_sector, size, is_data, is_mark, is_transaction, is_tagged, lies, is_placed, disjoint, apart, all_apart}
use Rattle.rules.specs.Copy.{is_kept, kept_size, is_movable}
use Rattle.rules.specs.declared.Geometry.{Geometry}
use Rattle.laws.specs.Tests.{and_inv}
use Rattle.laws.specs.Copied.{kept_sector}
use Rattle.unit.specs.Tests.{no, elim_inv}

-- byte x is the kept sector's
unfoldable in' : Descriptor → ℕ → Bool
in' d x = is_kept d && leb d.offset x && ltb x (d.offset + size d)

unfoldable one : Bool → ℕ
one true = 1
one false = 0

-- how many have it
unfoldable cover : List Descriptor → ℕ → ℕ
cover [] x = 0
cover (d ∷ ds) x = one (in' d x) + cover ds x

-- summed over the k bytes from a on
unfoldable sum : (ℕ → ℕ) → ℕ → ℕ → ℕ
sum f a zero = 0
sum f a (suc k) = f a + sum f (a + 1) k

sum_add : (f h : ℕ → ℕ) (k a : ℕ) → sum (λ (x : ℕ). f x + h x) a k ≡ sum f a k + sum h a k
unfolding sum
sum_add f h zero a = refl
sum_add f h (suc k) a = rw (sum_add f h k (a + 1)) (omega arith)

sum_below : (f : ℕ → ℕ) → ((x : ℕ) → f x ≤ 1) → (k a : ℕ) → sum f a k ≤ k
unfolding sum
sum_below f h zero a = omega arith
sum_below f h (suc k) a = omega (arith, h a, sum_below f h k (a + 1))

-- the bytes of one sector, counted
module _ (d : Descriptor) (kd : is_kept d ≡ true) where
  inside : (x : ℕ) → d.offset ≤ x → x < d.offset + size d → one (in' d x) ≡ 1
  unfolding one in'
  inside x a b = rw (kd, le-leb d.offset x a, lt-ltb x (d.offset + size d) b)

  from_within : (k a : ℕ) → d.offset ≤ a → d.offset + size d ≤ a + k → d.offset + size d ≤ a + sum (λ (x : ℕ). one (in' d x)) a k
  unfolding sum
  from_within zero a l h = omega arith
  from_within (suc k) a l h = go (ltb a (d.offset + size d)) refl (from_within k (a + 1) (omega arith) (omega arith))
    where
      go : (x : Bool) → ltb a (d.offset + size d) ≡ x → d.offset + size d ≤ a + 1 + sum (λ (x : ℕ). one (in' d x)) (a + 1) k
          → d.offset + size d ≤ a + (one (in' d a) + sum (λ (x : ℕ). one (in' d x)) (a + 1) k)
      go true e r = rw (inside a l (ltb-true a (d.offset + size d) e)) (omega arith)
      go false e r = omega (arith, ltb-false a (d.offset + size d) e)

  from_below : (k a : ℕ) → a ≤ d.offset → d.offset + size d ≤ a + k → size d ≤ sum (λ (x : ℕ). one (in' d x)) a k
  unfolding sum
  from_below zero a l h = omega arith
  from_below (suc k) a l h =
      go (ltb a d.offset) refl (λ m. from_below k (a + 1) m (omega arith)) (λ m. from_within (suc k) a m h)
    where
      go : (x : Bool) → ltb a d.offset ≡ x → (a + 1 ≤ d.offset → size d ≤ sum (λ (x : ℕ). one (in' d x)) (a + 1) k)
          → (d.offset ≤ a → d.offset + size d ≤ a + sum (λ (x : ℕ). one (in' d x)) a (suc k))
          → size d ≤ one (in' d a) + sum (λ (x : ℕ). one (in' d x)) (a + 1) k
      go true e r s = omega (arith, r (omega (arith, ltb-true a d.offset e)))
      go false e r s = omega (arith, s (ltb-false a d.offset e), ltb-false a d.offset e)

-- ---- no byte has two
both : (d e : Descriptor) (x : ℕ) → apart d e ≡ true → in' d x ≡ true → one (in' e x) ≡ 0
unfolding apart disjoint in' one
both d e x a h =
    let i = and_inv (is_kept d && leb d.offset x) (ltb x (d.offset + size d)) h in
    let j = and_inv (is_kept d) (leb d.offset x) i.0 in
    go (is_kept e) refl (leb e.offset x) refl (ltb x (e.offset + size e)) refl
    (leb-true d.offset x j.1) (ltb-true x (d.offset + size d) i.1) (kept_sector d j.0)
  where
    go : (k : Bool) → is_kept e ≡ k → (l : Bool) → leb e.offset x ≡ l → (t : Bool) → ltb x (e.offset + size e) ≡ t
        → d.offset ≤ x → x < d.offset + size d → has_sector d ≡ true → one (k && l && t) ≡ 0
    go true ke true le true te p q s =
        let a' : (eqb (size d) 0 || eqb (size e) 0 || leb (d.offset + size d) e.offset || leb (e.offset + size e) d.offset) ≡ true = rw (s, kept_sector e ke) at a in
        let m : e.offset ≤ x = leb-true e.offset x le in
        let o : x < e.offset + size e = ltb-true x (e.offset + size e) te in
        last (eqb (size d) 0) (eqb (size e) 0) (leb (d.offset + size d) e.offset) (leb (e.offset + size e) d.offset) refl refl refl refl a' m o
      where
        last : (u v w y : Bool) → eqb (size d) 0 ≡ u → eqb (size e) 0 ≡ v → leb (d.offset + size d) e.offset ≡ w → leb (e.offset + size e) d.offset ≡ y
            → (u || v || w || y) ≡ true → e.offset ≤ x → x < e.offset + size e → ◌≡◌ {A = ℕ} 1 0
        last true v w y eu ev ew ey z m o = absurd (omega (arith, eqb-true (size d) 0 eu))
        last false true w y eu ev ew ey z m o = absurd (omega (arith, eqb-true (size e) 0 ev))
        last false false true y eu ev ew ey z m o = absurd (omega (arith, leb-true (d.offset + size d) e.offset ew))
        last false false false true eu ev ew ey z m o = absurd (omega (arith, leb-true (e.offset + size e) d.offset ey))
        last false false false false eu ev ew ey z m o = no z
    go true ke true le false te p q s = refl
    go true ke false le t te p q s = refl
    go false ke l le t te p q s = refl

cover_none : (d : Descriptor) (ds : List Descriptor) (x : ℕ) → all (apart d) ds ≡ true → in' d x ≡ true → cover ds x ≡ 0
unfolding cover all
cover_none d [] x a h = refl
cover_none d (e ∷ ds) x a h =
    let i = elim_inv (apart d e) (all (apart d) ds) a in
    rw (both d e x i.0 h, cover_none d ds x i.1 h)

cover_one : (ds : List Descriptor) (x : ℕ) → all_apart ds ≡ true → cover ds x ≤ 1
unfolding cover all_apart one
cover_one [] x a = omega arith
cover_one (d ∷ ds) x a =
    let i = elim_inv (all (apart d) ds) (all_apart ds) a in
    go (in' d x) refl i.0 (cover_one ds x i.1)
  where
    go : (t : Bool) → in' d x ≡ t → all (apart d) ds ≡ true → cover ds x ≤ 1 → one t + cover ds x ≤ 1
    go true e a r = omega (arith, cover_none d ds x a e)
    go false e a r = omega arith

-- each kept sector lies between floor and top
unfoldable pub kept_in : ℕ → ℕ → Descriptor → Bool
kept_in floor top d = not (is_kept d) || (leb floor d.offset && leb (d.offset + size d) top)

sizes : (floor k : ℕ) (ds : List Descriptor) → all (kept_in floor (floor + k)) ds ≡ true → kept_size ds ≤ sum (cover ds) floor k
unfolding kept_size cover all kept_in
sizes floor k [] h = omega arith
sizes floor k (d ∷ ds) h =
    let i = elim_inv (kept_in floor (floor + k) d) (all (kept_in floor (floor + k)) ds) h in
    go (is_kept d) refl i.0 (sizes floor k ds i.1) (sum_add (λ (x : ℕ). one (in' d x)) (cover ds) k floor)
  where
    go : (x : Bool) → is_kept d ≡ x → (not x || (leb floor d.offset && leb (d.offset + size d) (floor + k))) ≡ true → kept_size ds ≤ sum (cover ds) floor k
        → sum (λ (x : ℕ). one (in' d x) + cover ds x) floor k ≡ sum (λ (x : ℕ). one (in' d x)) floor k + sum (cover ds) floor k
        → cond x (size d) 0 + kept_size ds ≤ sum (λ (x : ℕ). one (in' d x) + cover ds x) floor k
    go true e l r q =
        let j = and_inv (leb floor d.offset) (leb (d.offset + size d) (floor + k)) l in
        omega (arith, q, from_below d e k floor (leb-true floor d.offset j.0) (leb-true (d.offset + size d) (floor + k) j.1))
    go false e l r q = omega arith

pub volume : (floor top : ℕ) (ds : List Descriptor) → floor ≤ top → all (kept_in floor top) ds ≡ true → all_apart ds ≡ true → floor + kept_size ds ≤ top
volume floor top ds l h a =
    let e : floor + (top - floor) ≡ top = omega arith in
    omega (arith, sizes floor (top - floor) ds (rw e h), sum_below (cover ds) (λ x. cover_one ds x a) (top - floor) floor)

-- a descriptor that is placed is kept in, and can be moved
tagged_short : (d : Descriptor) → is_tagged d ≡ true → d.len ≤ 256
unfolding is_tagged
tagged_short d t = go (is_data d) (leb d.len 256) (is_mark d || is_transaction d) (eqb d.len 0) refl refl t
  where
    go : (a b c e : Bool) → leb d.len 256 ≡ b → eqb d.len 0 ≡ e → ((a && b) || (c && e)) ≡ true → d.len ≤ 256
    go true true c e p q t = leb-true d.len 256 p
    go true false true true p q t = omega (arith, eqb-true d.len 0 q)
    go true false true false p q t = no t
    go true false false e p q t = no t
    go false b true true p q t = omega (arith, eqb-true d.len 0 q)
    go false b true false p q t = no t
    go false b false e p q t = no t

module _ (g : Geometry) (floor : ℕ) where
  placed_in : (d : Descriptor) → is_placed g floor d ≡ true → (kept_in floor g.size d ≡ true) × (is_movable g d ≡ true)
  unfolding is_placed lies kept_in is_movable
  placed_in d h = go (is_kept d) refl
    where
      go : (k : Bool) → is_kept d ≡ k
          → ((not k || (leb floor d.offset && leb (d.offset + size d) g.size)) ≡ true)
          × ((not k || (leb d.len 256 && eqb (d.offset % 2) 0 && leb (d.offset + size d) g.size)) ≡ true)
      go true e =
          let l : (eqb (d.offset % 2) 0 && leb floor d.offset && leb (d.offset + size d) g.size && is_tagged d) ≡ true = rw (kept_sector d e) at h in
          let i = and_inv (eqb (d.offset % 2) 0 && leb floor d.offset && leb (d.offset + size d) g.size) (is_tagged d) l in
          let j = and_inv (eqb (d.offset % 2) 0 && leb floor d.offset) (leb (d.offset + size d) g.size) i.0 in
          let k = and_inv (eqb (d.offset % 2) 0) (leb floor d.offset) j.0 in
          (rw (k.1, j.1), rw (le-leb d.len 256 (tagged_short d i.1), k.0, j.1))
      go false e = (refl, refl)

  pub all_in : (ds : List Descriptor) → all (is_placed g floor) ds ≡ true → (all (kept_in floor g.size) ds ≡ true) × (all (is_movable g) ds ≡ true)
  unfolding all
  all_in [] h = (refl, refl)
  all_in (d ∷ ds) h =
      let i = elim_inv (is_placed g floor d) (all (is_placed g floor) ds) h in
      let j = placed_in d i.0 in
      let k = all_in ds i.1 in
      (rw (j.0, all) k.0, rw (j.1, all) k.1)
