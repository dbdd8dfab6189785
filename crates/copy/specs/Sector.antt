-- A kept sector that can be moved, and what the reader packs of it.
use Rattle.std.specs.Prelude.{ℕ, zero, suc, ◌+◌, ◌*◌, ◌%◌, ◌≤◌, ◌<◌, ◌≡◌, refl, true, cond, ◌&&◌, List, ◌∷◌, leb, eqb, drop}
use Rattle.std.proofs.Common.{arith, le-leb, leb-true, eqb-true, eq-eqb}
use Rattle.rules.specs.Flash.{Bytes, word}
use Rattle.rules.specs.Unit.{Descriptor, size}
use Rattle.rules.specs.Copy.{is_kept, kept_size, is_movable}
use Rattle.laws.specs.Words.{word_drop}
use Rattle.laws.specs.Tests.{and_inv}
use Rattle.rules.specs.declared.Geometry.{Geometry}
use Rattle.copy.specs.Stream.{agree, movable}
use Rattle.copy.specs.Within.{holds_same}

pub agree_same : (k : ℕ) (a b : Bytes) → ((i : ℕ) → i < k → word b (2 * i) ≡ word a (2 * i)) → agree true k a b ≡ true
unfolding agree
agree_same zero a b h = refl
agree_same (suc k) a b h =
    rw (holds_same true (word a 0) (word b 0) (h 0 (omega arith)), agree) (agree_same k (drop 2 a) (drop 2 b) (λ i l. shift i l))
  where
    shift : (i : ℕ) → i < k → word (drop 2 b) (2 * i) ≡ word (drop 2 a) (2 * i)
    shift i l =
        let e : 2 + 2 * i ≡ 2 * suc i = omega arith in
        rw (word_drop 2 a (2 * i), word_drop 2 b (2 * i), e) (h (suc i) (omega arith))

-- what a kept sector is that can be moved
pub record Sector (S : ℕ) (d : Descriptor) : Type 0 where
  pub short : d.len ≤ 256
  pub even : d.offset % 2 ≡ 0
  pub inside : d.offset + size d ≤ S

pub movable_sector : (g : Geometry) (d : Descriptor) → is_kept d ≡ true → is_movable g d ≡ true → Sector g.size d
unfolding is_movable
movable_sector g d k m =
    let m' : (leb d.len 256 && eqb (d.offset % 2) 0 && leb (d.offset + size d) g.size) ≡ true = rw k at m in
    let i = and_inv (leb d.len 256 && eqb (d.offset % 2) 0) (leb (d.offset + size d) g.size) m' in
    let j = and_inv (leb d.len 256) (eqb (d.offset % 2) 0) i.0 in
    record { short = leb-true d.len 256 j.0; even = eqb-true (d.offset % 2) 0 j.1; inside = leb-true (d.offset + size d) g.size i.1 }

pub sector_movable : (S : ℕ) (d : Descriptor) (floor low : ℕ) → Sector S d → floor + size d ≤ low → movable d S floor low ≡ true
unfolding movable
sector_movable S d floor low t h =
    rw (le-leb d.len 256 t.short, eq-eqb (d.offset % 2) 0 t.even, le-leb (d.offset + size d) S t.inside) (le-leb (floor + size d) low h)

pub kept_size_lem : (d : Descriptor) (ds : List Descriptor) (a b : ℕ) → a + kept_size (d ∷ ds) ≤ b → a + (cond (is_kept d) (size d) 0 + kept_size ds) ≤ b
unfolding kept_size
kept_size_lem d ds a b h = h
