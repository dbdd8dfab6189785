-- Reading one line more.
use Rattle.std.specs.Prelude.{◌≡◌, cond, ◌&&◌, List, Ok, Err, ◌∷◌, ℕ, ◌+◌, ◌≤◌, ◌<◌, ltb, length}
use Rattle.std.proofs.Math.Path.{refl}
use Rattle.std.proofs.Common.{arith}
use Rattle.std.proofs.Math.Bool.{true, false}
use borrow.Author.Tests.{lt-ltb, le-ltb}
use Rattle.std.proofs.Math.Decide.{dec_lt}
use Rattle.std.proofs.lemmas.Bool.{and_right}
use Rattle.rules.specs.Flash.{Bytes, is_geometry}
use Rattle.rules.specs.Lists.{is_none}
use Rattle.rules.specs.declared.Geometry.{Geometry}
use Rattle.hex_lines.specs.declared.Record.TheVariants.{End, Data}
use Rattle.hex_lines.specs.declared.HexFault.{HexFault}
use Rattle.hex_lines.specs.declared.HexFault.TheVariants.{BadLine, Outside, NamedTwice}
use Rattle.hex_lines.specs.Records.{record_of, data_of}
use Rattle.hex_lines.specs.Reads.{Cells, Reading, reading, reads, is_outside, is_taken, name}

module _ (l : Bytes) (ls : List Bytes) (cs : Cells) where
  pub reading_bad : (k : HexFault) → record_of l ≡ Err k → reading (l ∷ ls) cs ≡ Err k
  unfolding reading
  reading_bad k e = rw (e, reading)

  pub reading_end : record_of l ≡ Ok End → reading (l ∷ ls) cs ≡ cond (is_none ls) (Ok cs) (Err BadLine)
  unfolding reading
  reading_end e = rw (e, reading)

  module _ (a n : ℕ) (e : record_of l ≡ Ok (Data a n)) where
    pub reading_outside : is_outside a n cs ≡ true → reading (l ∷ ls) cs ≡ Err Outside
    unfolding reading
    reading_outside o = rw (e, o, reading)

    pub reading_taken : is_outside a n cs ≡ false → is_taken a n cs ≡ true → reading (l ∷ ls) cs ≡ Err NamedTwice
    unfolding reading
    reading_taken o t = rw (e, o, t, reading)

    pub reading_on : is_outside a n cs ≡ false → is_taken a n cs ≡ false → reading (l ∷ ls) cs ≡ reading ls (name a (data_of l) cs)
    unfolding reading
    reading_on o t = rw (e, o, t, reading)

module _ (a n : ℕ) (cs : Cells) where
  pub is_outside_lem : 0 < n → length cs < a + n → is_outside a n cs ≡ true
  unfolding is_outside
  is_outside_lem h k = rw (lt-ltb 0 n h, lt-ltb (length cs) (a + n) k)

  pub is_inside : (0 < n → a + n ≤ length cs) → is_outside a n cs ≡ false
  unfolding is_outside
  is_inside k = go (dec_lt 0 n)
    where
      go : Dec (0 < n) → ltb 0 n && ltb (length cs) (a + n) ≡ false
      go (yes h) = rw (le-ltb (length cs) (a + n) (k h), and_right (ltb 0 n) false refl)
      go (no h) = rw (le-ltb 0 n (omega arith))

-- What names bytes is not refused.
pub never_refused : (k : HexFault) (cs : Cells) (a : Reading) → a ≡ Ok cs → a ≡ Err k → ⊥
never_refused k cs a p q = let z : ◌≡◌ {A = ℕ} 0 1 = cc in omega arith

-- 2 GEOMETRY: nothing is read.
pub read_geometry : (g : Geometry) (t s : Bytes) → is_geometry g (length s) ≡ false → reads g t s ≡ record { number = 2; image = s }
unfolding reads
read_geometry g t s e = rw e
