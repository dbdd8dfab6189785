-- Reclaim, position by position.
use Rattle.std.specs.Prelude.{◌≡◌, true, false, List, [], ◌∷◌, ◌++◌, ℕ, ◌+◌, ◌-◌, ◌%◌, take, drop}
use Rattle.std.proofs.Common.{arith}
use Rattle.rules.specs.Flash.{Bytes, programs, words}
use Rattle.rules.specs.Unit.{Descriptor, blank, descriptor_bytes, size}
use Rattle.rules.specs.Copy.{is_kept, packed, copies}

-- A descriptor with its sector moved to the offset o.
unfoldable pub moved : ℕ → Descriptor → Descriptor
moved o d = record { flags = d.flags; offset = o; len = d.len; tag = d.tag }

-- A descriptor's four words.
unfoldable pub four : Descriptor → List ℕ
four e = e.flags ∷ e.offset ∷ e.len ∷ e.tag ∷ []

-- The words of a sector in the unit u.
unfoldable pub sector_of : Bytes → Descriptor → List ℕ
sector_of u d = words (take (size d) (drop d.offset u))

-- A sector occupies an even number of bytes.
pub size_even : (d : Descriptor) → size d % 2 ≡ 0
unfolding size
size_even d = omega arith

module _ (d : Descriptor) (ds : List Descriptor) where
  -- A kept sector comes to lie below those before it.
  pub packed_kept : (low : ℕ) → is_kept d ≡ true → packed low (d ∷ ds) ≡ moved (low - size d) d ∷ packed (low - size d) ds
  unfolding packed moved
  packed_kept low e = rw (e, packed)

  -- Another position becomes empty.
  pub packed_left : (low : ℕ) → is_kept d ≡ false → packed low (d ∷ ds) ≡ blank ∷ packed low ds
  unfolding packed
  packed_left low e = rw (e, packed)

  module _ (base : ℕ) (u : Bytes) (at : ℕ) (e : Descriptor) (es : List Descriptor) where
    -- A kept sector is copied: its descriptor, then its data.
    pub copies_kept : is_kept d ≡ true
        → copies base u at (d ∷ ds) (e ∷ es) ≡ programs (base + at) (four e) ++ (programs (base + e.offset) (sector_of u d) ++ copies base u (at + descriptor_bytes) ds es)
    unfolding copies four sector_of
    copies_kept h = rw h

    -- Another position is passed over.
    pub copies_left : is_kept d ≡ false → copies base u at (d ∷ ds) (e ∷ es) ≡ copies base u (at + descriptor_bytes) ds es
    unfolding copies
    copies_left h = rw h
