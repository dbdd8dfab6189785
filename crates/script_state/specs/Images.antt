-- The script: an image with its geometry numbers.
use Rattle.std.specs.Prelude.{Option, Some, None, cond, [], ◌++◌, ℕ, ◌-◌, ◌*◌, ltb, length, set, take, replicate}
use Rattle.rules.specs.Flash.{Bytes}

-- The two numbers and the image.
pub record HeldImage : Type 0 where
  pub size : ℕ
  pub units : ℕ
  pub image : Bytes

-- An empty image, 0 and 0.
abbrev pub none_held : HeldImage
none_held = record { size = 0; units = 0; image = [] }

-- Other bytes.
abbrev pub with_bytes : HeldImage → Bytes → HeldImage
with_bytes h s = record { size = h.size; units = h.units; image = s }

-- U x S bytes, or none where that is over 65,536.
unfoldable pub whole : ℕ → ℕ → ℕ
whole size units = cond (ltb 65536 (size * units)) 0 (size * units)

-- The image is cut, or extended with FF, to n bytes.
unfoldable pub sized : ℕ → Bytes → Bytes
sized n s = take n s ++ replicate (n - length s) 255

-- One byte of the image is set, where it has that byte.
unfoldable pub put_at : ℕ → ℕ → Bytes → Option Bytes
put_at offset byte s = cond (ltb offset (length s)) (cond (ltb 255 byte) None (Some (set s offset byte))) None
