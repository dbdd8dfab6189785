-- An erased unit: every byte is FF, and so are its header and all behind it. A spare is one.
use Rattle.std.specs.Prelude.{true, [], ◌++◌, ◌≡◌, refl, ◌+◌, ◌-◌, ◌≤◌, ℕ, eqb, length, replicate}
use Rattle.std.proofs.Common.{◌∙◌, ap, sym, arith}
use Rattle.std.proofs.lemmas.List.{replicate-append-replicate}
use Rattle.rules.specs.Flash.{Bytes, erased, word}
use Rattle.rules.specs.Unit.{header_bytes}
use Rattle.rules.specs.Settled.{is_spare}
use Rattle.rules.specs.declared.Geometry.{Geometry}
use Rattle.laws.specs.Complete.{erased_is_lem}
use Rattle.theory.specs.Base.Facts.{all_replicate, append-nil}
use Rattle.theory.specs.Base.Along.{le}
use Rattle.theory.specs.Images.Head.{head_bytes, plain_head}

-- what stands behind its state
abbrev pub blank_body : Geometry → Bytes
blank_body g = head_bytes plain_head (replicate (g.size - header_bytes) 255 ++ [])

pub blank_unit_lem : (g : Geometry) → header_bytes ≤ g.size → replicate g.size 255 ≡ le 0xFFFF (le 0xFFFF (blank_body g))
blank_unit_lem g h = ap (λ (n : ℕ). replicate n 255) sum ∙ sym (replicate-append-replicate header_bytes (g.size - header_bytes) 255) ∙ ap (λ (x : Bytes). replicate header_bytes 255 ++ x) (sym (append-nil (replicate (g.size - header_bytes) 255)))
  where
    sum : g.size ≡ header_bytes + (g.size - header_bytes)
    sum = omega arith

-- ---- what a spare is
pub blank_spare : (g : Geometry) → is_spare (replicate g.size 255) ≡ true
unfolding erased is_spare
blank_spare g = all_replicate (eqb 255) g.size 255 refl

pub spare_blank : (u : Bytes) → is_spare u ≡ true → u ≡ replicate (length u) 255
unfolding is_spare
spare_blank u h = erased_is_lem u h

-- it has no logical number, and no state
pub spare_name : (g : Geometry) → header_bytes ≤ g.size → (u : Bytes) → length u ≡ g.size → is_spare u ≡ true → word u 0 ≡ 0xFFFF
unfolding word
spare_name g w u l h = ap (λ (x : Bytes). word x 0) (spare_blank u h ∙ ap (λ (n : ℕ). replicate n 255) l ∙ blank_unit_lem g w)

pub spare_state : (g : Geometry) → header_bytes ≤ g.size → (u : Bytes) → length u ≡ g.size → is_spare u ≡ true → word u 2 ≡ 0xFFFF
unfolding word
spare_state g w u l h = ap (λ (x : Bytes). word x 2) (spare_blank u h ∙ ap (λ (n : ℕ). replicate n 255) l ∙ blank_unit_lem g w)
