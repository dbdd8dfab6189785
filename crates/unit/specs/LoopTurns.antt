-- One turn of each loop over a unit's descriptors, and its end.
use Rattle.std.specs.Prelude.{◌≡◌, ◌&&◌, true, false, cond, ℕ, suc, ◌+◌, ◌-◌, ◌≤◌, ◌<◌, drop}
use Rattle.std.proofs.Math.Path.{ap}
use Rattle.std.proofs.Common.{◌∙◌}
use mathlib.Core.List.{List, ◌∷◌}
use Rattle.rules.specs.Flash.{Bytes}
use Rattle.rules.specs.Lists.{all}
use Rattle.rules.specs.Unit.{Descriptor, stands, size, is_listed, is_placed, apart}
use Rattle.rules.specs.declared.Geometry.{Geometry}
use Rattle.rules.specs.Copy.{is_kept}
use Rattle.unit.specs.Shapes.{descriptor_at, all_ok, table, kept_from, unkept}
use Rattle.unit.specs.Laws.{table_turn, table_end}
use Rattle.unit.specs.BridgeFits.{unkept_here, unkept_next}

-- the descriptors from position p on
abbrev pub from : Bytes → ℕ → ℕ → List Descriptor
from u n p = table (n - p) (drop (stands p) u)

module _ (u : Bytes) (n p : ℕ) (h : p < n) (d : Descriptor) (e : d ≡ descriptor_at u (stands p)) where
  split : from u n p ≡ d ∷ from u n (p + 1)
  split = rw (table_turn u n p h, e)

  pub unkept_found : is_kept d ≡ false → unkept (from u n p) ≡ 0
  unkept_found f = ap unkept split ∙ unkept_here d (from u n (p + 1)) f

  pub unkept_turn : is_kept d ≡ true → unkept (from u n p) ≡ suc (unkept (from u n (p + 1)))
  unkept_turn f = ap unkept split ∙ unkept_next d (from u n (p + 1)) f

  pub kept_turn : (low m : ℕ) → kept_from (from u n p) p low m
      ≡ kept_from (from u n (p + 1)) (p + 1) (cond (is_kept d) (low - size d) low) (cond (is_kept d) (p + 1) m)
  unfolding kept_from
  kept_turn low m = ap (λ (l : List Descriptor). kept_from l p low m) split

  module _ (g : Geometry) (floor : ℕ) (es : List Descriptor) where
    pub ok_wrong : (is_listed d && is_placed g floor d) ≡ false → all_ok g floor es (from u n p) ≡ false
    unfolding all_ok
    ok_wrong f = ap (all_ok g floor es) split ∙ rw (f, all_ok)

    pub ok_overlap : (is_listed d && is_placed g floor d) ≡ true → all (apart d) es ≡ false → all_ok g floor es (from u n p) ≡ false
    unfolding all_ok
    ok_overlap f h = ap (all_ok g floor es) split ∙ rw (f, h, all_ok)

    pub ok_turn : (is_listed d && is_placed g floor d) ≡ true → all (apart d) es ≡ true → all_ok g floor es (from u n p) ≡ all_ok g floor (d ∷ es) (from u n (p + 1))
    unfolding all_ok
    ok_turn f h = ap (all_ok g floor es) split ∙ rw (f, h, all_ok)

module _ (u : Bytes) (n p : ℕ) (h : n ≤ p) where
  pub ok_end : (g : Geometry) (floor : ℕ) (es : List Descriptor) → all_ok g floor es (from u n p) ≡ true
  unfolding all_ok
  ok_end g floor es = rw (table_end u n p h)

  pub unkept_end : unkept (from u n p) ≡ 0
  unfolding unkept
  unkept_end = rw (table_end u n p h)

  pub kept_end : (low m : ℕ) → kept_from (from u n p) p low m ≡ record { n = m; low = low }
  unfolding kept_from
  kept_end low m = rw (table_end u n p h)
