-- Which unit is the home of each logical number, and which is left over, as the code finds them: by claims in a look at the headers.
use Rattle.std.specs.Prelude.{Bool, true, false, cond, Option, Some, None, List, ℕ, zero, suc, ◌+◌, ◌-◌, get_or, set, replicate, ltb, eqb}
use Rattle.rules.specs.Flash.{Bytes}
use Rattle.rules.specs.Unit.{live, retired}
use Rattle.home_table.specs.Units.{logical_of, state_of}

-- 255: nobody has it; 254: several have
abbrev pub claim : ℕ → ℕ → ℕ
claim v u = cond (eqb v 255) u 254

-- one unit's claim, where it is in state f and its logical number is below last
unfoldable pub claimed : ℕ → ℕ → List ℕ → ℕ → ℕ → ℕ → List ℕ
claimed last f held l st u = cond (eqb st f) (cond (ltb l last) (set held l (claim (get_or held l 0) u)) held) held

-- the claims of the k units from u on
unfoldable pub claims : ℕ → Bytes → ℕ → ℕ → ℕ → ℕ → List ℕ → List ℕ
claims S s last f zero u held = held
claims S s last f (suc k) u held = claims S s last f k (u + 1) (claimed last f held (logical_of S s u) (state_of S s u) u)

unfoldable pub claims_of : ℕ → ℕ → Bytes → ℕ → List ℕ
claims_of S U s f = claims S s (U - 1) f U 0 (replicate 64 255)

-- the one live unit; where there is none, the one retired
abbrev pub either : ℕ → ℕ → ℕ
either v w = cond (eqb v 255) w v

unfoldable pub eithers : List ℕ → List ℕ → ℕ → ℕ → List ℕ → List ℕ
eithers ls rs zero L home = home
eithers ls rs (suc k) L home = eithers ls rs k (L + 1) (set home L (either (get_or ls L 0) (get_or rs L 0)))

unfoldable pub places_of : ℕ → ℕ → Bytes → List ℕ
places_of S U s = eithers (claims_of S U s live) (claims_of S U s retired) (U - 1) 0 (replicate 64 0)

-- the unit, of so many, where a claim names one
abbrev pub unit_of : ℕ → ℕ → Option ℕ
unit_of U v = cond (ltb v U) (Some v) None

-- every one of the k numbers from L on has its place
unfoldable pub housed : ℕ → List ℕ → ℕ → ℕ → Bool
housed U at zero L = true
housed U at (suc k) L = elim (ltb (get_or at L 0) U) [ true ↦ housed U at k (L + 1) | false ↦ false ]

abbrev pub is_at : ℕ → List ℕ → ℕ → ℕ → Bool
is_at last home l u = cond (ltb l last) (eqb (get_or home l 0) u) false

-- the first unit that is nobody's home
unfoldable pub left_from : ℕ → Bytes → ℕ → List ℕ → ℕ → ℕ → ℕ
left_from S s last home zero u = u
left_from S s last home (suc k) u = elim (is_at last home (logical_of S s u) u) [ true ↦ left_from S s last home k (u + 1) | false ↦ u ]
