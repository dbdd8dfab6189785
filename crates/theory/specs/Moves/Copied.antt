-- The copy that reclaiming makes, as a layout.
use Rattle.std.specs.Prelude.{Bool, cond, false, true, ◌≡◌, ◌*◌, ◌+◌, ◌-◌, ◌<◌, ◌≤◌, suc, zero, ℕ, drop, length, take}
use mathlib.Core.List.{List, [], ◌++◌, ◌∷◌, append_assoc}
use Rattle.std.proofs.Common.{◌∙◌, ap₂, sym, zero-add, length-append}
use Rattle.std.proofs.Math.Path.{ap, refl}
use native.Mathlib.Omega.{arith}
use Rattle.std.proofs.lemmas.List.{length-replicate, replicate-append-replicate}
use Rattle.std.proofs.Math.ListN.{replicate}
use Rattle.rules.specs.Copy.{copies, is_kept, kept_size, packed}
use Rattle.rules.specs.Flash.{Bytes, Step, finish, made, program, programs, words}
use Rattle.rules.specs.Unit.{Descriptor, blank, header_bytes, size, stands}
use Rattle.rules.specs.declared.Geometry.{Geometry}
use Rattle.laws.specs.Runs.{finish_append}
use Rattle.theory.specs.Base.Facts.{append-nil}
use Rattle.theory.specs.Images.Head.{Head, plain_head}
use Rattle.theory.specs.Images.Layout.{array_bytes, layout}
use Rattle.theory.specs.Storing.Fill.{SmallWords, fill_desc, fill_gap, four, words_bytes, write_word}

-- a descriptor whose sector lies elsewhere
abbrev pub moved : ℕ → Descriptor → Descriptor
moved o d = record { flags = d.flags; offset = o; len = d.len; tag = d.tag }

module _ (u : Bytes) where
  abbrev pub data_of : Descriptor → Bytes
  data_of d = words (take (size d) (drop d.offset u))

  -- what the copy holds from its lowest sector on
  abbrev pub gathered : List Descriptor → Bytes → Bytes
  gathered [] r = r
  gathered (d ∷ ds) r = gathered ds (cond (is_kept d) (words_bytes (data_of d) r) r)

  pub record SectorFit (d : Descriptor) : Type 0 where
    pub even : length (data_of d) * 2 ≡ size d
    pub small : SmallWords (data_of d)
    pub flags : d.flags < 65536
    pub len : d.len < 65536
    pub tag : d.tag < 65536

  abbrev pub Copyable : List Descriptor → Type 0
  Copyable [] = Unit {0}
  Copyable (d ∷ ds) = (is_kept d ≡ true → SectorFit d) × Copyable ds

  pub copy_walk : (L st : ℕ) (head : Head) (ds before : List Descriptor) (free low : ℕ) (rest : Bytes) → kept_size ds ≤ free → Copyable ds → low < 65536 → low ≡ stands (length before + length ds) + free
      → (at : ℕ) → at ≡ stands (length before)
      → finish (copies 0 u at ds (packed low ds)) (layout L st head (before ++ replicate (length ds) blank) free rest)
      ≡ layout L st head (before ++ packed low ds) (free - kept_size ds) (gathered ds rest)
  unfolding finish packed kept_size copies stands blank
  copy_walk L st head [] before free low rest t c b e at q = ap (λ (x : ℕ). layout L st head (before ++ []) x rest) less
    where
      less : free ≡ free - 0
      less = omega arith
  copy_walk L st head (d ∷ ds) before free low rest t c b e at q =
      go (is_kept d) refl t c.0
      (λ f s r l m z. copy_walk L st head ds f s l r m c.1 z.0 z.1 (at + 8) (omega (arith, q, z.2)))
    where
      S0 : Bytes
      S0 = layout L st head (before ++ blank ∷ replicate (length ds) blank) free rest

      ZS : List Descriptor
      ZS = replicate (length ds) blank

      snoc : (x : Descriptor) (ys : List Descriptor) → before ++ x ∷ ys ≡ (before ++ x ∷ []) ++ ys
      snoc x ys = sym (append_assoc before (x ∷ []) ys)

      longer : (x : Descriptor) → length (before ++ x ∷ []) ≡ suc (length before)
      longer x = length-append before (x ∷ []) ∙ more
        where
          more : length before + 1 ≡ suc (length before)
          more = omega arith

      len1 : (x : Descriptor) → length (before ++ x ∷ ZS) ≡ length before + suc (length ds)
      len1 x = length-append before (x ∷ ZS) ∙ ap (λ (y : ℕ). length before + suc y) (length-replicate (length ds) blank)

      go : (k : Bool) → is_kept d ≡ k → cond k (size d) 0 + kept_size ds ≤ free → (k ≡ true → SectorFit d)
          → ((f : List Descriptor) (s : ℕ) (r : Bytes) (l : ℕ) → kept_size ds ≤ s → (l < 65536) × (l ≡ stands (length f + length ds) + s) × (length f ≡ suc (length before))
          → finish (copies 0 u (at + 8) ds (packed l ds)) (layout L st head (f ++ replicate (length ds) blank) s r) ≡ layout L st head (f ++ packed l ds) (s - kept_size ds) (gathered ds r))
          → finish (copies 0 u at (d ∷ ds) (elim k as (λ j. List Descriptor) [ true ↦ moved (low - size d) d ∷ packed (low - size d) ds | false ↦ blank ∷ packed low ds ])) S0
          ≡ layout L st head (before ++ (elim k as (λ j. List Descriptor) [ true ↦ moved (low - size d) d ∷ packed (low - size d) ds | false ↦ blank ∷ packed low ds ]))
          (free - (cond k (size d) 0 + kept_size ds)) (gathered ds (cond k (words_bytes (data_of d) rest) rest))
      go true k m f ih =
          ap (λ (x : Bool). finish (cond x (here ++ (contents ++ REST)) REST) S0) k
          ∙ finish_append here (contents ++ REST) S0
          ∙ ap (λ (s : Bytes). finish (contents ++ REST) s) (fill_desc L st head before (moved o d) ZS free rest (0 + at) (zero-add at ∙ q) (F.flags, (small_off, (F.len, (F.tag, tt)))))
          ∙ finish_append contents REST (layout L st head (before ++ moved o d ∷ ZS) free rest)
          ∙ ap (λ (s : Bytes). finish REST s) (fill_gap L st head (before ++ moved o d ∷ ZS) free rest (data_of d) (0 + o) fit place F.small)
          ∙ ap₂ (λ (x : List Descriptor) (y : ℕ). finish REST (layout L st head x y (words_bytes (data_of d) rest))) (snoc (moved o d) ZS) (ap (λ (x : ℕ). free - x) F.even)
          ∙ ih (before ++ moved o d ∷ []) (free - size d) (words_bytes (data_of d) rest) o (omega (arith, m)) (small_off, low', longer (moved o d))
          ∙ ap₂ (λ (x : List Descriptor) (y : ℕ). layout L st head x y (gathered ds (words_bytes (data_of d) rest))) (sym (snoc (moved o d) (packed o ds))) left
        where
          o : ℕ
          o = low - size d

          F : SectorFit d
          F = f refl

          here : List Step
          here = programs (0 + at) (four (moved (low - size d) d))

          contents : List Step
          contents = programs (0 + (low - size d)) (data_of d)

          REST : List Step
          REST = copies 0 u (at + 8) ds (packed (low - size d) ds)

          small_off : low - size d < 65536
          small_off = omega arith

          fit : length (data_of d) * 2 ≤ free
          fit = omega (arith, F.even, m)

          place : 0 + (low - size d) ≡ stands (length (before ++ moved (low - size d) d ∷ ZS)) + free - length (data_of d) * 2
          place = omega (arith, F.even, e, len1 (moved (low - size d) d))

          low' : low - size d ≡ stands (length (before ++ moved (low - size d) d ∷ []) + length ds) + (free - size d)
          low' = omega (arith, e, m, longer (moved (low - size d) d))

          left : free - size d - kept_size ds ≡ free - (size d + kept_size ds)
          left = omega arith
      go false k m f ih =
          ap (λ (x : Bool). finish (cond x (programs (0 + at) (four blank) ++ (programs (0 + 0xFFFF) (data_of d) ++ REST)) REST) S0) k
          ∙ ap (λ (x : List Descriptor). finish REST (layout L st head x free rest)) (snoc blank ZS)
          ∙ ih (before ++ blank ∷ []) free rest low (omega (arith, m)) (b, low', longer blank)
          ∙ ap₂ (λ (x : List Descriptor) (y : ℕ). layout L st head x y (gathered ds rest)) (sym (snoc blank (packed low ds))) left
        where
          REST : List Step
          REST = copies 0 u (at + 8) ds (packed low ds)

          low' : low ≡ stands (length (before ++ blank ∷ []) + length ds) + free
          low' = omega (arith, e, longer blank)

          left : free - kept_size ds ≡ free - (0 + kept_size ds)
          left = omega arith

-- empty positions are erased bytes
pub empties : (n : ℕ) (r : Bytes) → array_bytes (replicate n blank) r ≡ replicate (8 * n) 255 ++ r
unfolding blank
empties zero r = refl
empties (suc n) r = ap (λ (x : Bytes). 255 ∷ (255 ∷ (255 ∷ (255 ∷ (255 ∷ (255 ∷ (255 ∷ (255 ∷ x)))))))) (empties n r) ∙ ap (λ (x : ℕ). replicate x 255 ++ r) more
  where
    more : suc (suc (suc (suc (suc (suc (suc (suc (8 * n)))))))) ≡ 8 * suc n
    more = omega arith

-- the copy, whole and still receiving
pub copied : (g : Geometry) (L : ℕ) (u : Bytes) (ds : List Descriptor) (free : ℕ) → g.size ≡ stands (length ds) + free → g.size < 65536 → L < 65536 → kept_size ds ≤ free → Copyable u ds
    → finish (program 0 L ∷ copies 0 u header_bytes ds (packed g.size ds)) (replicate g.size 255) ≡ layout L 0xFFFF plain_head (packed g.size ds) (free - kept_size ds) (gathered u ds [])
unfolding blank stands finish
copied g L u ds free e b l t c =
    ap (λ (s : Bytes). finish (copies 0 u header_bytes ds (packed g.size ds)) (made (program 0 L) s)) start
    ∙ ap (λ (s : Bytes). finish (copies 0 u header_bytes ds (packed g.size ds)) s) (write_word [] 0 L _ refl l)
    ∙ copy_walk u L 0xFFFF plain_head ds [] free g.size [] t c b (omega (arith, e)) header_bytes refl
  where
    wide : g.size ≡ header_bytes + (8 * length ds + free)
    wide = omega (arith, e)

    start : replicate g.size 255 ≡ layout 0xFFFF 0xFFFF plain_head (replicate (length ds) blank) free []
    start = ap (λ (x : ℕ). replicate x 255) wide ∙ sym (replicate-append-replicate header_bytes (8 * length ds + free) 255)
        ∙ ap (λ (x : Bytes). replicate header_bytes 255 ++ x) (sym (replicate-append-replicate (8 * length ds) free 255) ∙ ap (λ (x : Bytes). replicate (8 * length ds) 255 ++ x) (sym (append-nil (replicate free 255))) ∙ sym (empties (length ds) (replicate free 255 ++ [])))
