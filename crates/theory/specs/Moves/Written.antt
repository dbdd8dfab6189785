-- The steps of the copying write the copy: each programs a word with what the copy has there.
use Rattle.std.specs.Prelude.{Bool, cond, false, true, ◌≡◌, ◌%◌, ◌*◌, ◌+◌, ◌-◌, ◌<◌, ◌≤◌, suc, ℕ, length, replicate}
use mathlib.Core.List.{List, [], ◌++◌, ◌∷◌, append_assoc}
use Rattle.std.proofs.Common.{◌∙◌, ap, subst, zero-add, arith, length-append}
use Rattle.std.proofs.Math.Path.{refl, sym}
use Rattle.rules.specs.Copy.{copies, is_kept, kept_size, packed}
use Rattle.rules.specs.Flash.{Bytes, Step, programs}
use Rattle.rules.specs.Unit.{Descriptor, blank, size, stands}
use Rattle.rules.specs.declared.Geometry.{Geometry}
use Rattle.theory.specs.Base.Along.{le}
use Rattle.theory.specs.Images.Head.{Head, head_bytes}
use Rattle.theory.specs.Images.Layout.{array_bytes, before, layout, layout_split, length_before}
use Rattle.theory.specs.Storing.Fill.{SmallWords, array_over, four, snoc, words_length, words_over, words_bytes}
use Rattle.theory.specs.Moves.Copied.{Copyable, SectorFit, data_of, gathered, moved}
use Rattle.theory.specs.Moves.Within.{Even, WritesCopy, writes_append, writing, written}

even_snoc : (xs : Bytes) (w : ℕ) → Even xs → Even (xs ++ le w [])
even_snoc [] w e = tt
even_snoc (x ∷ []) w e = absurd e
even_snoc (x ∷ (y ∷ xs)) w e = even_snoc xs w e

pub even_of : (xs : Bytes) → length xs % 2 ≡ 0 → Even xs
even_of [] h = tt
even_of (x ∷ []) h = absurd (let z : ⊥ = omega (arith, h) in z)
even_of (x ∷ (y ∷ xs)) h = even_of xs (omega (arith, h))

pub writes_words : (c : Bytes) (ws C1 C2 : Bytes) (a : ℕ) → c ≡ C1 ++ words_bytes ws C2 → Even C1 → length C1 ≡ a → SmallWords ws → WritesCopy c (programs a ws)
unfolding programs
writes_words c [] C1 C2 a q ev e h = written
writes_words c (w ∷ ws) C1 C2 a q ev e h =
    writing C1 w (words_bytes ws C2) a q ev e h.0 (writes_words c ws (C1 ++ le w []) C2 (a + 2) (q ∙ snoc C1 w (words_bytes ws C2)) (even_snoc C1 w ev) longer h.1)
  where
    longer : length (C1 ++ le w []) ≡ a + 2
    longer = length-append C1 (le w []) ∙ ap (λ (x : ℕ). x + 2) e

module _ (u : Bytes) where
  pub gathered_over : (ds : List Descriptor) (r : Bytes) → gathered u ds r ≡ gathered u ds [] ++ r
  gathered_over [] r = refl
  gathered_over (d ∷ ds) r = go (is_kept d) (gathered_over ds)
    where
      go : (k : Bool) → ((t : Bytes) → gathered u ds t ≡ gathered u ds [] ++ t) → gathered u ds (cond k (words_bytes (data_of u d) r) r) ≡ gathered u ds (cond k (words_bytes (data_of u d) []) []) ++ r
      go true f = f (words_bytes (data_of u d) r) ∙ ap (λ (x : Bytes). gathered u ds [] ++ x) (words_over (data_of u d) r)
          ∙ sym (append_assoc (gathered u ds []) (words_bytes (data_of u d) []) r) ∙ ap (λ (x : Bytes). x ++ r) (sym (f (words_bytes (data_of u d) [])))
      go false f = f r

  pub copy_writes : (g : Geometry) (L st : ℕ) (head : Head) (c : Bytes) (ds front : List Descriptor) (free low : ℕ) (rest : Bytes) → c ≡ layout L st head (front ++ packed low ds) free (gathered u ds rest)
      → length c ≡ g.size → g.size % 2 ≡ 0 → low % 2 ≡ 0 → low + length rest ≡ g.size → low < 65536 → kept_size ds ≤ low → Copyable u ds → (at : ℕ) → at ≡ stands (length front)
      → WritesCopy c (copies 0 u at ds (packed low ds))
  unfolding copies blank packed stands kept_size
  copy_writes g L st head c [] front free low rest q n ev el e b t cp at z = written
  copy_writes g L st head c (d ∷ ds) front free low rest q n ev el e b t cp at z =
      go (is_kept d) refl q t cp.0
      (λ f l r p m. copy_writes g L st head c ds f free l r p n ev m.even m.sum m.small m.room cp.1 (at + 8) (omega (arith, z, m.pos)))
    where
      push : (x : Descriptor) (ys : List Descriptor) → front ++ x ∷ ys ≡ (front ++ x ∷ []) ++ ys
      push x ys = sym (append_assoc front (x ∷ []) ys)

      longer : (x : Descriptor) → length (front ++ x ∷ []) ≡ suc (length front)
      longer x = length-append front (x ∷ []) ∙ more
        where
          more : length front + 1 ≡ suc (length front)
          more = omega arith

      go : (k : Bool) → is_kept d ≡ k
          → c ≡ layout L st head (front ++ (elim k as (λ j. List Descriptor) [ true ↦ moved (low - size d) d ∷ packed (low - size d) ds | false ↦ blank ∷ packed low ds ])) free (gathered u ds (cond k (words_bytes (data_of u d) rest) rest))
          → cond k (size d) 0 + kept_size ds ≤ low → (k ≡ true → SectorFit u d)
          → ((f : List Descriptor) (l : ℕ) (r : Bytes) → c ≡ layout L st head (f ++ packed l ds) free (gathered u ds r)
          → record { even : l % 2 ≡ 0; sum : l + length r ≡ g.size; small : l < 65536; room : kept_size ds ≤ l; pos : length f ≡ suc (length front) } → WritesCopy c (copies 0 u (at + 8) ds (packed l ds)))
          → WritesCopy c (copies 0 u at (d ∷ ds) (elim k as (λ j. List Descriptor) [ true ↦ moved (low - size d) d ∷ packed (low - size d) ds | false ↦ blank ∷ packed low ds ]))
      go true k w m fit f =
          subst (λ (x : Bool). WritesCopy c (cond x (here ++ (contents ++ REST)) REST)) (sym k)
          (writes_append c here (contents ++ REST)
          (writes_words c (four new) (before L st head front) (array_bytes (packed o ds) (replicate free 255 ++ tail')) (0 + at)
          (w ∙ layout_split L st head front new (packed o ds) free tail') (even_of (before L st head front) even_b) (length_before L st head front ∙ sym z ∙ sym (zero-add at))
          (F.flags, (small, (F.len, (F.tag, tt)))))
          (writes_append c contents REST
          (writes_words c (data_of u d) below rest (0 + o) whole (even_of below even_h) len_h F.small)
          (f (front ++ new ∷ []) o (words_bytes (data_of u d) rest) (w ∙ ap (λ (x : List Descriptor). layout L st head x free tail') (push new (packed o ds)))
          (record { even = even_o; sum = sum'; small = small; room = omega (arith, m); pos = longer new }))))
        where
          o : ℕ
          o = low - size d

          F : SectorFit u d
          F = fit refl

          new : Descriptor
          new = moved (low - size d) d

          tail' : Bytes
          tail' = gathered u ds (words_bytes (data_of u d) rest)

          here : List Step
          here = programs (0 + at) (four (moved (low - size d) d))

          contents : List Step
          contents = programs (0 + (low - size d)) (data_of u d)

          REST : List Step
          REST = copies 0 u (at + 8) ds (packed (low - size d) ds)

          small : low - size d < 65536
          small = omega arith

          even_b : length (before L st head front) % 2 ≡ 0
          even_b = omega (arith, length_before L st head front)

          below : Bytes
          below = le L (le st (head_bytes head (array_bytes (front ++ moved (low - size d) d ∷ packed (low - size d) ds) [] ++ (replicate free 255 ++ gathered u ds []))))

          whole : c ≡ below ++ words_bytes (data_of u d) rest
          whole = w ∙ ap (λ (x : Bytes). le L (le st (head_bytes head x)))
              (array_over (front ++ new ∷ packed o ds) (replicate free 255 ++ tail')
              ∙ ap (λ (x : Bytes). array_bytes (front ++ new ∷ packed o ds) [] ++ (replicate free 255 ++ x)) (gathered_over ds (words_bytes (data_of u d) rest))
              ∙ ap (λ (x : Bytes). array_bytes (front ++ new ∷ packed o ds) [] ++ x) (sym (append_assoc (replicate free 255) (gathered u ds []) (words_bytes (data_of u d) rest)))
              ∙ sym (append_assoc (array_bytes (front ++ new ∷ packed o ds) []) (replicate free 255 ++ gathered u ds []) (words_bytes (data_of u d) rest)))

          wl : length (words_bytes (data_of u d) rest) ≡ size d + length rest
          wl = words_length (data_of u d) rest ∙ ap (λ (x : ℕ). x + length rest) F.even

          len_h : length below ≡ 0 + (low - size d)
          len_h = omega (arith, ap length whole, length-append below (words_bytes (data_of u d) rest), wl, n, e)

          even_o : (low - size d) % 2 ≡ 0
          even_o = sub_even low (length (data_of u d)) (low - size d) el (ap (λ (x : ℕ). low - x) (sym F.even))
            where
              sub_even : (a h x : ℕ) → a % 2 ≡ 0 → x ≡ a - h * 2 → x % 2 ≡ 0
              sub_even a h x p r = omega arith

          even_h : length below % 2 ≡ 0
          even_h = ap (λ (x : ℕ). x % 2) (len_h ∙ zero-add (low - size d)) ∙ even_o

          sum' : low - size d + length (words_bytes (data_of u d) rest) ≡ g.size
          sum' = omega (arith, wl, e, m)
      go false k w m fit f =
          subst (λ (x : Bool). WritesCopy c (cond x (programs (0 + at) (four blank) ++ (programs (0 + 0xFFFF) (data_of u d) ++ REST)) REST)) (sym k)
          (f (front ++ blank ∷ []) low rest (w ∙ ap (λ (x : List Descriptor). layout L st head x free (gathered u ds rest)) (push blank (packed low ds)))
          (record { even = el; sum = e; small = b; room = omega (arith, m); pos = longer blank }))
        where
          REST : List Step
          REST = copies 0 u (at + 8) ds (packed low ds)
