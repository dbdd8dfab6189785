-- A geometry in numbers; sectors lie at low or above; a sector's content, by the bytes from low up.
use Rattle.std.specs.Prelude.{Bool, cond, false, true, List, [], ◌++◌, ◌∷◌, ◌≡◌, refl, ◌*◌, ◌+◌, ◌-◌, ◌≤◌, min, ℕ, drop, length, replicate, take}
use Rattle.std.proofs.Common.{◌∙◌, ap, ap₂, subst, sym, arith, length-append, drop_at, drop-drop}
use Rattle.std.proofs.lemmas.List.{length-replicate}
use Rattle.std.proofs.Math.Seq.{drop-append-add}
use Rattle.rules.specs.Flash.{Bytes, is_geometry}
use Rattle.rules.specs.Settled.{content_in}
use Rattle.rules.specs.Unit.{Descriptor, has_sector, header_bytes, lower, lowest, stands}
use Rattle.rules.specs.declared.Geometry.{Geometry}
use Rattle.laws.specs.Rooms.{lowest_le}
use Rattle.laws.specs.Units.{RightGeometry, right_geometry}
use Rattle.theory.specs.Images.Head.{Head}
use Rattle.theory.specs.Images.Layout.{Good, drop_array, layout}

-- ---- document 01's geometries: some image is right in it
pub record LegalGeometry (g : Geometry) : Type 0 where
  pub image : Bytes
  pub right : RightGeometry g image
  pub legal : is_geometry g (g.units * g.size) ≡ true

pub shape_of : (g : Geometry) (s : Bytes) → is_geometry g (length s) ≡ true → LegalGeometry g × (length s ≡ g.units * g.size)
shape_of g s h = let o = right_geometry g s h in (record { image = s; right = o; legal = ap (is_geometry g) (sym o.whole) ∙ h }, o.whole)

-- ---- sectors lie at or above the lowest offset
abbrev pub Above : ℕ → Descriptor → Type 0
Above m d = has_sector d ≡ true → m ≤ d.offset

abbrev pub AllAbove : ℕ → List Descriptor → Type 0
AllAbove m [] = Unit {0}
AllAbove m (d ∷ ds) = Above m d × AllAbove m ds

lower_offset : (low : ℕ) (d : Descriptor) → has_sector d ≡ true → lower low d ≤ d.offset
unfolding lower
lower_offset low d h = subst (λ (b : Bool). cond b (min low d.offset) low ≤ d.offset) (sym h) (omega arith)

pub all_above : (m low : ℕ) (ds : List Descriptor) → m ≤ lowest low ds → AllAbove m ds
unfolding lowest
all_above m low [] h = tt
all_above m low (d ∷ ds) h = ((λ s. omega (arith, h, lowest_le (lower low d) ds, lower_offset low d s)), all_above m (lower low d) ds h)

pub above_front : (m : ℕ) (xs ys : List Descriptor) → AllAbove m (xs ++ ys) → AllAbove m xs
above_front m [] ys a = tt
above_front m (x ∷ xs) ys a = (a.0, above_front m xs ys a.1)

pub above_back : (m : ℕ) (xs ys : List Descriptor) → AllAbove m (xs ++ ys) → AllAbove m ys
above_back m [] ys a = a
above_back m (x ∷ xs) ys a = above_back m xs ys a.1

-- ---- contents: of the last bytes of a unit, `rest`
abbrev pub content_over : Geometry → Bytes → Descriptor → Bytes
content_over g rest d = cond (has_sector d) (take d.len (drop (length rest + d.offset - g.size) rest)) []

drop_low : (L st : ℕ) (head : Head) (ds : List Descriptor) (free : ℕ) (rest : Bytes) → drop (stands (length ds) + free) (layout L st head ds free rest) ≡ rest
unfolding stands
drop_low L st head ds free rest =
    sym (drop-drop free (stands (length ds)) (layout L st head ds free rest))
    ∙ ap (drop free) (sym (drop-drop (8 * length ds) header_bytes (layout L st head ds free rest)) ∙ drop_array ds (replicate free 255 ++ rest))
    ∙ drop_at (replicate free 255) rest free (length-replicate free 255)

pub drop_laid : (g : Geometry) (L st : ℕ) (head : Head) (ds : List Descriptor) (free : ℕ) (rest : Bytes) → Good g ds free rest → (n : ℕ) → stands (length ds) + free ≤ n
    → drop n (layout L st head ds free rest) ≡ drop (length rest + n - g.size) rest
drop_laid g L st head ds free rest h n over =
    ap (λ (n : ℕ). drop n (layout L st head ds free rest)) here
    ∙ sym (drop-drop (n - (stands (length ds) + free)) (stands (length ds) + free) (layout L st head ds free rest))
    ∙ ap₂ (λ (n : ℕ) (x : Bytes). drop n x) there (drop_low L st head ds free rest)
  where
    here : n ≡ stands (length ds) + free + (n - (stands (length ds) + free))
    here = omega (arith, over)

    there : n - (stands (length ds) + free) ≡ length rest + n - g.size
    there = omega (arith, over, h.fills)

pub content_laid : (g : Geometry) (L st : ℕ) (head : Head) (ds : List Descriptor) (free : ℕ) (rest : Bytes) → Good g ds free rest → (d : Descriptor) → Above (stands (length ds) + free) d
    → content_in (layout L st head ds free rest) d ≡ content_over g rest d
unfolding content_in
content_laid g L st head ds free rest h d a = go (has_sector d) a
  where
    go : (b : Bool) → (b ≡ true → stands (length ds) + free ≤ d.offset)
        → cond b (take d.len (drop d.offset (layout L st head ds free rest))) [] ≡ cond b (take d.len (drop (length rest + d.offset - g.size) rest)) []
    go false k = refl
    go true k = ap (take d.len) (drop_laid g L st head ds free rest h d.offset (k refl))

-- more bytes below change no content above them
pub content_more : (g : Geometry) (r t : Bytes) (d : Descriptor) → Above (g.size - length t) d → content_over g (r ++ t) d ≡ content_over g t d
content_more g r t d a = go (has_sector d) a
  where
    go : (b : Bool) → (b ≡ true → g.size - length t ≤ d.offset)
        → cond b (take d.len (drop (length (r ++ t) + d.offset - g.size) (r ++ t))) [] ≡ cond b (take d.len (drop (length t + d.offset - g.size) t)) []
    go false k = refl
    go true k = ap (take d.len) (ap (λ (n : ℕ). drop n (r ++ t)) (here (k refl)) ∙ drop-append-add r t (length t + d.offset - g.size))
      where
        here : g.size - length t ≤ d.offset → length (r ++ t) + d.offset - g.size ≡ length r + (length t + d.offset - g.size)
        here l = omega (arith, l, length-append r t)
