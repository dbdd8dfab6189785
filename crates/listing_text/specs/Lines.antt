-- The lines of a listing, in the order in which they are put, and how long they can be.
use Rattle.std.specs.Prelude.{◌≡◌, refl, Bool, cond, [], ◌∷◌, ◌++◌, ℕ, zero, suc, ◌+◌, ◌-◌, ◌≤◌, ◌<◌, eqb, length}
use Rattle.std.proofs.Common.{sym, ap, ◌∙◌, append_assoc, append-nil, add-zero, add-one, arith, eq-eqb, ne_eqb, length-append}
use Rattle.std.specs.Int.{from_bool}
use Rattle.rules.specs.Flash.{Bytes}
use Rattle.rules.specs.Unit.{header_bytes, descriptor_bytes}
use Rattle.rules.specs.Settled.{Survey}
use Rattle.rules.specs.Views.{committed_view}
use Rattle.rules.specs.Text.{text, lf, decimal}
use Rattle.rules.specs.Listing.{keyed, file_line, file_lines}
use Rattle.rules.specs.declared.Geometry.{Geometry}
use Rattle.rules.specs.declared.Handle.{Handle}
use Rattle.index.specs.Shapes.{descriptor_in, base_at, handle_at}
use Rattle.text.specs.Put.{decimal_short, decimal_within}

-- ---- a file's line
unfoldable pub line_of : ℕ → ℕ → Handle → Bytes
line_of f n h =
    text "file=" ++ (decimal f ++ (text " length=" ++ (decimal n ++ (text " at=" ++ (decimal h.unit ++ (text ":" ++ (decimal h.position ++ (lf ∷ []))))))))

-- the line of the descriptor at a place, unless it is none
unfoldable pub line_at : Geometry → Bytes → ℕ → ℕ → Bytes
line_at g s f a = cond (eqb a 0) [] (line_of f (descriptor_in s a).len (handle_at g s a))

-- Both numbers of a handle have at most five digits.
pub record Near (h : Handle) : Type 0 where
  pub unit : h.unit < 100000
  pub position : h.position < 100000

-- A place, unless it is none, is one at which a descriptor can stand, and its line is short.
pub record Lined (g : Geometry) (s : Bytes) (a : ℕ) : Type 0 where
  pub large : 1 ≤ g.size
  pub inside : (a ≡ 0 → ⊥) → a + descriptor_bytes ≤ length s
  pub high : (a ≡ 0 → ⊥) → header_bytes ≤ a - base_at g a
  pub near : (a ≡ 0 → ⊥) → Near (handle_at g s a)

-- A key, a number and what follows.
pub long : (key x : Bytes) (m : ℕ) → m < 100000 → length (key ++ (decimal m ++ x)) ≤ length key + 5 + length x
long key x m h = omega (arith, decimal_short m h, length-append key (decimal m ++ x), length-append (decimal m) x)

pub line_short : (f n : ℕ) (h : Handle) → f < 100000 → n < 100000 → Near h → length (line_of f n h) ≤ 39
unfolding line_of text
line_short f n h a b near =
    let p = text ":" ++ (decimal h.position ++ (lf ∷ [])) in
    let u = text " at=" ++ (decimal h.unit ++ p) in
    let l = text " length=" ++ (decimal n ++ u) in
    omega (arith, long (text "file=") l f a, long (text " length=") u n b, long (text " at=") p h.unit near.unit, long (text ":") (lf ∷ []) h.position near.position)

module _ (g : Geometry) (s : Bytes) (f a : ℕ) where
  pub line_none : a ≡ 0 → line_at g s f a ≡ []
  unfolding line_at
  line_none e = rw (eq-eqb a 0 e)

  pub line_some : (a ≡ 0 → ⊥) → line_at g s f a ≡ line_of f (descriptor_in s a).len (handle_at g s a)
  unfolding line_at
  line_some n = rw (ne_eqb a 0 n)

-- ---- the lines of the first k files
unfoldable pub lines_to : ℕ → Survey → Bytes
lines_to zero v = []
lines_to (suc k) v = lines_to k v ++ file_line k (committed_view k v)

lines_join : (j k : ℕ) (v : Survey) → lines_to k v ++ file_lines j k v ≡ lines_to (k + j) v
unfolding lines_to file_lines
lines_join zero k v = rw add-zero (append-nil (lines_to k v))
lines_join (suc j) k v =
    let e : suc k + j ≡ k + suc j = omega arith in
    sym (append_assoc (lines_to k v) (file_line k (committed_view k v)) (file_lines j (suc k) v)) ∙ lines_join j (suc k) v ∙ ap (λ (n : ℕ). lines_to n v) e

lines_first : (x : Bytes) (v : Survey) → lines_to 0 v ++ x ≡ x
unfolding lines_to
lines_first x v = refl

pub lines_all : (v : Survey) → lines_to 256 v ≡ file_lines 256 0 v
lines_all v = sym (lines_join 256 0 v) ∙ lines_first (file_lines 256 0 v) v

-- one line more
pub lines_turn : (k : ℕ) (v : Survey) → lines_to (k + 1) v ≡ lines_to k v ++ file_line k (committed_view k v)
unfolding lines_to
lines_turn k v = rw (add-one k, lines_to)

-- ---- the lines before them
unfoldable pub head : Geometry → Bool → ℕ → Bytes
head g o n = keyed "unit=" g.size ++ (keyed "units=" g.units ++ (keyed "open=" (from_bool o) ++ keyed "files=" n))

-- A refusal's line fits.
pub refused_long : (m : ℕ) → m < 4294967296 → length (text "refused=" ++ (decimal m ++ (lf ∷ []))) ≤ 19
unfolding text
refused_long m h = omega (arith, decimal_within 9 m (omega arith), length-append (text "refused=") (decimal m ++ (lf ∷ [])), length-append (decimal m) (lf ∷ []))
