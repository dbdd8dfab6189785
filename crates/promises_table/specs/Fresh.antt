-- After a finished call the table equals the one filled afresh: of any settled image of bytes, whatever led to it.
use Rattle.std.specs.Prelude.{◌≡◌, Bool, true, false, cond, List, [], ◌∷◌, ℕ, zero, suc, ◌+◌, ◌≤◌, ◌<◌, eqb, length, set}
use Rattle.std.proofs.Math.Path.{refl, ap}
use Rattle.std.proofs.Common.{sym, ap₂, ◌∙◌, add-zero, zero-add, arith}
use Rattle.std.proofs.Math.Option.{Option, none, some}
use Rattle.rules.specs.Flash.{Bytes}
use Rattle.rules.specs.Lists.{filter}
use Rattle.rules.specs.Settled.{Entry, Survey, of_file, survey}
use Rattle.rules.specs.Sound.{standing}
use Rattle.rules.specs.Views.{committed_view, unless_mark}
use Rattle.rules.specs.Table.{Table, a_file, entries_from, entry_of, fresh, mended, no_file}
use Rattle.rules.specs.declared.Geometry.{Geometry}
use Rattle.rules.specs.declared.Standing.TheVariants.{Settled}
use Rattle.rules.specs.declared.TableEntry.{TableEntry}
use Rattle.theory.specs.Base.Facts.{eq_of, eqb_same, eqb_sym}
use Rattle.theory.specs.Tidying.Sorted.{Sorted, View, num, view, yield}
use Rattle.theory.specs.Mounting.Kept.{KeptImage}
use Rattle.theory.specs.Meaning.Means.{Drafts, Keeping, Match, Means, change_of, shown_of}
use Rattle.theory.specs.Meaning.MeansMount.{Inv, lists_of}
use Rattle.theory.specs.Promised.Reads.{Calm, calm_of, committed_sits, committed_view_lem, entry_view}

-- ---- an image's own plain store with its handles
abbrev pub changes_of : List Entry → List Entry → Option Drafts
changes_of [] ps = none
changes_of (t ∷ ts) ps = some (change_of ps)

abbrev pub read_off : Sorted → Keeping
read_off l = record { files = λ f. shown_of (yield l f); changes = changes_of l.opened l.pending }

pub read_off_lem : (l : Sorted) → Means (read_off l) l
read_off_lem l = record { weakly = record { files = λ f. refl; matches = go l.opened }; alone = λ e. ap (λ (x : List Entry). changes_of x l.pending) e }
  where
    go : (x : List Entry) → Match x l.pending (changes_of x l.pending)
    go [] = tt
    go (t ∷ ts) = (change_of l.pending, refl, λ z f. refl)

abbrev pub own : Geometry → Bytes → Keeping
own g s = read_off (lists_of g s)

pub own_inv : (g : Geometry) (s : Bytes) → KeptImage g s → Inv g (own g s) s
own_inv g s k = record { kept = k; means = read_off_lem (lists_of g s) }

-- ---- an entry of the table, by the plain store with its handles
abbrev pub entry_by : Option View → TableEntry
entry_by none = no_file
entry_by (some x) = record { state = 2; unit = x.at.unit; position = x.at.position; len = length x.content }

pub by_view : (e : Entry) → length e.content ≡ e.descriptor.len → a_file e ≡ entry_by (some (view e))
unfolding a_file
by_view e z = ap (λ (n : ℕ). record { state = 2; unit = e.at.unit; position = e.at.position; len = n }) (sym z)

module _ (g : Geometry) (s : Bytes) (b : Keeping) (i : Inv g b s) (st : standing g (survey g s) ≡ Settled) where
  abbrev v : Survey
  v = survey g s

  abbrev c : Calm g s
  c = calm_of g s i.kept st

  pub said : (f : ℕ) → entry_of (committed_view f (survey g s)) ≡ entry_by (b.files f)
  unfolding entry_of
  said f = go (committed_view f v) refl ∙ ap entry_by (committed_view_lem v c.quiet b i.means f)
    where
      go : (o : Option Entry) → committed_view f v ≡ o → entry_of o ≡ entry_by (entry_view o)
      go none q = refl
      go (some e) q = by_view e (committed_sits v c.quiet b i.means s c.sits f e q).sized

-- ---- tables entry by entry
abbrev pub rows : (ℕ → TableEntry) → ℕ → ℕ → Table
rows h zero f = []
rows h (suc k) f = h f ∷ rows h k (suc f)

pub rows_same : (h j : ℕ → TableEntry) → ((f : ℕ) → h f ≡ j f) → (k f : ℕ) → rows h k f ≡ rows j k f
rows_same h j e zero f = refl
rows_same h j e (suc k) f = ap₂ (λ (x : TableEntry) (xs : Table). x ∷ xs) (e f) (rows_same h j e k (suc f))

from_rows : (v : Survey) (k f : ℕ) → entries_from k f v ≡ rows (λ n. entry_of (committed_view n v)) k f
unfolding entries_from
from_rows v zero f = refl
from_rows v (suc k) f = ap (λ (xs : Table). entry_of (committed_view f v) ∷ xs) (from_rows v k (suc f))

pub fresh_rows : (g : Geometry) (s : Bytes) → fresh g s ≡ rows (λ n. entry_of (committed_view n (survey g s))) 256 0
unfolding fresh
fresh_rows g s = from_rows (survey g s) 256 0

-- two images with the same entries have the same table
pub fresh_same : (g : Geometry) (s u : Bytes) → ((f : ℕ) → entry_of (committed_view f (survey g s)) ≡ entry_of (committed_view f (survey g u))) → fresh g s ≡ fresh g u
fresh_same g s u e = fresh_rows g s ∙ rows_same (λ n. entry_of (committed_view n (survey g s))) (λ n. entry_of (committed_view n (survey g u))) e 256 0 ∙ sym (fresh_rows g u)

abbrev put : (ℕ → TableEntry) → ℕ → TableEntry → ℕ → TableEntry
put h i x j = cond (eqb i j) x (h j)

above : (i j : ℕ) → i < j → eqb i j ≡ false
above i j l = go (eqb i j) refl
  where
    go : (b : Bool) → eqb i j ≡ b → b ≡ false
    go true e = absurd (let w : ⊥ = omega (arith, eq_of i j e) in w)
    go false e = refl

-- what stands past an entry is not it
rows_past : (h : ℕ → TableEntry) (i : ℕ) (x : TableEntry) (k f : ℕ) → i < f → rows h k f ≡ rows (put h i x) k f
rows_past h i x zero f l = refl
rows_past h i x (suc k) f l = ap₂ (λ (y : TableEntry) (ys : Table). y ∷ ys) (sym (ap (λ (b : Bool). cond b x (h f)) (above i f l))) (rows_past h i x k (suc f) (omega arith))

rows_set : (h : ℕ → TableEntry) (x : TableEntry) (k f i : ℕ) → set (rows h k f) i x ≡ rows (put h (f + i) x) k f
rows_set h x zero f i = refl
rows_set h x (suc k) f zero =
    ap₂ (λ (y : TableEntry) (ys : Table). y ∷ ys) (sym (ap (λ (b : Bool). cond b x (h f)) (ap (λ (n : ℕ). eqb n f) (add-zero f) ∙ eqb_same f)))
    (rows_past h (f + 0) x k (suc f) (omega arith))
rows_set h x (suc k) f (suc i) =
    ap₂ (λ (y : TableEntry) (ys : Table). y ∷ ys) (sym (ap (λ (b : Bool). cond b x (h f)) other)) (rows_set h x k (suc f) i ∙ ap (λ (n : ℕ). rows (put h n x) k (suc f)) more)
  where
    more : suc f + i ≡ f + suc i
    more = omega arith

    other : eqb (f + suc i) f ≡ false
    other = eqb_sym (f + suc i) f ∙ above f (f + suc i) (omega arith)

-- ---- the mended table
abbrev pub mended_by : List Entry → (ℕ → TableEntry) → ℕ → TableEntry
mended_by [] h = h
mended_by (e ∷ es) h = mended_by es (put h (num e) (entry_of (unless_mark e)))

pub mended_rows : (es : List Entry) (h : ℕ → TableEntry) → mended es (rows h 256 0) ≡ rows (mended_by es h) 256 0
unfolding mended
mended_rows [] h = refl
mended_rows (e ∷ es) h =
    ap (mended es) (rows_set h (entry_of (unless_mark e)) 256 0 (num e) ∙ ap (λ (n : ℕ). rows (put h n (entry_of (unless_mark e))) 256 0) (zero-add (num e)))
    ∙ mended_rows es (put h (num e) (entry_of (unless_mark e)))

-- by what is pending of a file, of which there is at most one
abbrev pub by_pending : List Entry → TableEntry → TableEntry
by_pending [] x = x
by_pending (e ∷ es) x = entry_of (unless_mark e)

pub mended_at : (es : List Entry) (h : ℕ → TableEntry) (f : ℕ) → length (filter (of_file f) es) ≤ 1 → mended_by es h f ≡ by_pending (filter (of_file f) es) (h f)
unfolding filter of_file
mended_at [] h f l = refl
mended_at (e ∷ es) h f l = go (eqb (num e) f) refl l (mended_at es (put h (num e) (entry_of (unless_mark e))) f)
  where
    mine : (l : List Entry) (x y : TableEntry) → length l ≤ 0 → by_pending l x ≡ x
    mine [] x y z = refl
    mine (d ∷ l) x y z = absurd (let w : ⊥ = omega arith in w)

    go : (b : Bool) → eqb (num e) f ≡ b → length {A = Entry} (cond b (e ∷ filter (of_file f) es) (filter (of_file f) es)) ≤ 1
        → (length (filter (of_file f) es) ≤ 1 → mended_by es (put h (num e) (entry_of (unless_mark e))) f ≡ by_pending (filter (of_file f) es) (put h (num e) (entry_of (unless_mark e)) f))
        → mended_by es (put h (num e) (entry_of (unless_mark e))) f ≡ by_pending (cond b (e ∷ filter (of_file f) es) (filter (of_file f) es)) (h f)
    go true q l r =
        r (omega arith)
        ∙ mine (filter (of_file f) es) (put h (num e) (entry_of (unless_mark e)) f) (h f) (omega arith)
        ∙ ap (λ (b : Bool). cond b (entry_of (unless_mark e)) (h f)) q
    go false q l r = r l ∙ ap (λ (b : Bool). by_pending (filter (of_file f) es) (cond b (entry_of (unless_mark e)) (h f))) q
