-- The plain store with its handles: a map of files, over it at most one open transaction; and what it is for entries to mean it.
use Rattle.std.specs.Prelude.{Bool, cond, List, [], ◌++◌, ◌∷◌, ◌≡◌, refl, ◌/◌, ℕ, eqb, length}
use Rattle.std.proofs.Math.Option.{Option, none, some}
use Rattle.std.proofs.Common.{◌∙◌, ap, subst, subst₂, sym}
use Rattle.rules.specs.Flash.{Bytes}
use Rattle.rules.specs.Lists.{filter}
use Rattle.rules.specs.Settled.{Entry, of_file, pairs, pick}
use Rattle.rules.specs.Unit.{Descriptor, is_data, is_open, is_pending_file}
use Rattle.rules.specs.declared.Geometry.{Geometry}
use Rattle.theory.specs.Base.Facts.{is_nil}
use Rattle.theory.specs.Images.Model.{all_entries}
use Rattle.theory.specs.Tidying.Sorted.{OpenKept, SameE, Sorted, View, as_was, closed, sorted, view, yield}
use Rattle.theory.specs.Moves.Alike.{AllAlike, MetByKept, alike_file, alike_length, alike_pairs, alike_sym, neither, pair}
use Rattle.theory.specs.Moves.Moved.{lists_alike, moved_shows, of_open, of_pending_file}
use Rattle.theory.specs.Moves.Move.{Setting, copy_home, homes_before}

-- A file has a content with its handle or is absent; a transaction leaves it alone, or gives it another, or deletes it.
abbrev pub Views : Type 0
Views = ℕ → Option View

abbrev pub Drafts : Type 0
Drafts = ℕ → Option (Option View)

pub record Keeping : Type 0 where
  pub files : Views
  pub changes : Option Drafts

abbrev pub laid_on : Option (Option View) → Option View → Option View
laid_on none c = c
laid_on (some x) c = x

-- the map once a transaction is committed
abbrev pub laid_k : Drafts → Views → Views
laid_k o m f = laid_on (o f) (m f)

-- one more change
abbrev pub changed_k : ℕ → Option View → Drafts → Drafts
changed_k f x o n = cond (eqb n f) (some x) (o n)

-- without its handle
abbrev pub bytes_of : Option View → Option Bytes
bytes_of none = none
bytes_of (some v) = some v.content

-- ---- what the entries say
abbrev pub shown_of : List View → Option View
shown_of [] = none
shown_of (v ∷ vs) = some v

abbrev pub change_by : List Entry → Option (Option View)
change_by [] = none
change_by (e ∷ es) = some (cond (is_data e.descriptor) (some (view e)) none)

abbrev pub change_of : List Entry → ℕ → Option (Option View)
change_of ps f = change_by (filter (of_file f) ps)

-- an open transaction's pending entries are its changes, where no file has two
abbrev pub Match : List Entry → List Entry → Option Drafts → Type 0
Match [] ps o = Unit {0}
Match (t ∷ ts) ps o = (c : Drafts) × (o ≡ some c) × (pairs ps ≡ 0 → (f : ℕ) → change_of ps f ≡ c f)

-- as far as mounting and aborting keep it
pub record Weakly (m : Keeping) (l : Sorted) : Type 0 where
  pub files : (f : ℕ) → shown_of (yield l f) ≡ m.files f
  pub matches : Match l.opened l.pending m.changes

pub record Means (m : Keeping) (l : Sorted) : Type 0 where
  pub weakly : Weakly m l
  pub alone : l.opened ≡ [] → m.changes ≡ none

-- the transaction is still open, or none is
abbrev pub still_in : List Entry → Option Drafts → Option Drafts
still_in [] o = none
still_in (t ∷ ts) o = o

abbrev pub with_open : Keeping → List Entry → Keeping
with_open m l = record { files = m.files; changes = still_in l m.changes }

pub weakly_means : (m : Keeping) (l : Sorted) → Weakly m l → Means (with_open m l.opened) l
weakly_means m l w = record { weakly = record { files = w.files; matches = go l.opened w.matches }; alone = λ e. ap (λ (x : List Entry). still_in x m.changes) e }
  where
    go : (x : List Entry) → Match x l.pending m.changes → Match x l.pending (still_in x m.changes)
    go [] h = tt
    go (t ∷ ts) h = h

-- where nothing changed
pub means_same : (m : Keeping) (l : Sorted) → Means m l → with_open m l.opened ≡ m
means_same m l h = go l.opened refl
  where
    go : (x : List Entry) → l.opened ≡ x → with_open m x ≡ m
    go [] e = λ i. record { files = m.files; changes = sym (h.alone e) i }
    go (t ∷ ts) e = refl

-- ---- the tidying keeps it
pub weakly_keeps : (m : Keeping) (a b : List Entry) → SameE a b → Weakly m (sorted a) → Weakly m (sorted b)
weakly_keeps m a b r w = record { files = λ f. ap shown_of (r.yields f) ∙ w.files f; matches = go r.open' }
  where
    go : OpenKept (sorted a) (sorted b) → Match (sorted b).opened (sorted b).pending m.changes
    go (closed e) = subst (λ (x : List Entry). Match x (sorted b).pending m.changes) (sym e) tt
    go (as_was e f) = subst₂ (λ (x y : List Entry). Match x y m.changes) (sym e) (sym f) w.matches

-- ---- entries alike mean the same
pub change_alike : {a b : List Entry} → AllAlike a b → (f : ℕ) → change_of a f ≡ change_of b f
unfolding is_data
change_alike t f = go (alike_file t f)
  where
    go : {x y : List Entry} → AllAlike x y → change_by x ≡ change_by y
    go neither = refl
    go (pair h t) = λ i. some (cond (eqb (h.tag i / 256) 16) (some (record { at = h.handle i; content = h.content i })) none)

pub match_alike : (o : Option Drafts) {a b p q : List Entry} → AllAlike a b → AllAlike p q → Match b q o → Match a p o
match_alike o neither u h = tt
match_alike o {p = p} {q = q} (pair x t) u h = (h.0, h.1, λ e f. change_alike u f ∙ h.2 (sym (alike_pairs u) ∙ e) f)

module _ (g : Geometry) (m : Setting g) where
  abbrev old : Sorted
  old = sorted (all_entries g 0 (homes_before g m))

  abbrev new : Sorted
  new = sorted (all_entries g 0 (m.hs ++ copy_home g m ∷ m.bs))

  lists : (t : Descriptor → Bool) → MetByKept t → AllAlike (pick t (all_entries g 0 (m.hs ++ copy_home g m ∷ m.bs))) (pick t (all_entries g 0 (homes_before g m)))
  lists t o = lists_alike g m.shape m.p m.good m.sp m.hs m.bs t o

  pub weakly_moved : (b : Keeping) → Weakly b old → Weakly b new
  weakly_moved b w =
      record {
        files = λ f. ap shown_of (moved_shows g m.shape m.p m.good m.sp m.hs m.bs m.quiet f) ∙ w.files f;
        matches = match_alike b.changes (lists is_open of_open) (lists is_pending_file of_pending_file) w.matches;
      }

  pub weakly_back : (b : Keeping) → Weakly b new → Weakly b old
  weakly_back b w =
      record {
        files = λ f. ap shown_of (sym (moved_shows g m.shape m.p m.good m.sp m.hs m.bs m.quiet f)) ∙ w.files f;
        matches = match_alike b.changes (alike_sym (lists is_open of_open)) (alike_sym (lists is_pending_file of_pending_file)) w.matches;
      }

  pub means_moved : (b : Keeping) → Means b old → Means b new
  means_moved b h =
      record {
        weakly = weakly_moved b h.weakly;
        alone = λ e. h.alone (is_nil old.opened (sym (alike_length (lists is_open of_open)) ∙ ap length e));
      }
