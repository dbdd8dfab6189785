-- The views and the handles of an image, by places.
use Prim.Native.Nat.{ℕ}
use Rattle.std.proofs.Common.{arith, sym, ne_eqb, eqb-true}
use Rattle.std.proofs.Math.Path.{◌≡◌, refl, ap, subst}
use Rattle.std.specs.Prelude.{Bool, List, [], ◌∷◌, eqb}
use Rattle.std.proofs.Math.Bool.{true, false, cond}
use Rattle.std.proofs.Math.Option.{Option, none, some}
use Rattle.std.proofs.lemmas.Bool.{eqb-false}
use Rattle.rules.specs.Lists.{filter, first, is_none}
use Rattle.rules.specs.Flash.{Bytes}
use Rattle.rules.specs.Unit.{Descriptor, stands, is_open, is_mark, is_pending_file, is_current_file}
use Rattle.rules.specs.Settled.{Entry, Survey, survey, pick, select, of_file}
use Rattle.rules.specs.Views.{committed_view, unless_mark, laid_over, transaction_view}
use Rattle.rules.specs.Jobs.{earlier_of}
use Rattle.rules.specs.Calls.{is_at, is_absent, has_none}
use Rattle.rules.specs.declared.Geometry.{Geometry}
use Rattle.index.specs.declared.Index.{Index}
use Rattle.index.specs.Shapes.{place_of, EachEntry, Stood, Indexed, descriptor_in, shown_by}
use Rattle.index.specs.Entries.{each_filter, each_first, MayStand, no_place}

-- ---- each of them stands
module _ (g : Geometry) (s : Bytes) (all : EachEntry (Stood g s) (survey g s).entries) where
  abbrev v : Survey
  v = survey g s

  pub select_stood : (t : Descriptor → Bool) → EachEntry (Stood g s) (select t v)
  unfolding select pick
  select_stood t = each_filter (λ (e : Entry). t e.descriptor) all

  pub first_stands : (t : Descriptor → Bool) → MayStand g s (first (select t v))
  first_stands t e q = each_first (select_stood t) q

  pub committed_stands : (f : ℕ) → MayStand g s (committed_view f v)
  unfolding committed_view
  committed_stands f e q = each_first (each_filter (of_file f) (select_stood is_current_file)) q

  pub earlier_stands : (f : ℕ) → MayStand g s (first (earlier_of f v))
  unfolding earlier_of
  earlier_stands f e q = each_first (each_filter (of_file f) (select_stood is_pending_file)) q

  pub transaction_stands : (f : ℕ) → MayStand g s (transaction_view f v)
  unfolding transaction_view earlier_of laid_over unless_mark
  transaction_stands f e q = go (first (earlier_of f v)) refl q
    where
      go : (o : Option Entry) → first (earlier_of f v) ≡ o → laid_over o (committed_view f v) ≡ some e → Stood g s e
      go none h q = committed_stands f e q
      go (some x) h q = shown (is_mark x.descriptor) q
        where
          shown : (b : Bool) → cond b none (some x) ≡ some e → Stood g s e
          shown true r = let z : ◌≡◌ {A = ℕ} 0 1 = cc in absurd (omega arith)
          shown false r = subst (Stood g s) (cc) (earlier_stands f x h)

  pub named_stands : (L p : ℕ) → MayStand g s (first (filter (is_at L p) (select is_current_file v)))
  named_stands L p e q = each_first (each_filter (is_at L p) (select_stood is_current_file)) q

-- ---- there is none
pub absent_is_lem : (g : Geometry) (s : Bytes) (o : Option Entry) → MayStand g s o → is_absent o ≡ eqb (place_of o) 0
unfolding is_absent place_of stands
absent_is_lem g s none h = refl
absent_is_lem g s (some e) h = sym (ne_eqb e.place 0 (λ z. omega (arith, (h e refl).place)))

pub none_by : (g : Geometry) (s : Bytes) (es : List Entry) → MayStand g s (first es) → (a : ℕ) → a ≡ place_of (first es) → is_none es ≡ eqb a 0
unfolding is_none first place_of is_absent
none_by g s [] h a e = rw e
none_by g s (d ∷ ds) h a e = rw e (absent_is_lem g s (some d) h)

pub no_opened : (g : Geometry) (s : Bytes) → EachEntry (Stood g s) (survey g s).entries → (a : ℕ) → a ≡ place_of (first (select is_open (survey g s))) → has_none (survey g s) ≡ eqb a 0
unfolding has_none
no_opened g s all a q = none_by g s (select is_open (survey g s)) (first_stands g s all is_open) a q

pub none_open : (g : Geometry) (s : Bytes) (r : Index) → Indexed g s r → has_none (survey g s) ≡ eqb r.opened 0
none_open g s r x = no_opened g s x.stood r.opened x.says.opened

-- ---- the views, by places
module _ (g : Geometry) (s : Bytes) (all : EachEntry (Stood g s) (survey g s).entries) (f : ℕ) where
  abbrev w : Survey
  w = survey g s

  shows_current : place_of (first (earlier_of f w)) ≡ 0 → place_of (transaction_view f w) ≡ place_of (committed_view f w)
  unfolding transaction_view earlier_of laid_over
  shows_current z = ap (λ (o : Option Entry). place_of (laid_over o (committed_view f w))) (no_place g s (first (earlier_of f w)) (earlier_stands g s all f) z)

  -- what is pending, where it is no mark
  shown : (o : Option Entry) → first (earlier_of f w) ≡ o → (place_of o ≡ 0 → ⊥)
      → place_of (laid_over o (committed_view f w)) ≡ cond (is_mark (descriptor_in s (place_of o))) 0 (place_of o)
  unfolding place_of laid_over unless_mark
  shown none q n = absurd (n refl)
  shown (some e) q n = rw (earlier_stands g s all f e q).descriptor (go (is_mark e.descriptor))
    where
      go : (b : Bool) → place_of (cond b none (some e)) ≡ cond b 0 e.place
      go true = refl
      go false = refl

  shows_pending : (place_of (first (earlier_of f w)) ≡ 0 → ⊥)
      → place_of (transaction_view f w) ≡ cond (is_mark (descriptor_in s (place_of (first (earlier_of f w))))) 0 (place_of (first (earlier_of f w)))
  unfolding transaction_view earlier_of
  shows_pending n = shown (first (earlier_of f w)) refl n

  pub shown_is : (a c : ℕ) → a ≡ place_of (first (earlier_of f w)) → c ≡ place_of (committed_view f w) → shown_by s a c ≡ place_of (transaction_view f w)
  unfolding shown_by
  shown_is a c p q = rw (p, q) (go (eqb b 0) refl)
    where
      b : ℕ
      b = place_of (first (earlier_of f w))

      go : (z : Bool) → eqb b 0 ≡ z → cond z (place_of (committed_view f w)) (cond (is_mark (descriptor_in s b)) 0 b) ≡ place_of (transaction_view f w)
      go true e = sym (shows_current (eqb-true b 0 e))
      go false e = sym (shows_pending (eqb-false b 0 e))
