-- A table that has no file anywhere, with what is current laid into it, is the table filled afresh; units are numbered below 64.
use Rattle.std.specs.Prelude.{◌≡◌, Bool, true, false, cond, ◌&&◌, eqb, get_or, set, take}
use Rattle.std.proofs.Math.Path.{refl, sym, ap}
use Rattle.std.proofs.Common.{◌∙◌, length-set, get_or-set_same, get_or-set_other}
use mathlib.Core.List.{List, [], ◌∷◌}
use Prim.Native.Nat.{ℕ, zero, suc, ◌+◌, ◌-◌, ◌/◌, ◌≤◌, ◌<◌}
use native.Mathlib.Omega.{arith}
use borrow.Author.Tests.{eqb-true, eqb-false, ne_eqb}
use Rattle.std.proofs.Math.ListN.{length}
use Rattle.std.proofs.Math.Seq.{ext_get_or}
use Rattle.rules.specs.Lists.{all, filter, first}
use Rattle.rules.specs.Flash.{Bytes, is_geometry}
use Rattle.rules.specs.Unit.{Descriptor, is_mark, is_data, is_current_file, file_of}
use Rattle.rules.specs.Settled.{Physical, Entry, Survey, entries_in, entries_of, homes_from, units_of, survey, pick, select, of_file, pairs, is_current_ok, counts}
use Rattle.rules.specs.Sound.{standing}
use Rattle.rules.specs.Views.{committed_view, unless_mark}
use Rattle.rules.specs.Table.{Table, no_file, entry_of, entries_from, fresh, mended}
use Rattle.laws.specs.Lists.{Every, every_append, every_filter, every_all}
use Rattle.rules.specs.declared.Geometry.{Geometry}
use Rattle.rules.specs.declared.TableEntry.{TableEntry}
use Rattle.rules.specs.declared.Standing.TheVariants.{Settled}
use Rattle.laws.specs.Units.{RightGeometry, right_geometry}
use Rattle.laws.specs.Tests.{and_inv}
use Rattle.laws.specs.Homes.{pairs_few}
use Rattle.call_look.specs.Guards.{settled_sound}
use Rattle.index.specs.Shapes.{EachEntry, end, and, Stood}
use Rattle.unit.specs.Spots.{places}
use Rattle.index.specs.AtMostOne.{sound_few}
use Rattle.index.specs.Views.{select_stood}
use Rattle.laws_slices.specs.Lists.{laid_by, length_laid}
use Rattle.table_entries.specs.Puts.{put_in, put_for, laid_in, put_says, alike_same, laid_mended}

-- ---- the logical numbers
in_unit : (n L : ℕ) (p : Physical) (i : ℕ) (ds : List Descriptor) → L < n → Every (λ (e : Entry). e.at.unit < n) (entries_in L p i ds)
unfolding entries_in
in_unit n L p i [] l = tt
in_unit n L p i (d ∷ ds) l = (l, in_unit n L p (suc i) ds l)

in_homes : (g : Geometry) (n k L : ℕ) (ps : List Physical) → L + k ≤ n → Every (λ (e : Entry). e.at.unit < n) (entries_of (homes_from g k L ps))
unfolding entries_of homes_from
in_homes g n zero L ps l = tt
in_homes g n (suc k) L ps l = every_append (λ (e : Entry). e.at.unit < n) (entries_in L _ 0 _) (entries_of (homes_from g k (suc L) ps)) (in_unit n L _ 0 _ (omega arith)) (in_homes g n k (suc L) ps (omega arith))

pub numbered : (g : Geometry) (s : Bytes) → Every (λ (e : Entry). e.at.unit < g.units - 1) (survey g s).entries
unfolding survey
numbered g s = in_homes g (g.units - 1) (g.units - 1) 0 (units_of g s) (omega arith)

-- ---- a table that has no file anywhere
abbrev pub absent : TableEntry
absent = record { state = 1; unit = 0; position = 0; len = 0 }

pub absent_is_lem : no_file ≡ absent
unfolding no_file
absent_is_lem = refl

-- One entry at each place.
abbrev pub everywhere : TableEntry → Table → Table
everywhere e t = laid_by (λ (i : ℕ). e) (length t) t

-- A call that is DONE (0) begins with no file anywhere.
abbrev pub cleared : ℕ → Table → Table
cleared k t = cond (eqb k 0) (everywhere absent t) t

laid_at_lem : (e d : TableEntry) (k : ℕ) (t : Table) (i : ℕ) → i < k → k ≤ length t → get_or (laid_by (λ (j : ℕ). e) k t) i d ≡ e
laid_at_lem e d zero t i l m = absurd (omega arith)
laid_at_lem e d (suc k) t i l m = go (eqb i k) refl (λ h. laid_at_lem e d k t i h (omega arith))
  where
    before : Table
    before = laid_by (λ (j : ℕ). e) k t

    go : (b : Bool) → eqb i k ≡ b → (i < k → get_or before i d ≡ e) → get_or (set before k e) i d ≡ e
    go true q rec =
        let h : i ≡ k = eqb-true i k q in
        let n : length before ≡ length t = length_laid (λ (j : ℕ). e) k t in
        rw h (get_or-set_same before k e d (omega (arith, n)))
    go false q rec =
        let n : i ≡ k → ⊥ = eqb-false i k q in
        get_or-set_other before k i e d n ∙ rec (omega arith)

pub length_everywhere : (e : TableEntry) (t : Table) → length (everywhere e t) ≡ length t
length_everywhere e t = length_laid (λ (i : ℕ). e) (length t) t

everywhere_at : (e d : TableEntry) (t : Table) → length t ≡ 256 → (i : ℕ) → i < 256 → get_or (everywhere e t) i d ≡ e
everywhere_at e d t n i l = laid_at_lem e d (length t) t i (rw n l) (omega arith)

-- ---- a mended table, entry by entry
length_mended : (es : List Entry) (t : Table) → length (mended es t) ≡ length t
unfolding mended
length_mended [] t = refl
length_mended (e ∷ es) t = length_mended es (set t (file_of e.descriptor) (entry_of (unless_mark e))) ∙ length-set t (file_of e.descriptor) (entry_of (unless_mark e))

-- by the first of a file, of which there is at most one
unfoldable by_first : List Entry → TableEntry → TableEntry
by_first [] x = x
by_first (e ∷ es) x = entry_of (unless_mark e)

mended_at : (es : List Entry) (t : Table) (f : ℕ) (d : TableEntry) → f < length t → length (filter (of_file f) es) ≤ 1 → get_or (mended es t) f d ≡ by_first (filter (of_file f) es) (get_or t f d)
unfolding mended filter of_file by_first
mended_at [] t f d n l = refl
mended_at (e ∷ es) t f d n l =
    go (eqb (file_of e.descriptor) f) refl l (λ m h. mended_at es (set t (file_of e.descriptor) (entry_of (unless_mark e))) f d m h)
  where
    x : TableEntry
    x = entry_of (unless_mark e)

    next : Table
    next = set t (file_of e.descriptor) x

    n' : f < length next
    n' = rw (length-set t (file_of e.descriptor) x) n

    only : (l : List Entry) (y : TableEntry) → length l ≤ 0 → by_first l y ≡ y
    only [] y z = refl
    only (c ∷ l) y z = absurd (omega arith)

    go : (b : Bool) → eqb (file_of e.descriptor) f ≡ b → length {A = Entry} (cond b (e ∷ filter (of_file f) es) (filter (of_file f) es)) ≤ 1
        → (f < length next → length (filter (of_file f) es) ≤ 1 → get_or (mended es next) f d ≡ by_first (filter (of_file f) es) (get_or next f d))
        → get_or (mended es next) f d ≡ by_first (cond b (e ∷ filter (of_file f) es) (filter (of_file f) es)) (get_or t f d)
    go true q l rec =
        let h : file_of e.descriptor ≡ f = eqb-true (file_of e.descriptor) f q in
        rec n' (omega arith)
        ∙ only (filter (of_file f) es) (get_or next f d) (omega arith)
        ∙ ap (λ (i : ℕ). get_or (set t i x) f d) h
        ∙ get_or-set_same t f x d n
    go false q l rec =
        let h : file_of e.descriptor ≡ f → ⊥ = eqb-false (file_of e.descriptor) f q in
        rec n' l
        ∙ ap (by_first (filter (of_file f) es)) (get_or-set_other t (file_of e.descriptor) f x d (λ z. h (sym z)))

-- ---- what is known of a settled image
module _ (g : Geometry) (s : Bytes) (right : is_geometry g (length s) ≡ true) (settled : standing g (survey g s) ≡ Settled) (stood : EachEntry (Stood g s) (survey g s).entries) where
  abbrev v : Survey
  v = survey g s

  o : RightGeometry g s
  o = right_geometry g s right

  current_ok_lem : (eqb (pairs (pick is_current_file v.entries)) 0 && all (λ (e : Entry). is_data e.descriptor) (pick is_current_file v.entries)) ≡ true
  unfolding counts is_current_ok
  current_ok_lem = (sound_few g v (settled_sound (standing g v) settled)).current

  all_data : Every (λ (e : Entry). is_data e.descriptor ≡ true) (select is_current_file v)
  unfolding select
  all_data =
      let cs = pick is_current_file v.entries in
      every_all (λ (e : Entry). is_data e.descriptor) cs (and_inv (eqb (pairs cs) 0) (all (λ (e : Entry). is_data e.descriptor) cs) current_ok_lem).1

  one_each_lem : (f : ℕ) → length (filter (of_file f) (select is_current_file v)) ≤ 1
  unfolding select
  one_each_lem f =
      let cs = pick is_current_file v.entries in
      pairs_few f cs (eqb-true (pairs cs) 0 (and_inv (eqb (pairs cs) 0) (all (λ (e : Entry). is_data e.descriptor) cs) current_ok_lem).0)

  -- what is laid at the place of each
  each_put : {es : List Entry} → EachEntry (Stood g s) es → Every (λ (e : Entry). e.at.unit < g.units - 1) es → EachEntry (λ (e : Entry). (i : ℕ) → put_in g.size s i e.place ≡ put_for e) es
  each_put end h = end
  each_put (and {e} at more) h =
      let small : e.at.unit < 256 = omega (arith, h.0, o.few) in
      and (put_says g s s o e at small (alike_same g s e at.unit)) (each_put more h.1)

  current_put : EachEntry (λ (e : Entry). (i : ℕ) → put_in g.size s i e.place ≡ put_for e) (select is_current_file v)
  unfolding select pick
  current_put = each_put (select_stood g s stood is_current_file) (every_filter (λ (e : Entry). e.at.unit < g.units - 1) (λ (e : Entry). is_current_file e.descriptor) (survey g s).entries (numbered g s))

  -- none is a delete mark
  no_mark : (e : Entry) → is_data e.descriptor ≡ true → is_mark e.descriptor ≡ false
  unfolding is_mark is_data
  no_mark e h =
      let t : e.descriptor.tag / 256 ≡ 0x10 = eqb-true (e.descriptor.tag / 256) 0x10 h in
      ne_eqb (e.descriptor.tag / 256) 0x20 (λ z. omega arith)

  by_view : (f : ℕ) → by_first (filter (of_file f) (select is_current_file v)) no_file ≡ entry_of (committed_view f v)
  unfolding committed_view by_first first entry_of unless_mark
  by_view f = go (filter (of_file f) (select is_current_file v)) (every_filter (λ (x : Entry). is_data x.descriptor ≡ true) (of_file f) (select is_current_file v) all_data)
    where
      go : (es : List Entry) → Every (λ (x : Entry). is_data x.descriptor ≡ true) es → by_first es no_file ≡ entry_of (first es)
      go [] h = refl
      go (e ∷ es) h = rw (no_mark e h.0)

  from_at : (k n i : ℕ) (d : TableEntry) → i < k → get_or (entries_from k n v) i d ≡ entry_of (committed_view (n + i) v)
  unfolding entries_from
  from_at zero n i d l = absurd (omega arith)
  from_at (suc k) n zero d l =
      let e : n + 0 ≡ n = omega arith in
      rw e
  from_at (suc k) n (suc i) d l =
      let e : suc n + i ≡ n + suc i = omega arith in
      from_at k (suc n) i d (omega arith) ∙ ap (λ (m : ℕ). entry_of (committed_view m v)) e

  length_from : (k n : ℕ) → length (entries_from k n v) ≡ k
  unfolding entries_from
  length_from zero n = refl
  length_from (suc k) n = ap suc (length_from k (suc n))

  pub fresh_laid : (n : ℕ) (ps : List ℕ) → n ≤ length ps → take n ps ≡ places (select is_current_file v) → (t : Table) → length t ≡ 256 → laid_in g.size s ps n (everywhere absent t) ≡ fresh g s
  unfolding fresh
  fresh_laid n ps l e t long =
      let w = everywhere absent t in
      let lw : length w ≡ 256 = length_everywhere absent t ∙ long in
      let cs = select is_current_file v in
      laid_mended g.size s ps n cs w l e current_put
      ∙ ext_get_or no_file (mended cs w) (entries_from 256 0 v) (length_mended cs w ∙ lw ∙ sym (length_from 256 0))
      (λ f h.
      let m : f < 256 = omega (arith, length_mended cs w, lw) in
      let z : 0 + f ≡ f = omega arith in
      mended_at cs w f no_file (omega (arith, lw)) (one_each_lem f)
      ∙ ap (by_first (filter (of_file f) cs)) (everywhere_at absent no_file t long f m ∙ sym absent_is_lem)
      ∙ by_view f ∙ sym (from_at 256 0 f no_file m ∙ ap (λ (i : ℕ). entry_of (committed_view i v)) z))
