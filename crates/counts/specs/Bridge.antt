-- The tally of all entries' descriptors says of them what rules' counts say: quiet, unfinished, committing.
use Prim.Native.Nat.{ℕ, zero, suc, ◌+◌, ◌%◌}
use Rattle.std.proofs.Common.{arith, zero-add, sym, ◌∙◌, ne_eqb}
use Rattle.std.specs.Prelude.{◌≡◌, Bool, not, ◌&&◌, ◌||◌, leb, eqb, replicate}
use Rattle.std.proofs.Math.Path.{refl, ap}
use Rattle.std.proofs.Math.Bool.{true, false, cond}
use mathlib.Core.List.{List, [], ◌∷◌, ◌++◌}
use Rattle.std.proofs.Math.ListN.{length}
use Rattle.rules.specs.Lists.{all, filter}
use Rattle.rules.specs.Unit.{Descriptor, is_torn, is_allocated, is_open, is_committed, is_pending_file, is_current_file, is_data, file_of}
use Rattle.rules.specs.Settled.{Entry, Counts, pick, of_file, pairs, is_current_ok, counts, is_beside, is_quiet}
use Rattle.rules.specs.Sound.{is_unfinished, is_committing}
use Rattle.counts.specs.declared.Few.{Few}
use Rattle.counts.specs.Few.{is_none, is_one, is_several, few, few_none, few_one, few_most}
use Rattle.counts.specs.declared.Tally.{Tally}
use Rattle.counts.specs.declared.Class.{Class}
use Rattle.counts.specs.Tally.{TallyNotes, class_of, tallied, tally_of, nothing, beside, quiet, is_first, is_second}
use Rattle.counts.specs.Sums as counted
use Rattle.counts.specs.Kinds.{kinds}
use Rattle.counts.specs.Twins.{occurs, twins, FileList, no_more, one_more_lem, few_twins}

-- the descriptors of all entries
unfoldable pub descriptors : List Entry → List Descriptor
descriptors [] = []
descriptors (e ∷ es) = e.descriptor ∷ descriptors es

-- ---- counts of a class are lengths of a selection
module _ (is : Class → Bool) (f : Descriptor → Bool) (law : (d : Descriptor) → is (class_of d) ≡ f d) where
  count_pick : (es : List Entry) → counted.count is (descriptors es) ≡ length (pick f es)
  unfolding counted.count descriptors pick filter
  count_pick [] = refl
  count_pick (e ∷ es) = rw (law e.descriptor) (go (f e.descriptor) (count_pick es))
    where
      go : (x : Bool) → counted.count is (descriptors es) ≡ length (pick f es)
          → cond x (suc (counted.count is (descriptors es))) (counted.count is (descriptors es)) ≡ length (cond x (e ∷ pick f es) (pick f es))
      go true h = ap suc h
      go false h = h

unfoldable files_of : List Entry → List ℕ
files_of [] = []
files_of (e ∷ es) = file_of e.descriptor ∷ files_of es

files_below : (es : List Entry) → FileList (files_of es)
unfolding files_of file_of
files_below [] = no_more
files_below (e ∷ es) = one_more_lem {f = e.descriptor.tag % 256} (omega arith) (files_below es)

module _ (is : Class → Bool) (f : Descriptor → Bool) (law : (d : Descriptor) → is (class_of d) ≡ f d) where
  files_pick : (es : List Entry) → counted.files is (descriptors es) ≡ files_of (pick f es)
  unfolding counted.files descriptors pick filter files_of file_of
  files_pick [] = refl
  files_pick (e ∷ es) = rw (law e.descriptor) (go (f e.descriptor) (files_pick es))
    where
      go : (x : Bool) → counted.files is (descriptors es) ≡ files_of (pick f es)
          → cond x (file_of e.descriptor ∷ counted.files is (descriptors es)) (counted.files is (descriptors es)) ≡ files_of (cond x (e ∷ pick f es) (pick f es))
      go true h = ap (λ (l : List ℕ). file_of e.descriptor ∷ l) h
      go false h = h

occurs_file : (f : ℕ) (es : List Entry) → length (filter (of_file f) es) ≡ occurs f (files_of es)
unfolding filter of_file occurs files_of
occurs_file f [] = refl
occurs_file f (e ∷ es) = go (eqb (file_of e.descriptor) f) (occurs_file f es)
  where
    go : (x : Bool) → length (filter (of_file f) es) ≡ occurs f (files_of es)
        → length (cond x (e ∷ filter (of_file f) es) (filter (of_file f) es)) ≡ cond x (suc (occurs f (files_of es))) (occurs f (files_of es))
    go true h = ap suc h
    go false h = h

pairs_twins : (es : List Entry) → pairs es ≡ twins (files_of es)
unfolding pairs twins files_of
pairs_twins [] = refl
pairs_twins (e ∷ es) = rw (occurs_file (file_of e.descriptor) es, pairs_twins es)

pairs_few : (es : List Entry) → few (counted.repeats (replicate 256 false) (files_of es)) ≡ few (pairs es)
pairs_few es = few_twins (files_below es) ∙ ap few (sym (pairs_twins es))

-- ---- torn and allocated ones together
unfinished_count : (es : List Entry) → counted.count counted.is_unfinished (descriptors es) ≡ length (pick is_torn es) + length (pick is_allocated es)
unfolding counted.count descriptors pick filter
unfinished_count [] = refl
unfinished_count (e ∷ es) =
    let k = kinds e.descriptor in
    rw k.unfinished (go (is_torn e.descriptor) (is_allocated e.descriptor) k.apart (unfinished_count es))
  where
    go : (t a : Bool) → (t && a) ≡ false → counted.count counted.is_unfinished (descriptors es) ≡ length (pick is_torn es) + length (pick is_allocated es)
        → cond (t || a) (suc (counted.count counted.is_unfinished (descriptors es))) (counted.count counted.is_unfinished (descriptors es))
        ≡ length (cond t (e ∷ pick is_torn es) (pick is_torn es)) + length (cond a (e ∷ pick is_allocated es) (pick is_allocated es))
    go true true p h = let z : ◌≡◌ {A = ℕ} 0 1 = cc in absurd (omega arith)
    go true false p h = omega arith
    go false true p h = omega arith
    go false false p h = h

-- ---- what is current: data, one of a file
abbrev data_of : Entry → Bool
data_of e = is_data e.descriptor

wrong_data : (es : List Entry) → all data_of (pick is_current_file es) ≡ eqb (counted.count counted.is_wrong (descriptors es)) 0
unfolding counted.count descriptors pick filter all
wrong_data [] = refl
wrong_data (e ∷ es) =
    rw (kinds e.descriptor).wrong (go (is_current_file e.descriptor) (is_data e.descriptor) refl (wrong_data es))
  where
    go : (x y : Bool) → is_data e.descriptor ≡ y → all data_of (pick is_current_file es) ≡ eqb (counted.count counted.is_wrong (descriptors es)) 0
        → all data_of (cond x (e ∷ pick is_current_file es) (pick is_current_file es))
        ≡ eqb (cond (x && not y) (suc (counted.count counted.is_wrong (descriptors es))) (counted.count counted.is_wrong (descriptors es))) 0
    go true true q h = rw (q, all) h
    go true false q h = rw (q, all) (sym (ne_eqb (suc (counted.count counted.is_wrong (descriptors es))) 0 (λ k. omega arith)))
    go false y q h = h

current_files : (es : List Entry) → counted.count counted.is_wrong (descriptors es) ≡ 0 → counted.files counted.is_current (descriptors es) ≡ files_of (pick is_current_file es)
unfolding counted.count counted.files descriptors pick filter files_of file_of
current_files [] z = refl
current_files (e ∷ es) z =
    let k = kinds e.descriptor in
    rw k.current (go (is_current_file e.descriptor) (is_data e.descriptor) (λ y. current_files es y) (rw k.wrong at z))
  where
    go : (x y : Bool) → (counted.count counted.is_wrong (descriptors es) ≡ 0 → counted.files counted.is_current (descriptors es) ≡ files_of (pick is_current_file es))
        → cond (x && not y) (suc (counted.count counted.is_wrong (descriptors es))) (counted.count counted.is_wrong (descriptors es)) ≡ 0
        → cond (x && y) (file_of e.descriptor ∷ counted.files counted.is_current (descriptors es)) (counted.files counted.is_current (descriptors es))
        ≡ files_of (cond x (e ∷ pick is_current_file es) (pick is_current_file es))
    go true true h z = ap (λ (l : List ℕ). file_of e.descriptor ∷ l) (h z)
    go true false h z = absurd (omega arith)
    go false y h z = h z

none_eqb : (x y : ℕ) → few x ≡ few y → eqb x 0 ≡ eqb y 0
none_eqb x y e = sym (few_none x) ∙ ap is_none e ∙ few_none y

current_ok_lem : (es : List Entry)
    → eqb (counted.repeats (replicate 256 false) (counted.files counted.is_current (descriptors es)) + counted.count counted.is_wrong (descriptors es)) 0 ≡ is_current_ok (pick is_current_file es)
unfolding is_current_ok
current_ok_lem es = rw (wrong_data es) (go (counted.count counted.is_wrong (descriptors es)) refl)
  where
    right_false : (x : Bool) → false ≡ (x && false)
    right_false true = refl
    right_false false = refl

    right_true : (x : Bool) → x ≡ (x && true)
    right_true true = refl
    right_true false = refl

    go : (w : ℕ) → counted.count counted.is_wrong (descriptors es) ≡ w
        → eqb (counted.repeats (replicate 256 false) (counted.files counted.is_current (descriptors es)) + w) 0 ≡ (eqb (pairs (pick is_current_file es)) 0 && eqb w 0)
    go zero q =
        let a : counted.repeats (replicate 256 false) (files_of (pick is_current_file es)) + 0 ≡ counted.repeats (replicate 256 false) (files_of (pick is_current_file es)) = omega arith in
        rw (current_files es q, a)
        (none_eqb (counted.repeats (replicate 256 false) (files_of (pick is_current_file es))) (pairs (pick is_current_file es)) (pairs_few (pick is_current_file es))
        ∙ right_true (eqb (pairs (pick is_current_file es)) 0))
    go (suc w) q =
        let n : eqb (suc w) 0 ≡ false = ne_eqb (suc w) 0 (λ k. omega arith) in
        let m : eqb (counted.repeats (replicate 256 false) (counted.files counted.is_current (descriptors es)) + suc w) 0 ≡ false = ne_eqb (counted.repeats (replicate 256 false) (counted.files counted.is_current (descriptors es)) + suc w) 0 (λ k. omega arith) in
        rw (n, m) (right_false (eqb (pairs (pick is_current_file es)) 0))

-- ---- the tally of all entries
pub record Agrees (c : Tally) (n : Counts) : Type 0 where
  pub unfinished : c.unfinished ≡ few n.unfinished
  pub committed : c.committed ≡ few n.committed
  pub opened : c.opened ≡ few n.opened
  pub pending : c.pending ≡ few n.pending
  pub twice : c.twice ≡ few n.pending_pairs
  pub wrong : is_none c.wrong ≡ n.current_ok

pub committed_law : (d : Descriptor) → counted.is_committed (class_of d) ≡ is_committed d
committed_law d = (kinds d).committed

pub opened_law : (d : Descriptor) → counted.is_open (class_of d) ≡ is_open d
opened_law d = (kinds d).opened

pub pending_law : (d : Descriptor) → counted.is_pending (class_of d) ≡ is_pending_file d
pending_law d = (kinds d).pending

pub agrees : (es : List Entry) → Agrees (tally_of (tallied (descriptors es) nothing)) (counts es)
unfolding counted.few_of counted.total counts
agrees es = rw (counted.tallied_few (descriptors es) zeros (replicate 256 false) (replicate 256 false)) sums
  where
    zeros : counted.Sums
    zeros = record { unfinished = 0; committed = 0; opened = 0; pending = 0; twice = 0; wrong = 0 }

    sums : Agrees (counted.few_of (counted.total (descriptors es) (replicate 256 false) (replicate 256 false) zeros)) (counts es)
    sums =
        record {
          unfinished = ap few (zero-add (counted.count counted.is_unfinished (descriptors es)) ∙ unfinished_count es);
          committed = ap few (zero-add (counted.count counted.is_committed (descriptors es)) ∙ count_pick counted.is_committed is_committed committed_law es);
          opened = ap few (zero-add (counted.count counted.is_open (descriptors es)) ∙ count_pick counted.is_open is_open opened_law es);
          pending = ap few (zero-add (counted.count counted.is_pending (descriptors es)) ∙ count_pick counted.is_pending is_pending_file pending_law es);
          twice =
              ap few (zero-add (counted.repeats (replicate 256 false) (counted.files counted.is_pending (descriptors es))))
              ∙ ap (λ (l : List ℕ). few (counted.repeats (replicate 256 false) l)) (files_pick counted.is_pending is_pending_file pending_law es)
              ∙ pairs_few (pick is_pending_file es);
          wrong =
              few_none (0 + (counted.repeats (replicate 256 false) (counted.files counted.is_current (descriptors es)) + counted.count counted.is_wrong (descriptors es)))
              ∙ ap (λ (x : ℕ). eqb x 0) (zero-add (counted.repeats (replicate 256 false) (counted.files counted.is_current (descriptors es)) + counted.count counted.is_wrong (descriptors es)))
              ∙ current_ok_lem es;
        }

-- ---- so the conditions agree
module _ (c : Tally) (n : Counts) (a : Agrees c n) where
  none : {x : Few} (y : ℕ) → x ≡ few y → is_none x ≡ eqb y 0
  none {x} y e = ap is_none e ∙ few_none y

  one : {x : Few} (y : ℕ) → x ≡ few y → is_one x ≡ eqb y 1
  one {x} y e = ap is_one e ∙ few_one y

  most : {x : Few} (y : ℕ) → x ≡ few y → not (is_several x) ≡ leb y 1
  most {x} y e = ap (λ (z : Few). not (is_several z)) e ∙ few_most y

  beside_law : beside c ≡ is_beside n
  unfolding is_beside
  beside_law = rw (one n.opened a.opened, none n.pending a.pending)

  pub quiet_law : quiet c ≡ is_quiet n
  unfolding is_quiet
  quiet_law = rw (none n.unfinished a.unfinished, none n.committed a.committed, most n.opened a.opened, beside_law, none n.pending_pairs a.twice, a.wrong)

  pub first_law : is_first c ≡ is_unfinished n
  unfolding is_unfinished
  first_law =
      rw (none n.committed a.committed, most n.opened a.opened, a.wrong, one n.unfinished a.unfinished, beside_law, none n.pending_pairs a.twice, none n.unfinished a.unfinished, most n.pending_pairs a.twice)

  pub second_law : is_second c ≡ is_committing n
  unfolding is_committing
  second_law = rw (none n.unfinished a.unfinished, one n.committed a.committed, none n.opened a.opened, none n.pending_pairs a.twice, a.wrong)

-- ---- a tally goes on from unit to unit
pub tallied_append : (xs ys : List Descriptor) (t : TallyNotes) → tallied (xs ++ ys) t ≡ tallied ys (tallied xs t)
unfolding tallied
tallied_append [] ys t = refl
tallied_append (x ∷ xs) ys t = tallied_append xs ys _
