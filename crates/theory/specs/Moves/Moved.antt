-- A home moved to its copy: the entries are alike, so what is quiet stays quiet and every file shows what it showed.
use Rattle.std.specs.Prelude.{Bool, ◌&&◌, ◌||◌, false, not, true, ◌≡◌, refl, ◌+◌, suc, ℕ, eqb}
use mathlib.Core.List.{List, [], ◌++◌, ◌∷◌}
use Rattle.std.proofs.Common.{◌∙◌, ap₂, subst, subst₂, sym, add-zero, arith, length-append}
use Rattle.std.proofs.Math.Path.{ap}
use Rattle.std.proofs.Math.ListN.{length}
use Rattle.rules.specs.Copy.{is_kept, packed}
use Rattle.rules.specs.Settled.{Entry, pick}
use Rattle.rules.specs.Unit.{Descriptor, blank, is_allocated, is_committed, is_current, is_current_file, is_open, is_pending, is_pending_file, is_torn, is_transaction}
use Rattle.rules.specs.Unit.{stands}
use Rattle.rules.specs.declared.Geometry.{Geometry}
use Rattle.theory.specs.Base.Facts.{and_l, eq_of, filter_append, is_nil, or_left, or_right, true_false}
use Rattle.theory.specs.Images.Head.{copy_head}
use Rattle.theory.specs.Images.Layout.{Good}
use Rattle.theory.specs.Images.Sectors.{AllAbove, LegalGeometry, all_above}
use Rattle.theory.specs.Images.Model.{all_entries, home_entries, LaidHome}
use Rattle.theory.specs.Images.Located.{from_append}
use Rattle.theory.specs.Tidying.Sorted.{Quiet, sorted, yield, yield_by}
use Rattle.theory.specs.Moves.Copied.{moved}
use Rattle.theory.specs.Moves.Packed.{kept_fits, packed_array, packed_gap}
use Rattle.theory.specs.Moves.Gather.{gather}
use Rattle.theory.specs.Moves.Alike.{AllAlike, NotOf, MetByKept, alike_append, alike_data, alike_file, alike_length, alike_pairs, alike_self, alike_views}
use Rattle.theory.specs.Moves.Alike.{packed_alike, packed_none, trim_pick}

-- ---- the lists that a move keeps, and those that it leaves empty
of_pending : (q : Descriptor → Bool) → ((o : ℕ) (d : Descriptor) → q (moved o d) ≡ q d) → MetByKept (λ d. is_pending d && q d)
unfolding is_pending is_kept blank
of_pending q m = record { moves = λ o d. ap (λ (b : Bool). is_pending d && b) (m o d); kept = λ d e. or_left (is_current d) (and_l (is_pending d) (q d) e); blank' = refl }

of_current : (q : Descriptor → Bool) → ((o : ℕ) (d : Descriptor) → q (moved o d) ≡ q d) → MetByKept (λ d. is_current d && q d)
unfolding is_current is_kept blank
of_current q m = record { moves = λ o d. ap (λ (b : Bool). is_current d && b) (m o d); kept = λ d e. or_right (is_pending d) (and_l (is_current d) (q d) e); blank' = refl }

pub of_open : MetByKept is_open
unfolding is_transaction is_open
of_open = of_pending is_transaction (λ o d. refl)

pub of_committed : MetByKept is_committed
unfolding is_transaction is_committed
of_committed = of_current is_transaction (λ o d. refl)

pub of_pending_file : MetByKept is_pending_file
unfolding is_transaction is_pending_file
of_pending_file = of_pending (λ d. not (is_transaction d)) (λ o d. refl)

pub of_current_file : MetByKept is_current_file
unfolding is_transaction is_current_file
of_current_file = of_current (λ d. not (is_transaction d)) (λ o d. refl)

kept_is : (d : Descriptor) (q : ℕ → Bool) → q 0xFFFC ≡ false → q 0xFFF8 ≡ false → is_kept d ≡ true → q d.flags ≡ false
unfolding is_current is_pending is_kept
kept_is d q a b h = go (is_pending d) (is_current d) refl refl h
  where
    go : (p c : Bool) → is_pending d ≡ p → is_current d ≡ c → p || c ≡ true → q d.flags ≡ false
    go true c e f k = ap q (eq_of d.flags 0xFFFC e) ∙ a
    go false true e f k = ap q (eq_of d.flags 0xFFF8 f) ∙ b
    go false false e f k = true_false false k refl

pub not_torn : NotOf is_torn
unfolding is_torn blank
not_torn = record { moves = λ o d. refl; kept = λ d h. kept_is d (λ n. eqb n 0xFFFF && not (eqb d.tag 0xFFFF)) refl refl h; blank' = refl }

pub not_allocated : NotOf is_allocated
unfolding is_allocated blank
not_allocated = record { moves = λ o d. refl; kept = λ d h. kept_is d (λ n. eqb n 0xFFFE) refl refl h; blank' = refl }

-- ---- the copy in the home's place
module _ (g : Geometry) (sh : LegalGeometry g) (p : LaidHome) (h : Good g p.array p.gap p.rest) (sp : ℕ) where
  abbrev pub copy_laid : LaidHome
  copy_laid = record {
    phys = sp;
    up = true;
    head = copy_head;
    array = packed_array g sh p.array p.gap p.rest h;
    gap = packed_gap g sh p.array p.gap p.rest h;
    rest = gather g p.rest p.array [];
  }

  low : ℕ
  low = stands (length p.array) + p.gap

  above : AllAbove low p.array
  unfolding low
  above = all_above (stands (length p.array) + p.gap) g.size p.array (omega (arith, h.low))

  sum : low + length p.rest ≡ g.size
  unfolding low
  sum = omega (arith, h.fills)

  home_alike : (t : Descriptor → Bool) → MetByKept t → (L : ℕ) → AllAlike (pick t (home_entries g L sp copy_laid.rest 0 copy_laid.array)) (pick t (home_entries g L p.phys p.rest 0 p.array))
  home_alike t o L =
      subst (λ (l : List Entry). AllAlike l (pick t (home_entries g L p.phys p.rest 0 p.array))) (sym (trim_pick g t o.blank' L sp copy_laid.rest (packed g.size p.array)))
      (packed_alike g p.rest low (stands (length p.array)) h.bytes sum copy_laid.rest t o L sp p.phys 0 g.size p.array [] (add-zero g.size) (omega (arith, kept_fits g sh p.array p.gap p.rest h)) h.sectors above refl)

  home_none : (t : Descriptor → Bool) → NotOf t → (L : ℕ) → pick t (home_entries g L sp copy_laid.rest 0 copy_laid.array) ≡ []
  home_none t o L = trim_pick g t o.blank' L sp copy_laid.rest (packed g.size p.array) ∙ packed_none g t o L sp 0 g.size copy_laid.rest p.array

  module _ (hs bs : List LaidHome) where
    abbrev old : List Entry
    old = all_entries g 0 (hs ++ p ∷ bs)

    abbrev new : List Entry
    new = all_entries g 0 (hs ++ copy_laid ∷ bs)

    split : (t : Descriptor → Bool) (q : LaidHome) → pick t (all_entries g 0 (hs ++ q ∷ bs)) ≡ pick t (all_entries g 0 hs) ++ (pick t (home_entries g (0 + length hs) q.phys q.rest 0 q.array) ++ pick t (all_entries g (suc (0 + length hs)) bs))
    unfolding pick
    split t q =
        ap (pick t) (from_append g 0 hs (q ∷ bs))
        ∙ filter_append (λ (e : Entry). t e.descriptor) (all_entries g 0 hs) (home_entries g (0 + length hs) q.phys q.rest 0 q.array ++ all_entries g (suc (0 + length hs)) bs)
        ∙ ap (λ (l : List Entry). pick t (all_entries g 0 hs) ++ l) (filter_append (λ (e : Entry). t e.descriptor) (home_entries g (0 + length hs) q.phys q.rest 0 q.array) (all_entries g (suc (0 + length hs)) bs))

    pub lists_alike : (t : Descriptor → Bool) → MetByKept t → AllAlike (pick t (all_entries g 0 (hs ++ copy_laid ∷ bs))) (pick t (all_entries g 0 (hs ++ p ∷ bs)))
    lists_alike t o =
        subst₂ AllAlike (sym (split t copy_laid)) (sym (split t p))
        (alike_append (alike_self (pick t (all_entries g 0 hs))) (alike_append (home_alike t o (0 + length hs)) (alike_self (pick t (all_entries g (suc (0 + length hs)) bs)))))

    lists_none : (t : Descriptor → Bool) → NotOf t → pick t (all_entries g 0 (hs ++ p ∷ bs)) ≡ [] → pick t (all_entries g 0 (hs ++ copy_laid ∷ bs)) ≡ []
    lists_none t o e =
        is_nil (pick t (all_entries g 0 (hs ++ copy_laid ∷ bs)))
        (omega (
          arith,
          ap length (split t copy_laid),
          length-append (pick t (all_entries g 0 hs)) (pick t (home_entries g (0 + length hs) sp copy_laid.rest 0 copy_laid.array) ++ pick t (all_entries g (suc (0 + length hs)) bs)),
          length-append (pick t (home_entries g (0 + length hs) sp copy_laid.rest 0 copy_laid.array)) (pick t (all_entries g (suc (0 + length hs)) bs)),
          ap length (home_none t o (0 + length hs)),
          ap length (sym (split t p) ∙ e),
          length-append (pick t (all_entries g 0 hs)) (pick t (home_entries g (0 + length hs) p.phys p.rest 0 p.array) ++ pick t (all_entries g (suc (0 + length hs)) bs)),
          length-append (pick t (home_entries g (0 + length hs) p.phys p.rest 0 p.array)) (pick t (all_entries g (suc (0 + length hs)) bs)),
        ))

    nil_alike : {a b : List Entry} → AllAlike a b → b ≡ [] → a ≡ []
    nil_alike {a = a} t e = is_nil a (alike_length t ∙ ap length e)

    pub moved_quiet : Quiet (sorted (all_entries g 0 (hs ++ p ∷ bs))) → Quiet (sorted (all_entries g 0 (hs ++ copy_laid ∷ bs)))
    moved_quiet c =
        record {
          torn = lists_none is_torn not_torn c.torn;
          allocated = lists_none is_allocated not_allocated c.allocated;
          committed = nil_alike (lists_alike is_committed of_committed) c.committed;
          opened = omega (arith, alike_length (lists_alike is_open of_open), c.opened);
          current = alike_pairs (lists_alike is_current_file of_current_file) ∙ c.current;
          data' = alike_data (lists_alike is_current_file of_current_file) ∙ c.data';
          pending = alike_pairs (lists_alike is_pending_file of_pending_file) ∙ c.pending;
          beside = ap₂ (λ (a b : ℕ). eqb a 1 || eqb b 0) (alike_length (lists_alike is_open of_open)) (alike_length (lists_alike is_pending_file of_pending_file)) ∙ c.beside;
        }

    -- what a finished mount would show
    pub moved_shows : Quiet (sorted (all_entries g 0 (hs ++ p ∷ bs))) → (f : ℕ) → yield (sorted (all_entries g 0 (hs ++ copy_laid ∷ bs))) f ≡ yield (sorted (all_entries g 0 (hs ++ p ∷ bs))) f
    moved_shows c f =
        ap (λ (d : List Entry). yield_by d (pick is_pending_file new) (pick is_current_file new) f) (moved_quiet c).committed
        ∙ alike_views (alike_file (lists_alike is_current_file of_current_file) f)
        ∙ sym (ap (λ (d : List Entry). yield_by d (pick is_pending_file old) (pick is_current_file old) f) c.committed)
