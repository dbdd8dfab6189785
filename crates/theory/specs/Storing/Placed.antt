-- One more entry, torn, allocated, pending or open, between those of a settled image.
use Rattle.std.specs.Prelude.{Bool, false, true, List, ◌++◌, ◌∷◌, ◌≡◌, refl, ◌+◌, suc}
use Rattle.std.proofs.Math.Bool.{not}
use Rattle.std.proofs.Common.{◌∙◌, sym, arith, length-append}
use Rattle.std.proofs.Math.Path.{ap, subst}
use Rattle.std.proofs.Math.ListN.{length}
use Rattle.rules.specs.Settled.{Entry, pick}
use Rattle.rules.specs.Unit.{Descriptor, blank, is_allocated, is_committed, is_current, is_current_file, is_open, is_pending, is_pending_file, is_torn, is_transaction}
use Rattle.laws.specs.Homes.{pairs_few}
use Rattle.theory.specs.Base.Facts.{filter_append, filter_in, filter_out}
use Rattle.theory.specs.Tidying.Sorted.{Orderly, Quiet, Sorted, by_flags, num, pairs_mid, sorted, unfinished}

abbrev pub sum : List Entry → List Entry → Sorted
sum a b =
    record {
      torn = pick is_torn a ++ pick is_torn b;
      allocated = pick is_allocated a ++ pick is_allocated b;
      committed = pick is_committed a ++ pick is_committed b;
      opened = pick is_open a ++ pick is_open b;
      pending = pick is_pending_file a ++ pick is_pending_file b;
      current = pick is_current_file a ++ pick is_current_file b;
    }

-- an entry that no list shows
pub sum_blank : (a : List Entry) (e : Entry) (b : List Entry) → e.descriptor ≡ blank → sorted (a ++ e ∷ b) ≡ sum a b
unfolding pick is_torn blank is_allocated is_committed is_current is_open is_pending is_pending_file is_current_file
sum_blank a e b h = λ i. record
    { torn = out is_torn refl i; allocated = out is_allocated refl i; committed = out is_committed refl i; opened = out is_open refl i; pending = out is_pending_file refl i; current = out is_current_file refl i }
  where
    out : (p : Descriptor → Bool) → p blank ≡ false → pick p (a ++ e ∷ b) ≡ pick p a ++ pick p b
    out p k = filter_out (λ (x : Entry). p x.descriptor) a e b (ap p h ∙ k)

pub sum_none : (a b : List Entry) → sorted (a ++ b) ≡ sum a b
unfolding pick
sum_none a b = λ i. record
    { torn = both is_torn i; allocated = both is_allocated i; committed = both is_committed i; opened = both is_open i; pending = both is_pending_file i; current = both is_current_file i }
  where
    both : (p : Descriptor → Bool) → pick p (a ++ b) ≡ pick p a ++ pick p b
    both p = filter_append (λ (x : Entry). p x.descriptor) a b

module _ (a : List Entry) (x : Entry) (b : List Entry) (c : Quiet (sum a b)) where
  out : (p : Descriptor → Bool) → p x.descriptor ≡ false → pick p (a ++ x ∷ b) ≡ pick p a ++ pick p b
  unfolding pick
  out p k = filter_out (λ (y : Entry). p y.descriptor) a x b k

  into : (p : Descriptor → Bool) → p x.descriptor ≡ true → pick p (a ++ x ∷ b) ≡ pick p a ++ x ∷ pick p b
  unfolding pick
  into p k = filter_in (λ (y : Entry). p y.descriptor) a x b k

  one_more_lem : (p : Descriptor → Bool) → length (pick p a ++ x ∷ pick p b) ≡ suc (length (pick p a ++ pick p b))
  one_more_lem p = length-append (pick p a) (x ∷ pick p b) ∙ more ∙ ap suc (sym (length-append (pick p a) (pick p b)))
    where
      more : length (pick p a) + suc (length (pick p b)) ≡ suc (length (pick p a) + length (pick p b))
      more = omega arith

  pub torn_ok : x.descriptor.flags ≡ 0xFFFF → is_torn x.descriptor ≡ true → Orderly (sorted (a ++ x ∷ b))
  unfolding is_allocated is_committed is_current is_open is_pending is_pending_file is_current_file
  torn_ok fl t =
      subst (λ (l : Sorted). Orderly l)
      (sym (λ i. record {
        torn = into is_torn t i;
        allocated = out is_allocated (by_flags is_allocated x.descriptor fl refl) i;
        committed = out is_committed (by_flags is_committed x.descriptor fl refl) i;
        opened = out is_open (by_flags is_open x.descriptor fl refl) i;
        pending = out is_pending_file (by_flags is_pending_file x.descriptor fl refl) i;
        current = out is_current_file (by_flags is_current_file x.descriptor fl refl) i;
      }))
      (unfinished (record {
        committed = c.committed;
        opened = c.opened;
        current = c.current;
        data' = c.data';
        torn = omega (arith, one_more_lem is_torn, ap length c.torn, ap length c.allocated, c.pending);
        beside = λ e. c.beside;
      }))

  pub alloc_ok : x.descriptor.flags ≡ 0xFFFE → Orderly (sorted (a ++ x ∷ b))
  unfolding is_torn is_allocated is_committed is_current is_open is_pending is_pending_file is_current_file
  alloc_ok fl =
      subst (λ (l : Sorted). Orderly l)
      (sym (λ i. record {
        torn = out is_torn (by_flags is_torn x.descriptor fl refl) i;
        allocated = into is_allocated (by_flags is_allocated x.descriptor fl refl) i;
        committed = out is_committed (by_flags is_committed x.descriptor fl refl) i;
        opened = out is_open (by_flags is_open x.descriptor fl refl) i;
        pending = out is_pending_file (by_flags is_pending_file x.descriptor fl refl) i;
        current = out is_current_file (by_flags is_current_file x.descriptor fl refl) i;
      }))
      (unfinished (record {
        committed = c.committed;
        opened = c.opened;
        current = c.current;
        data' = c.data';
        torn = omega (arith, one_more_lem is_allocated, ap length c.torn, ap length c.allocated, c.pending);
        beside = λ e. c.beside;
      }))

  pub pend_ok : x.descriptor.flags ≡ 0xFFFC → is_transaction x.descriptor ≡ false → Orderly (sorted (a ++ x ∷ b))
  unfolding is_torn is_allocated is_committed is_current is_open is_transaction is_pending is_pending_file is_current_file
  pend_ok fl tr =
      subst (λ (l : Sorted). Orderly l)
      (sym (λ i. record {
        torn = out is_torn (by_flags is_torn x.descriptor fl refl) i;
        allocated = out is_allocated (by_flags is_allocated x.descriptor fl refl) i;
        committed = out is_committed (by_flags is_committed x.descriptor fl refl) i;
        opened = out is_open (by_flags is_open x.descriptor fl tr) i;
        pending = into is_pending_file (by_flags is_pending_file x.descriptor fl (ap not tr)) i;
        current = out is_current_file (by_flags is_current_file x.descriptor fl refl) i;
      }))
      (unfinished (record {
        committed = c.committed;
        opened = c.opened;
        current = c.current;
        data' = c.data';
        torn = omega (arith, ap length c.torn, ap length c.allocated, pairs_mid (pick is_pending_file a) x (pick is_pending_file b), c.pending, pairs_few (num x) (pick is_pending_file a ++ pick is_pending_file b) c.pending);
        beside = λ e. absurd (let w : ⊥ = omega (arith, e, ap length c.torn, ap length c.allocated) in w);
      }))
