-- A pending descriptor made old: the last step of a store over an earlier one.
use Rattle.std.specs.Prelude.{Bool, not, true, List, [], ◌++◌, ◌∷◌, ◌≡◌, ℕ}
use Rattle.std.proofs.Math.Bool.{false}
use Rattle.std.proofs.Common.{◌∙◌, subst, arith}
use Rattle.std.proofs.Math.Path.{ap, refl, sym}
use Rattle.std.specs.Int.Bits.{bit_and}
use Rattle.std.proofs.Math.ListN.{length}
use Rattle.rules.specs.Flash.{program}
use Rattle.rules.specs.Settled.{Entry, pairs, pick}
use Rattle.rules.specs.Unit.{Descriptor, has_sector, is_allocated, is_committed, is_current, is_current_file, is_empty, is_listed, is_old, is_open, is_pending, is_pending_file, is_torn, is_transaction}
use Rattle.theory.specs.Base.Facts.{and_l, and_r, filter_in, filter_out, not-true}
use Rattle.theory.specs.Images.Layout.{with_flags}
use Rattle.theory.specs.Images.Turn.{set_e}
use Rattle.theory.specs.Images.Stand.{Turns, stay, turning}
use Rattle.theory.specs.Tidying.Sorted.{Orderly, OrderlyE, Sorted, UnfinishedLists, by_flags, flags_of, pairs_less, pick_same, sorted, unfinished}

module _ (A : List Entry) (o : Entry) (B : List Entry) (pend : is_pending_file o.descriptor ≡ true)
    (u : UnfinishedLists (sorted (A ++ o ∷ B))) (qt : pick is_torn (A ++ o ∷ B) ≡ []) (qa : pick is_allocated (A ++ o ∷ B) ≡ []) where
  fl : o.descriptor.flags ≡ 0xFFFC
  unfolding is_pending is_pending_file
  fl = flags_of 0xFFFC o.descriptor (and_l (is_pending o.descriptor) (not (is_transaction o.descriptor)) pend)

  tr : is_transaction o.descriptor ≡ false
  unfolding is_pending_file
  tr = not-true (is_transaction o.descriptor) (and_r (is_pending o.descriptor) (not (is_transaction o.descriptor)) pend)

  pub old_turn : Turns OrderlyE (A ++ o ∷ B) (program o.place 0xFFF0 ∷ []) (A ++ set_e 0xFFF0 o ∷ B)
  unfolding has_sector is_allocated is_committed is_current_file is_open is_pending_file is_torn pick is_pending is_current is_old is_listed is_empty is_transaction
  old_turn =
      turning A o B 0xFFF0 0xFFF0 (unfinished u) refl
      (record { to = ap (λ (x : ℕ). bit_and x 0xFFF0) fl; like = sym (by_flags has_sector o.descriptor fl refl); is = refl; full = refl })
      (stay (subst (λ (l : Sorted). Orderly l)
      (sym (λ i. record {
        torn = (keep is_torn (by_flags is_torn o.descriptor fl refl) refl ∙ qt) i;
        allocated = (keep is_allocated (by_flags is_allocated o.descriptor fl refl) refl ∙ qa) i;
        committed = (keep is_committed (by_flags is_committed o.descriptor fl refl) refl ∙ u.committed) i;
        opened = keep is_open (by_flags is_open o.descriptor fl tr) refl i;
        pending = filter_out (λ (x : Entry). is_pending_file x.descriptor) A (set_e 0xFFF0 o) B refl i;
        current = keep is_current_file (by_flags is_current_file o.descriptor fl refl) refl i;
      }))
      (unfinished (record {
        committed = refl;
        opened = u.opened;
        current = u.current;
        data' = u.data';
        torn = omega (arith, u.torn, ap pairs split, pairs_less (pick is_pending_file A) o (pick is_pending_file B), ap length qt, ap length qa);
        beside = λ b. absurd (let w : ⊥ = omega (arith, b) in w);
      }))))
    where
      keep : (p : Descriptor → Bool) → p o.descriptor ≡ false → p (with_flags 0xFFF0 o.descriptor) ≡ false → pick p (A ++ set_e 0xFFF0 o ∷ B) ≡ pick p (A ++ o ∷ B)
      keep p a b = pick_same p A o B 0xFFF0 a b

      split : pick is_pending_file (A ++ o ∷ B) ≡ pick is_pending_file A ++ o ∷ pick is_pending_file B
      split = filter_in (λ (x : Entry). is_pending_file x.descriptor) A o B pend
