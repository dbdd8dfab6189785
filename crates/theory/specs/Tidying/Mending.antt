-- The tidying's next step where no transaction is committed: torn, allocated, open, pending.
use Rattle.std.specs.Prelude.{Bool, false, not, true, List, [], ◌++◌, ◌∷◌, ◌≡◌, refl, ℕ, length}
use Rattle.std.proofs.Common.{◌∙◌, ap, sym, arith}
use Rattle.std.specs.Int.Bits.{and_zero_r, bit_and}
use Rattle.rules.specs.Jobs.{become}
use Rattle.rules.specs.Settled.{Entry, pairs, pick}
use Rattle.rules.specs.Unit.{Descriptor, has_sector, is_allocated, is_committed, is_current, is_current_file, is_empty, is_listed, is_old, is_open, is_pending, is_pending_file, is_torn, is_transaction, is_void}
use Rattle.theory.specs.Base.Facts.{FirstThat, and_l, and_r, filter_head, head_gone, is_nil, not-true}
use Rattle.theory.specs.Images.Layout.{with_flags}
use Rattle.theory.specs.Images.Turn.{set_e}
use Rattle.theory.specs.Tidying.Flat.{Next, finished}
use Rattle.theory.specs.Tidying.Sorted.{OrderlyE, SameE, UnfinishedLists, as_was, by_flags, closed, flags_of, pairs_less, pick_same, sorted, step, tidy_of}
use Rattle.theory.specs.Tidying.Sorted.{tidying, unfinished, yield_by}

-- torn, to void
mend_torn : (es : List Entry) (e : Entry) (qs : List Entry) → pick is_torn es ≡ e ∷ qs → UnfinishedLists (sorted es) → Next OrderlyE SameE tidying es
unfolding become is_current is_empty is_listed is_old is_void has_sector is_allocated is_committed is_current_file is_open is_pending is_pending_file is_torn pick
mend_torn es e qs q u =
    step es h.front e h.back h.whole 0 0
    (record { torn = qs; allocated = pick is_allocated es; committed = pick is_committed es; opened = pick is_open es; pending = pick is_pending_file es; current = pick is_current_file es })
    (record { to = and_zero_r e.descriptor.flags; like = sym (by_flags has_sector e.descriptor fl refl); is = refl; full = refl })
    (λ i. record {
      torn = head_gone (λ (x : Entry). is_torn x.descriptor) es e qs h (set_e 0 e) refl i;
      allocated = keep is_allocated (by_flags is_allocated e.descriptor fl refl) refl i;
      committed = keep is_committed (by_flags is_committed e.descriptor fl refl) refl i;
      opened = keep is_open (by_flags is_open e.descriptor fl refl) refl i;
      pending = keep is_pending_file (by_flags is_pending_file e.descriptor fl refl) refl i;
      current = keep is_current_file (by_flags is_current_file e.descriptor fl refl) refl i;
    })
    (ap (λ (l : List Entry). tidy_of (record { torn = l; allocated = pick is_allocated es; committed = pick is_committed es; opened = pick is_open es; pending = pick is_pending_file es; current = pick is_current_file es })) q)
    (λ g. refl)
    (as_was refl refl)
    (unfinished (record {
      committed = u.committed;
      opened = u.opened;
      current = u.current;
      data' = u.data';
      torn = omega (arith, u.torn, ap length q);
      beside = λ b. absurd (let w : ⊥ = omega (arith, u.torn, ap length q, b) in w);
    }))
  where
    h : FirstThat (λ (x : Entry). is_torn x.descriptor) es e qs
    h = filter_head (λ (x : Entry). is_torn x.descriptor) es e qs q

    fl : e.descriptor.flags ≡ 0xFFFF
    fl = flags_of 0xFFFF e.descriptor (and_l _ _ h.pass)

    keep : (p : Descriptor → Bool) → p e.descriptor ≡ false → p (with_flags 0 e.descriptor) ≡ false → pick p (h.front ++ set_e 0 e ∷ h.back) ≡ pick p es
    keep p a b = pick_same p h.front e h.back 0 a b ∙ ap (pick p) (sym h.whole)

-- an allocated one, to old
mend_alloc : (es : List Entry) (e : Entry) (qs : List Entry) → pick is_torn es ≡ [] → pick is_allocated es ≡ e ∷ qs → UnfinishedLists (sorted es) → Next OrderlyE SameE tidying es
unfolding become is_current is_empty is_listed is_old has_sector is_allocated is_committed is_current_file is_open is_pending is_pending_file is_torn pick
mend_alloc es e qs qt q u =
    step es h.front e h.back h.whole 0xFFF0 0xFFF0
    (record { torn = []; allocated = qs; committed = pick is_committed es; opened = pick is_open es; pending = pick is_pending_file es; current = pick is_current_file es })
    (record { to = ap (λ (x : ℕ). bit_and x 0xFFF0) fl; like = sym (by_flags has_sector e.descriptor fl refl); is = refl; full = refl })
    (λ i. record {
      torn = (keep is_torn (by_flags is_torn e.descriptor fl refl) refl ∙ qt) i;
      allocated = head_gone (λ (x : Entry). is_allocated x.descriptor) es e qs h (set_e 0xFFF0 e) refl i;
      committed = keep is_committed (by_flags is_committed e.descriptor fl refl) refl i;
      opened = keep is_open (by_flags is_open e.descriptor fl refl) refl i;
      pending = keep is_pending_file (by_flags is_pending_file e.descriptor fl refl) refl i;
      current = keep is_current_file (by_flags is_current_file e.descriptor fl refl) refl i;
    })
    (λ i. tidy_of (record { torn = qt i; allocated = q i; committed = pick is_committed es; opened = pick is_open es; pending = pick is_pending_file es; current = pick is_current_file es }))
    (λ g. refl)
    (as_was refl refl)
    (unfinished (record {
      committed = u.committed;
      opened = u.opened;
      current = u.current;
      data' = u.data';
      torn = omega (arith, u.torn, ap length q);
      beside = λ b. absurd (let w : ⊥ = omega (arith, u.torn, ap length q, b) in w);
    }))
  where
    h : FirstThat (λ (x : Entry). is_allocated x.descriptor) es e qs
    h = filter_head (λ (x : Entry). is_allocated x.descriptor) es e qs q

    fl : e.descriptor.flags ≡ 0xFFFE
    fl = flags_of 0xFFFE e.descriptor h.pass

    keep : (p : Descriptor → Bool) → p e.descriptor ≡ false → p (with_flags 0xFFF0 e.descriptor) ≡ false → pick p (h.front ++ set_e 0xFFF0 e ∷ h.back) ≡ pick p es
    keep p a b = pick_same p h.front e h.back 0xFFF0 a b ∙ ap (pick p) (sym h.whole)

-- the open transaction, to old
end_open : (es : List Entry) (e : Entry) (qs : List Entry) → pick is_torn es ≡ [] → pick is_allocated es ≡ [] → pick is_open es ≡ e ∷ qs → UnfinishedLists (sorted es) → Next OrderlyE SameE tidying es
unfolding become is_current is_empty is_listed is_old has_sector is_allocated is_committed is_current_file is_open is_pending is_pending_file is_torn is_transaction pick
end_open es e qs qt qa q u =
    step es h.front e h.back h.whole 0xFFF0 0xFFF0
    (record { torn = []; allocated = []; committed = []; opened = qs; pending = pick is_pending_file es; current = pick is_current_file es })
    (record { to = ap (λ (x : ℕ). bit_and x 0xFFF0) fl; like = sym (by_flags has_sector e.descriptor fl refl); is = refl; full = refl })
    (λ i. record {
      torn = (keep is_torn (by_flags is_torn e.descriptor fl refl) refl ∙ qt) i;
      allocated = (keep is_allocated (by_flags is_allocated e.descriptor fl refl) refl ∙ qa) i;
      committed = (keep is_committed (by_flags is_committed e.descriptor fl refl) refl ∙ u.committed) i;
      opened = head_gone (λ (x : Entry). is_open x.descriptor) es e qs h (set_e 0xFFF0 e) refl i;
      pending = keep is_pending_file (by_flags is_pending_file e.descriptor fl (ap not tr)) refl i;
      current = keep is_current_file (by_flags is_current_file e.descriptor fl refl) refl i;
    })
    (λ i. tidy_of (record { torn = qt i; allocated = qa i; committed = u.committed i; opened = q i; pending = pick is_pending_file es; current = pick is_current_file es }))
    (λ g. sym (ap (λ (d : List Entry). yield_by d (pick is_pending_file es) (pick is_current_file es) g) u.committed))
    (closed (is_nil qs (omega (arith, u.opened, ap length q))))
    (unfinished (record {
      committed = refl;
      opened = omega (arith, u.opened, ap length q);
      current = u.current;
      data' = u.data';
      torn = omega (arith, u.torn, ap length qt, ap length qa);
      beside = λ b. absurd (let w : ⊥ = omega (arith, b) in w);
    }))
  where
    h : FirstThat (λ (x : Entry). is_open x.descriptor) es e qs
    h = filter_head (λ (x : Entry). is_open x.descriptor) es e qs q

    fl : e.descriptor.flags ≡ 0xFFFC
    fl = flags_of 0xFFFC e.descriptor (and_l _ _ h.pass)

    tr : is_transaction e.descriptor ≡ true
    tr = and_r (is_pending e.descriptor) (is_transaction e.descriptor) h.pass

    keep : (p : Descriptor → Bool) → p e.descriptor ≡ false → p (with_flags 0xFFF0 e.descriptor) ≡ false → pick p (h.front ++ set_e 0xFFF0 e ∷ h.back) ≡ pick p es
    keep p a b = pick_same p h.front e h.back 0xFFF0 a b ∙ ap (pick p) (sym h.whole)

-- a pending one, to old
end_pend : (es : List Entry) (e : Entry) (qs : List Entry) → pick is_torn es ≡ [] → pick is_allocated es ≡ [] → pick is_open es ≡ [] → pick is_pending_file es ≡ e ∷ qs → UnfinishedLists (sorted es) → Next OrderlyE SameE tidying es
unfolding become is_current is_empty is_listed is_old has_sector is_allocated is_committed is_current_file is_open is_pending is_pending_file is_torn is_transaction pick
end_pend es e qs qt qa qo q u =
    step es h.front e h.back h.whole 0xFFF0 0xFFF0
    (record { torn = []; allocated = []; committed = []; opened = []; pending = qs; current = pick is_current_file es })
    (record { to = ap (λ (x : ℕ). bit_and x 0xFFF0) fl; like = sym (by_flags has_sector e.descriptor fl refl); is = refl; full = refl })
    (λ i. record {
      torn = (keep is_torn (by_flags is_torn e.descriptor fl refl) refl ∙ qt) i;
      allocated = (keep is_allocated (by_flags is_allocated e.descriptor fl refl) refl ∙ qa) i;
      committed = (keep is_committed (by_flags is_committed e.descriptor fl refl) refl ∙ u.committed) i;
      opened = (keep is_open (by_flags is_open e.descriptor fl tr) refl ∙ qo) i;
      pending = head_gone (λ (x : Entry). is_pending_file x.descriptor) es e qs h (set_e 0xFFF0 e) refl i;
      current = keep is_current_file (by_flags is_current_file e.descriptor fl refl) refl i;
    })
    (λ i. tidy_of (record { torn = qt i; allocated = qa i; committed = u.committed i; opened = qo i; pending = q i; current = pick is_current_file es }))
    (λ g. sym (ap (λ (d : List Entry). yield_by d (pick is_pending_file es) (pick is_current_file es) g) u.committed))
    (closed refl)
    (unfinished (record {
      committed = refl;
      opened = omega arith;
      current = u.current;
      data' = u.data';
      torn = omega (arith, u.torn, ap length qt, ap length qa, ap pairs q, pairs_less [] e qs);
      beside = λ b. absurd (let w : ⊥ = omega (arith, b) in w);
    }))
  where
    h : FirstThat (λ (x : Entry). is_pending_file x.descriptor) es e qs
    h = filter_head (λ (x : Entry). is_pending_file x.descriptor) es e qs q

    fl : e.descriptor.flags ≡ 0xFFFC
    fl = flags_of 0xFFFC e.descriptor (and_l _ _ h.pass)

    tr : is_transaction e.descriptor ≡ false
    tr = not-true (is_transaction e.descriptor) (and_r (is_pending e.descriptor) (not (is_transaction e.descriptor)) h.pass)

    keep : (p : Descriptor → Bool) → p e.descriptor ≡ false → p (with_flags 0xFFF0 e.descriptor) ≡ false → pick p (h.front ++ set_e 0xFFF0 e ∷ h.back) ≡ pick p es
    keep p a b = pick_same p h.front e h.back 0xFFF0 a b ∙ ap (pick p) (sym h.whole)

pub next_un : (es : List Entry) → UnfinishedLists (sorted es) → Next OrderlyE SameE tidying es
unfolding become
next_un es u = go (pick is_torn es) (pick is_allocated es) (pick is_open es) (pick is_pending_file es) refl refl refl refl
  where
    go : (t a o p : List Entry) → pick is_torn es ≡ t → pick is_allocated es ≡ a → pick is_open es ≡ o → pick is_pending_file es ≡ p → Next OrderlyE SameE tidying es
    go (e ∷ t) a o p qt qa qo qp = mend_torn es e t qt u
    go [] (e ∷ a) o p qt qa qo qp = mend_alloc es e a qt qa u
    go [] [] (e ∷ o) p qt qa qo qp = end_open es e o qt qa qo u
    go [] [] [] (e ∷ p) qt qa qo qp = end_pend es e p qt qa qo qp u
    go [] [] [] [] qt qa qo qp = finished (λ i. tidy_of (record { torn = qt i; allocated = qa i; committed = u.committed i; opened = qo i; pending = qp i; current = pick is_current_file es }))
