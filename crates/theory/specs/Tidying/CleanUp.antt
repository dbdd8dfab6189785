-- The tidying's next step after a commit step.
use Rattle.std.specs.Prelude.{Bool, false, true, ◌≡◌, ℕ, length}
use Rattle.std.proofs.Math.Bool.{not}
use mathlib.Core.List.{List, [], ◌++◌, ◌∷◌}
use Rattle.std.proofs.Common.{◌∙◌, arith}
use Rattle.std.proofs.Math.Path.{ap, refl, sym}
use Rattle.std.specs.Int.Bits.{bit_and}
use Rattle.rules.specs.Jobs.{become, turns}
use Rattle.rules.specs.Lists.{filter}
use Rattle.rules.specs.Settled.{Entry, of_file, pairs, pick}
use Rattle.rules.specs.Unit.{Descriptor, has_sector, is_allocated, is_committed, is_current, is_current_file, is_data, is_empty, is_listed, is_old, is_open, is_pending, is_pending_file}
use Rattle.rules.specs.Unit.{is_torn, is_transaction}
use Rattle.theory.specs.Base.Facts.{FirstThat, and_l, and_r, filter_head}
use Rattle.theory.specs.Base.Facts.{head_gone}
use Rattle.theory.specs.Images.Layout.{with_flags}
use Rattle.theory.specs.Images.Turn.{set_e}
use Rattle.theory.specs.Tidying.Flat.{Next}
use Rattle.theory.specs.Tidying.Sorted.{Committing, OrderlyE, SameE, by_flags, closed, flags_of, num}
use Rattle.theory.specs.Tidying.Sorted.{pick_same, sorted, step, tidy_of, tidying, unfinished, yield_by}
use Rattle.theory.specs.Tidying.CleanStep.{drop_current, drop_mark, make_current}

module _ (es : List Entry) (c : Committing (sorted es)) (t : Entry) (qd : pick is_committed es ≡ t ∷ []) where
  -- last, the transaction: to old
  end_done : pick is_pending_file es ≡ [] → Next OrderlyE SameE tidying es
  unfolding become turns pairs is_empty is_listed is_old is_pending filter has_sector is_allocated is_committed is_current is_current_file is_open is_pending_file is_torn is_transaction pick
  end_done q =
      step es h.front t h.back h.whole 0xFFF0 0xFFF0
      (record { torn = []; allocated = []; committed = []; opened = []; pending = []; current = pick is_current_file es })
      (record { to = ap (λ (x : ℕ). bit_and x 0xFFF0) fl; like = sym (by_flags has_sector t.descriptor fl refl); is = refl; full = refl })
      (λ i. record {
        torn = (keep is_torn (by_flags is_torn t.descriptor fl refl) refl ∙ c.torn) i;
        allocated = (keep is_allocated (by_flags is_allocated t.descriptor fl refl) refl ∙ c.allocated) i;
        committed = head_gone (λ (x : Entry). is_committed x.descriptor) es t [] h (set_e 0xFFF0 t) refl i;
        opened = (keep is_open (by_flags is_open t.descriptor fl refl) refl ∙ c.opened) i;
        pending = (keep is_pending_file (by_flags is_pending_file t.descriptor fl refl) refl ∙ q) i;
        current = keep is_current_file (by_flags is_current_file t.descriptor fl (ap not tr)) refl i;
      })
      (λ i. tidy_of (record { torn = c.torn i; allocated = c.allocated i; committed = qd i; opened = pick is_open es; pending = q i; current = pick is_current_file es }))
      (λ g. sym (λ i. yield_by (qd i) (q i) (pick is_current_file es) g))
      (closed refl)
      (unfinished (record { committed = refl; opened = omega arith; current = c.current; data' = c.data'; torn = omega arith; beside = λ b. absurd (let w : ⊥ = omega (arith, b) in w) }))
    where
      h : FirstThat (λ (x : Entry). is_committed x.descriptor) es t []
      h = filter_head (λ (x : Entry). is_committed x.descriptor) es t [] qd

      fl : t.descriptor.flags ≡ 0xFFF8
      fl = flags_of 0xFFF8 t.descriptor (and_l (is_current t.descriptor) (is_transaction t.descriptor) h.pass)

      tr : is_transaction t.descriptor ≡ true
      tr = and_r (is_current t.descriptor) (is_transaction t.descriptor) h.pass

      keep : (p : Descriptor → Bool) → p t.descriptor ≡ false → p (with_flags 0xFFF0 t.descriptor) ≡ false → pick p (h.front ++ set_e 0xFFF0 t ∷ h.back) ≡ pick p es
      keep p a b = pick_same p h.front t h.back 0xFFF0 a b ∙ ap (pick p) (sym h.whole)

  next_done : Next OrderlyE SameE tidying es
  next_done = go (pick is_pending_file es) refl
    where
      go : (p : List Entry) → pick is_pending_file es ≡ p → Next OrderlyE SameE tidying es
      go [] q = end_done q
      go (e ∷ qs) q = go' (filter (of_file (num e)) (pick is_current_file es)) (is_data e.descriptor) refl refl
        where
          go' : (l : List Entry) (b : Bool) → filter (of_file (num e)) (pick is_current_file es) ≡ l → is_data e.descriptor ≡ b → Next OrderlyE SameE tidying es
          go' (o ∷ cs) b k d = drop_current es c t qd e qs o cs q k
          go' [] true k d = make_current es c t qd e qs q k d
          go' [] false k d = drop_mark es c t qd e qs q k d

pub next_co : (es : List Entry) → Committing (sorted es) → Next OrderlyE SameE tidying es
next_co es c = go (pick is_committed es) refl
  where
    go : (l : List Entry) → pick is_committed es ≡ l → Next OrderlyE SameE tidying es
    go [] q = absurd (let w : ⊥ = omega (arith, ap length q, c.committed) in w)
    go (t ∷ []) q = next_done es c t q
    go (t ∷ (u ∷ us)) q = absurd (let w : ⊥ = omega (arith, ap length q, c.committed) in w)
