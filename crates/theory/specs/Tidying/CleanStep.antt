-- After a commit step: the next pending sector, or its file's current one before it.
use Rattle.std.proofs.Math.Bool.{Bool, not}
use Rattle.std.specs.Prelude.{◌&&◌, cond, false, true, ◌≢◌, ◌≡◌, ℕ, eqb}
use mathlib.Core.List.{List, [], ◌++◌, ◌∷◌}
use Rattle.std.proofs.Common.{◌∙◌, subst, arith, eqb→eq, length-append}
use Rattle.std.proofs.Math.Path.{ap, ap₂, refl, sym}
use Rattle.std.proofs.Math.Decide.{ℕ_discrete}
use Rattle.std.specs.Int.Bits.{bit_and}
use Rattle.std.proofs.Math.ListN.{length}
use Rattle.rules.specs.Flash.{Step, program}
use Rattle.rules.specs.Jobs.{become, turn, turns}
use Rattle.rules.specs.Lists.{all, filter}
use Rattle.rules.specs.Settled.{Entry, of_file, pairs, pick}
use Rattle.rules.specs.Unit.{Descriptor, file_of, has_sector, is_allocated, is_committed, is_current, is_current_file, is_data, is_empty, is_listed, is_old, is_open, is_pending, is_pending_file}
use Rattle.rules.specs.Unit.{is_torn, is_transaction}
use Rattle.theory.specs.Base.Facts.{FirstThat, all_mid, and_l, and_r, both, differ, eqb_same, filter_append, filter_filter, filter_head, filter_in}
use Rattle.theory.specs.Base.Facts.{filter_out, head_gone, is_nil, not-true, of_true}
use Rattle.theory.specs.Images.Layout.{with_flags}
use Rattle.theory.specs.Images.Turn.{set_e}
use Rattle.theory.specs.Tidying.Flat.{Next}
use Rattle.theory.specs.Tidying.Sorted.{Committing, OrderlyE, SameE, by_flags, closed, committing, data_only, flags_of, num, of_fails, of_passes, over}
use Rattle.theory.specs.Tidying.Sorted.{pairs_less, pairs_mid, pick_same, seen, sorted, step, tidy_of, tidying, view, views, yield_by}

pub turns_same : (f : ℕ) (cs ds qs : List Entry) → filter (of_file f) qs ≡ [] → ((g : ℕ) → g ≢ f → filter (of_file g) ds ≡ filter (of_file g) cs) → turns ds qs ≡ turns cs qs
unfolding turns filter of_file turn
turns_same f cs ds [] h k = refl
turns_same f cs ds (q ∷ qs) h k = go (ℕ_discrete (num q) f)
    (λ r. ap₂ (λ (a : List Entry) (b : List Step). (become 0xFFF0 a ++ (program q.place (cond (is_data q.descriptor) 0xFFF8 0xFFF0) ∷ [])) ++ b) (k (num q) r.0) (turns_same f cs ds qs r.1 k))
  where
    passes : num q ≡ f → filter (of_file f) (q ∷ qs) ≡ q ∷ filter (of_file f) qs
    passes e = ap (λ (b : Bool). cond b (q ∷ filter (of_file f) qs) (filter (of_file f) qs)) (ap (λ (x : ℕ). eqb x f) e ∙ eqb_same f)

    fails : num q ≢ f → filter (of_file f) (q ∷ qs) ≡ filter (of_file f) qs
    fails n = ap (λ (b : Bool). cond b (q ∷ filter (of_file f) qs) (filter (of_file f) qs)) (differ n)

    go : Dec (num q ≡ f) → ((num q ≢ f) × (filter (of_file f) qs ≡ []) → turns ds (q ∷ qs) ≡ turns cs (q ∷ qs)) → turns ds (q ∷ qs) ≡ turns cs (q ∷ qs)
    go (yes e) r = absurd (let w : ⊥ = omega (arith, ap length (sym (passes e) ∙ h)) in w)
    go (no n) r = r (n, sym (fails n) ∙ h)

module _ (es : List Entry) (c : Committing (sorted es)) (t : Entry) (qd : pick is_committed es ≡ t ∷ []) where
  -- the file's current one, to old
  pub drop_current : (e : Entry) (qs : List Entry) (o : Entry) (cs : List Entry) → pick is_pending_file es ≡ e ∷ qs → filter (of_file (num e)) (pick is_current_file es) ≡ o ∷ cs → Next OrderlyE SameE tidying es
  unfolding filter pick is_current is_current_file file_of of_file pairs has_sector is_allocated is_pending is_old is_listed is_empty is_torn is_committed is_transaction is_open is_pending_file become turns turn
  drop_current e qs o cs q k =
      step es h.front o h.back h.whole 0xFFF0 0xFFF0
      (record { torn = []; allocated = []; committed = t ∷ []; opened = []; pending = e ∷ qs; current = cf ++ cb })
      (record { to = ap (λ (x : ℕ). bit_and x 0xFFF0) fl; like = sym (by_flags has_sector o.descriptor fl refl); is = refl; full = refl })
      (λ i. record {
        torn = (keep is_torn (by_flags is_torn o.descriptor fl refl) refl ∙ c.torn) i;
        allocated = (keep is_allocated (by_flags is_allocated o.descriptor fl refl) refl ∙ c.allocated) i;
        committed = (keep is_committed (by_flags is_committed o.descriptor fl tr) refl ∙ qd) i;
        opened = (keep is_open (by_flags is_open o.descriptor fl refl) refl ∙ c.opened) i;
        pending = (keep is_pending_file (by_flags is_pending_file o.descriptor fl refl) refl ∙ q) i;
        current = filter_out (λ (x : Entry). is_current_file x.descriptor) h.front (set_e 0xFFF0 o) h.back refl i;
      })
      ((λ i. tidy_of (record { torn = c.torn i; allocated = c.allocated i; committed = qd i; opened = pick is_open es; pending = q i; current = pick is_current_file es }))
      ∙ ap₂ (λ (a : List Entry) (b : List Step). ((become 0xFFF0 a ++ last) ++ b) ++ become 0xFFF0 (t ∷ [])) k (sym others)
      ∙ ap (λ (a : List Entry). program o.place 0xFFF0 ∷ (((become 0xFFF0 a ++ last) ++ turns (cf ++ cb) qs) ++ become 0xFFF0 (t ∷ []))) (sym left))
      (λ g. shows g (ℕ_discrete (num e) g) ∙ sym (λ i. yield_by (qd i) (q i) (pick is_current_file es) g))
      (closed refl)
      (committing (record {
        torn = refl;
        allocated = refl;
        committed = refl;
        opened = refl;
        current = omega (arith, pairs_less cf o cb, ap pairs split, c.current);
        data' = and_r (is_data o.descriptor) (data_only (cf ++ cb)) (sym (all_mid (λ (x : Entry). is_data x.descriptor) cf o cb) ∙ sym (ap data_only split) ∙ c.data');
        pending = sym (ap pairs q) ∙ c.pending;
      }))
    where
      both' : Entry → Bool
      both' x = is_current_file x.descriptor && of_file (num e) x

      h : FirstThat both' es o cs
      h = filter_head both' es o cs (sym (filter_filter (λ (x : Entry). is_current_file x.descriptor) (of_file (num e)) es) ∙ k)

      cur_f : is_current_file o.descriptor ≡ true
      cur_f = and_l (is_current_file o.descriptor) (of_file (num e) o) h.pass

      fl : o.descriptor.flags ≡ 0xFFF8
      fl = flags_of 0xFFF8 o.descriptor (and_l (is_current o.descriptor) (not (is_transaction o.descriptor)) cur_f)

      tr : is_transaction o.descriptor ≡ false
      tr = not-true (is_transaction o.descriptor) (and_r (is_current o.descriptor) (not (is_transaction o.descriptor)) cur_f)

      fo : num o ≡ num e
      fo = eqb→eq (num o) (num e) (of_true (and_r (is_current_file o.descriptor) (of_file (num e) o) h.pass))

      keep : (p : Descriptor → Bool) → p o.descriptor ≡ false → p (with_flags 0xFFF0 o.descriptor) ≡ false → pick p (h.front ++ set_e 0xFFF0 o ∷ h.back) ≡ pick p es
      keep p a b = pick_same p h.front o h.back 0xFFF0 a b ∙ ap (pick p) (sym h.whole)

      cf : List Entry
      cf = pick is_current_file h.front

      cb : List Entry
      cb = pick is_current_file h.back

      last : List Step
      last = program e.place (cond (is_data e.descriptor) 0xFFF8 0xFFF0) ∷ []

      split : pick is_current_file es ≡ cf ++ o ∷ cb
      split = ap (pick is_current_file) h.whole ∙ filter_in (λ (x : Entry). is_current_file x.descriptor) h.front o h.back cur_f

      left : filter (of_file (num e)) (cf ++ cb) ≡ cs
      left = filter_append (of_file (num e)) cf cb ∙ ap₂ (λ (a b : List Entry). a ++ b)
          (filter_filter (λ (x : Entry). is_current_file x.descriptor) (of_file (num e)) h.front ∙ h.none)
          (filter_filter (λ (x : Entry). is_current_file x.descriptor) (of_file (num e)) h.back ∙ h.rest)

      alone : filter (of_file (num e)) qs ≡ []
      alone = is_nil (filter (of_file (num e)) qs) (omega (arith, sym (ap pairs q) ∙ c.pending))

      shows : (g : ℕ) → Dec (num e ≡ g) → over (filter (of_file g) (e ∷ qs)) (seen g (cf ++ cb)) ≡ over (filter (of_file g) (e ∷ qs)) (seen g (pick is_current_file es))
      shows g (yes z) = ap (λ (x : List Entry). over x (seen g (cf ++ cb))) (of_passes e qs g z) ∙ sym (ap (λ (x : List Entry). over x (seen g (pick is_current_file es))) (of_passes e qs g z))
      shows g (no n) = ap (λ (x : List Entry). over (filter (of_file g) (e ∷ qs)) (views x))
          (filter_append (of_file g) cf cb ∙ sym (ap (filter (of_file g)) split ∙ filter_out (of_file g) cf o cb (differ (λ (x : num o ≡ g). n (sym fo ∙ x)))))

      others : turns (cf ++ cb) qs ≡ turns (pick is_current_file es) qs
      others = turns_same (num e) (pick is_current_file es) (cf ++ cb) qs alone
          (λ g n. filter_append (of_file g) cf cb ∙ sym (ap (filter (of_file g)) split ∙ filter_out (of_file g) cf o cb (differ (λ (x : num o ≡ g). n (sym x ∙ fo)))))

  -- the pending one of a file that has no current one any more: to current
  pub make_current : (e : Entry) (qs : List Entry) → pick is_pending_file es ≡ e ∷ qs → filter (of_file (num e)) (pick is_current_file es) ≡ [] → is_data e.descriptor ≡ true → Next OrderlyE SameE tidying es
  unfolding filter pick is_pending is_pending_file is_current_file is_current pairs of_file file_of has_sector is_allocated is_old is_listed is_empty is_torn is_committed is_transaction is_open become turns turn is_data all
  make_current e qs q k dt =
      step es h.front e h.back h.whole 0xFFF8 0xFFF8
      (record { torn = []; allocated = []; committed = t ∷ []; opened = []; pending = qs; current = cf ++ new ∷ cb })
      (record { to = ap (λ (x : ℕ). bit_and x 0xFFF8) fl; like = sym (by_flags has_sector e.descriptor fl refl); is = refl; full = refl })
      (λ i. record {
        torn = (keep is_torn (by_flags is_torn e.descriptor fl refl) refl ∙ c.torn) i;
        allocated = (keep is_allocated (by_flags is_allocated e.descriptor fl refl) refl ∙ c.allocated) i;
        committed = (keep is_committed (by_flags is_committed e.descriptor fl refl) tr ∙ qd) i;
        opened = (keep is_open (by_flags is_open e.descriptor fl tr) refl ∙ c.opened) i;
        pending = head_gone (λ (x : Entry). is_pending_file x.descriptor) es e qs h new refl i;
        current = filter_in (λ (x : Entry). is_current_file x.descriptor) h.front new h.back (ap not tr) i;
      })
      ((λ i. tidy_of (record { torn = c.torn i; allocated = c.allocated i; committed = qd i; opened = pick is_open es; pending = q i; current = pick is_current_file es }))
      ∙ (λ i. ((become 0xFFF0 (k i) ++ (program e.place (cond (dt i) 0xFFF8 0xFFF0) ∷ [])) ++ sym others i) ++ become 0xFFF0 (t ∷ [])))
      (λ g. shows g (ℕ_discrete (num e) g) ∙ sym (λ i. yield_by (qd i) (q i) (pick is_current_file es) g))
      (closed refl)
      (committing (record {
        torn = refl;
        allocated = refl;
        committed = refl;
        opened = refl;
        current = omega (arith, pairs_mid cf new cb, ap pairs split, c.current, ap length (sym (ap (filter (of_file (num e))) split) ∙ k));
        data' = all_mid (λ (x : Entry). is_data x.descriptor) cf new cb ∙ both dt (sym (ap data_only split) ∙ c.data');
        pending = omega (arith, sym (ap pairs q) ∙ c.pending);
      }))
    where
      new : Entry
      new = set_e 0xFFF8 e

      h : FirstThat (λ (x : Entry). is_pending_file x.descriptor) es e qs
      h = filter_head (λ (x : Entry). is_pending_file x.descriptor) es e qs q

      fl : e.descriptor.flags ≡ 0xFFFC
      fl = flags_of 0xFFFC e.descriptor (and_l (is_pending e.descriptor) (not (is_transaction e.descriptor)) h.pass)

      tr : is_transaction e.descriptor ≡ false
      tr = not-true (is_transaction e.descriptor) (and_r (is_pending e.descriptor) (not (is_transaction e.descriptor)) h.pass)

      keep : (p : Descriptor → Bool) → p e.descriptor ≡ false → p (with_flags 0xFFF8 e.descriptor) ≡ false → pick p (h.front ++ set_e 0xFFF8 e ∷ h.back) ≡ pick p es
      keep p a b = pick_same p h.front e h.back 0xFFF8 a b ∙ ap (pick p) (sym h.whole)

      cf : List Entry
      cf = pick is_current_file h.front

      cb : List Entry
      cb = pick is_current_file h.back

      split : pick is_current_file es ≡ cf ++ cb
      split = ap (pick is_current_file) h.whole ∙ filter_out (λ (x : Entry). is_current_file x.descriptor) h.front e h.back (by_flags is_current_file e.descriptor fl refl)

      alone : filter (of_file (num e)) qs ≡ []
      alone = is_nil (filter (of_file (num e)) qs) (omega (arith, sym (ap pairs q) ∙ c.pending))

      gone : filter (of_file (num e)) cf ++ filter (of_file (num e)) cb ≡ []
      gone = sym (filter_append (of_file (num e)) cf cb) ∙ ap (filter (of_file (num e))) (sym split) ∙ k

      nil_l : filter (of_file (num e)) cf ≡ []
      nil_l = is_nil (filter (of_file (num e)) cf) (omega (arith, ap length gone, length-append (filter (of_file (num e)) cf) (filter (of_file (num e)) cb)))

      nil_r : filter (of_file (num e)) cb ≡ []
      nil_r = is_nil (filter (of_file (num e)) cb) (omega (arith, ap length gone, length-append (filter (of_file (num e)) cf) (filter (of_file (num e)) cb)))

      shows : (g : ℕ) → Dec (num e ≡ g) → over (filter (of_file g) qs) (seen g (cf ++ new ∷ cb)) ≡ over (filter (of_file g) (e ∷ qs)) (seen g (pick is_current_file es))
      shows g (yes z) = subst (λ (y : ℕ). over (filter (of_file y) qs) (seen y (cf ++ new ∷ cb)) ≡ over (filter (of_file y) (e ∷ qs)) (seen y (pick is_current_file es))) z
          (ap (λ (x : List Entry). over x (seen (num e) (cf ++ new ∷ cb))) alone
          ∙ ap views (filter_in (of_file (num e)) cf new cb (eqb_same (num e)) ∙ ap₂ (λ (a b : List Entry). a ++ new ∷ b) nil_l nil_r)
          ∙ sym (ap (λ (x : List Entry). over x (seen (num e) (pick is_current_file es))) (of_passes e qs (num e) refl)
          ∙ ap (λ (b : Bool). cond b (view e ∷ []) []) dt))
      shows g (no n) = ap₂ (λ (x y : List Entry). over x (views y)) (sym (of_fails e qs g n))
          (filter_out (of_file g) cf new cb (differ n) ∙ sym (filter_append (of_file g) cf cb) ∙ ap (filter (of_file g)) (sym split))

      others : turns (cf ++ new ∷ cb) qs ≡ turns (pick is_current_file es) qs
      others = turns_same (num e) (pick is_current_file es) (cf ++ new ∷ cb) qs alone
          (λ g n. filter_out (of_file g) cf new cb (differ (λ (x : num e ≡ g). n (sym x))) ∙ sym (filter_append (of_file g) cf cb) ∙ ap (filter (of_file g)) (sym split))

  -- a delete mark: to old
  pub drop_mark : (e : Entry) (qs : List Entry) → pick is_pending_file es ≡ e ∷ qs → filter (of_file (num e)) (pick is_current_file es) ≡ [] → is_data e.descriptor ≡ false → Next OrderlyE SameE tidying es
  unfolding become has_sector is_allocated is_committed is_current_file is_open is_pending is_pending_file is_torn is_transaction pairs pick turns is_current is_old is_listed is_empty turn
  drop_mark e qs q k dt =
      step es h.front e h.back h.whole 0xFFF0 0xFFF0
      (record { torn = []; allocated = []; committed = t ∷ []; opened = []; pending = qs; current = pick is_current_file es })
      (record { to = ap (λ (x : ℕ). bit_and x 0xFFF0) fl; like = sym (by_flags has_sector e.descriptor fl refl); is = refl; full = refl })
      (λ i. record {
        torn = (keep is_torn (by_flags is_torn e.descriptor fl refl) refl ∙ c.torn) i;
        allocated = (keep is_allocated (by_flags is_allocated e.descriptor fl refl) refl ∙ c.allocated) i;
        committed = (keep is_committed (by_flags is_committed e.descriptor fl refl) refl ∙ qd) i;
        opened = (keep is_open (by_flags is_open e.descriptor fl tr) refl ∙ c.opened) i;
        pending = head_gone (λ (x : Entry). is_pending_file x.descriptor) es e qs h (set_e 0xFFF0 e) refl i;
        current = keep is_current_file (by_flags is_current_file e.descriptor fl refl) refl i;
      })
      ((λ i. tidy_of (record { torn = c.torn i; allocated = c.allocated i; committed = qd i; opened = pick is_open es; pending = q i; current = pick is_current_file es }))
      ∙ (λ i. ((become 0xFFF0 (k i) ++ (program e.place (cond (dt i) 0xFFF8 0xFFF0) ∷ [])) ++ turns (pick is_current_file es) qs) ++ become 0xFFF0 (t ∷ [])))
      (λ g. shows g (ℕ_discrete (num e) g) ∙ sym (λ i. yield_by (qd i) (q i) (pick is_current_file es) g))
      (closed refl)
      (committing (record {
        torn = refl;
        allocated = refl;
        committed = refl;
        opened = refl;
        current = c.current;
        data' = c.data';
        pending = omega (arith, sym (ap pairs q) ∙ c.pending);
      }))
    where
      alone : filter (of_file (num e)) qs ≡ []
      alone = is_nil (filter (of_file (num e)) qs) (omega (arith, sym (ap pairs q) ∙ c.pending))

      shows : (g : ℕ) → Dec (num e ≡ g) → over (filter (of_file g) qs) (seen g (pick is_current_file es)) ≡ over (filter (of_file g) (e ∷ qs)) (seen g (pick is_current_file es))
      shows g (yes z) = subst (λ (y : ℕ). over (filter (of_file y) qs) (seen y (pick is_current_file es)) ≡ over (filter (of_file y) (e ∷ qs)) (seen y (pick is_current_file es))) z
          (ap₂ (λ (x y : List Entry). over x (views y)) alone k
          ∙ sym (ap (λ (x : List Entry). over x (seen (num e) (pick is_current_file es))) (of_passes e qs (num e) refl) ∙ ap (λ (b : Bool). cond b (view e ∷ []) []) dt))
      shows g (no n) = ap (λ (x : List Entry). over x (seen g (pick is_current_file es))) (sym (of_fails e qs g n))

      h : FirstThat (λ (x : Entry). is_pending_file x.descriptor) es e qs
      h = filter_head (λ (x : Entry). is_pending_file x.descriptor) es e qs q

      fl : e.descriptor.flags ≡ 0xFFFC
      fl = flags_of 0xFFFC e.descriptor (and_l (is_pending e.descriptor) (not (is_transaction e.descriptor)) h.pass)

      tr : is_transaction e.descriptor ≡ false
      tr = not-true (is_transaction e.descriptor) (and_r (is_pending e.descriptor) (not (is_transaction e.descriptor)) h.pass)

      keep : (p : Descriptor → Bool) → p e.descriptor ≡ false → p (with_flags 0xFFF0 e.descriptor) ≡ false → pick p (h.front ++ set_e 0xFFF0 e ∷ h.back) ≡ pick p es
      keep p a b = pick_same p h.front e h.back 0xFFF0 a b ∙ ap (pick p) (sym h.whole)
