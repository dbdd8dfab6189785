-- What the store means after the last step of a write or a delete: its transaction has one change more.
use Rattle.std.specs.Prelude.{Bool, ◌&&◌, cond, false, true, ◌≢◌, ◌≡◌, ◌<◌, ◌≤◌, ℕ, get_or}
use Rattle.std.proofs.Math.Bool.{not}
use mathlib.Core.List.{List, [], ◌++◌, ◌∷◌, append_assoc}
use Rattle.std.proofs.Math.Option.{none, some}
use Rattle.std.proofs.Common.{◌∙◌, arith, length-append}
use Rattle.std.proofs.Math.Path.{ap, ap₂, refl, subst, sym}
use Rattle.std.proofs.Math.Dec.{eqb}
use Rattle.std.proofs.Math.ListN.{length}
use Rattle.rules.specs.Flash.{Bytes, Step, finish, made, program, words}
use Rattle.rules.specs.Jobs.{become, earlier_of, fits, size_for}
use Rattle.rules.specs.Lists.{filter}
use Rattle.rules.specs.Settled.{Entry, of_file, pairs, pick, select}
use Rattle.rules.specs.Unit.{Descriptor, is_allocated, is_committed, is_current, is_current_file, is_data, is_open, is_pending, is_pending_file, is_torn, is_transaction}
use Rattle.rules.specs.declared.Geometry.{Geometry}
use Rattle.laws.specs.Runs.{finish_append}
use Rattle.laws.specs.Homes.{pairs_few}
use Rattle.theory.specs.Base.Facts.{FirstThat, and_l, and_r, append-nil, both, differ, eq_of, eqb_same, filter_append, filter_filter, filter_head}
use Rattle.theory.specs.Base.Facts.{filter_in, filter_out, not-true, or_left}
use Rattle.theory.specs.Base.Along.{along_append, along_last}
use Rattle.theory.specs.Images.Layout.{with_flags}
use Rattle.theory.specs.Images.Model.{all_entries, home_of, no_laid_home, the_survey}
use Rattle.theory.specs.Images.Turn.{set_e}
use Rattle.theory.specs.Tidying.Sorted.{Orderly, OrderlyE, Quiet, Sorted, UnfinishedLists, by_flags, committing, data_only, flags_of, num, pairs_mid, pick_same, sorted}
use Rattle.theory.specs.Tidying.Sorted.{unfinished, view, yield_by}
use Rattle.theory.specs.Tidying.Held.{HeldEntries, Safe, along_held, held_map}
use Rattle.theory.specs.Storing.Placed.{pend_ok, sum}
use Rattle.theory.specs.Storing.Earlier.{old_turn}
use Rattle.theory.specs.Storing.Ready.{Writing}
use Rattle.theory.specs.Storing.Stores.{back, before_lists, front, last_step, most_filling, new, p, quiet_sum}
use Rattle.theory.specs.Meaning.Means.{Drafts, Match, Means, Keeping, change_of, shown_of}
use Rattle.theory.specs.Meaning.MeansMount.{Inv}
use Rattle.theory.specs.Meaning.StoreFinal.{StoreEnds, change_more, changes_to, ends}
use Rattle.theory.specs.Meaning.StoreMeans.{LastOf, along_before, inv_held, means_sum, most_means, out}

module _ (g : Geometry) (b : Keeping) (s : Bytes) (h : Safe g s) (quiet : Quiet (sorted (all_entries g 0 h.ps))) (means : Means b (sorted (all_entries g 0 h.ps))) (tag : ℕ) (c : Bytes) (w : Writing tag (length c) (words c)) (i : ℕ) (l : i < length h.ps)
    (fit : fits (size_for c) (home_of g i (get_or h.ps i no_laid_home)).room ≡ true) where
  abbrev F : List Entry
  F = front g s OrderlyE h quiet tag c w i l fit

  abbrev B : List Entry
  B = back g s OrderlyE h quiet tag c w i l fit

  abbrev N : Entry
  N = new g s OrderlyE h quiet tag c w i l fit

  abbrev M : List Step
  M = most_filling g s OrderlyE h quiet tag c w i l fit

  abbrev X : Step
  X = last_step g s OrderlyE h quiet tag c w i l fit

  qs : Quiet (sum F B)
  qs = quiet_sum g s OrderlyE h quiet tag c w i l fit

  ms : Means b (sum F B)
  ms = means_sum g b s h quiet means tag c w i l fit

  out' : (p : Descriptor → Bool) → p N.descriptor ≡ false → pick p (F ++ N ∷ B) ≡ pick p F ++ pick p B
  out' p k = out g b s h quiet means tag c w i l fit p N k

  module _ (f : ℕ) (tr : is_transaction N.descriptor ≡ false) (numbered : num N ≡ f) (t : Entry) (ts : List Entry) (open_are : pick is_open (all_entries g 0 h.ps) ≡ t ∷ ts) where
    abbrev mine : Entry → Bool
    mine e = is_pending_file e.descriptor && of_file f e

    abbrev b' : Keeping
    b' = changes_to f (cond (is_data N.descriptor) (some (view N)) none) b

    open_sum : pick is_open F ++ pick is_open B ≡ t ∷ ts
    open_sum = sym (ap (λ (x : Sorted). x.opened) (before_lists g s OrderlyE h quiet tag c w i l fit)) ∙ open_are

    pend_in : pick is_pending_file (F ++ N ∷ B) ≡ pick is_pending_file F ++ N ∷ pick is_pending_file B
    unfolding is_pending_file is_pending pick
    pend_in = filter_in (λ (y : Entry). is_pending_file y.descriptor) F N B (ap not tr)

    -- other files' pending entries are as before
    others_in : (n : ℕ) → n ≢ f → filter (of_file n) (pick is_pending_file (F ++ N ∷ B)) ≡ filter (of_file n) (pick is_pending_file F ++ pick is_pending_file B)
    unfolding of_file
    others_in n z =
        ap (filter (of_file n)) pend_in
        ∙ filter_out (of_file n) (pick is_pending_file F) N (pick is_pending_file B) (differ (λ (e : num N ≡ n). z (sym e ∙ numbered)))
        ∙ sym (filter_append (of_file n) (pick is_pending_file F) (pick is_pending_file B))

    mine_is : (x : List Entry) → filter (of_file f) (pick is_pending_file x) ≡ filter mine x
    unfolding pick
    mine_is x = filter_filter (λ (e : Entry). is_pending_file e.descriptor) (of_file f) x

    here_in : filter (of_file f) (pick is_pending_file (F ++ N ∷ B)) ≡ filter mine F ++ N ∷ filter mine B
    unfolding of_file
    here_in =
        ap (filter (of_file f)) pend_in
        ∙ filter_in (of_file f) (pick is_pending_file F) N (pick is_pending_file B) (ap (λ (n : ℕ). eqb n f) numbered ∙ eqb_same f)
        ∙ ap₂ (λ (x y : List Entry). x ++ N ∷ y) (mine_is F) (mine_is B)

    -- the pending ones of file f, before the store: at most one
    count : filter (of_file (num N)) (pick is_pending_file F ++ pick is_pending_file B) ≡ filter mine F ++ filter mine B
    count = ap (λ (n : ℕ). filter (of_file n) (pick is_pending_file F ++ pick is_pending_file B)) numbered ∙ filter_append (of_file f) (pick is_pending_file F) (pick is_pending_file B) ∙ ap₂ (λ (x y : List Entry). x ++ y) (mine_is F) (mine_is B)

    few : length (filter mine F ++ filter mine B) ≤ 1
    few = subst (λ (x : List Entry). length x ≤ 1) count (pairs_few (num N) (pick is_pending_file F ++ pick is_pending_file B) qs.pending)

    -- entries es that are as before but for what is pending, no file twice, are quiet
    quiet_change : (es : List Entry) → pick is_torn es ≡ pick is_torn F ++ pick is_torn B → pick is_allocated es ≡ pick is_allocated F ++ pick is_allocated B → pick is_committed es ≡ pick is_committed F ++ pick is_committed B
        → pick is_open es ≡ pick is_open F ++ pick is_open B → pick is_current_file es ≡ pick is_current_file F ++ pick is_current_file B → pairs (pick is_pending_file es) ≡ 0 → Quiet (sorted es)
    quiet_change es pt pa pc po pu pp =
        record {
          torn = pt ∙ qs.torn;
          allocated = pa ∙ qs.allocated;
          committed = pc ∙ qs.committed;
          opened = omega (arith, one);
          current = ap pairs pu ∙ qs.current;
          data' = ap data_only pu ∙ qs.data';
          pending = pp;
          beside = or_left (eqb (length (pick is_pending_file es)) 0) (ap (λ (n : ℕ). eqb n 1) one);
        }
      where
        one : length (pick is_open es) ≡ 1
        one = omega (arith, ap length po, ap length open_sum, qs.opened)

    -- none earlier: the last step of the filling makes the change
    alone_last : filter mine F ≡ [] → filter mine B ≡ [] → LastOf (Inv g b) (StoreEnds g b') s (M ++ X ∷ [])
    unfolding is_torn is_allocated is_committed is_current is_open is_pending is_current_file
    alone_last nf nb =
        record {
          most = M;
          last = X;
          whole = refl;
          along = along_before g b s h quiet means tag c w i l fit;
          final = ends g b' (finish (M ++ X ∷ []) s) (F ++ N ∷ B) (most_means g b s h quiet means tag c w i l fit).1
              (quiet_change (F ++ N ∷ B) (out' is_torn refl) (out' is_allocated refl) (out' is_committed refl) (out' is_open tr) (out' is_current_file refl) (omega (arith, ap pairs pend_in, pairs_mid (pick is_pending_file F) N (pick is_pending_file B), qs.pending, ap length count, ap₂ (λ (x y : List Entry). length (x ++ y)) nf nb)))
              (change_more b (sum F B) (sorted (F ++ N ∷ B)) qs ms t ts open_sum (out' is_committed refl) (out' is_open tr) (out' is_current_file refl) f N (here_in ∙ ap₂ (λ (x y : List Entry). x ++ N ∷ y) nf nb) others_in);
        }

    -- one earlier: between the two steps the file has two, and the transaction cannot go on
    twice_means : 0 < length (filter mine F ++ filter mine B) → Means b (sorted (F ++ N ∷ B))
    unfolding is_committed is_current is_current_file is_open is_pending
    twice_means two =
        record {
          weakly = record {
            files = λ n. (λ j. shown_of (yield_by ((out' is_committed refl ∙ qs.committed) j) (pick is_pending_file (F ++ N ∷ B)) (out' is_current_file refl j) n))
                ∙ sym (ap (λ (x : List Entry). shown_of (yield_by x (pick is_pending_file F ++ pick is_pending_file B) (pick is_current_file F ++ pick is_current_file B) n)) qs.committed) ∙ ms.weakly.files n;
            matches = subst (λ (x : List Entry). Match x (pick is_pending_file (F ++ N ∷ B)) b.changes) (sym (out' is_open tr ∙ open_sum))
                (mt.0, mt.1, λ z n. absurd (let v : ⊥ = omega (arith, ap pairs pend_in, z, pairs_mid (pick is_pending_file F) N (pick is_pending_file B), ap length count) in v));
          };
          alone = λ z. absurd (let v : ⊥ = omega (arith, ap length (sym z ∙ out' is_open tr ∙ open_sum)) in v);
        }
      where
        mt : (o : Drafts) × (b.changes ≡ some o) × (pairs (pick is_pending_file F ++ pick is_pending_file B) ≡ 0 → (n : ℕ) → change_of (pick is_pending_file F ++ pick is_pending_file B) n ≡ o n)
        mt = subst (λ (x : List Entry). Match x (pick is_pending_file F ++ pick is_pending_file B) b.changes) open_sum ms.weakly.matches

    -- the earlier one o, wherever it stands
    with_earlier : (A : List Entry) (o : Entry) (D : List Entry) → F ++ N ∷ B ≡ A ++ o ∷ D → is_pending_file o.descriptor ≡ true → num o ≡ f → 0 < length (filter mine F ++ filter mine B)
        → filter mine A ++ filter mine D ≡ N ∷ [] → LastOf (Inv g b) (StoreEnds g b') s ((M ++ X ∷ []) ++ program o.place 0xFFF0 ∷ [])
    unfolding finish is_committed is_current is_torn is_allocated is_pending is_pending_file pick is_open is_transaction is_current_file of_file
    with_earlier A o D whole' pend num_o two left' =
        record {
          most = M ++ X ∷ [];
          last = program o.place 0xFFF0;
          whole = refl;
          along = along_append (Inv g b) M (X ∷ []) s (along_before g b s h quiet means tag c w i l fit) (along_last (Inv g b) M s (along_before g b s h quiet means tag c w i l fit), mid);
          final = subst (StoreEnds g b') (sym (finish_append (M ++ X ∷ []) (program o.place 0xFFF0 ∷ []) s)) (ends g b' (finish (program o.place 0xFFF0 ∷ []) (finish (M ++ X ∷ []) s)) es after' quiet' means');
        }
      where
        es : List Entry
        es = A ++ set_e 0xFFF0 o ∷ D

        Z : HeldEntries g (λ x. x ≡ F ++ N ∷ B) (finish (M ++ X ∷ []) s)
        Z = (most_means g b s h quiet means tag c w i l fit).1

        ord : Orderly (sorted (F ++ N ∷ B))
        ord = pend_ok F N B qs refl tr

        mid : Inv g b (made X (finish M s))
        mid = inv_held g b s h quiet means tag c w i l fit (made X (finish M s)) b
            (held_map g (λ x. x ≡ F ++ N ∷ B) (λ x. Orderly (sorted x) × Means b (sorted x)) (λ x e. subst (λ (y : List Entry). Orderly (sorted y) × Means b (sorted y)) (sym e) (ord, twice_means two)) (made X (finish M s))
            (subst (HeldEntries g (λ x. x ≡ F ++ N ∷ B)) (finish_append M (X ∷ []) s) Z))

        unf : UnfinishedLists (sorted (A ++ o ∷ D))
        unf = subst (λ (x : List Entry). UnfinishedLists (sorted x)) whole' (go ord)
          where
            go : Orderly (sorted (F ++ N ∷ B)) → UnfinishedLists (sorted (F ++ N ∷ B))
            go (unfinished u) = u
            go (committing k) = absurd (let z : ⊥ = omega (arith, k.committed, ap length (out' is_committed refl ∙ qs.committed)) in z)

        none_torn : pick is_torn (A ++ o ∷ D) ≡ []
        none_torn = ap (pick is_torn) (sym whole') ∙ out' is_torn refl ∙ qs.torn

        none_alloc : pick is_allocated (A ++ o ∷ D) ≡ []
        none_alloc = ap (pick is_allocated) (sym whole') ∙ out' is_allocated refl ∙ qs.allocated

        after' : HeldEntries g (λ x. x ≡ es) (finish (program o.place 0xFFF0 ∷ []) (finish (M ++ X ∷ []) s))
        after' = (along_held g OrderlyE (old_turn A o D pend unf none_torn none_alloc) (finish (M ++ X ∷ []) s) (subst (λ (y : List Entry). HeldEntries g (λ x. x ≡ y) (finish (M ++ X ∷ []) s)) whole' Z)).1

        fl : o.descriptor.flags ≡ 0xFFFC
        fl = flags_of 0xFFFC o.descriptor (and_l (is_pending o.descriptor) (not (is_transaction o.descriptor)) pend)

        tr_o : is_transaction o.descriptor ≡ false
        tr_o = not-true (is_transaction o.descriptor) (and_r (is_pending o.descriptor) (not (is_transaction o.descriptor)) pend)

        keep : (q : Descriptor → Bool) → q o.descriptor ≡ false → q (with_flags 0xFFF0 o.descriptor) ≡ false → q N.descriptor ≡ false → pick q es ≡ pick q F ++ pick q B
        keep q x y z = pick_same q A o D 0xFFF0 x y ∙ ap (pick q) (sym whole') ∙ out' q z

        pend_out : pick is_pending_file es ≡ pick is_pending_file A ++ pick is_pending_file D
        pend_out = filter_out (λ (x : Entry). is_pending_file x.descriptor) A (set_e 0xFFF0 o) D refl

        pend_whole : pick is_pending_file A ++ o ∷ pick is_pending_file D ≡ pick is_pending_file F ++ N ∷ pick is_pending_file B
        pend_whole = sym (filter_in (λ (x : Entry). is_pending_file x.descriptor) A o D pend) ∙ ap (pick is_pending_file) (sym whole') ∙ pend_in

        mine_left : filter (of_file f) (pick is_pending_file A ++ pick is_pending_file D) ≡ N ∷ []
        mine_left = filter_append (of_file f) (pick is_pending_file A) (pick is_pending_file D) ∙ ap₂ (λ (x y : List Entry). x ++ y) (mine_is A) (mine_is D) ∙ left'

        once : pairs (pick is_pending_file A ++ pick is_pending_file D) ≡ 0
        once = omega (
          arith,
          ap pairs pend_whole,
          pairs_mid (pick is_pending_file A) o (pick is_pending_file D),
          pairs_mid (pick is_pending_file F) N (pick is_pending_file B),
          qs.pending,
          ap length count,
          few,
          ap (λ (n : ℕ). length (filter (of_file n) (pick is_pending_file A ++ pick is_pending_file D))) num_o,
          ap length mine_left,
        )

        quiet' : Quiet (sorted es)
        quiet' = quiet_change es (keep is_torn (by_flags is_torn o.descriptor fl refl) refl refl) (keep is_allocated (by_flags is_allocated o.descriptor fl refl) refl refl) (keep is_committed (by_flags is_committed o.descriptor fl refl) refl refl)
            (keep is_open (by_flags is_open o.descriptor fl tr_o) refl tr) (keep is_current_file (by_flags is_current_file o.descriptor fl refl) refl refl) (ap pairs pend_out ∙ once)

        means' : Means b' (sorted es)
        means' = change_more b (sum F B) (sorted es) qs ms t ts open_sum (keep is_committed (by_flags is_committed o.descriptor fl refl) refl refl) (keep is_open (by_flags is_open o.descriptor fl tr_o) refl tr) (keep is_current_file (by_flags is_current_file o.descriptor fl refl) refl refl) f N
            (ap (filter (of_file f)) pend_out ∙ mine_left)
            (λ n z. ap (filter (of_file n)) pend_out ∙ filter_append (of_file n) (pick is_pending_file A) (pick is_pending_file D)
            ∙ sym (filter_out (of_file n) (pick is_pending_file A) o (pick is_pending_file D) (differ (λ (e : num o ≡ n). z (sym e ∙ num_o))))
            ∙ ap (filter (of_file n)) (sym (filter_in (λ (x : Entry). is_pending_file x.descriptor) A o D pend) ∙ ap (pick is_pending_file) (sym whole'))
            ∙ others_in n z)

    -- whichever it is, and where there is none
    pub change_last : LastOf (Inv g b) (StoreEnds g b') s ((M ++ X ∷ []) ++ become 0xFFF0 (earlier_of f (the_survey g h.us h.ps h.sp h.stands)))
    unfolding earlier_of select of_file is_pending_file is_pending become
    change_last = subst (λ (x : List Entry). LastOf (Inv g b) (StoreEnds g b') s ((M ++ X ∷ []) ++ become 0xFFF0 x)) (sym earlier_are) (go (filter mine F) (filter mine B) refl refl)
      where
        earlier_are : earlier_of f (the_survey g h.us h.ps h.sp h.stands) ≡ filter mine F ++ filter mine B
        earlier_are =
            ap (λ (x : Sorted). filter (of_file f) x.pending) (before_lists g s OrderlyE h quiet tag c w i l fit)
            ∙ filter_append (of_file f) (pick is_pending_file F) (pick is_pending_file B)
            ∙ ap₂ (λ (x y : List Entry). x ++ y) (mine_is F) (mine_is B)

        file_of_lem : (o : Entry) → mine o ≡ true → (is_pending_file o.descriptor ≡ true) × (num o ≡ f)
        file_of_lem o k = (and_l (is_pending_file o.descriptor) (of_file f o) k, eq_of (num o) f (and_r (is_pending_file o.descriptor) (of_file f o) k))

        mine_n : mine N ≡ true
        mine_n = both (ap not tr) (ap (λ (n : ℕ). eqb n f) numbered ∙ eqb_same f)

        go : (x y : List Entry) → filter mine F ≡ x → filter mine B ≡ y → LastOf (Inv g b) (StoreEnds g b') s ((M ++ X ∷ []) ++ become 0xFFF0 (x ++ y))
        go [] [] p q = subst (LastOf (Inv g b) (StoreEnds g b') s) (sym (append-nil (M ++ X ∷ []))) (alone_last p q)
        go (o ∷ []) [] p q =
            with_earlier hd.front o (hd.back ++ N ∷ B) (ap (λ (x : List Entry). x ++ N ∷ B) hd.whole ∙ append_assoc hd.front (o ∷ hd.back) (N ∷ B)) (file_of_lem o hd.pass).0 (file_of_lem o hd.pass).1
            (omega (arith, ap length p, length-append (filter mine F) (filter mine B)))
            (ap₂ (λ (x y : List Entry). x ++ y) hd.none (filter_in mine hd.back N B mine_n ∙ ap₂ (λ (x y : List Entry). x ++ N ∷ y) hd.rest q))
          where
            hd : FirstThat mine F o []
            hd = filter_head mine F o [] p
        go [] (o ∷ []) p q =
            with_earlier (F ++ N ∷ hd.front) o hd.back (ap (λ (x : List Entry). F ++ N ∷ x) hd.whole ∙ sym (append_assoc F (N ∷ hd.front) (o ∷ hd.back))) (file_of_lem o hd.pass).0 (file_of_lem o hd.pass).1
            (omega (arith, ap length q, length-append (filter mine F) (filter mine B)))
            (ap₂ (λ (x y : List Entry). x ++ y) (filter_in mine F N hd.front mine_n ∙ ap₂ (λ (x y : List Entry). x ++ N ∷ y) p hd.none) hd.rest)
          where
            hd : FirstThat mine B o []
            hd = filter_head mine B o [] q
        go (o ∷ []) (u ∷ y) p q = absurd (let z : ⊥ = omega (arith, few, ap length p, ap length q, length-append (filter mine F) (filter mine B)) in z)
        go [] (o ∷ (u ∷ y)) p q = absurd (let z : ⊥ = omega (arith, few, ap length p, ap length q, length-append (filter mine F) (filter mine B)) in z)
        go (o ∷ (u ∷ x)) y p q = absurd (let z : ⊥ = omega (arith, few, ap length p, ap length q, length-append (filter mine F) (filter mine B)) in z)
