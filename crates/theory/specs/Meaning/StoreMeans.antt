-- A store into a home that fits: nothing changes in what the store means before its last step, and that makes the change.
use Rattle.std.specs.Prelude.{Bool, false, true, List, [], ◌++◌, ◌∷◌, ◌≢◌, ◌≡◌, refl, ◌%◌, ◌*◌, ◌+◌, ◌-◌, ◌/◌, ◌<◌, ◌≤◌, suc, ℕ, drop, get_or, length, Some}
use Rattle.std.proofs.Common.{append_assoc, ◌∙◌, subst, subst₂, sym, arith, length-append, length-take, take_all}
use Rattle.std.proofs.Math.Path.{ap}
use Rattle.std.proofs.Math.Decide.{dec_lt}
use Rattle.std.proofs.Math.ListN.{take}
use Rattle.std.proofs.lemmas.List.{take-append-le}
use Rattle.rules.specs.Answers.{Outcome, ended, number}
use Rattle.rules.specs.Flash.{Bytes, State, Step, finish, run, state, steps_of, words}
use Rattle.rules.specs.Jobs.{fits, size_for, vacant}
use Rattle.rules.specs.Settled.{Entry, pick}
use Rattle.rules.specs.Unit.{Descriptor, has_sector, is_allocated, is_committed, is_current, is_current_file, is_empty, is_listed, is_old, is_open, is_pending, is_pending_file, is_torn, is_void, stands}
use Rattle.rules.specs.declared.Geometry.{Geometry}
use Rattle.rules.specs.declared.Handle.{Handle}
use Rattle.laws.specs.Runs.{finish_append, run_done, steps_append}
use Rattle.theory.specs.Base.Facts.{all_uncons, filter_out, length_mid, lt_of}
use Rattle.theory.specs.Base.Along.{Along, along_append, along_map, along_run, image_of, run_stopped, steps_finish}
use Rattle.theory.specs.Images.Layout.{are_bytes, is_byte}
use Rattle.theory.specs.Images.Model.{all_entries, home_of, no_laid_home}
use Rattle.theory.specs.Tidying.Sorted.{Orderly, OrderlyE, Quiet, Sorted, by_flags, sorted, view, yield_by}
use Rattle.theory.specs.Tidying.Held.{HeldEntries, Safe, held_map}
use Rattle.theory.specs.Storing.Fill.{words_length, words_bytes}
use Rattle.theory.specs.Storing.Placed.{alloc_ok, sum, torn_ok}
use Rattle.theory.specs.Storing.Store.{Ready}
use Rattle.theory.specs.Storing.Ready.{Writing}
use Rattle.theory.specs.Storing.Stores.{along_most, back, before_lists, found_here, front, last_step, most_filling, new, p, quiet_sum, where'}
use Rattle.theory.specs.Moves.FillFew.{steps_few}
use Rattle.theory.specs.Mounting.Kept.{calmly}
use Rattle.theory.specs.Meaning.Means.{Match, Means, Keeping, shown_of}
use Rattle.theory.specs.Meaning.MeansMount.{Inv, held_lists}

-- ---- the content of what is stored
take_words : (c r : Bytes) → are_bytes c ≡ true → take (length c) (words_bytes (words c) r) ≡ c
unfolding words
take_words [] r h = refl
take_words (a ∷ []) r h = λ i. low i ∷ []
  where
    small : a < 256
    small = lt_of a 256 (all_uncons is_byte a [] h).0

    low : (a + 256 * 255) % 256 ≡ a
    low = omega (arith, small)
take_words (a ∷ (b ∷ c)) r h = λ i. low i ∷ (high i ∷ take_words c r (all_uncons is_byte b c (all_uncons is_byte a (b ∷ c) h).1).1 i)
  where
    small : a < 256
    small = lt_of a 256 (all_uncons is_byte a (b ∷ c) h).0

    low : (a + 256 * b) % 256 ≡ a
    low = omega (arith, small)

    high : (a + 256 * b) / 256 ≡ b
    high = omega (arith, small)

-- ---- what the store means is read from four of the lists
pub means_four : (b : Keeping) (l k : Sorted) → k.committed ≡ l.committed → k.opened ≡ l.opened → k.pending ≡ l.pending → k.current ≡ l.current → Means b l → Means b k
means_four b l k pc po pp pu h =
    record {
      weakly = record {
        files = λ f. (λ i. shown_of (yield_by (pc i) (pp i) (pu i) f)) ∙ h.weakly.files f;
        matches = subst₂ (λ (x y : List Entry). Match x y b.changes) (sym po) (sym pp) h.weakly.matches;
      };
      alone = λ e. h.alone (sym po ∙ e);
    }

-- ---- a job with its last step
pub record LastOf (P Q : Bytes → Type 0) (s : Bytes) (job : List Step) : Type 0 where
  pub most : List Step
  pub last : Step
  pub whole : job ≡ most ++ last ∷ []
  pub along : Along P s most
  pub final : Q (finish job s)

pub last_after : (P Q : Bytes → Type 0) (s : Bytes) (pre job : List Step) → Along P s pre → LastOf P Q (finish pre s) job → LastOf P Q s (pre ++ job)
last_after P Q s pre job a l =
    record {
      most = pre ++ l.most;
      last = l.last;
      whole = ap (λ (x : List Step). pre ++ x) l.whole ∙ sym (append_assoc pre l.most (l.last ∷ []));
      along = along_append P pre l.most s a l.along;
      final = subst Q (sym (finish_append pre job s)) l.final;
    }

-- as a call: P where it is stopped, Q where it is done
pub record LastMade (P Q : Bytes → Type 0) (o : Outcome) : Type 0 where
  pub done : number o.answer ≡ 0 → Q o.image
  pub stopped : number o.answer ≢ 0 → P o.image

pub last_made : (P Q : Bytes → Type 0) (h : Handle) (s : Bytes) (job : List Step) → LastOf P Q s job → (k : ℕ) → LastMade P Q (ended h k (run job (state s (Some k))))
unfolding ended number
last_made P Q h s job l k = go (dec_lt k (length (steps_of job s)))
  where
    xs : List Step
    xs = l.most

    all_steps : steps_of job s ≡ steps_of xs s ++ steps_of (l.last ∷ []) (finish xs s)
    all_steps = ap (λ (j : List Step). steps_of j s) l.whole ∙ steps_append xs (l.last ∷ []) s

    one_more_lem : length (steps_of (l.last ∷ []) (finish xs s)) ≤ 1
    one_more_lem = steps_few (l.last ∷ []) (finish xs s)

    total : length (steps_of job s) ≡ length (steps_of xs s) + length (steps_of (l.last ∷ []) (finish xs s))
    total = ap length all_steps ∙ length-append (steps_of xs s) (steps_of (l.last ∷ []) (finish xs s))

    ran : P (image_of (run xs (state s (Some k))))
    ran = along_run P xs k s l.along

    part : k ≤ length (steps_of xs s) → P (finish (take k (steps_of xs s)) s)
    part m = which (dec_lt k (length (steps_of xs s)))
      where
        which : Dec (k < length (steps_of xs s)) → P (finish (take k (steps_of xs s)) s)
        which (yes z) = subst (λ (r : State). P (image_of r)) (run_stopped xs k s z) ran
        which (no z) = subst P (sym (ap (λ (j : List Step). finish j s) (take_all k (steps_of xs s) (omega arith)) ∙ steps_finish xs s)) (subst (λ (r : State). P (image_of r)) (run_done xs k s (omega arith)) ran)

    go : Dec (k < length (steps_of job s)) → LastMade P Q (ended h k (run job (state s (Some k))))
    go (yes z) = subst (λ (r : State). LastMade P Q (ended h k r)) (sym (run_stopped job k s z))
        (record {
          done = λ e. absurd (let w : ⊥ = omega arith in w);
          stopped = λ e. subst P (sym (ap (λ (j : List Step). finish j s) (ap (take k) all_steps ∙ take-append-le k (steps_of xs s) (steps_of (l.last ∷ []) (finish xs s)) (omega (arith, total, one_more_lem))))) (part (omega (arith, total, one_more_lem)));
        })
    go (no z) = subst (λ (r : State). LastMade P Q (ended h k r)) (sym (run_done job k s (omega arith)))
        (record { done = λ e. l.final; stopped = λ n. absurd (n refl) })

-- ---- the place: home i of an image that is kept and means b
module _ (g : Geometry) (b : Keeping) (s : Bytes) (h : Safe g s) (quiet : Quiet (sorted (all_entries g 0 h.ps))) (means : Means b (sorted (all_entries g 0 h.ps))) (tag : ℕ) (c : Bytes) (w : Writing tag (length c) (words c)) (i : ℕ) (l : i < length h.ps)
    (fit : fits (size_for c) (home_of g i (get_or h.ps i no_laid_home)).room ≡ true) where
  abbrev F : List Entry
  F = front g s OrderlyE h quiet tag c w i l fit

  abbrev B : List Entry
  B = back g s OrderlyE h quiet tag c w i l fit

  abbrev N : Entry
  N = new g s OrderlyE h quiet tag c w i l fit

  abbrev M : List Step
  M = most_filling g s OrderlyE h quiet tag c w i l fit

  abbrev X : Step
  X = last_step g s OrderlyE h quiet tag c w i l fit

  abbrev Both' : List Entry → Type 0
  Both' x = Orderly (sorted x) × Means b (sorted x)

  pub means_sum : Means b (sum F B)
  means_sum = subst (Means b) (before_lists g s OrderlyE h quiet tag c w i l fit) means

  qs : Quiet (sum F B)
  qs = quiet_sum g s OrderlyE h quiet tag c w i l fit

  -- an entry that is in none of the four
  pub out : (p : Descriptor → Bool) (x : Entry) → p x.descriptor ≡ false → pick p (F ++ x ∷ B) ≡ pick p F ++ pick p B
  unfolding pick
  out p x k = filter_out (λ (y : Entry). p y.descriptor) F x B k

  means_beside : (x : Entry) → is_committed x.descriptor ≡ false → is_open x.descriptor ≡ false → is_pending_file x.descriptor ≡ false → is_current_file x.descriptor ≡ false → Means b (sorted (F ++ x ∷ B))
  means_beside x a d e f = means_four b (sum F B) (sorted (F ++ x ∷ B)) (out is_committed x a) (out is_open x d) (out is_pending_file x e) (out is_current_file x f) means_sum

  pub most_means : Along (HeldEntries g (λ x. Orderly (sorted x) × Means b (sorted x))) s M × HeldEntries g (λ x. x ≡ F ++ N ∷ B) (finish (M ++ X ∷ []) s)
  unfolding is_committed is_current is_open is_pending is_pending_file is_current_file
  most_means =
      along_most g s OrderlyE h quiet tag c w i l fit Both'
      (λ x fl t. (torn_ok F x B qs fl t, means_beside x (by_flags is_committed x.descriptor fl refl) (by_flags is_open x.descriptor fl refl) (by_flags is_pending_file x.descriptor fl refl) (by_flags is_current_file x.descriptor fl refl)))
      (λ x fl. (alloc_ok F x B qs fl, means_beside x (by_flags is_committed x.descriptor fl refl) (by_flags is_open x.descriptor fl refl) (by_flags is_pending_file x.descriptor fl refl) (by_flags is_current_file x.descriptor fl refl)))
      (record { us = h.us; ps = h.ps; sp = h.sp; image = h.image; stands = h.stands; ups = h.ups; bare = h.bare; holds = (h.holds, means) })

  pub inv_held : (u : Bytes) (b' : Keeping) → HeldEntries g (λ x. Orderly (sorted x) × Means b' (sorted x)) u → Inv g b' u
  inv_held u b' z =
      record {
        kept = calmly (held_map g (λ x. Orderly (sorted x) × Means b' (sorted x)) OrderlyE (λ x p. p.0) u z);
        means = subst (Means b') (sym (held_lists g (λ x. Orderly (sorted x) × Means b' (sorted x)) u z)) z.holds.1;
      }

  pub along_before : Along (Inv g b) s M
  along_before = along_map (HeldEntries g Both') (Inv g b) (λ u z. inv_held u b z) M s most_means.0

  new_content : are_bytes c ≡ true → N.content ≡ c
  unfolding stands size_for has_sector is_allocated is_pending is_current is_old is_listed is_empty is_torn is_void
  new_content by = ap (λ (n : ℕ). take (length c) (drop n W)) none ∙ take_words c (p g s OrderlyE h quiet tag c w i l fit).rest by
    where
      W : Bytes
      W = words_bytes (words c) (get_or h.ps i no_laid_home).rest

      R : Ready g (take i h.ps) (drop (suc i) h.ps) h.sp (get_or h.ps i no_laid_home) (found_here g s OrderlyE h quiet tag c w i l fit).xs (found_here g s OrderlyE h quiet tag c w i l fit).ys (found_here g s OrderlyE h quiet tag c w i l fit).free tag (length c) (where' g s OrderlyE h quiet tag c w i l fit) (words c) s
      R = (found_here g s OrderlyE h quiet tag c w i l fit).ready

      none : length W + where' g s OrderlyE h quiet tag c w i l fit - g.size ≡ 0
      none = omega (
        arith,
        words_length (words c) (get_or h.ps i no_laid_home).rest,
        w.words_are,
        R.off_is,
        R.fit,
        (R.good (record { flags = 0; offset = 0; len = 0; tag = 0 }) refl refl refl).fills,
        length_mid (found_here g s OrderlyE h quiet tag c w i l fit).xs (record { flags = 0; offset = 0; len = 0; tag = 0 }) (record { flags = 0xFFFF; offset = where' g s OrderlyE h quiet tag c w i l fit; len = length c; tag = tag }) (found_here g s OrderlyE h quiet tag c w i l fit).ys,
      )

  -- the new entry's handle and content
  pub new_view : are_bytes c ≡ true → view N ≡ record { at = record { unit = i; position = vacant (get_or h.ps i no_laid_home).array }; content = c }
  new_view by = λ j. record { at = record { unit = unit' j; position = position' j }; content = content' j }
    where
      unit' : 0 + length (take i h.ps) ≡ i
      unit' = omega (arith, length-take i h.ps, l)

      position' : 0 + length (found_here g s OrderlyE h quiet tag c w i l fit).xs ≡ vacant (get_or h.ps i no_laid_home).array
      position' = omega (arith, (found_here g s OrderlyE h quiet tag c w i l fit).pos)

      content' : N.content ≡ c
      content' = new_content by
