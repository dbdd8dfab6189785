-- A store wherever it is placed, with what it makes of the plain store; begin, write and delete as calls.
use Rattle.std.specs.Prelude.{cond, false, ◌≡◌, ◌%◌, ◌+◌, ◌-◌, ◌/◌, ◌<◌, ℕ, eqb, get_or}
use Rattle.std.proofs.Math.Bool.{true}
use mathlib.Core.List.{List, [], ◌++◌, ◌∷◌}
use Rattle.std.proofs.Math.Option.{none, some}
use Rattle.std.proofs.Common.{◌∙◌, sym}
use Rattle.std.proofs.Math.Path.{ap, refl, subst}
use native.Mathlib.Omega.{arith}
use Rattle.std.proofs.Math.ListN.{length}
use Rattle.rules.specs.Flash.{Bytes, Step, finish, words}
use Rattle.rules.specs.Jobs.{Place, Stored, Storing, can, cannot, become, earlier_of, fill_in, fits, no_earlier, place, size_for, store_at, store_in, store_job, vacant}
use Rattle.rules.specs.Lists.{is_none}
use Rattle.rules.specs.Settled.{Entry, Home, Survey, physical, pick, survey}
use Rattle.rules.specs.Unit.{file_of, is_data, is_open, is_transaction, stands, transaction_tag}
use Rattle.rules.specs.declared.Geometry.{Geometry}
use Rattle.rules.specs.declared.Rule.{Rule}
use Rattle.rules.specs.declared.Handle.{Handle}
use Rattle.theory.specs.Base.Facts.{append-nil, is_nil, length_mid, true_false}
use Rattle.theory.specs.Base.Along.{Along}
use Rattle.theory.specs.Images.Layout.{are_bytes}
use Rattle.theory.specs.Images.Model.{all_entries, LaidHome, no_laid_home, the_survey}
use Rattle.theory.specs.Tidying.Sorted.{OrderlyE, Quiet, View, sorted}
use Rattle.theory.specs.Tidying.Held.{Safe, survey_is}
use Rattle.theory.specs.Moves.Moving.{home_get}
use Rattle.theory.specs.Storing.Ready.{Writing}
use Rattle.theory.specs.Storing.Stores.{filling}
use Rattle.theory.specs.Moves.Alike.{alike_length}
use Rattle.theory.specs.Moves.Moved.{lists_alike, of_open}
use Rattle.theory.specs.Moves.Move.{OldErased, Setting, copy_home, homes_before}
use Rattle.theory.specs.Moves.Stages.{along_whole, moving}
use Rattle.theory.specs.Moves.MoveJobs.{quiet_after}
use Rattle.theory.specs.Storing.Place.{Placed, fits_here, fits_nowhere, fits_then, placed, room_here}
use Rattle.theory.specs.Mounting.Kept.{calmly, copy_there, home_split, reclaim_is, room_then_lem, safe_then, setting, start, while_moving}
use Rattle.theory.specs.Meaning.Means.{Means, Keeping, means_moved}
use Rattle.theory.specs.Meaning.MeansMount.{Inv, at_stage, held_lists}
use Rattle.theory.specs.Meaning.StoreMeans.{LastOf, last_after, new_view}
use Rattle.theory.specs.Meaning.StoreFinal.{StoreEnds, begins, changes_to, open_last}
use Rattle.theory.specs.Meaning.StoreChange.{change_last}

-- what a store at handle a is for: to open a transaction, or to change file f
pub data Aim (b : Keeping) (tag : ℕ) (c : Bytes) (a : Handle) : (Survey → List Entry) → Keeping → Type 0 where
  to_open : tag ≡ transaction_tag → Aim b tag c a no_earlier (begins b)
  to_change : (f : ℕ) → eqb tag transaction_tag ≡ false → tag % 256 ≡ f → Aim b tag c a (earlier_of f) (changes_to f (cond (eqb (tag / 256) 16) (some (record { at = a; content = c })) none) b)

-- whether a transaction is open, as the aim asks
abbrev pub Asks : {b : Keeping} {tag : ℕ} {c : Bytes} {a : Handle} {earlier : Survey → List Entry} {b' : Keeping} → Aim b tag c a earlier b' → List Entry → Type 0
Asks (to_open e) l = l ≡ []
Asks (to_change f n m) l = is_none l ≡ false

module _ (g : Geometry) (b : Keeping) (tag : ℕ) (c : Bytes) (w : Writing tag (length c) (words c)) (bytes : are_bytes c ≡ true) where
  -- into a home that fits
  here_last : (earlier : Survey → List Entry) (b' : Keeping) (s : Bytes) (h : Safe g s) → Quiet (sorted (all_entries g 0 h.ps)) → Means b (sorted (all_entries g 0 h.ps))
      → (i : ℕ) → i < length h.ps → fits (size_for c) (room_here (get_or h.ps i no_laid_home)) ≡ true
      → (k : Aim b tag c (store_in tag c earlier [] i (the_survey g h.us h.ps h.sp h.stands)).at earlier b') → Asks k (pick is_open (all_entries g 0 h.ps))
      → LastOf (Inv g b) (StoreEnds g b') s (store_in tag c earlier [] i (the_survey g h.us h.ps h.sp h.stands)).job
  unfolding is_transaction transaction_tag become no_earlier is_none file_of is_data fill_in physical store_in
  here_last earlier b' s h quiet means i l fit =
      subst (λ (x : Home). (k : Aim b tag c (record { unit = i; position = vacant x.room.array }) earlier b') → Asks k (pick is_open (all_entries g 0 h.ps))
      → LastOf (Inv g b) (StoreEnds g b') s (fill_in (x.unit.base + stands (vacant x.room.array)) x.unit.base (x.room.low - size_for c) tag c ++ become 0xFFF0 (earlier v))) (sym (home_get g 0 h.ps i l)) (λ k ask. go earlier b' k ask)
    where
      v : Survey
      v = the_survey g h.us h.ps h.sp h.stands

      a : Handle
      a = record { unit = i; position = vacant (get_or h.ps i no_laid_home).array }

      go : (earlier : Survey → List Entry) (b' : Keeping) (k : Aim b tag c (record { unit = i; position = vacant (get_or h.ps i no_laid_home).array }) earlier b') → Asks k (pick is_open (all_entries g 0 h.ps)) → LastOf (Inv g b) (StoreEnds g b') s (filling g s OrderlyE h quiet tag c w i l fit ++ become 0xFFF0 (earlier v))
      go ea eb (to_open e) ask =
          subst (LastOf (Inv g b) (StoreEnds g (begins b)) s) (sym (append-nil (filling g s OrderlyE h quiet tag c w i l fit)))
          (open_last g b s h quiet means tag c w i l fit (ap (λ (n : ℕ). eqb n transaction_tag) e) ask)
      go ea eb (to_change f n m) ask = opened' (pick is_open (all_entries g 0 h.ps)) refl ask
        where
          opened' : (x : List Entry) → pick is_open (all_entries g 0 h.ps) ≡ x → is_none x ≡ false
              → LastOf (Inv g b) (StoreEnds g (changes_to f (cond (eqb (tag / 256) 16) (some (record { at = a; content = c })) none) b)) s (filling g s OrderlyE h quiet tag c w i l fit ++ become 0xFFF0 (earlier_of f v))
          opened' [] q z = true_false true refl z
          opened' (t ∷ ts) q z =
              subst (λ (y : View). LastOf (Inv g b) (StoreEnds g (changes_to f (cond (eqb (tag / 256) 16) (some y) none) b)) s (filling g s OrderlyE h quiet tag c w i l fit ++ become 0xFFF0 (earlier_of f v)))
              (new_view g b s h quiet means tag c w i l fit bytes) (change_last g b s h quiet means tag c w i l fit f n m t ts q)

  asks_after : {a : Handle} (earlier : Survey → List Entry) (b' : Keeping) (k : Aim b tag c a earlier b') (x y : List Entry) → length y ≡ length x → Asks k x → Asks k y
  unfolding is_none
  asks_after earlier b' (to_open e) x y q a = is_nil y (q ∙ ap length a)
  asks_after earlier b' (to_change f n m) [] y q a = true_false true refl a
  asks_after earlier b' (to_change f n m) (t ∷ x) [] q a = absurd (let z : ⊥ = omega arith in z)
  asks_after earlier b' (to_change f n m) (t ∷ x) (u ∷ y) q a = refl

  -- wherever it is placed
  pub placed_last : (rule : Rule) (earlier : Survey → List Entry) (b' : Keeping) (s : Bytes) (h : Safe g s) → Quiet (sorted (all_entries g 0 h.ps)) → Means b (sorted (all_entries g 0 h.ps))
      → (r : Stored) → store_job g rule tag c earlier s (survey g s) ≡ can r → (k : Aim b tag c r.at earlier b') → Asks k (pick is_open (all_entries g 0 h.ps)) → LastOf (Inv g b) (StoreEnds g b') s r.job
  unfolding store_at store_in store_job
  placed_last rule earlier b' s h quiet means r e =
      go (place g rule (size_for c) v) (placed g h.ps rule (size_for c) v refl) (ap (store_job g rule tag c earlier s) (sym (survey_is g OrderlyE s h)) ∙ e)
    where
      v : Survey
      v = the_survey g h.us h.ps h.sp h.stands

      value : Storing → Stored
      value (cannot a) = r
      value (can x) = x

      To : Stored → Type 0
      To x = (k : Aim b tag c x.at earlier b') → Asks k (pick is_open (all_entries g 0 h.ps)) → LastOf (Inv g b) (StoreEnds g b') s x.job

      go : (pl : Place) → Placed g h.ps (size_for c) pl → store_at g tag c earlier s v pl ≡ can r → To r
      go pl (fits_here i l fit) q = subst To (ap value q) (here_last earlier b' s h quiet means i l fit)
      go pl (fits_then i l fit) q =
          subst To (ap value q)
          (subst (λ (j : List Step). To (store_in tag c earlier j i (survey g (finish j s)))) (sym (reclaim_is g s h quiet i l))
          (λ k ask. last_after (Inv g b) (StoreEnds g b') s (moving g m) (store_in tag c earlier [] i (survey g s')).job A.0
          (subst (λ (x : Survey). (k : Aim b tag c (store_in tag c earlier [] i x).at earlier b') → Asks k (pick is_open (all_entries g 0 (m.hs ++ copy_home g m ∷ m.bs))) → LastOf (Inv g b) (StoreEnds g b') s' (store_in tag c earlier [] i x).job) (sym (survey_is g OrderlyE s' h'))
          (here_last earlier b' s' h' (quiet_after g m) new_means i inside
          (ap (λ (x : LaidHome). fits (size_for c) (room_here x)) (copy_there g s h quiet i l) ∙ ap (fits (size_for c)) (sym (room_then_lem g s h quiet i l)) ∙ fit))
          k (asks_after earlier b' k (pick is_open (all_entries g 0 h.ps)) (pick is_open (all_entries g 0 (m.hs ++ copy_home g m ∷ m.bs))) opened_same ask))))
        where
          m : Setting g
          m = setting g s h quiet i l

          old_means : Means b (sorted (all_entries g 0 (homes_before g m)))
          old_means = subst (λ (x : List LaidHome). Means b (sorted (all_entries g 0 x))) (home_split g s h quiet i l) means

          new_means : Means b (sorted (all_entries g 0 (m.hs ++ copy_home g m ∷ m.bs)))
          new_means = means_moved g m b old_means

          now : Inv g b s
          now = record { kept = calmly h; means = subst (Means b) (sym (held_lists g OrderlyE s h)) means }

          A : Along (Inv g b) s (moving g m) × OldErased g m (finish (moving g m) s)
          A = along_whole g m (Inv g b) (λ u z. record { kept = while_moving m z; means = at_stage g m (Means b) old_means new_means u z })
              (λ u d. record { kept = calmly (safe_then g s h quiet i l u d); means = subst (Means b) (sym (held_lists g OrderlyE u (safe_then g s h quiet i l u d))) new_means }) s now (start g s h quiet i l)

          s' : Bytes
          s' = finish (moving g m) s

          h' : Safe g s'
          h' = safe_then g s h quiet i l s' A.1

          opened_same : length (pick is_open (all_entries g 0 (m.hs ++ copy_home g m ∷ m.bs))) ≡ length (pick is_open (all_entries g 0 h.ps))
          opened_same = alike_length (lists_alike g m.shape m.p m.good m.sp m.hs m.bs is_open of_open) ∙ ap (λ (x : List LaidHome). length (pick is_open (all_entries g 0 x))) (sym (home_split g s h quiet i l))

          inside : i < length (m.hs ++ copy_home g m ∷ m.bs)
          inside = omega (arith, length_mid m.hs m.p (copy_home g m) m.bs, ap length (home_split g s h quiet i l), l)
      go pl fits_nowhere q = absurd (let z : ◌≡◌ {A = ℕ} 0 1 = cc in let x : ⊥ = omega arith in x)
