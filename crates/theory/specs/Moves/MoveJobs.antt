-- What a mount does at each stage of a move: the same steps, of which those that were made are no steps any more.
use Rattle.std.specs.Prelude.{Bool, ◌≡◌, ◌*◌, ◌+◌, ℕ, get_or, length, replicate}
use Rattle.std.proofs.Math.Bool.{cond, false, true}
use mathlib.Core.List.{List, [], ◌++◌, ◌∷◌}
use Rattle.std.proofs.Common.{◌∙◌, subst, zero-add, arith, length-append}
use Rattle.std.proofs.Math.Path.{ap, refl, sym}
use Rattle.std.specs.Int.Bits.{and_self, bit_and}
use Rattle.std.proofs.Math.Dec.{eqb}
use Rattle.rules.specs.Copy.{fill}
use Rattle.rules.specs.Flash.{Bytes, Step, apply, erase, finish, idle, made, program, steps_of, word}
use Rattle.rules.specs.Jobs.{after_erase, emptied, finish_move, mount_job, move, tidy}
use Rattle.rules.specs.Settled.{Physical, Survey, is_spare, physical, survey}
use Rattle.rules.specs.Sound.{home_at}
use Rattle.rules.specs.Unit.{live, receiving, retired}
use Rattle.rules.specs.declared.Geometry.{Geometry}
use Rattle.laws.specs.Runs.{finish_append}
use Rattle.laws.specs.Words.{two_bytes}
use Rattle.theory.specs.Base.Facts.{eqb_same}
use Rattle.theory.specs.Base.Along.{le, steps_finish}
use Rattle.theory.specs.Images.Units.{join, sized_get, word_unit}
use Rattle.theory.specs.Images.Head.{head_bytes}
use Rattle.theory.specs.Images.Layout.{array_bytes}
use Rattle.theory.specs.Images.Model.{all_entries, LaidHome, Stands, home_of, homes_of, laid, name_of, no_laid_home, state_at, state_word, survey_read, the_survey}
use Rattle.theory.specs.Images.Turn.{homes_mid}
use Rattle.theory.specs.Tidying.Sorted.{Quiet, sorted, tidying}
use Rattle.theory.specs.Tidying.Held.{survey_is}
use Rattle.theory.specs.Tidying.Ends.{tidy_as}
use Rattle.theory.specs.Moves.Within.{WritesCopy, writing, written}
use Rattle.theory.specs.Moves.Moving.{get_mid, home_get}
use Rattle.theory.specs.Moves.Copying.{shifted}
use Rattle.theory.specs.Storing.Stores.{p}
use Rattle.theory.specs.Images.Blank.{spare_name}
use Rattle.theory.specs.Moves.Moved.{moved_quiet}
use Rattle.theory.specs.Moves.Move.{OldErased, Filling, Retired, Setting, CopyLive, as_held, copy_base, copy_body, copy_home, fill_same, fill_shift, fill_steps}
use Rattle.theory.specs.Moves.Move.{fills, homes_before, retired_home, the_copy, the_number}
use Rattle.theory.specs.Moves.Stages.{along_moving, erase_old, make_live, move_is, moving, sealing}

pub idle_at : (s : Bytes) (a v w : ℕ) → word s a ≡ w → idle (program a v) s ≡ eqb (bit_and w v) w
unfolding idle
idle_at s a v w e = ap (λ (x : ℕ). eqb (bit_and x v) x) e

module _ (g : Geometry) (m : Setting g) where
  -- what is tidied once the move is done
  abbrev pub after : List Step
  after = tidying (all_entries g 0 (m.hs ++ copy_home g m ∷ m.bs))

  pub done_tidy : (s : Bytes) → OldErased g m s → tidy (survey g s) ≡ after
  done_tidy s d = ap tidy (survey_is g (λ l. l ≡ all_entries g 0 (m.hs ++ copy_home g m ∷ m.bs)) s (as_held g m s d)) ∙ tidy_as (the_survey g d.us (m.hs ++ copy_home g m ∷ m.bs) m.p.phys d.stands)

  pub quiet_after : Quiet (sorted (all_entries g 0 (m.hs ++ copy_home g m ∷ m.bs)))
  quiet_after = moved_quiet g m.shape m.p m.good m.sp m.hs m.bs m.quiet

  -- ---- the filling, where the copy stands whole, has no steps
  module _ (us : List Bytes) (ps : List LaidHome) (st : Stands g us ps m.sp) (whole : get_or us m.sp [] ≡ the_copy g m) where
    idle_writes : (xs : List Step) → WritesCopy (the_copy g m) xs → steps_of (shifted (copy_base g m) xs) (join us) ≡ []
    unfolding steps_of
    idle_writes [] written = refl
    idle_writes (program a v ∷ xs) (writing C1 v' C2 a' p ev e h rest) =
        ap (λ (b : Bool). elim b as (λ j. List Step) [ true ↦ steps_of (shifted (copy_base g m) xs) (join us) | false ↦ program (copy_base g m + a) v ∷ steps_of (shifted (copy_base g m) xs) (apply (program (copy_base g m + a) v) (join us)) ])
        (idle_at (join us) (copy_base g m + a) v v (ap (λ (n : ℕ). word (join us) (copy_base g m + n)) (sym e) ∙ word_unit g us m.sp C1 v C2 st.sized st.spare (whole ∙ p)) ∙ ap (λ (n : ℕ). eqb n v) (and_self v) ∙ eqb_same v)
        ∙ idle_writes xs rest
    idle_writes (erase _ _ ∷ xs) w = elim w [ ]

    pub idle_filling : steps_of (fill_steps g m) (join us) ≡ []
    idle_filling = ap (λ (l : List Step). steps_of l (join us)) (fill_shift g m (laid (the_number g m) m.p)) ∙ idle_writes (fill g 0 (the_number g m) (laid (the_number g m) m.p)) (fills g m)

  pub steps_none : (xs : List Step) (s : Bytes) → steps_of xs s ≡ [] → finish xs s ≡ s
  unfolding finish
  steps_none xs s e = sym (steps_finish xs s) ∙ ap (λ (l : List Step). finish l s) e

  -- ---- the words of the seal
  pub home_word : (us : List Bytes) (p : LaidHome) → Stands g us (m.hs ++ p ∷ m.bs) m.sp → word (join us) (p.phys * g.size + 2) ≡ state_word p.up
  home_word us p st =
      let mid = homes_mid g us m.sp 0 m.hs m.bs p st.homes in
      word_unit g us p.phys (le (the_number g m) []) (state_word p.up) (head_bytes p.head (array_bytes p.array (replicate p.gap 255 ++ p.rest))) st.sized mid.0.there mid.0.bytes

  pub copy_word : (us : List Bytes) (ps : List LaidHome) → Stands g us ps m.sp → get_or us m.sp [] ≡ the_copy g m → word (join us) (copy_base g m + 2) ≡ 0xFFFF
  copy_word us ps st e = word_unit g us m.sp (le (the_number g m) []) 0xFFFF (copy_body g m) st.sized st.spare e

  -- ---- from the retired stage
  pub retired_filled : (s : Bytes) → Retired g m s → steps_of (fill_steps g m) s ≡ []
  retired_filled s k = ap (steps_of (fill_steps g m)) k.image ∙ idle_filling k.us (m.hs ++ retired_home g m ∷ m.bs) k.stands k.left

  pub retired_idle : (s : Bytes) → Retired g m s → idle (program (m.p.phys * g.size + 2) retired) s ≡ true
  retired_idle s k = idle_at s (m.p.phys * g.size + 2) retired retired (ap (λ (x : Bytes). word x (m.p.phys * g.size + 2)) k.image ∙ home_word k.us (retired_home g m) k.stands)

  pub retired_busy : (s : Bytes) → Retired g m s → idle (program (copy_base g m + 2) live) s ≡ false
  retired_busy s k = idle_at s (copy_base g m + 2) live 0xFFFF (ap (λ (x : Bytes). word x (copy_base g m + 2)) k.image ∙ copy_word k.us (m.hs ++ retired_home g m ∷ m.bs) k.stands k.left)

  retired_finish : (s : Bytes) → Retired g m s → finish (moving g m) s ≡ made (erase (m.p.phys * g.size) g.size) (made (program (copy_base g m + 2) live) s)
  unfolding finish emptied made
  retired_finish s k =
      finish_append (fill_steps g m) (sealing g m) s
      ∙ ap (finish (sealing g m)) (steps_none (fill_steps g m) s (retired_filled s k))
      ∙ ap (λ (b : Bool). finish (program (copy_base g m + 2) live ∷ (erase (m.p.phys * g.size) g.size ∷ [])) (elim b as (λ j. Bytes) [ true ↦ s | false ↦ apply (program (m.p.phys * g.size + 2) retired) s ])) (retired_idle s k)

  pub retired_done : (s : Bytes) → Retired g m s → OldErased g m (finish (moving g m) s)
  retired_done s k = subst (OldErased g m) (sym (retired_finish s k)) (erase_old g m (made (program (copy_base g m + 2) live) s) (make_live g m s k))

  -- ---- mount's job
  module _ (us : List Bytes) (p : LaidHome) (sp : ℕ) (st : Stands g us (m.hs ++ p ∷ m.bs) sp) (name : name_of us sp ≡ the_number g m) where
    pub not_spare : is_spare (get_or us sp []) ≡ false
    not_spare = go (is_spare (get_or us sp [])) refl
      where
        go : (b : Bool) → is_spare (get_or us sp []) ≡ b → b ≡ false
        go true e = absurd (let w : ⊥ = omega (arith, sym name ∙ spare_name g (omega (arith, st.shape.right.large)) (get_or us sp []) (sized_get g us sp st.sized st.spare) e, st.units, st.many, st.shape.right.few, length-append m.hs (p ∷ m.bs)) in w)
        go false e = refl

    home_there : home_at (homes_of g 0 (m.hs ++ p ∷ m.bs)) (name_of us sp) ≡ home_of g (the_number g m) p
    home_there =
        ap (home_at (homes_of g 0 (m.hs ++ p ∷ m.bs))) (name ∙ zero-add (length m.hs))
        ∙ home_get g 0 (m.hs ++ p ∷ m.bs) (length m.hs) (omega (arith, length-append m.hs (p ∷ m.bs)))
        ∙ ap (home_of g (the_number g m)) (get_mid m.hs m.bs p no_laid_home)

    pub finish_receiving : state_at us sp ≡ receiving → finish_move g (the_survey g us (m.hs ++ p ∷ m.bs) sp st) ≡ move g (the_number g m) (home_of g (the_number g m) p).unit (physical (sp * g.size) (get_or us sp []))
    unfolding finish_move physical emptied after_erase
    finish_receiving recv =
        ap (λ (b : Bool). elim b as (λ j. List Step) [ true ↦ [] | false ↦ other ]) not_spare
        ∙ ap (λ (b : Bool). cond b (move g (name_of us sp) (home_at (homes_of g 0 (m.hs ++ p ∷ m.bs)) (name_of us sp)).unit r) (emptied g (sp * g.size))) (ap (λ (n : ℕ). eqb n receiving) recv)
        ∙ (λ i. move g (name i) (home_there i).unit r)
      where
        r : Physical
        r = physical (sp * g.size) (get_or us sp [])

        other : List Step
        other = cond (eqb (state_at us sp) receiving) (move g (name_of us sp) (home_at (homes_of g 0 (m.hs ++ p ∷ m.bs)) (name_of us sp)).unit r) (emptied g (sp * g.size))

    pub finish_retired : state_at us sp ≡ retired → finish_move g (the_survey g us (m.hs ++ p ∷ m.bs) sp st) ≡ emptied g (sp * g.size)
    unfolding finish_move physical emptied after_erase
    finish_retired ret =
        ap (λ (b : Bool). elim b as (λ j. List Step) [ true ↦ [] | false ↦ other ]) not_spare
        ∙ ap (λ (n : ℕ). cond (eqb n receiving) (move g (name_of us sp) (home_at (homes_of g 0 (m.hs ++ p ∷ m.bs)) (name_of us sp)).unit r) (emptied g (sp * g.size))) ret
      where
        r : Physical
        r = physical (sp * g.size) (get_or us sp [])

        other : List Step
        other = cond (eqb (state_at us sp) receiving) (move g (name_of us sp) (home_at (homes_of g 0 (m.hs ++ p ∷ m.bs)) (name_of us sp)).unit r) (emptied g (sp * g.size))

  job_of_lem : (s : Bytes) (v : Survey) (xs : List Step) → survey g s ≡ v → finish_move g v ≡ xs → OldErased g m (finish xs s) → mount_job g s (survey g s) ≡ xs ++ after
  unfolding mount_job
  job_of_lem s v xs e f d = ap (mount_job g s) e ∙ ap (λ (l : List Step). l ++ tidy (survey g (finish l s))) f ∙ ap (λ (l : List Step). xs ++ l) (done_tidy (finish xs s) d)

  pub filling_job : (r s : Bytes) → Filling g m r s → mount_job g s (survey g s) ≡ moving g m ++ after
  unfolding word
  filling_job r s k =
      job_of_lem s (the_survey g k.us (homes_before g m) m.sp k.stands) (moving g m) (ap (survey g) k.image ∙ survey_read g k.us (homes_before g m) m.sp k.stands)
      (finish_receiving k.us m.p m.sp k.stands (ap (λ (x : Bytes). word x 0) k.left ∙ k.begun.name) (ap (λ (x : Bytes). word x 2) k.left ∙ k.begun.mark)
      ∙ move_is g m (laid (the_number g m) m.p) (get_or k.us m.sp []))
      (along_moving g m (λ x. Unit {0}) (λ x y. tt) (λ x y. tt) r s k).1

  pub retired_job : (s : Bytes) → Retired g m s → mount_job g s (survey g s) ≡ moving g m ++ after
  unfolding word
  retired_job s k =
      job_of_lem s (the_survey g k.us (m.hs ++ retired_home g m ∷ m.bs) m.sp k.stands) (moving g m) (ap (survey g) k.image ∙ survey_read g k.us (m.hs ++ retired_home g m ∷ m.bs) m.sp k.stands)
      (finish_receiving k.us (retired_home g m) m.sp k.stands (ap (λ (x : Bytes). word x 0) k.left ∙ two_bytes (the_number g m)) (ap (λ (x : Bytes). word x 2) k.left)
      ∙ move_is g m (laid (the_number g m) (retired_home g m)) (get_or k.us m.sp [])
      ∙ ap (λ (l : List Step). l ++ sealing g m) (fill_same g m (copy_base g m) retired (state_word m.p.up)))
      (retired_done s k)

  pub taken_job : (s : Bytes) → CopyLive g m s → mount_job g s (survey g s) ≡ erase (m.p.phys * g.size) g.size ∷ after
  unfolding word emptied finish
  taken_job s k =
      job_of_lem s (the_survey g k.us (m.hs ++ copy_home g m ∷ m.bs) m.p.phys k.stands) (erase (m.p.phys * g.size) g.size ∷ []) (ap (survey g) k.image ∙ survey_read g k.us (m.hs ++ copy_home g m ∷ m.bs) m.p.phys k.stands)
      (finish_retired k.us (copy_home g m) m.p.phys k.stands (ap (λ (x : Bytes). word x 0) k.left ∙ two_bytes (the_number g m)) (ap (λ (x : Bytes). word x 2) k.left))
      (erase_old g m s k)
