-- From stage to stage of a move: the first word, the filling, the seal, the erase.
use Rattle.std.specs.Prelude.{Bool, false, true, ◌≡◌, ◌%◌, ◌*◌, ◌+◌, ◌/◌, suc, zero, ℕ, drop, get_or, replicate}
use mathlib.Core.List.{List, [], ◌++◌, ◌∷◌}
use Rattle.std.proofs.Common.{◌∙◌, add-zero, arith, get_or-set_other}
use Rattle.std.proofs.Math.Path.{ap, ap₂, refl, subst, sym}
use Rattle.std.proofs.Math.Dec.{eqb}
use Rattle.std.proofs.lemmas.List.{length-replicate, set-get_or}
use Rattle.std.proofs.Math.ListN.{set}
use Rattle.std.proofs.Math.Seq.{get_or-set_same}
use Rattle.rules.specs.Copy.{copies, due, fill, packed}
use Rattle.rules.specs.Flash.{Bytes, Step, erase, finish, made, program, programs, word}
use Rattle.rules.specs.Jobs.{after_erase, emptied, label, move, seal}
use Rattle.rules.specs.Settled.{is_spare, physical}
use Rattle.rules.specs.Sound.{is_within}
use Rattle.rules.specs.Unit.{header_bytes, live, retired, room_of}
use Rattle.rules.specs.declared.Geometry.{Geometry}
use Rattle.laws.specs.Runs.{finish_append}
use Rattle.laws.specs.Frames.{and_erased}
use Rattle.laws.specs.Units.{even_size_lem}
use Rattle.laws.specs.Words.{two_bytes}
use Rattle.theory.specs.Base.Facts.{append-nil}
use Rattle.theory.specs.Base.Along.{Along, along_append, along_map, le}
use Rattle.theory.specs.Images.Units.{erase_unit, join, program_unit}
use Rattle.theory.specs.Images.Head.{copy_headed, head_bytes}
use Rattle.theory.specs.Images.Layout.{Good, array_bytes, layout, length_layout}
use Rattle.theory.specs.Images.Model.{HomesStand, Is, Stands, laid, state_at, state_word}
use Rattle.theory.specs.Images.Turn.{homes_mid, relaid, relaid_spare}
use Rattle.theory.specs.Images.Stand.{Mountable}
use Rattle.theory.specs.Storing.Fill.{blanks, blanks_replicate, write_word}
use Rattle.theory.specs.Moves.Within.{Receiving, receive, writes_tail}
use Rattle.theory.specs.Moves.Moving.{spared}
use Rattle.theory.specs.Moves.Copying.{along_copy, copies_shift, shifted}
use Rattle.theory.specs.Images.Blank.{blank_spare, blank_unit_lem, blank_body}
use Rattle.theory.specs.Moves.Swap.{swapped}
use Rattle.theory.specs.Moves.Gather.{copy_good}
use Rattle.theory.specs.Moves.Covered.{covered}
use Rattle.theory.specs.Moves.Move.{OldErased, Filling, Retired, Setting, CopyLive, copy_whole, copy_base, copy_body, copy_home, even_copy, fill_shift}
use Rattle.theory.specs.Moves.Move.{fill_steps, filling_mountable, fills, homes_before, long, retired_mountable, retired_home, taken_mountable, the_copy}
use Rattle.theory.specs.Moves.Move.{the_number}

module _ (g : Geometry) (m : Setting g) where
  abbrev n : ℕ
  n = the_number g m

  -- the image before the first step: the unit left over is wholly FF
  pub record Start (s : Bytes) : Type 0 where
    pub us : List Bytes
    pub image : s ≡ join us
    pub stands : Stands g us (homes_before g m) m.sp
    pub left : get_or us m.sp [] ≡ replicate g.size 255

  -- ---- the first word
  pub begin_filling : (s : Bytes) → Start s → Filling g m (made (program 0 (the_number g m)) (replicate g.size 255)) (made (program (copy_base g m) (the_number g m)) s)
  unfolding is_within word
  begin_filling s k =
      record {
        us = set k.us m.sp r;
        image =
            ap₂ (λ (a : ℕ) (x : Bytes). made (program a n) x) (sym (add-zero (copy_base g m))) k.image
            ∙ program_unit g k.us m.sp [] 0xFFFF n (le 0xFFFF (blank_body g)) st.sized st.spare (k.left ∙ blank)
            ∙ ap (λ (x : Bytes). join (set k.us m.sp x)) (ap (λ (w : ℕ). le w (le 0xFFFF (blank_body g))) (and_erased n m.few) ∙ sym r_is);
        stands = spared g k.us (homes_before g m) m.sp st r (receiving.len ∙ long g m) (ap (λ (x : Bytes). eqb (word x 2) 0xFFFE) r_is) (λ b. ap (λ (x : Bytes). eqb (word x 2) 0xFFFC) r_is);
        left = get_or-set_same k.us m.sp r [] st.spare;
        begun = record { part = receiving; name = ap (λ (x : Bytes). word x 0) r_is ∙ two_bytes n; mark = ap (λ (x : Bytes). word x 2) r_is };
      }
    where
      st : Stands g k.us (homes_before g m) m.sp
      st = k.stands

      blank : replicate g.size 255 ≡ le 0xFFFF (le 0xFFFF (blank_body g))
      blank = blank_unit_lem g (omega (arith, m.shape.right.large))

      r : Bytes
      r = made (program 0 n) (replicate g.size 255)

      r_is : made (program 0 n) (replicate g.size 255) ≡ le n (le 0xFFFF (blank_body g))
      r_is = ap (made (program 0 n)) blank ∙ write_word [] 0 n (le 0xFFFF (blank_body g)) refl m.few

      within_blank : (k : ℕ) (c : Bytes) → is_within (blanks k []) c ≡ true
      within_blank zero c = refl
      within_blank (suc k) c = within_blank k (drop 2 c)

      halves : g.size ≡ g.size / 2 * 2
      halves = twos g.size (even_size_lem m.shape.right)
        where
          twos : (x : ℕ) → x % 2 ≡ 0 → x ≡ x / 2 * 2
          twos x e = omega arith

      empty : Receiving (the_copy g m) (replicate g.size 255)
      empty = record {
        part = ap (λ (x : Bytes). is_within x (the_copy g m)) (ap (λ (k : ℕ). replicate k 255) halves ∙ sym (append-nil (replicate (g.size / 2 * 2) 255)) ∙ sym (blanks_replicate (g.size / 2) [])) ∙ within_blank (g.size / 2) (the_copy g m);
        len = length-replicate g.size 255 ∙ sym (long g m);
      }

      receiving : Receiving (the_copy g m) (made (program 0 n) (replicate g.size 255))
      receiving = receive (the_copy g m) (replicate g.size 255) [] n (le 0xFFFF (copy_body g m)) refl tt m.few empty

  -- ---- the fill_steps, from whatever stands
  pub fill_on : (r s : Bytes) → Filling g m r s → Along (λ x. (y : Bytes) × Filling g m y x) s (fill_steps g m) × Filling g m (the_copy g m) (finish (fill_steps g m) s)
  fill_on r s k =
      subst (λ (j : List Step). Along (λ x. (y : Bytes) × Filling g m y x) s j × Filling g m (the_copy g m) (finish j s)) (sym (fill_shift g m (laid n m.p)))
      (go.0, subst (λ (x : Bytes). Filling g m x (finish (shifted (copy_base g m) steps) s)) (covered (the_copy g m) steps (even_copy g m) (fills g m) (copy_whole g m) r k.begun.part) go.1)
    where
      steps : List Step
      steps = fill g 0 n (laid n m.p)

      go : Along (λ x. (y : Bytes) × Filling g m y x) s (shifted (copy_base g m) steps) × Filling g m (finish steps r) (finish (shifted (copy_base g m) steps) s)
      go = along_copy g (homes_before g m) m.sp n (copy_body g m) steps (fills g m) r s k

  -- ---- the old home is retired
  pub retire : (s : Bytes) → Filling g m (the_copy g m) s → Retired g m (made (program (m.p.phys * g.size + 2) retired) s)
  unfolding word
  retire s k =
      record {
        us = set k.us m.p.phys (laid n (retired_home g m));
        image =
            ap (made (program (m.p.phys * g.size + 2) retired)) k.image
            ∙ program_unit g k.us m.p.phys (le n []) live retired X st.sized mid.0.there (mid.0.bytes ∙ ap (λ (b : Bool). layout n (state_word b) m.p.head m.p.array m.p.gap m.p.rest) m.up);
        stands = relaid g k.us m.hs m.bs m.p (retired_home g m) m.sp st refl m.good mid.0.headed mark';
        left = relaid_spare g k.us m.hs m.bs m.p (retired_home g m) m.sp st refl m.good mid.0.headed mark' ∙ k.left;
      }
    where
      st : Stands g k.us (homes_before g m) m.sp
      st = k.stands

      X : Bytes
      X = head_bytes m.p.head (array_bytes m.p.array (replicate m.p.gap 255 ++ m.p.rest))

      mid : Is g k.us m.sp n m.p × HomesStand g k.us m.sp (suc n) m.bs
      mid = homes_mid g k.us m.sp 0 m.hs m.bs m.p st.homes

      mark' : false ≡ false → eqb (state_at k.us m.sp) retired ≡ false
      mark' e = ap (λ (x : Bytes). eqb (word x 2) retired) k.left

  -- ---- the copy is made live
  pub make_live : (s : Bytes) → Retired g m s → CopyLive g m (made (program (copy_base g m + 2) live) s)
  unfolding word
  make_live s k =
      record {
        us = vs;
        image = ap (made (program (copy_base g m + 2) live)) k.image ∙ program_unit g k.us m.sp (le n []) 0xFFFF live (copy_body g m) st.sized st.spare k.left;
        stands = subst (λ (x : List Bytes). Stands g x (m.hs ++ copy_home g m ∷ m.bs) m.p.phys) same
            (swapped g k.us m.hs m.bs (retired_home g m) (copy_home g m) m.sp st refl refl good' copy_headed (laid n (retired_home g m)) (length_layout g n retired m.p.head m.p.array m.p.gap m.p.rest m.good) refl m.ups);
        left = old_there;
      }
    where
      st : Stands g k.us (m.hs ++ retired_home g m ∷ m.bs) m.sp
      st = k.stands

      good' : Good g (copy_home g m).array (copy_home g m).gap (copy_home g m).rest
      good' = copy_good g m.shape m.p.array m.p.gap m.p.rest m.good

      vs : List Bytes
      vs = set k.us m.sp (laid n (copy_home g m))

      mid : Is g k.us m.sp n (retired_home g m) × HomesStand g k.us m.sp (suc n) m.bs
      mid = homes_mid g k.us m.sp 0 m.hs m.bs (retired_home g m) st.homes

      old_there : get_or vs m.p.phys [] ≡ laid n (retired_home g m)
      old_there = get_or-set_other k.us m.sp m.p.phys (laid n (copy_home g m)) [] mid.0.away ∙ mid.0.bytes

      same : set vs m.p.phys (laid n (retired_home g m)) ≡ vs
      same = ap (set vs m.p.phys) (sym old_there) ∙ set-get_or vs m.p.phys []

  -- ---- the old home is erased
  pub erase_old : (s : Bytes) → CopyLive g m s → OldErased g m (made (erase (m.p.phys * g.size) g.size) s)
  unfolding word
  erase_old s k =
      record {
        us = set k.us m.p.phys (replicate g.size 255);
        image = ap (made (erase (m.p.phys * g.size) g.size)) k.image ∙ erase_unit g k.us m.p.phys st.sized st.spare;
        stands = spared g k.us (m.hs ++ copy_home g m ∷ m.bs) m.p.phys st (replicate g.size 255) (length-replicate g.size 255) (ap (λ (x : Bytes). eqb (word x 2) live) blank) (λ b. ap (λ (x : Bytes). eqb (word x 2) retired) blank);
        bare = ap is_spare (get_or-set_same k.us m.p.phys (replicate g.size 255) [] st.spare) ∙ blank_spare g;
      }
    where
      st : Stands g k.us (m.hs ++ copy_home g m ∷ m.bs) m.p.phys
      st = k.stands

      blank : replicate g.size 255 ≡ le 0xFFFF (le 0xFFFF (blank_body g))
      blank = blank_unit_lem g (omega (arith, m.shape.right.large))

  -- ---- the whole move
  pub data Moving (s : Bytes) : Type 0 where
    while_filling : (r : Bytes) → Filling g m r s → Moving s
    once_retired : Retired g m s → Moving s
    once_live : CopyLive g m s → Moving s

  pub moving_mountable : (s : Bytes) → Moving s → Mountable g s
  moving_mountable s (while_filling r k) = filling_mountable g m r s k
  moving_mountable s (once_retired k) = retired_mountable g m s k
  moving_mountable s (once_live k) = taken_mountable g m s k

  -- what follows the fill_steps
  abbrev pub sealing : List Step
  sealing = program (m.p.phys * g.size + 2) retired ∷ (program (copy_base g m + 2) live ∷ emptied g (m.p.phys * g.size))

  abbrev pub moving : List Step
  moving = fill_steps g m ++ sealing

  -- a move of this home is these steps: nothing is due in the copy's header, and nothing follows the erase
  pub move_is : (u v : Bytes) → move g n (physical (m.p.phys * g.size) u) (physical (copy_base g m) v) ≡ fill g (copy_base g m) n u ++ sealing
  unfolding move physical label programs due seal emptied after_erase
  move_is u v = refl

  -- after the fill_steps
  pub along_seal : (P : Bytes → Type 0) → ((s : Bytes) → Moving s → P s) → ((s : Bytes) → OldErased g m s → P s) → (s : Bytes) → Filling g m (the_copy g m) s → Along P s sealing × OldErased g m (finish sealing s)
  unfolding emptied finish
  along_seal P f d s k =
      ((f s (while_filling (the_copy g m) k), (f s1 (once_retired (retire s k)), (f s2 (once_live (make_live s1 (retire s k))), d s3 (erase_old s2 (make_live s1 (retire s k)))))), erase_old s2 (make_live s1 (retire s k)))
    where
      s1 : Bytes
      s1 = made (program (m.p.phys * g.size + 2) retired) s

      s2 : Bytes
      s2 = made (program (copy_base g m + 2) live) s1

      s3 : Bytes
      s3 = made (erase (m.p.phys * g.size) g.size) s2

  -- from where it stands
  pub along_moving : (P : Bytes → Type 0) → ((s : Bytes) → Moving s → P s) → ((s : Bytes) → OldErased g m s → P s) → (r s : Bytes) → Filling g m r s → Along P s moving × OldErased g m (finish moving s)
  along_moving P f d r s k = (
    along_append P (fill_steps g m) sealing s (along_map (λ x. (y : Bytes) × Filling g m y x) P (λ x z. f x (while_filling z.0 z.1)) (fill_steps g m) s fill'.0) seal'.0,
    subst (OldErased g m) (sym (finish_append (fill_steps g m) sealing s)) seal'.1,
  )
    where
      fill' : Along (λ x. (y : Bytes) × Filling g m y x) s (fill_steps g m) × Filling g m (the_copy g m) (finish (fill_steps g m) s)
      fill' = fill_on r s k

      seal' : Along P (finish (fill_steps g m) s) sealing × OldErased g m (finish sealing (finish (fill_steps g m) s))
      seal' = along_seal P f d (finish (fill_steps g m) s) fill'.1

  -- from the start
  pub along_whole : (P : Bytes → Type 0) → ((s : Bytes) → Moving s → P s) → ((s : Bytes) → OldErased g m s → P s) → (s : Bytes) → P s → Start s → Along P s moving × OldErased g m (finish moving s)
  unfolding fill finish
  along_whole P f d s now k = (
    (now, along_append P rest sealing s1 (along_map (λ x. (y : Bytes) × Filling g m y x) P (λ x z. f x (while_filling z.0 z.1)) rest s1 fill'.0) seal'.0),
    subst (OldErased g m) (sym (finish_append rest sealing s1)) seal'.1,
  )
    where
      u : Bytes
      u = laid n m.p

      s1 : Bytes
      s1 = made (program (copy_base g m) n) s

      r1 : Bytes
      r1 = made (program 0 n) (replicate g.size 255)

      rest0 : List Step
      rest0 = copies 0 u header_bytes (room_of g u).array (packed g.size (room_of g u).array)

      rest : List Step
      rest = copies (copy_base g m) u header_bytes (room_of g u).array (packed g.size (room_of g u).array)

      shift : rest ≡ shifted (copy_base g m) rest0
      shift = copies_shift (copy_base g m) u header_bytes (room_of g u).array (packed g.size (room_of g u).array)

      ends : finish rest0 r1 ≡ the_copy g m
      ends = ap (λ (k : ℕ). finish rest0 (made (program 0 n) (replicate k 255))) (sym (long g m)) ∙ copy_whole g m

      go : Along (λ x. (y : Bytes) × Filling g m y x) s1 (shifted (copy_base g m) rest0) × Filling g m (finish rest0 r1) (finish (shifted (copy_base g m) rest0) s1)
      go = along_copy g (homes_before g m) m.sp n (copy_body g m) rest0 (writes_tail (the_copy g m) (program 0 n) rest0 (fills g m)) r1 s1 (begin_filling s k)

      fill' : Along (λ x. (y : Bytes) × Filling g m y x) s1 rest × Filling g m (the_copy g m) (finish rest s1)
      fill' = subst (λ (j : List Step). Along (λ x. (y : Bytes) × Filling g m y x) s1 j × Filling g m (the_copy g m) (finish j s1)) (sym shift)
          (go.0, subst (λ (x : Bytes). Filling g m x (finish (shifted (copy_base g m) rest0) s1)) ends go.1)

      seal' : Along P (finish rest s1) sealing × OldErased g m (finish sealing (finish rest s1))
      seal' = along_seal P f d (finish rest s1) fill'.1
