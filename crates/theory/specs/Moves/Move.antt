-- A home moved: fill the copy, retire the home, make the copy live, erase the old home.
use Rattle.std.specs.Prelude.{Bool, cond, false, true, ◌≡◌, ◌%◌, ◌*◌, ◌+◌, ◌<◌, ◌≤◌, ℕ, drop, get_or, replicate, take}
use mathlib.Core.List.{List, [], ◌++◌, ◌∷◌}
use Rattle.std.proofs.Common.{◌∙◌, add-zero, zero-add, arith}
use Rattle.std.proofs.Math.Path.{ap, ap₂, refl, subst, sym}
use Rattle.std.proofs.Math.ListN.{length, length-append}
use Rattle.rules.specs.Copy.{copies, copy_of, fill, is_kept, packed}
use Rattle.rules.specs.Flash.{Bytes, Step, finish, program, programs, word, words}
use Rattle.rules.specs.Lists.{all}
use Rattle.rules.specs.Settled.{Entry, counts, is_quiet, is_spare}
use Rattle.rules.specs.Sound.{is_complete, is_same}
use Rattle.rules.specs.Unit.{Descriptor, Room, header_bytes, live, retired, room_of, size, stands}
use Rattle.rules.specs.declared.Geometry.{Geometry}
use Rattle.laws.specs.Complete.{complete_same, is_plain}
use Rattle.laws.specs.Copied.{kept_sector}
use Rattle.laws.specs.Units.{even_size_lem}
use Rattle.laws.specs.Words.{same_self, two_bytes}
use Rattle.theory.specs.Base.Facts.{all_append, all_cons, both}
use Rattle.theory.specs.Images.Units.{join}
use Rattle.theory.specs.Images.Head.{copy_erased, head_bytes}
use Rattle.theory.specs.Images.Layout.{Good, array_bytes, layout, length_layout, room_layout}
use Rattle.theory.specs.Images.Sectors.{AllAbove, LegalGeometry, all_above, drop_laid}
use Rattle.theory.specs.Images.Model.{all_entries, LaidHome, Stands, is_up, laid, no_laid_home, state_word}
use Rattle.theory.specs.Images.Located.{from_append}
use Rattle.theory.specs.Images.Stand.{Mountable}
use Rattle.theory.specs.Tidying.Sorted.{Quiet, is_quiet_lem, sorted}
use Rattle.theory.specs.Tidying.Held.{HeldEntries}
use Rattle.theory.specs.Moves.Within.{Even, WritesCopy}
use Rattle.theory.specs.Moves.Moving.{get_mid, mountable_live, mountable_retired}
use Rattle.theory.specs.Moves.Written.{even_of}
use Rattle.theory.specs.Moves.Copying.{Receives, copies_shift, receives_mountable, shifted}
use Rattle.theory.specs.Moves.Gather.{copy_good, copy_is, copy_steps, filled_copy, is_copyable_lem}
use Rattle.theory.specs.Moves.Moved.{copy_laid, moved_quiet}

-- what is moved: home p of number length hs, to unit sp
pub record Setting (g : Geometry) : Type 0 where
  pub hs : List LaidHome
  pub bs : List LaidHome
  pub p : LaidHome
  pub sp : ℕ
  pub shape : LegalGeometry g
  pub good : Good g p.array p.gap p.rest
  pub up : p.up ≡ true
  pub ups : (all is_up hs ≡ true) × (all is_up bs ≡ true)
  pub quiet : Quiet (sorted (all_entries g 0 (hs ++ p ∷ bs)))
  pub few : 0 + length hs < 65536

module _ (g : Geometry) (m : Setting g) where
  abbrev pub the_number : ℕ
  the_number = 0 + length m.hs

  abbrev pub homes_before : List LaidHome
  homes_before = m.hs ++ m.p ∷ m.bs

  -- the copy, and the home once retired
  abbrev pub copy_home : LaidHome
  copy_home = copy_laid g m.shape m.p m.good m.sp

  abbrev pub retired_home : LaidHome
  retired_home = record { phys = m.p.phys; up = false; head = m.p.head; array = m.p.array; gap = m.p.gap; rest = m.p.rest }

  abbrev pub the_copy : Bytes
  the_copy = layout the_number 0xFFFF copy_home.head copy_home.array copy_home.gap copy_home.rest

  abbrev pub copy_body : Bytes
  copy_body = head_bytes copy_home.head (array_bytes copy_home.array (replicate copy_home.gap 255 ++ copy_home.rest))

  abbrev pub copy_base : ℕ
  copy_base = m.sp * g.size

  -- the state word plays no part
  abbrev bytes : ℕ → Bytes
  bytes st = layout the_number st m.p.head m.p.array m.p.gap m.p.rest

  pub copy_of_lem : (st : ℕ) → copy_of g the_number (layout the_number st m.p.head m.p.array m.p.gap m.p.rest) ≡ the_copy
  copy_of_lem st = copy_is g m.shape the_number st m.p.head m.p.array m.p.gap m.p.rest m.good m.few

  copies_same : (b at st st' : ℕ) (xs es : List Descriptor) → AllAbove (stands (length m.p.array) + m.p.gap) xs → copies b (bytes st) at xs es ≡ copies b (bytes st') at xs es
  unfolding copies
  copies_same b at st st' [] es a = refl
  copies_same b at st st' (d ∷ xs) [] a = refl
  copies_same b at st st' (d ∷ xs) (e ∷ es) a = go (is_kept d) refl (copies_same b (at + 8) st st' xs es a.1)
    where
      here : List Step
      here = programs (b + at) (e.flags ∷ e.offset ∷ e.len ∷ e.tag ∷ [])

      go : (k : Bool) → is_kept d ≡ k → copies b (bytes st) (at + 8) xs es ≡ copies b (bytes st') (at + 8) xs es
          → cond k (here ++ (programs (b + e.offset) (words (take (size d) (drop d.offset (bytes st)))) ++ copies b (bytes st) (at + 8) xs es)) (copies b (bytes st) (at + 8) xs es)
          ≡ cond k (here ++ (programs (b + e.offset) (words (take (size d) (drop d.offset (bytes st')))) ++ copies b (bytes st') (at + 8) xs es)) (copies b (bytes st') (at + 8) xs es)
      go true k ih = ap₂ (λ (c : Bytes) (r : List Step). here ++ (programs (b + e.offset) (words (take (size d) c)) ++ r)) same ih
        where
          over : stands (length m.p.array) + m.p.gap ≤ d.offset
          over = a.0 (kept_sector d k)

          same : drop d.offset (bytes st) ≡ drop d.offset (bytes st')
          same = drop_laid g the_number st m.p.head m.p.array m.p.gap m.p.rest m.good d.offset over ∙ sym (drop_laid g the_number st' m.p.head m.p.array m.p.gap m.p.rest m.good d.offset over)
      go false k ih = ih

  pub fill_same : (b st st' : ℕ) → fill g b the_number (layout the_number st m.p.head m.p.array m.p.gap m.p.rest) ≡ fill g b the_number (layout the_number st' m.p.head m.p.array m.p.gap m.p.rest)
  unfolding fill
  fill_same b st st' =
      ap (λ (r : Room). program b the_number ∷ copies b (bytes st) header_bytes r.array (packed g.size r.array)) (room_layout g the_number st m.p.head m.p.array m.p.gap m.p.rest m.good)
      ∙ ap {B = List Step} (λ (l : List Step). program b the_number ∷ l) (copies_same b header_bytes st st' m.p.array (packed g.size m.p.array) (all_above (stands (length m.p.array) + m.p.gap) g.size m.p.array (omega (arith, m.good.low))))
      ∙ sym (ap (λ (r : Room). program b the_number ∷ copies b (bytes st') header_bytes r.array (packed g.size r.array)) (room_layout g the_number st' m.p.head m.p.array m.p.gap m.p.rest m.good))

  pub fill_shift : (u : Bytes) → fill g copy_base the_number u ≡ shifted copy_base (fill g 0 the_number u)
  unfolding fill
  fill_shift u = ap₂ {C = List Step} (λ (a : ℕ) (l : List Step). program a the_number ∷ l) (sym (add-zero copy_base)) (copies_shift copy_base u header_bytes (room_of g u).array (packed g.size (room_of g u).array))

  -- the steps of the fill_steps
  abbrev pub fill_steps : List Step
  fill_steps = fill g copy_base the_number (laid the_number m.p)

  pub fills : WritesCopy the_copy (fill g 0 the_number (laid the_number m.p))
  fills = copy_steps g m.shape the_number (state_word m.p.up) m.p.head m.p.array m.p.gap m.p.rest m.good m.few

  pub long : length the_copy ≡ g.size
  long = length_layout g the_number 0xFFFF copy_home.head copy_home.array copy_home.gap copy_home.rest (copy_good g m.shape m.p.array m.p.gap m.p.rest m.good)

  pub even_copy : Even the_copy
  even_copy = even_of the_copy (ap (λ (n : ℕ). n % 2) long ∙ even_size_lem m.shape.right)

  pub copy_whole : finish (fill g 0 the_number (laid the_number m.p)) (replicate (length the_copy) 255) ≡ the_copy
  copy_whole = ap (λ (n : ℕ). finish (fill g 0 the_number (laid the_number m.p)) (replicate n 255)) long ∙ filled_copy g the_number (laid the_number m.p) ∙ copy_of_lem (state_word m.p.up)

  pub get_home : get_or homes_before the_number no_laid_home ≡ m.p
  get_home = ap (λ (n : ℕ). get_or homes_before n no_laid_home) (zero-add (length m.hs)) ∙ get_mid m.hs m.bs m.p no_laid_home

  pub in_homes : the_number < length homes_before
  in_homes = omega (arith, length-append m.hs (m.p ∷ m.bs))

  pub all_ups : all is_up homes_before ≡ true
  all_ups = all_append is_up m.hs (m.p ∷ m.bs) m.ups.0 (all_cons is_up m.p m.bs m.up m.ups.1)

  -- the entries do not tell a retired home
  pub entries_down : all_entries g 0 (m.hs ++ retired_home ∷ m.bs) ≡ all_entries g 0 homes_before
  entries_down = from_append g 0 m.hs (retired_home ∷ m.bs) ∙ sym (from_append g 0 m.hs (m.p ∷ m.bs))

  -- ---- the four stages
  -- the unit left over receives the copy
  abbrev pub Filling : Bytes → Bytes → Type 0
  Filling r s = Receives g homes_before m.sp the_number the_copy r s

  -- the home is retired, the copy complete
  pub record Retired (s : Bytes) : Type 0 where
    pub us : List Bytes
    pub image : s ≡ join us
    pub stands : Stands g us (m.hs ++ retired_home ∷ m.bs) m.sp
    pub left : get_or us m.sp [] ≡ the_copy

  -- the copy is live, the old home left over
  pub record CopyLive (s : Bytes) : Type 0 where
    pub us : List Bytes
    pub image : s ≡ join us
    pub stands : Stands g us (m.hs ++ copy_home ∷ m.bs) m.p.phys
    pub left : get_or us m.p.phys [] ≡ laid the_number retired_home

  -- the old home erased
  pub record OldErased (s : Bytes) : Type 0 where
    pub us : List Bytes
    pub image : s ≡ join us
    pub stands : Stands g us (m.hs ++ copy_home ∷ m.bs) m.p.phys
    pub bare : is_spare (get_or us m.p.phys []) ≡ true

  pub ups_after : all is_up (m.hs ++ copy_home ∷ m.bs) ≡ true
  ups_after = all_append is_up m.hs (copy_home ∷ m.bs) m.ups.0 (all_cons is_up copy_home m.bs refl m.ups.1)

  abbrev pub as_held : (s : Bytes) → OldErased s → HeldEntries g (λ l. l ≡ all_entries g 0 (m.hs ++ copy_home ∷ m.bs)) s
  as_held s d = record { us = d.us; ps = m.hs ++ copy_home ∷ m.bs; sp = m.p.phys; image = d.image; stands = d.stands; ups = ups_after; bare = d.bare; holds = refl }

  -- ---- each can be mounted
  pub filling_mountable : (r s : Bytes) → Filling r s → Mountable g s
  filling_mountable r s k =
      receives_mountable g homes_before m.sp the_number copy_body all_ups (is_quiet_lem (all_entries g 0 homes_before) m.quiet) in_homes (ap (λ (x : LaidHome). copy_of g the_number (laid the_number x)) get_home ∙ copy_of_lem (state_word m.p.up)) r s k

  complete : (st st' : ℕ) → is_complete g the_number (layout the_number st m.p.head m.p.array m.p.gap m.p.rest) (layout the_number st' copy_home.head copy_home.array copy_home.gap copy_home.rest) ≡ true
  complete st st' =
      complete_same g the_number (bytes st) (layout the_number st' copy_home.head copy_home.array copy_home.gap copy_home.rest)
      (omega (arith, m.shape.right.large, long)) (omega (arith, m.shape.right.large, ap length (copy_of_lem st), long)) (ap is_plain (copy_of_lem st) ∙ copy_erased)
      ∙ both (is_copyable_lem g m.shape the_number st m.p.head m.p.array m.p.gap m.p.rest m.good)
      (ap (λ (x : Bytes). is_same (drop 4 (layout the_number st' copy_home.head copy_home.array copy_home.gap copy_home.rest)) (drop 4 x)) (copy_of_lem st) ∙ same_self copy_body)

  pub retired_mountable : (s : Bytes) → Retired s → Mountable g s
  unfolding word
  retired_mountable s k =
      subst (λ (x : Bytes). Mountable g x) (sym k.image)
      (mountable_retired g k.us (m.hs ++ retired_home ∷ m.bs) m.sp k.stands (ap (λ (l : List Entry). is_quiet (counts l)) entries_down ∙ is_quiet_lem (all_entries g 0 homes_before) m.quiet) the_number inside
      (ap (λ (x : Bytes). word x 0) k.left ∙ two_bytes the_number) m.hs m.bs retired_home refl (sym (zero-add (length m.hs))) m.ups.0 m.ups.1 refl
      (ap (λ (x : Bytes). word x 2) k.left) (ap (is_complete g the_number (laid the_number retired_home)) k.left ∙ complete retired 0xFFFF))
    where
      inside : the_number < length (m.hs ++ retired_home ∷ m.bs)
      inside = omega (arith, length-append m.hs (retired_home ∷ m.bs))

  pub taken_mountable : (s : Bytes) → CopyLive s → Mountable g s
  unfolding word
  taken_mountable s k =
      subst (λ (x : Bytes). Mountable g x) (sym k.image)
      (mountable_live g k.us (m.hs ++ copy_home ∷ m.bs) m.p.phys k.stands (is_quiet_lem (all_entries g 0 (m.hs ++ copy_home ∷ m.bs)) (moved_quiet g m.shape m.p m.good m.sp m.hs m.bs m.quiet)) the_number inside
      (ap (λ (x : Bytes). word x 0) k.left ∙ two_bytes the_number) ups' (ap (λ (x : Bytes). word x 2) k.left)
      (ap₂ (λ (x : Bytes) (y : LaidHome). is_complete g the_number x (laid the_number y)) k.left here ∙ complete retired live))
    where
      inside : the_number < length (m.hs ++ copy_home ∷ m.bs)
      inside = omega (arith, length-append m.hs (copy_home ∷ m.bs))

      ups' : all is_up (m.hs ++ copy_home ∷ m.bs) ≡ true
      ups' = all_append is_up m.hs (copy_home ∷ m.bs) m.ups.0 (all_cons is_up copy_home m.bs refl m.ups.1)

      here : get_or (m.hs ++ copy_home ∷ m.bs) the_number no_laid_home ≡ copy_home
      here = ap (λ (n : ℕ). get_or (m.hs ++ copy_home ∷ m.bs) n no_laid_home) (zero-add (length m.hs)) ∙ get_mid m.hs m.bs copy_home no_laid_home
