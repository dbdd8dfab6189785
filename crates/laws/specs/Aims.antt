-- Where each job's steps aim: programs at even offsets, erases at whole units.
use Rattle.std.specs.Prelude.{◌≡◌, Bool, cond, eqb}
use Rattle.std.proofs.Math.Path.{refl}
use Rattle.std.proofs.Math.Bool.{true, false}
use mathlib.Core.List.{List, [], ◌∷◌, ◌++◌}
use Prim.Native.Nat.{ℕ, zero, suc, ◌+◌, ◌-◌, ◌%◌, ◌<◌}
use native.Mathlib.Omega.{arith}
use Rattle.std.proofs.Math.ListN.{length}
use Rattle.rules.specs.Lists.{filter}
use Rattle.rules.specs.Flash.{Bytes, erased, Step, program, erase, finish, programs, words}
use Rattle.rules.specs.Unit.{Descriptor, header_bytes, descriptor_bytes, room_of, receiving, pending, current, old, void, is_open, is_torn, is_allocated, is_committed, is_pending_file, is_current_file, file_of, size}
use Rattle.rules.specs.Copy.{is_kept, packed, copies, due, fill}
use Rattle.rules.specs.Settled.{Physical, Entry, units_of, survey, select, of_file, is_spare}
use Rattle.rules.specs.Sound.{home_at}
use Rattle.rules.specs.Jobs.{erases, headers, format_job, label, seal, emptied, after_erase, move, reclaim, become, fill_in, turn, turns, clean_up, commit_job, abort_job, finish_move, mend, end_transaction, tidy, mount_job}
use Rattle.laws.specs.Tests.{either}
use Rattle.laws.specs.Lists.{Every, every_append, every_filter}
use Rattle.laws.specs.Units.{Base, base_even, EvenPlace, units_stand, home_stands, spare_stands, select_even}
use Rattle.laws.specs.Copies.{size_even, four, sector_of, moved, packed_kept, packed_left, copies_kept, copies_left}
use Rattle.rules.specs.declared.Geometry.{Geometry}

-- A program aims at an even offset, an erase at a whole unit.
abbrev pub Aimed : Geometry → Step → Type 0
Aimed g (program a v) = a % 2 ≡ 0
Aimed g (erase a k) = Base g a × (k ≡ g.size)

module _ (g : Geometry) where
  aimed_append : (xs ys : List Step) → Every (Aimed g) xs → Every (Aimed g) ys → Every (Aimed g) (xs ++ ys)
  aimed_append = every_append (Aimed g)

  -- Programs one after the other from an even offset on.
  pub programs_aimed : (a : ℕ) (ws : List ℕ) → a % 2 ≡ 0 → Every (Aimed g) (programs a ws)
  unfolding programs
  programs_aimed a [] h = tt
  programs_aimed a (w ∷ ws) h = (h, programs_aimed (a + 2) ws (omega arith))

  -- Flags are programmed where descriptors stand.
  pub become_aimed : (f : ℕ) (es : List Entry) → Every EvenPlace es → Every (Aimed g) (become f es)
  unfolding become
  become_aimed f [] h = tt
  become_aimed f (e ∷ es) h = (h.0, become_aimed f es h.1)

  -- ---- format
  erases_aimed : (ps : List Physical) → Every (λ (p : Physical). Base g p.base) ps → Every (Aimed g) (erases g ps)
  unfolding erases
  erases_aimed [] h = tt
  erases_aimed (p ∷ ps) h = go (erased p.bytes) (erases_aimed ps h.1)
    where
      go : (b : Bool) → Every (Aimed g) (erases g ps)
          → Every (Aimed g) (elim b as (λ j. List Step) [ true ↦ erases g ps | false ↦ erase p.base g.size ∷ erases g ps ])
      go true k = k
      go false k = ((h.0, refl), k)

  module _ (even : g.size % 2 ≡ 0) where
    headers_aimed : (k a L : ℕ) → a % 2 ≡ 0 → Every (Aimed g) (headers g k a L)
    unfolding headers
    headers_aimed zero a L h = tt
    headers_aimed (suc k) a L h = (h, (omega arith, headers_aimed k (a + g.size) (suc L) (omega arith)))

    -- Format, on any image.
    pub format_aimed : (s : Bytes) → Every (Aimed g) (format_job g s)
    unfolding format_job
    format_aimed s =
        aimed_append (erases g (units_of g s)) (headers g (g.units - 1) 0 0) (erases_aimed (units_of g s) (units_stand g s)) (headers_aimed (g.units - 1) 0 0 refl)

    -- ---- reclaim
    copies_aimed : (base : ℕ) (u : Bytes) (at low : ℕ) (ds : List Descriptor) → base % 2 ≡ 0 → at % 2 ≡ 0 → low % 2 ≡ 0
        → Every (Aimed g) (copies base u at ds (packed low ds))
    copies_aimed base u at low [] b a l = unfold copies packed in tt
    copies_aimed base u at low (d ∷ ds) b a l =
        either (is_kept d)
        (λ k.
        rw (packed_kept d ds low k, copies_kept d ds base u at (moved (low - size d) d) (packed (low - size d) ds) k)
        (aimed_append (programs (base + at) (four (moved (low - size d) d))) _ (programs_aimed (base + at) _ (omega arith))
        (aimed_append (programs (base + (moved (low - size d) d).offset) (sector_of u d)) _
        (unfold moved in programs_aimed (base + (low - size d)) (sector_of u d) (omega (arith, size_even d)))
        (copies_aimed base u (at + descriptor_bytes) (low - size d) ds b (omega arith) (omega (arith, size_even d))))))
        (λ k.
        rw (packed_left d ds low k, copies_left d ds base u at _ (packed low ds) k)
        (copies_aimed base u (at + descriptor_bytes) low ds b (omega arith) l))

    -- What a copy's header is to hold, and what follows the erase.
    label_aimed : (to : ℕ) → to % 2 ≡ 0 → Every (Aimed g) (label to)
    unfolding label
    label_aimed to e = programs_aimed (to + 4) due (omega arith)

    after_aimed : (from to : Physical) → from.base % 2 ≡ 0 → to.base % 2 ≡ 0 → Every (Aimed g) (after_erase from to)
    unfolding after_erase
    after_aimed from to ef et = tt

    -- A move between two units, whatever they hold.
    pub move_aimed : (L : ℕ) (from to : Physical) → Base g from.base → Base g to.base → Every (Aimed g) (move g L from to)
    unfolding move fill seal emptied
    move_aimed L from to f t =
        let ef : from.base % 2 ≡ 0 = base_even g even f in
        let et : to.base % 2 ≡ 0 = base_even g even t in
        let ds = (room_of g from.bytes).array in (
          et,
          aimed_append (copies to.base from.bytes header_bytes ds (packed g.size ds)) _
              (copies_aimed to.base from.bytes header_bytes g.size ds et refl even)
              (aimed_append (label to.base) _ (label_aimed to.base et) (omega arith, (omega arith, ((f, refl), after_aimed from to ef et)))),
        )

    -- ---- store
    -- The steps of a new descriptor at an even offset, its data too where there are any and they start at an even offset.
    pub store_aimed : (at base offset tag : ℕ) (content : Bytes) → at % 2 ≡ 0 → (0 < length content → (base + offset) % 2 ≡ 0)
        → Every (Aimed g) (fill_in at base offset tag content)
    unfolding fill_in
    store_aimed at base offset tag content a o =
        (omega arith, (omega arith, (omega arith, (a, aimed_append (programs (base + offset) (words content)) (program at pending ∷ []) (go content o) (a, tt)))))
      where
        go : (c : Bytes) → (0 < length c → (base + offset) % 2 ≡ 0) → Every (Aimed g) (programs (base + offset) (words c))
        go [] o = unfold words programs in tt
        go (x ∷ c) o = programs_aimed (base + offset) (words (x ∷ c)) (o (omega arith))

    -- ---- commit, abort, mount
    turns_aimed : (cs es : List Entry) → Every EvenPlace cs → Every EvenPlace es → Every (Aimed g) (turns cs es)
    unfolding turns turn
    turns_aimed cs [] c h = tt
    turns_aimed cs (e ∷ es) c h =
        aimed_append (turn cs e) (turns cs es)
        (aimed_append (become _ (filter (of_file (file_of e.descriptor)) cs)) _ (become_aimed _ _ (every_filter EvenPlace _ cs c)) (h.0, tt))
        (turns_aimed cs es c h.1)

    module _ (some : 0 < g.units) (s : Bytes) where
      chosen_even : (f : Descriptor → Bool) → Every EvenPlace (select f (survey g s))
      chosen_even f = select_even g even some f s

      clean_aimed : (ts : List Entry) → Every EvenPlace ts → Every (Aimed g) (clean_up ts (survey g s))
      unfolding clean_up
      clean_aimed ts t =
          aimed_append (turns (select is_current_file (survey g s)) (select is_pending_file (survey g s))) (become old ts)
          (turns_aimed _ _ (chosen_even is_current_file) (chosen_even is_pending_file)) (become_aimed old ts t)

      -- Commit, on any image.
      pub commit_aimed : Every (Aimed g) (commit_job (survey g s))
      unfolding commit_job
      commit_aimed = aimed_append (become current (select is_open (survey g s))) _ (become_aimed current _ (chosen_even is_open)) (clean_aimed _ (chosen_even is_open))

      -- Abort, on any image.
      pub abort_aimed : Every (Aimed g) (abort_job (survey g s))
      unfolding abort_job
      abort_aimed =
          aimed_append (become old (select is_open (survey g s))) _ (become_aimed old _ (chosen_even is_open)) (become_aimed old _ (chosen_even is_pending_file))

      tidy_aimed : Every (Aimed g) (tidy (survey g s))
      unfolding tidy mend
      tidy_aimed =
          aimed_append (mend (survey g s)) (end_transaction (select is_committed (survey g s)) (survey g s))
          (aimed_append (become void (select is_torn (survey g s))) _ (become_aimed void _ (chosen_even is_torn)) (become_aimed old _ (chosen_even is_allocated)))
          (go (select is_committed (survey g s)) (chosen_even is_committed))
        where
          go : (ts : List Entry) → Every EvenPlace ts → Every (Aimed g) (end_transaction ts (survey g s))
          go [] h = unfold end_transaction in abort_aimed
          go (t ∷ ts) h = unfold end_transaction in clean_aimed (t ∷ ts) h

      finish_aimed : Every (Aimed g) (finish_move g (survey g s))
      unfolding finish_move
      finish_aimed = go (is_spare r.bytes) (eqb r.state receiving)
        where
          r : Physical
          r = (survey g s).spare

          from : Physical
          from = (home_at (survey g s).homes r.logical).unit

          go : (a b : Bool)
              → Every (Aimed g) (elim a as (λ j. List Step) [ true ↦ [] | false ↦ cond b (move g r.logical from r) (emptied g r.base ++ after_erase r from) ])
          go true b = tt
          go false true = move_aimed r.logical from r (home_stands g some s r.logical) (spare_stands g some s)
          go false false = unfold emptied in ((spare_stands g some s, refl), after_aimed r from (base_even g even (spare_stands g some s)) (base_even g even (home_stands g some s r.logical)))

      -- Reclaim, on any image.
      pub reclaim_aimed : (L : ℕ) → Every (Aimed g) (reclaim g (survey g s) L)
      unfolding reclaim
      reclaim_aimed L = move_aimed L (home_at (survey g s).homes L).unit (survey g s).spare (home_stands g some s L) (spare_stands g some s)

    -- Mount, on any image.
    pub mount_aimed : 0 < g.units → (s : Bytes) → Every (Aimed g) (mount_job g s (survey g s))
    unfolding mount_job
    mount_aimed some s = aimed_append (finish_move g (survey g s)) _ (finish_aimed some s) (tidy_aimed some (finish (finish_move g (survey g s)) s))
