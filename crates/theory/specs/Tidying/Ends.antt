-- The jobs of abort, of mount where no unit is moving, and of commit, as one tidying of the entries.
use Rattle.std.specs.Prelude.{Bool, ◌≡◌, ℕ, eqb}
use Rattle.std.proofs.Math.Bool.{cond, false, not, true}
use mathlib.Core.List.{List, [], ◌++◌, ◌∷◌}
use Rattle.std.proofs.Common.{◌∙◌, subst}
use Rattle.std.proofs.Math.Path.{ap, ap₂, refl, sym}
use Rattle.std.specs.Int.Bits.{bit_and}
use Rattle.rules.specs.Lists.{filter}
use Rattle.rules.specs.Flash.{Bytes, Step, finish, program}
use Rattle.rules.specs.Jobs.{abort_job, after_erase, become, clean_up, commit_job, emptied, end_transaction, finish_move, mend, mount_job, move, tidy}
use Rattle.rules.specs.Settled.{Entry, Survey, physical, pick, select, survey}
use Rattle.rules.specs.Sound.{home_at}
use Rattle.rules.specs.Unit.{Descriptor, has_sector, is_allocated, is_committed, is_current, is_current_file, is_empty, is_listed, is_open, is_pending, is_pending_file, is_torn, is_transaction}
use Rattle.rules.specs.declared.Geometry.{Geometry}
use Rattle.theory.specs.Base.Facts.{FirstThat, and_l, and_r, both_nil, filter_head, filter_in, filter_out, head_gone}
use Rattle.theory.specs.Images.Layout.{with_flags}
use Rattle.theory.specs.Images.Model.{all_entries, the_survey}
use Rattle.theory.specs.Images.Turn.{set_e}
use Rattle.theory.specs.Images.Stand.{Turnable}
use Rattle.theory.specs.Tidying.Sorted.{Orderly, OrderlyE, Quiet, Sorted, by_flags, committing, end_of, flags_of, pick_same, sorted, tidy_of, tidying}
use Rattle.theory.specs.Tidying.Held.{Safe, survey_is}

-- mount's tidying reads the entries alone
pub tidy_as : (v : Survey) → tidy v ≡ tidying v.entries
unfolding mend select abort_job clean_up end_transaction tidy
tidy_as v = go (pick is_committed v.entries) refl
  where
    mended : List Step
    mended = become 0 (pick is_torn v.entries) ++ become 0xFFF0 (pick is_allocated v.entries)

    go : (l : List Entry) → pick is_committed v.entries ≡ l → tidy v ≡ tidying v.entries
    go [] q = ap (λ (l : List Entry). mended ++ end_transaction l v) q ∙ sym (ap (λ (l : List Entry). mended ++ end_of l (pick is_open v.entries) (pick is_pending_file v.entries) (pick is_current_file v.entries)) q)
    go (t ∷ ts) q = ap (λ (l : List Entry). mended ++ end_transaction l v) q ∙ sym (ap (λ (l : List Entry). mended ++ end_of l (pick is_open v.entries) (pick is_pending_file v.entries) (pick is_current_file v.entries)) q)

module _ (g : Geometry) (s : Bytes) (h : Safe g s) where
  abbrev es : List Entry
  es = all_entries g 0 h.ps

  abbrev v : Survey
  v = the_survey g h.us h.ps h.sp h.stands

  -- ---- abort
  pub abort_job_lem : Quiet (sorted (all_entries g 0 h.ps)) → abort_job (survey g s) ≡ tidying (all_entries g 0 h.ps)
  unfolding abort_job become select
  abort_job_lem c = ap abort_job (survey_is g OrderlyE s h) ∙ sym (λ i. tidy_of (record {
    torn = c.torn i;
    allocated = c.allocated i;
    committed = c.committed i;
    opened = pick is_open es;
    pending = pick is_pending_file es;
    current = pick is_current_file es;
  }))

  -- ---- mount
  pub mount_job_lem : mount_job g s (survey g s) ≡ tidying (all_entries g 0 h.ps)
  unfolding finish mount_job finish_move physical
  mount_job_lem =
      ap (mount_job g s) (survey_is g OrderlyE s h)
      ∙ ap (λ (b : Bool). after (elim b as (λ j. List Step) [ true ↦ [] | false ↦ other ])) h.bare
      ∙ ap tidy (survey_is g OrderlyE s h)
      ∙ tidy_as v
    where
      other : List Step
      other = cond (eqb v.spare.state 0xFFFF) (move g v.spare.logical (home_at v.homes v.spare.logical).unit v.spare) (emptied g v.spare.base ++ after_erase v.spare (home_at v.homes v.spare.logical).unit)

      after : List Step → List Step
      after moved = moved ++ tidy (survey g (finish moved s))

  -- ---- commit
  module _ (c : Quiet (sorted (all_entries g 0 h.ps))) (t : Entry) (q : pick is_open (all_entries g 0 h.ps) ≡ t ∷ []) where
    pub the_open : FirstThat (λ (x : Entry). is_open x.descriptor) (all_entries g 0 h.ps) t []
    unfolding filter pick
    the_open = filter_head (λ (x : Entry). is_open x.descriptor) es t [] q

    -- the entries once the commit step is made
    abbrev pub after_step : List Entry
    after_step = the_open.front ++ set_e 0xFFF8 t ∷ the_open.back

    pub open_flags : t.descriptor.flags ≡ 0xFFFC
    unfolding is_pending is_open
    open_flags = flags_of 0xFFFC t.descriptor (and_l (is_pending t.descriptor) (is_transaction t.descriptor) the_open.pass)

    tr : is_transaction t.descriptor ≡ true
    unfolding is_open
    tr = and_r (is_pending t.descriptor) (is_transaction t.descriptor) the_open.pass

    pub after_lists : sorted after_step ≡ record { torn = []; allocated = []; committed = set_e 0xFFF8 t ∷ []; opened = []; pending = pick is_pending_file es; current = pick is_current_file es }
    unfolding is_allocated is_committed is_current_file is_open is_pending_file is_torn pick is_current is_transaction is_pending
    after_lists = λ i. record {
      torn = (keep is_torn (by_flags is_torn t.descriptor open_flags refl) refl ∙ c.torn) i;
      allocated = (keep is_allocated (by_flags is_allocated t.descriptor open_flags refl) refl ∙ c.allocated) i;
      committed = (filter_in (λ (x : Entry). is_committed x.descriptor) the_open.front (set_e 0xFFF8 t) the_open.back tr ∙ ap₂ (λ (a b : List Entry). a ++ set_e 0xFFF8 t ∷ b) empties.0 empties.1) i;
      opened = head_gone (λ (x : Entry). is_open x.descriptor) es t [] the_open (set_e 0xFFF8 t) refl i;
      pending = keep is_pending_file (by_flags is_pending_file t.descriptor open_flags (ap not tr)) refl i;
      current = keep is_current_file (by_flags is_current_file t.descriptor open_flags refl) (ap not tr) i;
    }
      where
        keep : (p : Descriptor → Bool) → p t.descriptor ≡ false → p (with_flags 0xFFF8 t.descriptor) ≡ false → pick p (the_open.front ++ set_e 0xFFF8 t ∷ the_open.back) ≡ pick p es
        keep p a b = pick_same p the_open.front t the_open.back 0xFFF8 a b ∙ ap (pick p) (sym the_open.whole)

        none : pick is_committed the_open.front ++ pick is_committed the_open.back ≡ []
        none = sym (filter_out (λ (x : Entry). is_committed x.descriptor) the_open.front t the_open.back (by_flags is_committed t.descriptor open_flags refl)) ∙ ap (pick is_committed) (sym the_open.whole) ∙ c.committed

        empties : (pick is_committed the_open.front ≡ []) × (pick is_committed the_open.back ≡ [])
        empties = both_nil (pick is_committed the_open.front) (pick is_committed the_open.back) none

    pub commit_orderly : Orderly (sorted after_step)
    commit_orderly = subst (λ (x : Sorted). Orderly x) (sym after_lists)
        (committing (record { torn = refl; allocated = refl; committed = refl; opened = refl; current = c.current; data' = c.data'; pending = c.pending }))

    -- the commit step, then the tidying of what it leaves
    pub commit_job_lem : commit_job v ≡ program t.place 0xFFF8 ∷ tidying after_step
    unfolding become clean_up commit_job select
    commit_job_lem = ap (λ (l : List Entry). become 0xFFF8 l ++ clean_up l v) q ∙ ap {B = List Step} (λ (l : List Step). program t.place 0xFFF8 ∷ l) (sym (ap tidy_of after_lists))

    pub commit_turn : Turnable t 0xFFF8 0xFFF8
    unfolding has_sector is_allocated is_pending is_current is_listed is_empty
    commit_turn = record { to = ap (λ (x : ℕ). bit_and x 0xFFF8) open_flags; like = sym (by_flags has_sector t.descriptor open_flags refl); is = refl; full = refl }
