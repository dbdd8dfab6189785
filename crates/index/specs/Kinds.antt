-- One descriptor noted, by its flags and its tag.
use Rattle.std.specs.Prelude.{ℕ, ◌≡◌, true, get_or, set}
use borrow.Author.Tests.{ne_eqb}
use Rattle.rules.specs.Unit.{Descriptor, is_empty, file_of}
use Rattle.rules.specs.Opened.{descriptors}
use Rattle.index.specs.declared.Index.{Index}
use Rattle.index.specs.Places.{with_place}
use Rattle.index.specs.Shapes.{once, note_one}
use Rattle.index.specs.Walk.{empty_words}

module _ (a : ℕ) (d : Descriptor) (x : Index) where
  module _ (e : d.flags ≡ 0xFFFC) where
    pub note_open : d.tag ≡ 0x3000 → note_one a d x ≡ record x { opened = once x.opened a }
    unfolding note_one descriptors
    note_open t = rw (e, t)

    pub note_pending : (d.tag ≡ 0x3000 → ⊥) → note_one a d x ≡ record x { pending = with_place a x.pending }
    unfolding note_one descriptors
    note_pending t = rw (e, ne_eqb d.tag 0x3000 t)

  module _ (e : d.flags ≡ 0xFFF8) where
    pub note_committed : d.tag ≡ 0x3000 → note_one a d x ≡ record x { committed = once x.committed a }
    unfolding note_one descriptors
    note_committed t = rw (e, t)

    pub note_file : (d.tag ≡ 0x3000 → ⊥) → note_one a d x ≡ record x { current = set x.current (file_of d) (once (get_or x.current (file_of d) 0) a) }
    unfolding note_one descriptors
    note_file t = rw (e, ne_eqb d.tag 0x3000 t)

  module _ (e : d.flags ≡ 0xFFFF) where
    pub note_erased : d.tag ≡ 0xFFFF → note_one a d x ≡ x
    unfolding note_one descriptors
    note_erased t = rw (e, t)

    pub note_torn : (d.tag ≡ 0xFFFF → ⊥) → note_one a d x ≡ record x { torn = once x.torn a }
    unfolding note_one descriptors
    note_torn t = rw (e, ne_eqb d.tag 0xFFFF t)

  pub note_allocated : d.flags ≡ 0xFFFE → note_one a d x ≡ record x { allocated = once x.allocated a }
  unfolding note_one descriptors
  note_allocated e = rw e

  pub note_none : (d.flags ≡ 0xFFFC → ⊥) → (d.flags ≡ 0xFFF8 → ⊥) → (d.flags ≡ 0xFFFF → ⊥) → (d.flags ≡ 0xFFFE → ⊥) → note_one a d x ≡ x
  unfolding note_one descriptors
  note_none p c e l = rw (ne_eqb d.flags 0xFFFC p, ne_eqb d.flags 0xFFF8 c, ne_eqb d.flags 0xFFFF e, ne_eqb d.flags 0xFFFE l)

  -- what is empty is none of these
  pub note_empty : is_empty d ≡ true → note_one a d x ≡ x
  note_empty h = let w = empty_words d h in note_erased w.0 w.1
