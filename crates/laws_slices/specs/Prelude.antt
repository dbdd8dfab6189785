-- What the walks of this crate cite of the logic, passed on in one place. `use Rattle.laws_slices.specs.Prelude.{..}` brings it.
pub use Rattle.std.specs.Prelude.{◌≡◌, refl, Bool, true, false, not, ℕ, zero, suc, ◌+◌, ◌*◌, ◌^◌, ◌<◌, ◌≤◌, List, [], ◌∷◌, length, get_or, set, T as Holds, ltb}
pub use Rattle.std.proofs.Common.{sym, ◌∙◌, ap, subst, arith, length-set, ltb→lt, lt→ltb, nltb→le, lit<}
pub use Rattle.std.proofs.Math.ListN.{get_or-eq_default as List·getD-eq-default}
pub use seplogic.Ra.Ura.{Ura}
pub use base.Fraction.{full_share}
pub use mir.Syntax.{Ty, named, mut, imm, erased, w8, w16, w32, w64, ty_ptr, ty_int, ty_bool, ty_unit, ty_ref}
pub use mir.Val.{Val, vint, vptr, vbool, vunit, WT, has_ty}
pub use base.Logic.{SProp, ent, sep, emp, via, fst∗, id⊢}
pub use base.Fml.{Lft, GName, Share, Fml, ftrue, fsep, fat, froom, fdies, flft}
pub use prog.Memory.{Memory}
pub use prog.Routine.{Routine}
pub use prog.Wp.{Heap, Env, Calls, Loops, Wp, WpFn, Tables, after_block, after_seq, at_return}
unfoldable pub use prog.Wp.{after_turn}
pub use ghost.Atoms.{Atoms}
pub use contract.Monad.{Fun, fact}
pub use contract.Running.{tables}
unfoldable pub use contract.Running.{tables_of}
pub use types.Logic.{Logic, sem}
pub use types.Kit.{Item, Goal, ‵, raw, ◌⊛◌, ⋆, any_q, at_ret, runs, lands, prop, Seq, Sq, ◌$◌, ◌∵◌, !, qed, by, move, keep, use1, use2, drop, split, join, rewrite, fsplit, fjoin, feq_l, feq_i, suffices, frame, done}
pub use types.Part.{whole, sub, look_in, agg}
pub use types.Run.{Opds, look, look_raw, store, store_raw, init, stop, hop, fld, from, load, lit, unit_lit, of_opd, bin, addr, and_then, no_more, assigns, assigns_last, land, returns, returns_within, first, branches, skips, stays, leaves_loop, blocks, loops, again, Below, exec, enter, alloc1, alloc0, params1, pass1, pass0, free1, free0}
pub use sound.WpLaws.{FmC, fm_of, WpFn-mono}
pub use denote.RattleType.{RattleType, owns}
pub use denote.Laws.{Is, shows}
pub use denote.Plain.{uint_vals, uint_Tells, uint_Makes, uint_Lawful}
pub use Rattle.std.specs.Borrow.{u8, u16, u32, usize, Bor, MutBor}
pub use denote.Slice.{slice_ty, slice_val, MutSlice, ShrSlice, Room, finally, shr_slice_vals, mut_slice_vals, mut_slice_Tells, shr_slice_Tells, shr_slice_copy}
pub use denote.Index.{place_is}
pub use denote.Memory.{pointee}
pub use denote.Signature.{plain}
pub use denote.Steps.{only, nothing, owned, heard, peeks}
pub use denote.Triple.Entry.{Vals, on_entry}
pub use denote.Triple.Spec.{Meets, triple_of}
pub use denote.Triple.Statement.{Contract, Triple}
pub use denote.Triple.Call.{calls_at, calls_at_last}
pub use denote.Triple.Clauses.{lasts}
pub use denote.Triple.Table.{entered, cited}
pub use denote.Triple.Walked.{says, needs, Stays, stay_none, stay_none_slice, stay_slice, gave_slice, walk_of, Goes-none, Goes-none_slice, Goes-slice, Goes-gave_slice, Walks, ends_at, walked, walk_Meets}
pub use denote.Exit.{yes}
