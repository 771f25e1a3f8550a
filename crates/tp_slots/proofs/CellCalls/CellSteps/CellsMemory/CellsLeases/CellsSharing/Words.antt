-- The names that the proofs of calls on raw cells cite, passed on from one place. Declares nothing.
pub use Prim.Native.Nat.{ℕ, ◌+◌, ◌*◌, ◌<◌, ◌^◌, zero, suc}
pub use native.Mathlib.{Nat.{zero-mul, suc-mul}, Omega.arith}
pub use mathlib.Core.{Bool.{true, false}, List.{List, [], ◌∷◌, ◌++◌}, Path.{◌≡◌, refl, sym, ap, subst, ◌∙◌}}
pub use lib.{Dec.{lit<, T}, ListN.{set, take, drop, length}}
-- the machine: code, values, locals
pub use mir.{MapTy.inst_fn, Raw.raw as bare, Syntax.{Fn, Body, named, w64, ty_array, Ty, Args as MirArgs, a_type, dcons, dnil, Callee}}
pub use mir.{Syntax.ty_unit, Val.{Val, vptr, vint, vunit, vstruct, vcons, vnil, of_list, has_ty, WT}}
pub use prog.{Capped.{capped_fits, capped_is}, Memory.{align, capped, size}, Model.Model, RawLaws.{size-raw, align-raw}, Wp.{Env, Wp}}
pub use prog.Wp.{after_seq, at_return, Calls, Loops, WpFn, Closed}
-- what is owned, and what follows from it
pub use base.{Fml.{Lft, GName, Share, Fml, Incl-trans, ftrue, fsep, fat, froom, flft, Incl, fobs, fauth, fbor, fobor}, Fraction.full_share}
pub use base.{Logic.{SProp, ent, sep, emp, never, id⊢, fst∗, ex, guard, via, snd∗, mono∗, emp∗}, Shift.Keyless, Stored.Gv}
pub use borrow.Table.OneValue.{part_in, part_out}
pub use contract.{BorrowLft.{◌⊑◌, meet_⊑_left}, Lifetimes.{Lfts, Shares, Outlives, AllOutlive}, Monad.{fact, fact_i}, Running.tables}
pub use contract.Running.{Running, MachineTables}
pub use seplogic.Ra.Ura.{Ura}
-- the steps of the logic's own calculus
pub use types.ByLocal.{alloc_all, pass_all, free_all, look_at, look_in_at, take_at, give_at, get, get_in, get_tag, is, sets, sets_last}
pub use types.{ByLocal.{lands_as, lands_last, env}, Kit.{Item, Sq, prop, ⋆, ‵, raw, ◌⊛◌, some, later, given, any_q, at_ret, ◌$◌, !, ◌∵◌}}
pub use types.Kit.{qed, by, done, move, keep, use0, use1, use2, use3, split, split3, join, group, rewrite, await, pick, learn, fsplit}
pub use types.Kit.{fsplit3, fjoin, fjoin3, fpack, feq_i, feq_l, flt_i, flt_l, drop as skip, Post as After, frame, check, show, Goal, Step}
pub use types.{Kit.{step, Seq, Soaks, allocs, params', runs, regoal}, Logic.{Logic, sem}, Match.{live, vrt, in_variant}, Part.{whole, sub}}
pub use types.{Part.agg, Run.{stop, hop, from, fld, look, load, init, addr, bin, lit, unit_lit, size_lit, size_word, align_word, of_opd}}
pub use types.{Run.{switches_on, and_then, no_more, assigns_last, first, blocks, exec, returns, enter}, SemTy.Body as Borrowed}
-- types, their values and their places in memory
pub use denote.{Builtin.{RefOf, unit, usize, RefMutOf}, Exit.{yes, no, Exit, unchanged, hidden, under, Last, left}, Follow.{follows, Part}}
pub use denote.{Follow.lends_Part, Laws.{Is, shows, Are, Ises}, Memory.{mem, lone, hidden_shr, cell_at as mem_cell, part_at}}
pub use denote.{Opens.{hide, unhide}, Param.{layout, param, bounded, Laws.{Laws, param_laws}, Mute.blank, Send.{IsSend, IsSync, Quiet}}}
pub use denote.Param.{Send.{Common, AllSend, Frees, part_keyless, owning_send, struct_send, struct_sync, sendable}, Shared.copy_shared}
pub use denote.{RattleType.{RattleType, RowLaws, Valss, Denots, flat, owns}, RawPtr.{Ptr, block_ptr, null_ptr, ptr_val, ◌+ₚ◌, InBlock}}
pub use denote.{RawPtr.{at_block, block_of, count_of, in_a_block, lies_at, room_for, in_block, RawPtr}, Ref.{MutBor, MutRef, mut_vals}}
pub use denote.{Shadow.makes_shadow, Shares.Shares-less, Sharing.ShrLaws, SharingLaws.{beside_shr_laws, nothing_shr_laws}, Signature.plain}
pub use denote.{Signature.{Slot, Signature, types_at, type_at}, Steps.{nothing, heard, owned, peeks, opens, closes}, Struct.Laws.field_copy}
pub use denote.Struct.{Lending.{lent_at, Lends, lent_at_shr_laws, Lends-lies, Lends-both, Lends-nothing, of_Lends}, Owning.{shape, fields}}
pub use denote.{Struct.{Owning.to, Struct.{Struct, Struct-Makes, exits_of, Shape, within}, Tuple.{Tuple, tuple_type}}, Triple.Call.calls_at}
pub use denote.Triple.{Call.calls_at_last, Clauses.{Ended, Clauses, Lasts, at_exit, closing}, End.{Kepts, Fins}, Entry.{Args, Vals, Res}}
pub use denote.Triple.{Entry.alive, Spec.Meets, Table.framed, Walked.{Stays, stay_dropped, stay_ref, fits_of, has_of, walk_of, AllGo}}
pub use denote.Triple.Walked.{Goes-ref}
-- cells, and the calls of an allocator
pub use Rattle.std.proofs.{RawLayout.{as_raw, as_written}, RcSteps.{word, word-Good, Good as IsGood, first_Good}, ResultValues.ok_of}
pub use Rattle.std.proofs.{ResultValues.err_of, VecSteps.Shapes.{after, head, arm_body}, alloc.Calls.{Al, token, Answer-typed, Takes}}
pub use Rattle.std.proofs.alloc.Calls.{at_takes, Answered, Takes-goes, Takes-gives, answers, Gives, at_gives, Gives-goes, Gives-Gives}
pub use Rattle.std.proofs.{alloc.Calls.Goes-blank, mem.Param.{El, R, args, elτ, el_x, Good, lawful, one}, raw_atomic.Walks.proved_at}
pub use Rattle.std.specs.{Mem.type_size, Prelude.{Option, Some, None, IfOk, Ok, Err}, Vec.Ownership.FitsInBlock}
pub use Rattle.std.specs.declared.alloc.Allocator.{Ghosts}
pub use Rattle.tp_slots.specs.{Cells.{cell_at, IsFull, IsEmpty, empty_at}, CellsLends.with_cells, CellsOwnership.{cell_owns, cells_own}}
pub use Rattle.tp_slots.specs.CellsOwnership.{cell_lent, row_from, cells_lent}
pub use denote.Struct.Declared as Declared
pub use Rattle.tp_slots.specs.contracts.cells.At as At
pub use Rattle.tp_slots.specs.contracts.cells.Cells as Cells
pub use Rattle.tp_slots.specs.contracts.cells.Deed as Deed
