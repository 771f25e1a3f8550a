-- The names of std, of slab, of tp_base and of specs/ that the lemmas on slots use, collected in one module.
pub use Rattle.slab.{proofs.SlabLemmas.{Updates-set, Updates-with_value}, specs.Slab.{Slab, slab_len, HasRoomFor, Updates, ContainsKey}}
pub use Rattle.slab.specs.Slab.{with_value, entries_from, get, entries}
pub use Rattle.std.proofs.Common.{◌≡◌, ℕ, suc, ◌+◌, ◌-◌, ◌<◌, ◌≤◌, ◌==◌, true, false, cond, List, length, get_or, [], Result, Ok, Err}
pub use Rattle.std.proofs.Common.{IfErr, Option, Some, None, is_some, IfSome, refl, sym, ap, subst, ◌∙◌, inl, inr, arith, ◌≢◌, zero, nat_lt}
pub use Rattle.std.proofs.Common.{Bool, ◌∷◌, ◌++◌, map, set, IsSome, count_by, ◌*◌, take, drop, append_assoc, append-nil, All, ◌⊎◌}
pub use Rattle.std.proofs.{Common.{replicate, zero-le, below_more, option_copied}, Math.{ListN.get_or-map, Seq.map-set_same}}
pub use Rattle.std.proofs.{Math.Seq.{take-append_seam, drop-append_seam}, lemmas.Bool.{cases_eq, cases_lt, eq-eqb, ne_eqb}}
pub use Rattle.std.proofs.lemmas.{Bool.Decides.nat_tests, List.{length-set, length-append, get_or-set_same, get_or-set_other, get_or_past}}
pub use Rattle.std.proofs.lemmas.List.{length-map, get_or_append_left, length-replicate, map-set, take_more_set}
pub use Rattle.std.proofs.lemmas.List.{get_or-map as get_or-map_within, get_or-replicate, get_or_push, map-append, take_all}
pub use Rattle.std.proofs.lemmas.List.{nil_from_length, Elements.{All-push, All-set}, Sums.{sum_by-cons, sum_by-append, sum_by-set}}
pub use Rattle.std.{proofs.lemmas.List.Sums.count_by-le-length, specs.{Cmp.{nat_cmp_total, unsigned_tied}, Mem.type_size, Ordering.nat_cmp}}
pub use Rattle.std.specs.{Ordering.eq_by_cmp, Result.IsErrAnd, Vec.{vec_len, vec_capacity}, VecDeque.{deque_len, deque_capacity}}
pub use Rattle.std.specs.declared.{alloc.Global.Global, collections.VecDeque.VecDeque}
pub use Rattle.tp_base.specs.declared.refusal.Refusal.{Refusal, TheVariants.{NoMemory, StoreFull}}
pub use Rattle.tp_slots.specs.{Blocks.{pointers_of, pointers_in, HoldsFirst, IsBlock, rows_of}, Cells.{cell_at, IsFull, empty_at}}
pub use Rattle.tp_slots.specs.{CellsOwnership.row_from, ChainLends.{slot_with, holding, with_item_at, vacated, without_item_at}}
pub use Rattle.tp_slots.specs.Chains.{next_in, item_in, next_at, IsChain, KeepsOthers, IsPath, IsBack, IsLink, led_to, with_next}
pub use Rattle.tp_slots.specs.{Commands.{State, start, held, is_listed, is_full, reply_of, after, replies_of}, Content.{Content, IsTaken}}
pub use Rattle.tp_slots.specs.Content.{IsIdle, held_count, refusal_of_take, with_item, without_item, front, without_front, with_last}
pub use Rattle.tp_slots.specs.{Content.{IsSound, times, item_at, with_ready, without_next, nothing_held}, Lists.AreChains, Names.name_at}
pub use Rattle.tp_slots.specs.Names.{place_of, Agrees, Tells, Represents}
pub use Rattle.tp_slots.specs.RawSlots.{items_in, IsLinked, IsHoused, places_from, raw_content}
pub use Rattle.tp_slots.specs.{RawSlots.{IsCounted, IsRaw}, SlabSlots.{Roomy, EachHolds, IsKept}, declared.blocks.Block.Block}
pub use Rattle.tp_slots.specs.declared.{cells.At.At, chains.{Chain.Chain, Link.Link, Slot.Slot}, run.Command.TheVariants.{Take, PushReady}}
pub use Rattle.tp_slots.specs.declared.run.{Command.TheVariants.GiveBack, Reply.TheVariants.{Taken, Refused, Plain, Item, Next}}
pub use Rattle.tp_slots.specs.declared.run.Standing.{Standing, TheVariants.{Gone, Held}}
pub use denote.{RattleType.RattleType, RawPtr.{Ptr, null_ptr, block_ptr, ◌+ₚ◌}}
pub use Rattle.std.specs.FinMap as map
