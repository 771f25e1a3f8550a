-- The names of std, of the crates below and of specs/ that the proofs of this crate use, collected in one module.
pub use Rattle.std.proofs.Common.{◌≡◌, ◌<◌, ◌+◌, ℕ, zero, suc, List, [], ◌∷◌, ◌++◌, ◌⊎◌, inl, inr, Bool, true, false, Option, Some, None}
pub use Rattle.std.proofs.{Common.{refl, subst, sym, ◌∙◌, ap, arith, length, map, take, eqb, ◌↔◌}, Math.{Bool.or-false, ListN.length-set}}
pub use Rattle.std.proofs.lemmas.Bool.{and_parts, or_cases, cases_eq, cases_order, eq-eqb, eqb-true, ne_eqb, cases_Bool, or_parts}
pub use Rattle.std.proofs.lemmas.{Bool.{or_right as or_true, false_from_ne_true as not_true, Decides.nat_tests}, Grind.common_steps}
pub use Rattle.std.proofs.lemmas.List.{take_more, flat_map_more, length_push, get_or-set_same, get_or-set_other, get_or_append_left}
pub use Rattle.std.proofs.lemmas.List.{get_or_push, get_or-map, length-map, map-set, set-get_or, take_all, Elements.All-more}
pub use Rattle.std.proofs.lemmas.List.{Filters.dedup_is, Kept.{Contains-dedup_nat, Contains-from_dedup}, Recursion.or_push}
pub use Rattle.std.proofs.lemmas.{List.Sorted.{Contains-permutation, IsPermutation-sym}, Map.Keys.IsStrictlyIncreasing-dedup}
pub use Rattle.std.{proofs.lemmas.Option.{slice_get-get_or, same_Some}, specs.List.{flat_map, Contains, dedup, All, Sorted.IsPermutation}}
pub use Rattle.std.specs.{Option.option_to_list, Prelude.{◌-◌, ◌==◌, ◌&&◌, ◌||◌, if◌then◌else◌, IsTrue, slice_get, slice_set}}
pub use Rattle.std.specs.Prelude.{slice_index_or, nat_lt}
pub use Rattle.tp_flow.specs.Description.{Task, Description, Has, reads, writes, has_access, is_accessed, is_written, last_writer}
pub use Rattle.tp_flow.specs.Description.{readers_since, readers_or, awaited_by, awaited, newest_of, all_below, IsAbove, AreOrdered}
pub use Rattle.tp_flow.specs.{Description.{AreTasksBelow, with_handle, with_task}, Laws.{IsInput, IsChain, Reaches, Conflict, Event, Begun}}
pub use Rattle.tp_flow.specs.Laws.{Done, IsRun, Values, IsBody, AreBodies, IsOrder, values_after, numbers, AreDistinct, ComeAfterInputs}
pub use Rattle.tp_flow.specs.State.{HandleState, FlowState, RoomyFlow, HasDescription, IsReady, Follows, handle_of, is_not_above}
pub use Rattle.tp_flow.specs.State.{state_of_uses, has_room, AreKept, is_number, is_recorded, with_access, Pass, can_record, view_of}
pub use Rattle.tp_flow.specs.declared.{access.{Access.Access, Mode.Mode}, uses.Uses.Uses}
pub use Rattle.tp_flow.specs.declared.access.Mode.TheVariants as mode
