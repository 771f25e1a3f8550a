-- The names of std, of tp_base and of specs/ that the proofs of this crate use, collected in one module.
pub use Rattle.std.proofs.Common.{arith, ℕ, zero, suc, ◌≡◌, List, [], ◌∷◌, map, IsTrue, IsFalse, Option, Some, refl, ap, subst, sym, ◌∙◌}
pub use Rattle.std.proofs.Common.{◌+◌, ◌<◌, ◌≤◌, length, Bool, true, false, ◌≢◌, length-set, inl, inr, ◌++◌, ◌⊎◌, drop, None, ◌*◌, ◌-◌}
pub use Rattle.std.proofs.{Common.{cond, append_assoc, drop-cons, take, ◌↔◌, IfSome, IfNone}, Math.ListN.set, lemmas.Bool.and_parts}
pub use Rattle.std.proofs.lemmas.{Bool.{cases_Bool, eqb-true, eq-eqb, ne_eqb, Decides.nat_tests}, Grind.common_steps, List.get_or-set_same}
pub use Rattle.std.proofs.lemmas.List.{get_or-set_other, length_push, length-map, map-append, map-set, Edits.map_over_more}
pub use Rattle.std.proofs.lemmas.Option.{slice_get_within, slice_get_past, slice_get-get_or, get_or_from_slice_get, slice_get-map}
pub use Rattle.std.specs.{List.{slice_index_or, list_all}, Option.{is_some, option_map}, Prelude.{slice_get, ◌&&◌, not, ◌==◌}}
pub use Rattle.std.specs.{Prelude.{if◌then◌else◌, ◌||◌, nat_lt}, Vec.vec_capacity}
pub use Rattle.tp_base.specs.declared.{limits.TheConstants.MAX_STEPS, refusal.Refusal.Refusal}
pub use Rattle.tp_dag.specs.Calls.{GoesTo, with_event, Becomes, Awaits, as_described, no_events, with_input, with_task, lacks_steps}
pub use Rattle.tp_dag.specs.Calls.{IsLowest, MayHaveInput, MaySpawn, is_fresh_at, outside_at, one_more, one_less}
pub use Rattle.tp_dag.specs.Counted.{one, entry_of, as_new, may_begin, is_ready, AreCounts, TaskList, ready_at}
pub use Rattle.tp_dag.specs.{Counted.{NoneOf, NoneReady, ComesFirst}, Describing.{Graph, with_inputs, with_next, described, inputs_refusal}}
pub use Rattle.tp_dag.specs.{Describing.{fault_of, class_of, from_of, inputs_of, next_fault, IsFirstFault}, Kept.{MayPassOn, HasRoom}}
pub use Rattle.tp_dag.specs.Kept.{state_of, kept_of, blocks, done_at, is_from_to, owed, IsCounted, Owing, Facts, is_into, IsPool, input_of}
pub use Rattle.tp_dag.specs.{Kept.{newest, events_of, to_come, at_passes, is_of, MayLink, Linked, count_first, IsLinked}, Laws.ReadyIsThis}
pub use Rattle.tp_dag.specs.Laws.{NeverSilent, Call, Leads, Lead, is_repeats, about, dispatched, reported, expected, released, weight}
pub use Rattle.tp_dag.specs.Laws.{times, NeverTwice, AfterItsInputs, Call.{Spawns, Links, Expects, Releases, Starts, Dispatches, Reports}}
pub use Rattle.tp_dag.specs.{Laws.Call.Repeats, State.{PoolState, Entry, IsReady, is_done, IsAt, is_fresh, is_running, count_where}}
pub use Rattle.tp_dag.specs.State.{is_unfinished, is_dispatched, is_awaiting, steps_of_trace, Input, is_done_at, keeps_waiting}
pub use Rattle.tp_dag.specs.State.{is_ready_entry, is_ready_now, ready_tasks, count_below, IsOver, IsConsistent}
pub use Rattle.tp_dag.specs.declared.{entry.{Event.Event, Link.Link, Stage.Stage, Task.Task}, limits.TheConstants.{MAX_TASKS, MAX_OUTSIDE}}
pub use Rattle.tp_dag.specs.declared.{limits.TheConstants.MAX_INPUTS, pool.Pool.TheInside.Inside}
pub use Rattle.tp_dag.specs.declared.entry.Stage.TheVariants as stage
pub use Rattle.tp_dag.specs.declared.entry.Event.TheVariants as event
pub use Rattle.tp_base.specs.declared.refusal.Refusal.TheVariants as refusal
