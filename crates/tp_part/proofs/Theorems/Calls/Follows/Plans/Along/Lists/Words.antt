-- The names of std, of the crates below and of specs/ that the proofs of this crate use, collected in one module.
pub use Rattle.std.proofs.Common.{arith, ℕ, zero, suc, ◌≡◌, List, [], ◌∷◌, map, IsTrue, IsFalse, Option, Some, refl, ap, subst, sym, ◌∙◌}
pub use Rattle.std.proofs.Common.{◌+◌, ◌<◌, ◌≤◌, length, Bool, true, false, ◌≢◌, length-set, inl, inr, ◌++◌, ◌⊎◌, drop, None, ◌-◌, cond}
pub use Rattle.std.proofs.{Common.{append_assoc, take, IfSome, length-append}, Math.{Bool.{and-true, and-false, or-false}, ListN.set}}
pub use Rattle.std.proofs.{Math.Seq.{take-length, drop-length, take-append_seam}, lemmas.Bool.{and_parts, eqb-true, eq-eqb, ne_eqb}}
pub use Rattle.std.proofs.lemmas.Bool.{cases_Bool, false≢true, cases_eq, or_cases, or_left, or_right, and_from, not-false, not-true}
pub use Rattle.std.proofs.lemmas.{Bool.{false_from_ne_true as never, Decides.nat_tests}, List.{length_push, append-nil, length-map}}
pub use Rattle.std.proofs.lemmas.List.{map-append, map-set, Folds.list_any-append, Sorted.searched}
pub use Rattle.std.proofs.lemmas.{Map.Keys.any_passes_from_place as any_from, Option.{slice_get_within, get_or_from_slice_get}}
pub use Rattle.std.{proofs.lemmas.Option.slice_get-map, specs.List.{slice_index_or, list_any, list_all, Sorted.IsBinarySearchResult}}
pub use Rattle.std.specs.{Option.{is_some, option_map}, Ordering.nat_cmp, Prelude.{slice_get, ◌*◌, ◌&&◌, not, ◌==◌, if◌then◌else◌, ◌||◌}}
pub use Rattle.std.specs.{Prelude.{nat_lt, Result, Ok, Err, MatchResult, nat_le, OnOk, IfErr, is_err}, Vec.vec_capacity}
pub use Rattle.tp_base.specs.{Checks.first_refusal, declared.refusal.Refusal.Refusal}
pub use Rattle.tp_dag.proofs.Lemmas.Changes.Keeping.Lists.{all_set, all_push, set_here, set_there, get_push, some_same, at_below, le_or}
pub use Rattle.tp_dag.proofs.Lemmas.Changes.Keeping.Lists.{map_get, map_got, map_same, count_next, count_none, count_at, count_zero}
pub use Rattle.tp_dag.proofs.Lemmas.Changes.Keeping.Lists.{count_few, count_sum, count_set, count_push, same_or, count_same}
pub use Rattle.tp_dag.specs.Calls.{release_checks, Becomes, one_less, Awaits, GoesTo, with_event, IsReported, IsDispatched}
pub use Rattle.tp_dag.specs.{Calls.{with_spawned, spawn_checks}, Counted.one, State.{count_where, Input, PoolState, Entry}}
pub use Rattle.tp_dag.specs.{State.{is_fresh, is_done, count_below}, declared.entry.{Event.Event, Stage.Stage}}
pub use Rattle.tp_dag.specs.declared.{limits.TheConstants.{MAX_INPUTS, MAX_TASKS, MAX_OUTSIDE}, pool.Next.Next as PoolNext}
pub use Rattle.tp_part.specs.Calls.{own_places, with_place, edges_to, with_message, with_messages, MayDescribe, new_part, task_checks}
pub use Rattle.tp_part.specs.Calls.{next_checks, arrived_checks, done_checks, with_task, with_own, with_foreign, Ends}
pub use Rattle.tp_part.specs.{Calls.{with_arrival, Runs, IsWaiting, IsOver, is_read, has_arrived}, Edges.is_of}
pub use Rattle.tp_part.specs.{Edges.{newest, places, is_edge, has_edge, new_edge, passed_on, pass, pass_one}, Kept.{AreAlike, Ascends}}
pub use Rattle.tp_part.specs.Kept.{AreAwaited, SameBut, is_awaited_at, progress_of, state_of, is_passed, IsDone, Holds, AreIncoming}
pub use Rattle.tp_part.specs.{Kept.{AreNumbers, ArePosted}, Laws.{Task, Graph, Owns, HasInput, Call, CallAt, Does, LeadTo, calls_at}}
pub use Rattle.tp_part.specs.Laws.{is_run, is_end, is_send, is_arrival, Has, WasSent, Brings, IsCarried, IsRun, times, AreOnce, IsHere}
pub use Rattle.tp_part.specs.Laws.{newest_of, IsSettled, WaitsOrStops, AllEnded, NeverSilent, is_progress, is_among, reads, owned_by, goes}
pub use Rattle.tp_part.specs.Laws.{sum_below, messages, AllEnd, Call.{Described, Started, Ran, Sent, Waited, Stopped, Ended, Came}}
pub use Rattle.tp_part.specs.{State.{PartState, Progress, place_in, IsReady, HasSentAll, AreDone, Reads, IsAt}, declared.edges.Edge.Edge}
pub use Rattle.tp_part.specs.declared.part.Part.TheInside.{Inside}
pub use Rattle.tp_base.specs.declared.refusal.Refusal.TheVariants as refusal
pub use Rattle.tp_dag.specs.declared.entry.Stage.TheVariants as stage
