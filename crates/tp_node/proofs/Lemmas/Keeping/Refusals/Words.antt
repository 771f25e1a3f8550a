-- The names of std, of the crates below and of specs/ that the proofs of this crate use, collected in one module.
pub use Rattle.std.proofs.Common.{ℕ, ◌≡◌, [], ◌∷◌, false, Option, Some, None, Result, Ok, refl, sym, ap, subst, ◌∙◌, arith, zero, suc, ◌+◌}
pub use Rattle.std.proofs.Common.{◌<◌, ◌≤◌, true, List, ◌++◌, map, take, drop, unwrap_or, inl, inr, count_by, add-one, ◌≢◌, ◌==◌, cond}
pub use Rattle.std.proofs.{Common.{length, get_or, set, MatchBool, ◌-◌, Bool, IsTrue, Err, rules}, lemmas.Bool.cases_eq}
pub use Rattle.std.proofs.lemmas.{Bool.Decides.nat_tests, Cmp.{nat_cmp_total, eq_by_cmp_equiv}, List.{length-append, map-append}}
pub use Rattle.std.proofs.lemmas.List.{reverse-append, length-map, get_or-map, Elements.{All-push, All-cons, All-drop}}
pub use Rattle.std.{proofs.lemmas.Result.{on_ok_weaker, on_err_weaker}, specs.{List.{find, All}, Option.option_map, Ordering.nat_cmp}}
pub use Rattle.std.specs.Prelude.{IfErr, IfNone, IfOk, IfSome, OnErr, OnOk, if◌then◌else◌, is_some, MatchOption, max, nat_lt, reverse}
pub use Rattle.std.specs.{Prelude.{replicate, is_none, ◌⊎◌, not, OnSome, slice_get}, Result.result_err, Vec.Iter.into_iter_items}
pub use Rattle.tp_base.specs.{Checks.{first_refusal, Check}, History.Event, declared.Refusal.TheVariants.{TaskKnown, Inactive}}
pub use Rattle.tp_base.specs.declared.{ids.{MessageId.MessageId, TaskId.TaskId}, refusal.Refusal.{Refusal, TheVariants.WrongLife}}
pub use Rattle.{tp_base.specs.declared.{refusal.Refusal.TheVariants.NoMemory, step.Step.Step}, tp_graph.specs.declared.feed.Feed.Feed}
pub use Rattle.tp_board.{proofs.Answering.same_answer, specs.{Calls.{Appends, IsChecked, IsCheckedWith}, Numbers.{event, ShareNumbers}}}
pub use Rattle.tp_board.specs.{Numbers.{numbers_after, LinkNumbers}, States.{IsCheckedFor, BoardState, IsAtPiece, full_check, with_event}}
pub use Rattle.tp_board.specs.{States.with_reserved, Turns.{MovesOrEnds, MakesFirst, control_event, ends, may_make, turn_steps}}
pub use Rattle.{tp_board.specs.declared.turn.Turn.Turn, tp_wave.specs.{Generations.present, Machine.{is_send_to, steps_of}, Steps.any}}
pub use Rattle.tp_graph.specs.{Carried.{Begun, Carried}, Graphs.TaskGraph, Left.result_of, Link.Line, Values.{IsInput, AreInputs}}
pub use Rattle.tp_monitor.specs.{Monitors.is_idle, declared.TaskpoolState.TheVariants.{NotReady, Busy, Terminated}}
pub use Rattle.tp_node.{proofs.Finite.feeds_some, specs.{Actions.{has_message, opening_count}, Begins.{AreWorksOf, BeginsSome, IsWorkOf}}}
pub use Rattle.tp_node.specs.{Begins.{begins_of, begun_with_each, joined, next_ready, ready_count}, Calls.{Begins, Rests}, Locals.Numbers}
pub use Rattle.tp_node.specs.Locals.{LocalState, pending_here, finish_checks, is_live, EachOnce, is_inactive, refusal_of_new_task}
pub use Rattle.tp_node.specs.{Locals.{refusal_of_insertion, refusal_of_delivery}, Nodes.{NodeState, begun_with, event_of, IsRightTask}}
pub use Rattle.tp_node.specs.Nodes.{AreRightValues, AreHere, IsNode, IsCountedBy, inserting, task_at, with_store, HasBrought, with_received}
pub use Rattle.tp_node.specs.{Nodes.IsOfPool, PoolLinks.{IsOnWay, IsPoolLink, PoolLinkState}, Refused.runs, Turns.turn_of}
pub use Rattle.tp_slots.{proofs.Sound.get_inserted, specs.Content.{front, without_front}}
pub use Rattle.tp_store.{proofs.{Contents.{available, moves}, Counting.passing-insert}, specs.Content.{Content, Task, begun, count_lives}}
pub use Rattle.tp_store.specs.Content.{is_ready, life_of, task_of, values_of, with_begun, has_begun, fresh, with_value, done, with_task}
pub use Rattle.tp_store.specs.Content.{with_inserted, with_delivered, with_done, nothing_stored, inserted_by, unfinished, is_running}
pub use Rattle.tp_store.specs.Content.{refusal_of_done, is_unfinished, is_done, refusal_of_new, refusal_of_insert, refusal_of_deliver}
pub use Rattle.tp_store.specs.{Content.refusal_of_value, Sound.{IsSound, IsTask, lacking, times_done}, declared.life.Life.TheVariants.Done}
pub use Rattle.tp_store.specs.declared.life.{Delivered.TheVariants.{Inserted, Filled}, Life.{Life, TheVariants.{Ready, Running, Waiting}}}
pub use Rattle.std.specs.FinMap as finite
pub use Rattle.tp_base.specs.declared.step.Step.TheVariants as steps
