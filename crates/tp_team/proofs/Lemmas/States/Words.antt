-- The names of std, of the crates below and of specs/ that the proofs of this crate use, collected in one module.
pub use Rattle.std.proofs.Common.{◌≡◌, ◌⊎◌, inl, inr, ℕ, Bool, true, false, List, [], ◌∷◌, Option, Some, None, Result, Ok, Err, IfSome}
pub use Rattle.std.proofs.Common.{refl, ap, sym, subst, ◌∙◌, ◌≤◌, ◌<◌, ◌+◌, ◌≢◌, zero, suc, IsTrue, length, arith, ◌-◌, ◌++◌, map}
pub use Rattle.std.{proofs.lemmas.Bool.{and_parts, Decides.nat_tests}, specs.Prelude.{if◌then◌else◌, slice_get, nat_lt, not, ◌&&◌, ◌==◌}}
pub use Rattle.std.specs.Prelude.{◌||◌, slice_set}
pub use Rattle.tp_base.specs.{Checks.first_refusal, declared.refusal.Refusal.Refusal}
pub use Rattle.tp_dag.specs.{Calls.{is_over, with_task, with_input, IsReported, done_checks, Becomes, IsDispatched}, Describing.Graph}
pub use Rattle.tp_dag.specs.{Describing.{IsFirstFault, describe_checks, described, with_inputs, inputs_of, class_of}, Laws.ReadyIsThis}
pub use Rattle.tp_dag.specs.{Laws.NeverSilent, State.{PoolState, Entry, IsReady, is_done, is_unfinished, count_where, count_below}}
pub use Rattle.tp_dag.specs.{State.{is_ready_now, ready_tasks, IsOver, IsConsistent, is_fresh}, declared.entry.Stage.Stage}
pub use Rattle.tp_team.specs.Calls.{Check, first, of_pool, fault_check, IsGraphRefusal, HasToWait, repeated, TakesTurn, Reports, Decides}
pub use Rattle.tp_team.specs.{Calls.{Starts, stopped_by, came, opened, with_pool}, Laws.{IsIdle, NeverStuck, Described, Spawned, Expected}}
pub use Rattle.tp_team.specs.Laws.{Released, Started, Turned, Stopped, Repeated, HasWaited, waits, returns, CountsThreads, NeverLosesWakeUp}
pub use Rattle.tp_team.specs.{Laws.{Call, LeadTo, runs, dispatches, DispatchesOnce}, State.{HasReady, HasFinished, in_turns, needed}}
pub use Rattle.tp_team.specs.{State.{signalled_by, HasEnded, Settles, LosesNoWakeUp, left}, declared.limits.TheConstants.MAX_THREADS}
pub use Rattle.tp_team.specs.declared.{refusal.{Fault.Fault, TeamRefusal.TeamRefusal}, state.State.State, turn.Arrival.Arrival}
pub use Rattle.tp_team.specs.declared.{turn.{Reply.Reply, Turn.Turn}, waiting.Waiting.Waiting}
pub use Rattle.tp_base.specs.declared.refusal.Refusal.TheVariants as refusal
pub use Rattle.tp_base.specs.Checks as base
pub use Rattle.tp_dag.specs.Describing as graph
pub use Rattle.tp_team.specs.declared.refusal.TeamRefusal.TheVariants as team
pub use Rattle.tp_dag.specs.declared.entry.Stage.TheVariants as stage
pub use Rattle.tp_team.specs.declared.turn.Arrival.TheVariants as arrival
pub use Rattle.tp_team.specs.declared.turn.Turn.TheVariants as turn
