-- The names of std, of the crates below and of specs/ that the proofs of this crate use, collected in one module.
pub use Rattle.std.proofs.Common.{ℕ, Result, take, get_or, ◌+◌, ◌≡◌, ◌<◌, List, [], ◌∷◌, ◌++◌, true, false, Option, Some, None, length}
pub use Rattle.std.proofs.Common.{refl, ap, subst, ◌∙◌, arith, ◌↔◌, zero, suc, ◌≤◌, Bool, zero-le, ◌-◌, sym, is_some, nat_le, nat_lt, ◌*◌}
pub use Rattle.std.proofs.Common.{reverse}
pub use Rattle.std.proofs.Common.{IsTrue, IsFalse, length-append, inl, inr, append_assoc, Global, vec_capacity, cond, set, length-set}
pub use Rattle.std.proofs.{Common.{eqb-true, get_or-set_same, get_or-set_other, rules, vec_len}, lemmas.Bool.{cases_lt, cases_Bool}}
pub use Rattle.std.proofs.lemmas.{Bool.{both_ways, and_parts, Decides.nat_tests}, Grind.common_steps, List.{take_more, reverse-append}}
pub use Rattle.std.{proofs.lemmas.{List.length-reverse, Result.err_from_is_err_and}, specs.List.{list_any, slice_index_or, find, list_all}}
pub use Rattle.std.specs.{Option.option_map, Prelude.{IsOk, Ok, Err, ◌≢◌, not, ◌==◌, ◌&&◌, ◌||◌, unwrap_or, if◌then◌else◌}}
pub use Rattle.std.specs.declared.vec.Vec.{Vec}
pub use Rattle.tp_base.specs.{Checks.{first_refusal, Check}, History.Event, Table.{lookup, has_place, Puts}, declared.NodeId.NodeId}
pub use Rattle.tp_base.specs.declared.{MessageId.MessageId, Generation.Generation}
pub use Rattle.tp_base.specs.declared.Refusal.{Refusal, TheVariants.{NoMemory, NotIdle, StoreFull}}
pub use Rattle.tp_base.specs.declared.Step.{Step, TheVariants.{Insert, Supply, Begin}}
pub use Rattle.tp_base.specs.declared.Step.TheVariants.{Done, ActionOpen, ActionClose, Ready, Send, Recv, MessageEnd, Start, Down, Give, Up}
pub use Rattle.tp_base.specs.declared.{Step.TheVariants.{Judge, Reopen}, Sums.Sums, Table.Table, limits.TheConstants.MAX_MESSAGES}
pub use Rattle.tp_base.specs.declared.limits.TheConstants.{MAX_STEPS, MAX_NODES}
pub use Rattle.tp_core.specs.Accepted.{Accepted, refusal, answer, answers, next, after_all}
pub use Rattle.tp_core.specs.Accepted.{is_no_memory, AcceptsOrRefuses, AcceptOrRefuseAll, IsAcceptable}
pub use Rattle.tp_core.specs.Accepted.{IsRefusedFor, asks_memory, world_of, numbers_in, room_check, with_step, now_of, is_action_beside}
pub use Rattle.tp_core.specs.{Accepted.{HasRoom, IsInRoom, AreInRoom, is_at_limit, list_length, wave_check}, Settled.settle_room}
pub use Rattle.tp_core.specs.Taken.{Taken, IsSame, IsPushed}
pub use Rattle.tp_core.specs.declared.accepting.TheConstants.{MAX_COUNT}
pub use Rattle.tp_core.specs.{Accepted.{is_message_beside, is_task_beside, begins_piece, keeps_more, reply_to, judged}, Advancing.HasWaves}
pub use Rattle.tp_core.specs.Left.{AreDone, IsNextLeft, is_left}
pub use Rattle.tp_core.specs.{Advancing.{Advances, over_of}, Generations.{MayCome, AreRuns, world_after, history_after, InEach}}
pub use Rattle.tp_core.specs.Kept.{accepted, IsKept, is_kept_open, HasNumbers, Agree, HasActions, HasMessages}
pub use Rattle.tp_core.specs.Kept.{HasPlaces, HasTasks, held, AreOpened, opened_below, has_in, is_posted}
pub use Rattle.tp_core.specs.{Kept.is_under_way_stage, Laws.{RunsAreCounted, QuietIsSeen, GenerationsAreRuns, NeverEarlyInEach, inserts}}
pub use Rattle.tp_core.specs.{Laws.{begins, IsOnce, HasSets, JudgedSoon, TwoNumbersTell, ends}, NeverEarly.{is_insert_of, HasRunOnce}}
pub use Rattle.tp_core.specs.{NeverEarly.{IsOverFrom, IsNeverEarly, is_begin_of, is_done_of}, NodeSet.has, Pool.{with_life, without, after}}
pub use Rattle.tp_core.specs.{Pool.{lacking, supplied, opened, closed}, Reached.AcceptedIsNeverEarly, Run.{world, history, node_of}}
pub use Rattle.tp_core.specs.{Run.{IsLawful, IsLawfulRun}, Settled.{settle_checks, rooms_check, ends_before, IsSettled}, StepChecks.checks}
pub use Rattle.tp_core.specs.{StepChecks.{refusal_of, is_idle}, ToTheEnd.{FewIfDue, MaySettle, ReportsEnd, IsTaken, GoesOn, AreTaken}}
pub use Rattle.tp_core.specs.World.{World}
pub use Rattle.tp_core.specs.World.{Task, all_left, Action, Kind, OfMessage, is_under_way, is_action, is_message, is_open, is_done, is_at}
pub use Rattle.tp_core.specs.World.{is_unfinished_at, how_many, openings, pending, Opening, Named, is_known_message, life_of, home_of}
pub use Rattle.tp_core.specs.{World.{IsQuiet, is_quiet, Message, same_kind}, declared.{accepting.Core.TheInside.Inside, held.Held.Held}}
pub use Rattle.tp_core.specs.declared.{life.Life.Life, node_set.NodeSet.NodeSet, numbers.NodeNumbers.NodeNumbers, posted.Posted.Posted}
pub use Rattle.tp_core.specs.declared.reply.Reply.{Reply, TheVariants.{WaveSums, Plain, Opened}}
pub use Rattle.tp_wave.proofs.{Each.two_sums_law, Given.{pool_step, started_law}, Judged.{two_tell_law, ended_law}, Positions.before-all}
pub use Rattle.tp_wave.{proofs.{Positions.before-past, Runs.quiet_law, Settling.{soon_law, goes_on_law}}, specs.Control.is_control}
pub use Rattle.tp_wave.specs.{Control.{IsControlStep, IsDue, in_wave, has_ended, IsEndedWave}, ControlChecks.control_refusal}
pub use Rattle.tp_wave.specs.{ControlChecks.control_checks, Cut.DoTwoTell, Generations.{present, generation, IsOfGeneration}}
pub use Rattle.tp_wave.specs.{Generations.present_events, Machine.{steps_of, is_send_numbered, is_send_to, under_way, under_way_after}}
pub use Rattle.tp_wave.specs.{Machine.{pending_at, pending_after, IsOf, Needs, History}, Settling.ComesNext, Steps.{count, is_send_of}}
pub use Rattle.tp_wave.specs.Steps.{is_recv_at, any, before, is_give, is_start, is_reopen}
pub use Rattle.tp_wave.specs.Sums.{is_ended, judgement, visited_at, waves, until}
pub use Rattle.tp_wave.specs.{Sums.{sent_sum, received_sum, four_equal}, Wave.{Follows, Stands, nodes_of, started}, declared.Wave.Wave}
pub use Rattle.tp_wave.specs.Machine as machine
pub use Rattle.tp_core.specs.declared.life.Life.TheVariants as life
pub use Rattle.tp_wave.specs.Cut as cut
pub use Rattle.tp_core.specs.declared.posted.Stage.TheVariants as stage
pub use Rattle.tp_wave.specs.Generations as generations
