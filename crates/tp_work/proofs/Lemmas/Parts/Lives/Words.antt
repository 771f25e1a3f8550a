-- The names of std, of the crates below and of specs/ that the proofs of this crate use, collected in one module.
pub use Rattle.std.proofs.Common.{◌≡◌, ◌∙◌, ◌+◌, ◌<◌, ◌≤◌, ◌⊎◌, ℕ, true, false, List, [], ◌∷◌, ◌++◌, length, map, reverse, Option, Some, Ok}
pub use Rattle.std.proofs.Common.{None, IfErr, IfOk, IfSome, IsTrue, MatchOption, MatchResult, OnOk, Result, Err, refl, sym, ap, subst, inl}
pub use Rattle.std.proofs.Common.{inr, arith, get_or, vec_len, ◌*◌, ◌↔◌, Bool, append-nil, zero, suc, ◌-◌, take, add-zero, zero-mul, ◌==◌}
pub use Rattle.std.proofs.Common.{suc-mul, filter, drop, IsFalse, slice_set, slice_get, slice_index_or, append_assoc, cond, rules}
pub use Rattle.std.proofs.{Math.Seq.drop-cons, lemmas.Bool.{cases_lt, cases_Bool, eq-eqb, cases_eq, ne_eqb, Decides.nat_tests}}
pub use Rattle.std.proofs.lemmas.{Grind.{flat_map-append, take_at_read}, List.{get_or-map, get_or_default, length-map, map-append}}
pub use Rattle.std.proofs.lemmas.List.{same_lists, length-append, length-reverse, nil_from_length, reverse-append, reverse-reverse}
pub use Rattle.std.proofs.lemmas.List.{take-append-drop, get_or_past, get_or-reverse, get_or-set_same, get_or-set_other, Elements.All-cons}
pub use Rattle.std.proofs.lemmas.List.{Elements.{All-head, All-map, All-nil, All-push, All-tail, filter-append}, Sums.count_by-le-length}
pub use Rattle.std.proofs.lemmas.List.{FromFn.length-map-range_with_len, Sums.{sum_by-append, sum_by-cons, count_by_more_yes}}
pub use Rattle.std.proofs.lemmas.{List.Sums.length-filter, Option.get_or_from_slice_get, Result.IfErr-weaker, Simd.map-map}
pub use Rattle.std.{proofs.lemmas.Slice.Zip.AllZip-long, specs.{List.{All, AllZip, range_with_len, flat_map, count_by}, Option.option_or}}
pub use Rattle.std.specs.{Option.{unwrap_or, option_to_list}, Prelude.{nat_lt, sum_by, if◌then◌else◌, ℤ}, Vec.Iter.into_iter_items}
pub use Rattle.tp_base.specs.{History.Event, Totals.total, declared.ids.{Generation.Generation, MessageId.MessageId, NodeId.NodeId}}
pub use Rattle.tp_base.specs.declared.{ids.TaskId.TaskId, limits.TheConstants.MAX_STEPS, refusal.Refusal.{Refusal, TheVariants.HistoryFull}}
pub use Rattle.tp_base.specs.declared.{refusal.Refusal.TheVariants.{Missing, NoMemory}, step.Step.{Step, TheVariants.{Reopen, Send}}}
pub use Rattle.tp_board.{proofs.Links.length-links_of, specs.{Calls.Appends, Numbers.{first_links, first_numbers, first_shares, links_of}}}
pub use Rattle.{tp_board.specs.{Numbers.ShareNumbers, States.{BoardState, full_check, with_fault}}, tp_graph.specs.Carried.Begun}
pub use Rattle.tp_graph.specs.{Found.{HasEachOnce, times}, Graphs.{TaskGraph, IsLawful}, Left.AreResults, Serial.Results}
pub use Rattle.tp_node.proofs.Gathering.{results_of}
pub use Rattle.tp_node.specs.{Begins.next_task, Calls.{IsCheckedWithBoth, Begins, Rests}, Locals.pending_here}
pub use Rattle.tp_node.specs.{Nodes.{NodeState, anew, counted_of}, PoolLinks.PoolLinkState, declared.pool.Pool.Pool}
pub use Rattle.tp_wave.proofs.Generations.{ended_generations_law, steps-present, present-goes_on, present_run, length-present}
pub use Rattle.tp_wave.{proofs.{Generations.present-reopened, Given.count-le, Positions.length-steps_of}, specs.Generations.AreRuns}
pub use Rattle.tp_wave.specs.{Generations.{ended_generations, present, present_events, generation}, Machine.{History, steps_of, pending_at}}
pub use Rattle.{tp_wave.specs.{Machine.{IsRun, step_of}, Steps.{is_reopen, any, is_send}, Sums.is_ended}, tp_work.specs.Lives.LivesInEach}
pub use Rattle.tp_work.{proofs.CountedTotals.{count-done, length-once}, specs.Lives.{LivesOnce, generations, sent_in, AreStages, life}}
pub use Rattle.tp_work.specs.Lives.{first_moments, moment_of, moments, stage, with_moment, IsFollowed}
pub use Rattle.tp_work.specs.Outcomes.{IsRefusalForFault, IsFaultOf}
pub use Rattle.tp_work.specs.Outcomes.{IsUngathered, Lacks, HasEnded, IsFaultBy, IsDoneOnce, IsFault, IsLack, IsOutcome, AreMarks}
pub use Rattle.tp_work.specs.{Outcomes.is_marked, Places.{IsWhole, AreInOrder, AreOf}, Reports.{IsReport, IsReportOf, AreOfTheRun, IsEnd}}
pub use Rattle.tp_work.specs.{Reports.{IsGathered, IsOfItsRun, IsOver, nodes_announced}, RunQueues.{BeginsEach, RunQueueState, IsRunQueue}}
pub use Rattle.tp_work.specs.Series.{IsKept, IsNotReopened, IsRound, IsSeries, IsSeriesFault, IsSeriesLack, with_messages, IsDoneOnceInEach}
pub use Rattle.tp_work.specs.{Series.StopsAfter, declared.{config.Fault.Fault, gathered.Report.Report, series.{Round.Round, Series.Series}}}
