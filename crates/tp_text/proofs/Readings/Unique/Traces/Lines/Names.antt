-- The names of std, of the crates below and of specs/ that the proofs of this crate use, collected in one module.
pub use Rattle.std.proofs.Common.{◌≡◌, ◌==◌, ◌<◌, List, [], ◌∷◌, length, true, false, refl, arith, ℕ, ◌++◌, Option, Some, None, drop, codes}
pub use Rattle.std.proofs.Common.{sym, ap, subst, ◌∙◌, append_assoc, append-nil, length-append, slice_index_or, ◌≢◌, Bool, Ok, is_some}
pub use Rattle.std.proofs.Common.{if◌then◌else◌, ◌≤◌, nat_eq, take, zero, suc, ◌+◌, ◌-◌, ◌*◌, get_or, decimal, slice_index, not, ◌||◌, ◌&&◌}
pub use Rattle.std.proofs.Common.{IsTrue, reverse, slice_get, slice_set, nat_le, inl, inr, Result, Err, add-one, rules, cond, eqb, lit≤}
pub use Rattle.std.proofs.{Common.◌^◌, Math.Seq.take-append_seam, lemmas.Bool.{and_parts, leb-true, cases_Bool, cases_eq, eq-eqb, ne_eqb}}
pub use Rattle.std.proofs.lemmas.{Bool.{lt-leb, Decides.nat_tests}, Fmt.{decimal_nonempty, first_decimal, decimal_digit, digits_decimal}}
pub use Rattle.std.proofs.lemmas.{Fmt.{decimal-digits_value, decimal_injective, length-decimal-le}, Grind.common_steps}
pub use Rattle.std.proofs.lemmas.{Int.Digits.digits_value_more, List.{take-append-drop, get_or_default, get_or-take, length-drop}}
pub use Rattle.std.proofs.lemmas.List.{length-take-le, take_all, get_or-reverse, reverse-append, length-reverse, take_more, get_or-set_same}
pub use Rattle.std.proofs.lemmas.List.{get_or-set_other, reverse-reverse, Elements.{All-head, All-tail, All-nil, All-cons}}
pub use Rattle.std.proofs.lemmas.Option.{get_or_from_slice_get, slice_get-get_or, slice_get_read, slice_get_within}
pub use Rattle.std.proofs.lemmas.{Slice.Eq.bytes_eq-Decides, Str.{digit_value_digit, Parse.{IsNumeralModel, numerals_by_value}}}
pub use Rattle.std.{proofs.lemmas.Str.Parse.{tells_by_index, digits_value_short}, specs.Cmp.Lexicographic.{same_text, pointwise}}
pub use Rattle.std.specs.{Io.KnownBytes.Consumes, List.{All, flat_map, list_any}, Prelude.{IsFalse, OnOk, ◌↔◌, MatchOption}}
pub use Rattle.std.specs.{Result.result_err, Str.{bytes_eq, Parse.digits_value}}
pub use Rattle.tp_base.specs.{History.Event, Totals.total, declared.{Refusal.{Refusal, TheVariants.NoMemory}, Step.Step}}
pub use Rattle.tp_base.specs.declared.{Step.TheVariants.{Give, Judge, Send, Recv, Start, Down, Up, Reopen}, ids.Generation.Generation}
pub use Rattle.tp_base.specs.declared.{ids.{MessageId.MessageId, NodeId.NodeId}, limits.TheConstants.MAX_STEPS}
pub use Rattle.tp_core.proofs.Lemmas.Keeping.{accepted_never_early, Generations.{never_early, none_where_lawful, lawful_where_none}}
pub use Rattle.tp_core.proofs.Lemmas.Keeping.Generations.{length-present, runs_are_counted, present-goes_on, present_run}
pub use Rattle.tp_core.specs.Accepted.{Accepted, answered, next, after_all, refusal, with_step, reply_to, judged, world_of, numbers_at}
pub use Rattle.tp_core.specs.{Accepted.{no_numbers, AcceptsOrRefuses, IsRefusedFor, asks_memory, answer, answers}, Generations.AreRuns}
pub use Rattle.tp_core.specs.{Generations.{history_after, InEach}, NeverEarly.IsOverFrom, World.{World, Action, Message, IsQuiet, is_done}}
pub use Rattle.tp_core.specs.{World.is_quiet, declared.{NodeNumbers.NodeNumbers, Reply.{Reply, TheVariants.{WaveSums, Over}}}}
pub use Rattle.tp_core.specs.declared.Reply.TheVariants.{Plain as PlainReply}
pub use Rattle.tp_text.specs.AuditText.{step_in, steps_in, AreJustified, IsJustified, account, flaw_line, summary, taken}
pub use Rattle.tp_text.specs.AuditText.{AuditsAreDetermined, HasFlawAt, IsComplaint, IsFlaw, IsSound, IsAuditText, last_judgement}
pub use Rattle.tp_text.specs.{AuditText.is_insert, Auditing.{AreStopped, AreTaken, IsFound, Knows, Claims, IsRecounted}}
pub use Rattle.tp_text.specs.{Ended.EndedIsNeverEarly, Following.{HasFollowed, HasNode, MayFollow}, Keywords.keyword_text, Printed.listed}
pub use Rattle.tp_text.specs.Reading.{syntax_text, AreSoundPart, AreStepsBeforeFault, HasLines, IsSoundTraceOf, LacksHead}
pub use Rattle.tp_text.specs.{Reading.{ReadingsAreDetermined, TellsLineBehind}, Script.{nodes_line, step_line, IsNodeCount}}
pub use Rattle.tp_text.specs.Script.{BeginsWithNodes, nodes_at, script, version_lines, IsScript, BeginsWithStep, BeginsWithVersion}
pub use Rattle.tp_text.specs.{Script.{StopsAfter, LacksNodesBehind, HasFaultAt, ScriptsAreDetermined}, SimText.{fresh, node_lines}}
pub use Rattle.tp_text.specs.SimText.{node_line, counts, all_numbers, closing, answer_line, IsSimText, report, TextsAreDetermined}
pub use Rattle.tp_text.specs.{Spelling.{spaced, word_of, numbers_of, IsNumber, IsSpelled, IsOfVersion, line, spelling}, Trace.format_line}
pub use Rattle.tp_text.specs.Trace.{trace, trace_line, words, AreWords, IsWritten, BeginsWithLine, TracesAreDetermined, BeginsWithFormat}
pub use Rattle.tp_text.specs.{Trace.{BreaksOff, HasTraceFaultAt, IsTrace, LacksNodes}, TraceOf.{line_of, lines_of, version_of}}
pub use Rattle.tp_text.specs.TraceOf.{AreStepsOfRuns, CanBeTraced, IsTraceOf, TracesAreReadBack, RunsOfOneGeneration}
pub use Rattle.tp_text.specs.{TracedEnd.{EndedIsOver, NotEndedClaimsNoEnd, ReopenedIsOver}, Words.{IsWordByte, BeginsWithout, Splits}}
pub use Rattle.tp_text.specs.{Words.{numbers_in, IsDigit}, declared.{account.Account.Account, auditor.{Auditor.Auditor, Flaw.Flaw}}}
pub use Rattle.tp_text.specs.declared.{input.TheConstants.MAX_TEXT, keyword.Keyword.Keyword, traced.TraceLine.TraceLine}
pub use Rattle.tp_text.specs.declared.{traced.TraceLine.TheVariants.{Plain, Judged}, tracer.Tracer.Tracer, verdict.Verdict.Verdict}
pub use Rattle.tp_text.specs.declared.{verdict.Verdict.TheVariants.{Sound, Refused}, version.Version.Version, words.Operands.Operands}
pub use Rattle.tp_wave.proofs.{Exact.checks_exact, Generations.{steps-present, generations_law}, Given.{count-le, pool_step, started_law}}
pub use Rattle.tp_wave.{proofs.{Judged.two_tell_law, Positions.length-steps_of, Visits.lawful_waves}, specs.Control.{in_wave, is_control}}
pub use Rattle.tp_wave.specs.{Control.AreLawfulWaves, ControlChecks.control_refusal, Generations.{present, generation, present_events}}
pub use Rattle.tp_wave.specs.{Machine.{History, steps_of, IsNext, IsRun, Needs}, Steps.{any, count, is_judge, is_reopen, is_recv_at}}
pub use Rattle.tp_wave.specs.{Steps.{is_send_of, is_start, is_recv, is_send}, Sums.{judgement, sums_of, four_equal, waves, is_ended, until}}
pub use Rattle.tp_wave.specs.Sums.{visit}
pub use borrow.Author.Count.{below_more}
pub use Rattle.tp_base.specs.declared.Step.TheVariants as steps
pub use Rattle.tp_text.specs.declared.keyword.Keyword.TheVariants as keywords
pub use Rattle.tp_text.specs.declared.version.Version.TheVariants as versions
pub use Rattle.tp_wave.proofs.Generations as events
pub use Rattle.tp_text.specs.declared.auditor.Flaw.TheVariants as flaws
pub use Rattle.tp_wave.specs.Generations as histories
pub use Rattle.tp_text.specs.declared.reading.Reading.TheVariants as readings
