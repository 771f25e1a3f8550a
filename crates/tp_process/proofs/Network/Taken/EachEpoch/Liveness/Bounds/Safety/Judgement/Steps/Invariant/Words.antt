-- The names of std, of tp_base and of specs/ that the proofs of this crate use, collected in one module.
pub use Rattle.std.proofs.Common.{◌≡◌, ℕ, ◌+◌, ◌<◌, refl, sym, ◌∙◌, ap, subst, inl, inr, zero, suc, ◌*◌, ◌≤◌, arith, Some, ◌⊎◌, Bool, true}
pub use Rattle.std.proofs.Common.{false, cond, List, [], ◌∷◌, ltb, ◌-◌, eqb, not, ◌&&◌, ◌++◌, Option, None, length, ◌^◌, ◌||◌, rules}
pub use Rattle.std.proofs.{Math.Nat.add-mul, lemmas.Bool.{eq-eqb, ne_eqb, cases_eq, cases_lt, lt-ltb, le-ltb, ltb-true}}
pub use Rattle.std.proofs.lemmas.Bool.{eqb-false, not-true, and_parts, cond_both, ltb-false, and_from, eqb-true, cases_Bool, and_left}
pub use Rattle.std.proofs.lemmas.Bool.{and_right, or_from, or_parts, not-false, false_from_ne_true, not_from_true}
pub use Rattle.std.proofs.lemmas.{Bool.{not_from_false, Decides.nat_tests}, List.append_assoc}
pub use Rattle.tp_base.{proofs.Totals.{total-equal, total_one-changes, total-le, total_same, total-zero}, specs.{Totals.total, Tree.parent}}
pub use Rattle.tp_process.specs.Calls.{is_miscounted, opened, closed, sent, received, can_send, can_receive}
pub use Rattle.tp_process.specs.Calls.{opens, takes_left, takes_right, control, is_end, Move, acts, gives, can_give, ready}
pub use Rattle.tp_process.specs.Calls.{can_start, moved, do_fit, left_of, right_of, has, ends, took, takes, is_down_due, is_up_due, is_left}
pub use Rattle.tp_process.specs.{Calls.{is_right, is_due, blank, is_for}, Epochs.{Epochs, EpochEvent, In, Reopens, IsEpoch, IsOver}}
pub use Rattle.tp_process.specs.Epochs.{with_state, has_notified, can_reopen, reopened, is_in_epoch, is_receiver_in_epoch, is_current}
pub use Rattle.tp_process.specs.Epochs.{world_of, with_world, epochs_after, events_of, EpochLaw, NeverEarlyEpochLaw, LeftEpochLaw, NearLaw}
pub use Rattle.tp_process.specs.Epochs.{NoneLateLaw, MessageLaw, AheadLaw, advance, CallsLaw, LagsLaw, is_progress, GoesOnEpochLaw}
pub use Rattle.tp_process.specs.Epochs.{progress_count, SoonEpochLaw, FewWavesEpochLaw, OnceEpochLaw, ControlMessagesEpochLaw, is_taken_in}
pub use Rattle.tp_process.specs.Network.{HandedLaw, AllEndLaw, Carried, IsStill, Network, NetworkEvent, Acts, Restarts, Arrives, arrived}
pub use Rattle.tp_process.specs.Network.{carried_after, carried_at, handed, is_early, network, network_step, with_sent, without}
pub use Rattle.tp_process.specs.{Network.{FewCarriedLaw, NeverLateLaw, carried_to}, Opening.{AreOpenCalls, CountedLaw, OpenCallsLaw}}
pub use Rattle.tp_process.specs.{Opening.{OpenLaw, is_open}, State.EpochState}
pub use Rattle.tp_process.specs.{State.ProcessState, World.{put, World, IsQuiet, control_at, posted, does, came, happens, after, beginning}}
pub use Rattle.tp_process.specs.World.{Act, Event, Opens, Closes, Sends, Receives, Moves, Does, Comes, NeverEarlyLaw, EndedLaw, QuietLaw}
pub use Rattle.tp_process.specs.World.{FewWavesLaw, is_step, is_taken, is_useful, useful, SoonLaw, ControlMessagesLaw, OnceLaw, GoesOnLaw}
pub use Rattle.tp_process.specs.declared.control_message.{ControlMessage.ControlMessage, Token.{Token, TheVariants.{Down, Up, Over}}}
pub use Rattle.tp_process.specs.declared.{epoch_state.TheConstants.LIMIT, outcome.Next.{Next, TheVariants.{Send, Ended, Again, Nothing}}}
pub use Rattle.tp_process.specs.declared.process.TheConstants.{MARK}
pub use std.Path.{fun_ext}
