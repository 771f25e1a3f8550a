-- The names of std, of the crates below and of specs/ that the proofs of this crate use, collected in one module.
pub use Rattle.pool_blocks.proofs.{JoinedValues.{and_then, gather-more}, Outcomes.outcome_law, Refused.has_one}
pub use Rattle.pool_matrix.specs.{Events.{ProductEventsLaw, ProductStepsLaw, events_of_messages, events_of_tasks}, Matrices.more}
pub use Rattle.pool_matrix.specs.Matrices.{matrix_graph, IsMatrixRefusal, LacksTile, entry, term, running, tile_entry, IsProduct, sum_to}
pub use Rattle.pool_matrix.specs.{Matrices.list_of, MatrixLaws.matrix_lawful, Outcomes.ProductRunLaw, Rows.{one_more, row_entry}}
pub use Rattle.std.proofs.Common.{◌≡◌, ◌≢◌, ◌<◌, ◌≤◌, ◌+◌, ◌&&◌, ◌⊎◌, ℕ, zero, suc, ℤ, pos, ◌+ℤ◌, List, [], ◌∷◌, length, get_or, set}
pub use Rattle.std.proofs.Common.{Option, Some, None, Bool, true, false, if◌then◌else◌, inl, inr, refl, ap, sym, ◌∙◌, ⊎_elim, subst, arith}
pub use Rattle.std.proofs.Common.{rules, get_or-set_same, get_or-set_other, length-set, ◌-◌, ◌*◌, ◌/◌, ◌%◌, ◌==◌, nat_lt, ◌*ℤ◌, ◌^◌, ◌++◌}
pub use Rattle.std.proofs.Common.{add-one, add-zero, add-suc, take, drop, IsTrue, nat_eq, w64, FitsSigned, vec_len, vec_capacity}
pub use Rattle.std.proofs.lemmas.{Bool.{cases_eq, and_parts, cases_lt, eq-eqb, ne_eqb, and_from, Decides.nat_tests}, Int.to_z-of_z}
pub use Rattle.std.proofs.lemmas.{List.{places, get_or-take, get_or-drop, take_at}, Nat.{div-add-mod', div-mul-add, mod-mul-add, mul-le}}
pub use Rattle.std.{proofs.lemmas.{Nat.{div_below, mul-add-lt}, Result.IfErr-weaker}, specs.List.{All, Contains}}
pub use Rattle.tp_base.{proofs.Totals.{total-equal, total_more}, specs.{Totals.total, declared.Refusal.{Refusal, TheVariants.NoMemory}}}
pub use Rattle.tp_base.specs.declared.TaskId.{TaskId}
pub use Rattle.tp_graph.proofs.{Counted.events_counted, Left.{results_kept, right_kept}, Made.{some_same, gathered, then_some-is}}
pub use Rattle.tp_graph.{proofs.{Made.inputs_of, Totals.{total-add, total-const}, Valued.{gather-is, gather-same}}, specs.Events.crossing}
pub use Rattle.tp_graph.specs.{Events.{messages_from, messages_of, task_events}, Found.{ArePlaces, HasEachOnce}, Left.AreKept}
pub use Rattle.tp_graph.specs.{Serial.{AreValues, Results}, Values.{then_some, gather, fits, all_fit, value_of}}
pub use Rattle.tp_wave.specs.Machine.{steps_of}
pub use Rattle.tp_work.specs.{Outcomes.{IsOutcome, IsFault}, declared.config.Outcome.Outcome}
pub use borrow.Rule.Slice.PartMut.{put_mid}
