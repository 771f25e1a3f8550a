-- The names of std, of the crates below and of specs/ that the proofs of this crate use, collected in one module.
pub use Rattle.std.proofs.Common.{◌≡◌, ◌≢◌, ◌^◌, ℕ, zero, suc, ◌+◌, ◌-◌, ◌<◌, ◌≤◌, Bool, true, false, cond, List, [], ◌∷◌, ◌++◌, length}
pub use Rattle.std.proofs.Common.{get_or, replicate, map, Option, Some, None, is_some, is_none, IfSome, IsSome, unwrap_or, count_by, set}
pub use Rattle.std.proofs.Common.{vec_len, vec_capacity, inl, inr, refl, sym, ap, subst, ◌∙◌, arith, ◌==◌, MatchOption, Result, Ok, Err}
pub use Rattle.std.proofs.{Common.{OnOk, IfErr, OnErr, take, insert, add-one, rules}, Math.{Dec.T, Seq.take-set-lt}, lemmas.Bool.cases_eq}
pub use Rattle.std.proofs.lemmas.{Bool.{eq-eqb, ne_eqb, Decides.nat_tests}, List.{length-set, get_or-replicate, get_or-set_same}}
pub use Rattle.std.proofs.lemmas.List.{get_or-set_other, take-replicate, length-take-le, length-replicate, get_or-take, take-take}
pub use Rattle.std.proofs.lemmas.List.{nil_from_length, Edits.length-insert, Sums.{sum_by-cons, sum_by-set, sum_by-append}}
pub use Rattle.std.specs.{Cmp.{nat_cmp_total, unsigned_tied}, FinMap.Entries.{find, is_sorted, below_all, put, by_order, length-put}}
pub use Rattle.std.specs.{Option.{option_map, IsSomeAnd}, Ordering.{nat_cmp, is_lt, is_eq}, Prelude.{nat_lt, if◌then◌else◌, ◌||◌, not}}
pub use Rattle.std.specs.{Prelude.{MatchBool, ◌&&◌}, Result.IsErrAnd, declared.cmp.Ordering.{Ordering, TheVariants.{Less, Equal, Greater}}}
pub use Rattle.std.specs.declared.vec.Vec.{Vec}
pub use Rattle.tp_base.specs.{Table.lookup, declared.{ids.TaskId.TaskId, refusal.Refusal.{Refusal, TheVariants.{TaskKnown, WrongLife}}}}
pub use Rattle.tp_base.specs.declared.refusal.Refusal.TheVariants.{SlotTaken, StoreFull, NoMemory}
pub use Rattle.tp_slots.proofs.{PlaceLists.{front-each, front_none-each, without_front-each, same_each, with_last-each}, Sound.get_inserted}
pub use Rattle.tp_slots.proofs.Sound.{IsSound-nothing_held, IsSound-with_item, IsSound-without_item, IsSound-without_next, IsIdle-front}
pub use Rattle.tp_slots.proofs.Sound.{idle_with_item, idle_when_taken, without_front-empty, get_removed, IsSound-with_ready, value_of}
pub use Rattle.tp_slots.specs.Content.{front, without_front, with_last, item_at, with_item}
pub use Rattle.tp_store.specs.Content.{Task, Content, fresh, with_value, begun, done, supplied, life_lacking, refusal_of_value}
pub use Rattle.tp_store.specs.Content.{refusal_of_deliver, refusal_of_done, delivered_to, with_task, with_delivered, with_begun, with_done}
pub use Rattle.tp_store.specs.Content.{changed_tasks, nothing_stored, task_of, life_of, values_of, unfinished, counts_of, is_waiting}
pub use Rattle.tp_store.specs.Content.{is_ready, is_running, is_unfinished, has_begun, refusal_of_new, refusal_of_insert, NoneGoesBack}
pub use Rattle.tp_store.specs.{Content.{stage, with_inserted, count_lives, is_done}, Entries.{Entries, entry_at}, Items.{Item, count_set}}
pub use Rattle.tp_store.specs.{Items.{spread, slots_of, IsFilled}, Kept.{one, task_under, Parts, number_of, number_at, tasks_of}}
pub use Rattle.tp_store.specs.Kept.{content_of, with_listed, with_supplied, moved_counts, IsCounted, IsKept, IsGrown, Leaves, with_found}
pub use Rattle.tp_store.specs.{Sound.{IsTask, IsSound, LacksSome, lacking, is_task, times_ready, times_done}, declared.index.Entry.Entry}
pub use Rattle.tp_store.specs.declared.{index.Entry.TheVariants.{Live, Done}, life.{Counts.Counts, Delivered.TheVariants.Inserted}}
pub use Rattle.tp_store.specs.declared.life.{Delivered.TheVariants.Filled, Life.{Life, TheVariants.{Waiting, Ready, Running, Done as Over}}}
pub use Rattle.smallvec.specs.SmallVec.{SmallVec, small_vec_len, HasRoomFor}
pub use Rattle.std.specs.FinMap as finite
pub use Rattle.tp_slots.specs.Content as slots
