-- The names of std, of the crates below and of specs/ that the proofs of this crate use, collected in one module.
pub use Rattle.pool_samples.specs.{Any.any_graph, Needed.{HasCell, IsFound, IsIndex, IsKnown, IsMarked, needed, needed_task}}
pub use Rattle.pool_samples.specs.{ProductLaws.product_lawful, Products.{left_entry, term, sum_from, entry, list_of, IsProduct}}
pub use Rattle.pool_samples.specs.{Products.{right_entry, tile, add_lists, tile_and_input, added, place_sum}, Same.product_same}
pub use Rattle.pool_samples.specs.{Same.{wavefront_same, reduce_same}, Tables.{HasNone, LacksCell, table_of, texts, cell_text}}
pub use Rattle.pool_samples.specs.{TreeLaws.reduce_lawful, Trees.{IsReduce, sum_of_leaves, is_leaf_count, leaf_value}}
pub use Rattle.pool_samples.specs.{WaveLaws.wavefront_lawful, Waves.{cell, IsWavefront, cost, first_row, next_row}, Words.{IsPlain, joined}}
pub use Rattle.pool_samples.specs.declared.{any.AnyGraph.AnyGraph, entries.TheConstants.{LEFT, RIGHT}, product.Product.Product}
pub use Rattle.pool_samples.specs.declared.{reduce.Reduce.Reduce, wavefront.Wavefront.Wavefront}
pub use Rattle.std.proofs.Common.{◌≡◌, ◌<◌, ◌≤◌, ◌+◌, ◌*◌, ◌*ℤ◌, ◌/◌, ◌%◌, ℕ, zero, suc, ℤ, pos, ◌-ℤ◌, unsigned_abs, List, length, get_or}
pub use Rattle.std.proofs.Common.{Bool, true, ◌&&◌, refl, ap, ◌∙◌, arith, ◌≢◌, ◌-◌, ◌++◌, IsSome, rules, [], ◌∷◌, Option, Some, None}
pub use Rattle.std.proofs.Common.{replicate, false, IsTrue, set, take, sym, subst, ⊎_elim, length-append, get_or-set_other, ◌^◌, ◌+ℤ◌}
pub use Rattle.std.proofs.Common.{nat_eq, if◌then◌else◌, decimal, Result, Ok, Err, IfSome, append_assoc, append-nil, add-one, ltb, min, inl}
pub use Rattle.std.proofs.{Common.{inr, w64, FitsSigned, vec_len, vec_capacity, w32, IsSomeAnd, length-set}, Math.IntN.{+ℤ_assoc, +ℤ_idr}}
pub use Rattle.std.proofs.{Math.Seq.get_or-append_seam, lemmas.Bool.{cases_eq, and_from, and_right, Decides.Decides-int_eq}}
pub use Rattle.std.proofs.lemmas.{Bool.Decides.{Decides-below_and, nat_tests}, Fmt.{parse-decimal, decimal_nonempty, first_decimal}}
pub use Rattle.std.proofs.lemmas.{Fmt.{decimal_digit, digits_decimal, decimal-digits_value}, Int.{ints, unsigned_abs-mul, to_z-of_z}}
pub use Rattle.std.proofs.lemmas.List.{take_more, get_or-set_same, get_or_append_left, take_more_set, take_all, take_at, get_or_default}
pub use Rattle.std.proofs.lemmas.{List.Elements.All-more, Nat.{div-mul-add, mod-mul-add, mul-le, div_below, mul-add-lt, div-add-mod'}}
pub use Rattle.std.proofs.lemmas.Str.Parse.{IsNumeralModel, numerals_by_value, tells_all_ascii_digits, parse_plain, not_in_digits}
pub use Rattle.std.{proofs.lemmas.Str.Pattern.split_parts, specs.{Borrow.Bor, Int.int_min, List.All, Ordering.int_eq, Result.result_ok}}
pub use Rattle.std.specs.Str.{all_ascii_digits, Parse.{ParsesUnsigned, digits_value}}
pub use Rattle.tp_base.specs.declared.TaskId.{TaskId}
pub use Rattle.tp_graph.proofs.{Fits.{fits-from, fit-push}, Made.some_same, Valued.{value-zero, value-one, value-two, fitting-one}}
pub use Rattle.tp_graph.specs.{Graphs.{KeepsAll, TaskGraph}, Serial.Results, Values.{value_of, fits, all_fit, fitting, then_some, outcome}}
