use Rattle.std.proofs.{Common.{ℤ, List, rules}, lemmas.List.Sorted.IsNonDecreasingBy-from_sort_by_key}
use Rattle.tp_base.specs.declared.TaskId.{TaskId}
use Rattle.tp_graph.proofs.Ordered.{are_left, are_values, in_order_of}
use Rattle.tp_graph.proofs.found.in_order.Goals as goal

pub returns-clause-order : goal.returns-clause-order
returns-clause-order c =
    let sorted = c.sort_unstable_by_key.ensures in
    λ tasks once.
    in_order_of tasks c.args.results.items c.sort_unstable_by_key.new.self.items sorted.permutation
    (IsNonDecreasingBy-from_sort_by_key (λ (r : TaskId × List ℤ). r.0.0) c.sort_unstable_by_key.new.self.items sorted.sorted (λ a r q k.
    search rules)) once

pub returns-clause-left : goal.returns-clause-left
returns-clause-left c =
    λ g each. are_left g c.args.results.items c.sort_unstable_by_key.new.self.items c.sort_unstable_by_key.ensures.permutation each

pub returns-clause-values : goal.returns-clause-values
returns-clause-values c =
    let sorted = c.sort_unstable_by_key.ensures in
    λ g tasks once right.
    are_values g tasks c.args.results.items c.sort_unstable_by_key.new.self.items sorted.permutation
    (IsNonDecreasingBy-from_sort_by_key (λ (r : TaskId × List ℤ). r.0.0) c.sort_unstable_by_key.new.self.items sorted.sorted (λ a r q k.
    search rules)) once right
