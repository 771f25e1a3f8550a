use Rattle.std.specs.{List.All, Prelude.{◌≡◌, ◌≤◌, ◌<◌, ℕ, MatchOption, map, length, slice_index, vec_capacity}, Vec.Iter.into_iter_items}
use Rattle.tp_base.specs.Totals.{total}
use Rattle.tp_board.specs.{Numbers.{ShareNumbers, PendingNumber}, Reopening.opened_again}
use Rattle.tp_board.proofs.reopened_ledgers.open_each.Given as goal

abbrev pub invariant-loop-next : goal.invariant-loop-next
invariant-loop-next g l =
    record {
      pendings : l.pendings.items ≡ map opened_again l.yielded;
      room : vec_capacity l.pendings ≡ vec_capacity l.initial.pendings;
      idle : All (λ (s : ShareNumbers). s.pending ≡ 0) (into_iter_items l.next-iterator);
      opened : All (λ (p : PendingNumber). (p.node < g.K.Ledgers.names.nodes) × (p.amount ≡ 1)) l.pendings.items;
      sum : total g.K.Ledgers.names.nodes (λ i. slice_index l.books i) ≡ length l.yielded;
      each : (i : ℕ) → i < g.K.Ledgers.names.nodes → slice_index l.books i ≤ 1;
      parts : MatchOption l.all (length l.yielded ≡ 0) (λ p. p.parts ≡ length l.yielded);
    }
