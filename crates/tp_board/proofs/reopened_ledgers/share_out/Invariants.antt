use Rattle.std.specs.{List.All, Prelude.{◌≡◌, ◌<◌, map, length, vec_capacity}, Vec.Iter.into_iter_items}
use Rattle.tp_board.specs.{Numbers.{PendingNumber, empty_parts}, Reopening.with_numbers}
use Rattle.tp_board.proofs.reopened_ledgers.share_out.Given as goal

abbrev pub invariant-loop-pending : goal.invariant-loop-pending
invariant-loop-pending g l =
    record {
      shares : l.shares.items ≡ map with_numbers l.yielded;
      room : vec_capacity l.shares ≡ vec_capacity l.initial.shares;
      each : All (λ (p : PendingNumber). (p.node < g.K.Ledgers.names.nodes) × (p.amount ≡ 1)) (into_iter_items l.pending-iterator);
      parts : l.parts ≡ empty_parts (length (into_iter_items l.pending-iterator));
    }
