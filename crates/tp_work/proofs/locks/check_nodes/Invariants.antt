use Rattle.std.specs.{List.{All, range_with_len}, Prelude.{◌≡◌, map, take}}
use Rattle.tp_work.proofs.locks.check_nodes.Given as goal

abbrev pub invariant-loop-place : goal.invariant-loop-place
invariant-loop-place g l =
    record {
      order : map (λ s. s.numbers.node) (take l.place l.nodes) ≡ range_with_len 0 l.place;
      graph : All (λ s. s.graph ≡ l.graph) (take l.place l.nodes);
    }
