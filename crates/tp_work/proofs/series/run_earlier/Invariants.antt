use Rattle.std.specs.{List.All, Prelude.{◌≡◌, ◌+◌, ◌-◌, ◌*◌, vec_capacity, vec_len}}
use Rattle.tp_work.specs.Series.{IsKept}
use Rattle.tp_work.proofs.series.run_earlier.Given as goal

abbrev pub invariant-loop-number : goal.invariant-loop-number
invariant-loop-number g l =
    record {
      nodes : vec_len l.pool.nodes ≡ g.K.Ledgers.names.nodes;
      links : vec_len l.pool.links ≡ g.K.Ledgers.names.nodes * (g.K.Ledgers.names.nodes - 1);
      many : vec_len l.rounds + 1 ≡ l.number;
      kept : All (IsKept l.runner.config.nodes l.runner.config.workers (g.G.Graph.meaning l.runner.graph)) l.rounds.items;
      room : vec_capacity l.rounds ≡ vec_capacity l.initial.rounds;
    }
