use Rattle.{std.proofs.Common.{length, arith}, tp_work.{proofs.Lemmas.{at_some, series_fault}, specs.Outcomes.IsRefusalForFault}}
use Rattle.tp_work.proofs.series.next_generation.Goals as goal

pub returns-in-Err-clause-fault : goal.returns-in-Err-clause-fault
returns-in-Err-clause-fault g c =
    λ count wanted.
    let pool = c.args.ran.pool in
    let fault = c.in-Err.fault in
    series_fault g.K.Ledgers.names.nodes (g.G.Graph.meaning c.args.graph) count c.stopped.result pool.nodes.items pool.board
    (IsRefusalForFault (length pool.board.history) fault) c.stopped.ensures (omega (arith, wanted))
    (λ r report why. at_some pool.board.fault _ _ fault (rw c.in-Err.is at c.requires.end) why)
