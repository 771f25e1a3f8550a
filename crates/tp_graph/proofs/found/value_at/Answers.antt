use Rattle.std.proofs.Common.{slice_index, rules}
use Rattle.tp_graph.proofs.Placed.{not_found}
use Rattle.tp_graph.proofs.found.value_at.Goals as goal

pub returns-then-place-results-clause-missing : goal.returns-then-place-results-clause-missing
returns-then-place-results-clause-missing c =
    λ tasks kept known. not_found tasks c.args.results.now c.args.places.now c.args.task.0 kept known (λ here. absurd (search rules))

pub returns-then-eq-clause-found : goal.returns-then-eq-clause-found
returns-then-eq-clause-found c = (slice_index c.args.places.now c.args.task.0, search rules, search rules)

pub returns-else-eq-clause-missing : goal.returns-else-eq-clause-missing
returns-else-eq-clause-missing c =
    λ tasks kept known. not_found tasks c.args.results.now c.args.places.now c.args.task.0 kept known (λ here. absurd (search rules))
