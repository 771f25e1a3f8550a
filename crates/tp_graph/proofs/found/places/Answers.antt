use Rattle.std.proofs.Common.{◌+◌, subst, arith, rules}
use Rattle.tp_graph.proofs.{Placed.{ArePlacesTo, noted, passed, all_noted}, found.places.Goals.{then-task-len, else-task-len}}
use Rattle.tp_graph.proofs.found.places.Goals as goal

pub loop-k-preserved : goal.loop-k-preserved
loop-k-preserved c =
    let before = c.loop-k.invariant in
    elim c.if-task-len.branch [
      | then-task-len w ↦ noted c.args.tasks c.args.results.now c.loop-k.k c.loop-k.places.items c.index-results-k.result
          c.if-task-len.places.items (search rules) before (search rules) (search rules) (search rules)
      | else-task-len w ↦ subst (ArePlacesTo c.args.tasks c.args.results.now (c.loop-k.k + 1)) (search rules)
          (passed c.args.tasks c.args.results.now c.loop-k.k c.loop-k.places.items c.index-results-k.result before (search rules))
    ]

pub returns : goal.returns
returns c = all_noted c.args.tasks c.args.results.now c.loop-k.k c.loop-k.places.items (omega arith) c.loop-k.invariant
