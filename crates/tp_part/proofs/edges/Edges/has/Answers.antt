use Rattle.tp_part.proofs.Theorems.{sym, search_start, search_next, search_found}
use Rattle.tp_part.proofs.edges.Edges.has.Goals as goal

pub loop-left-init : goal.loop-left-init
loop-left-init c = search_start c.args.value c.args.target c.args.self.now c.newest-left.result c.newest-left.ensures

pub returns-then-edge-target : goal.returns-then-edge-target
returns-then-edge-target c = sym (search_found c.args.value c.args.target c.args.self.now c.loop-left.left c.at-edge.result
    c.loop-left.invariant c.loop-left-test.true c.at-edge.ensures c.if-edge-target.true)

pub loop-left-preserved : goal.loop-left-preserved
loop-left-preserved c = search_next c.args.value c.args.target c.args.self.now c.loop-left.left c.older-left.result c.at-edge.result
    c.loop-left.invariant c.loop-left-test.true c.at-edge.ensures c.if-edge-target.false
    (c.older-left.ensures.older c.at-edge.result c.at-edge.ensures)
