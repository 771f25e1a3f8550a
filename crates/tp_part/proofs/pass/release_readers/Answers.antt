use Rattle.tp_part.proofs.Theorems.{◌-◌, arith, pass_start, pass_end, same_pool, awaits, released_next, is_fresh_edge, none_passed}
use Rattle.tp_part.proofs.pass.release_readers.Goals as goal

pub loop-left-init : goal.loop-left-init
loop-left-init c = record {
  passing = pass_start c.args.value c.args.incoming.now c.newest-left.result c.newest-left.ensures;
  awaited = c.requires.awaited;
  fresh = none_passed c.args.value c.args.incoming.now c.requires.fresh;
  same = same_pool c.args.pool.now;
}

pub release-requires : goal.release-requires
release-requires c = awaits (c.loop-left.left - 1) c.at-edge.result c.loop-left.invariant.awaited c.at-edge.ensures
    (is_fresh_edge c.at-edge.result c.loop-left.invariant c.loop-left-test.true c.at-edge.ensures)

pub loop-left-preserved : goal.loop-left-preserved
loop-left-preserved c = released_next c.at-edge.result c.loop-left.invariant c.loop-left-test.true c.at-edge.ensures c.release.ensures
    (c.pass.ensures.passed c.at-edge.result c.at-edge.ensures) c.older-left.ensures.older

pub returns-clause-passed : goal.returns-clause-passed
returns-clause-passed c = pass_end c.args.value c.args.incoming.now c.loop-left.incoming c.loop-left.left c.loop-left.invariant.passing
    (omega (arith, c.loop-left-test.false))
