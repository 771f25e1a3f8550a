use Rattle.pool_blocks.{proofs.Refused.{are_not_none, match_weaker}, specs.{Faults.IsLentFault, Runs.HasRun, Stencils.{after, block_graph}}}
use Rattle.pool_blocks.specs.Stencils.{blocks_of}
use Rattle.std.proofs.Common.{◌≡◌, ◌∙◌, ap, length, subst}
use Rattle.pool_blocks.proofs.parts.run_part.Goals as goal

pub unreachable-requires : goal.unreachable-requires
unreachable-requires g c =
    are_not_none (g.S.Stencil.takes c.args.stencil) (length c.args.cells.now) c.args.size c.args.steps c.requires.taken
    c.in_default.ensures.refused

pub returns : goal.returns
returns g c =
    let s = g.S.Stencil in
    let a = c.args in
    let work = c.in-Some.work in
    let made = c.in-Some.ensures.made in
    let blocks = blocks_of (length a.cells.now) a.size in
    let graph : block_graph (s.next work.stencil) work.cells.now work.blocks work.size work.steps
    ≡ block_graph (s.next a.stencil) a.cells.now (blocks_of (length a.cells.now) a.size) a.size a.steps =
    ap (λ p. block_graph (s.next p) work.cells.now work.blocks work.size work.steps) made.0
    ∙ ap (λ xs. block_graph (s.next a.stencil) xs work.blocks work.size work.steps) made.1
    ∙ ap (λ k. block_graph (s.next a.stencil) a.cells.now k work.size work.steps) made.2
    ∙ ap (λ k. block_graph (s.next a.stencil) a.cells.now blocks k work.steps) made.3
    ∙ ap (block_graph (s.next a.stencil) a.cells.now blocks a.size) made.4 in
    match_weaker c.run_steps.result _ _ _ _
    (λ cells is. (
      is.0 ∙ ap (λ p. after (s.step p) work.steps work.cells.now) made.0
          ∙ ap (λ n. after (s.step a.stencil) n work.cells.now) made.4 ∙ ap (after (s.step a.stencil) a.steps) made.1,
      subst (HasRun a.config.nodes a.config.workers) graph is.1,
    ))
    (λ fault why. subst (λ graph. IsLentFault a.config.nodes a.config.workers ⊥ graph fault) graph why)
    c.run_steps.ensures
