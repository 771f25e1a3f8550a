use Rattle.pool_blocks.{proofs.Blocks.{last_kept, last_numbers}, specs.Stencils.block_graph}
use Rattle.std.proofs.{Common.{◌≡◌, ◌*◌, ap, ◌∙◌}, lemmas.Result.IfOk-weaker}
use Rattle.pool_blocks.proofs.result.cells_of.Goals as goal

pub returns-clause-made : goal.returns-clause-made
returns-clause-made g c =
    let w = c.args.work.now in
    let s = g.S.Stencil in
    let met = g.met.S.Stencil g.world.𝓛 g.world.𝓜 g.world.𝓡 ((λ s x. x), (λ x. x), (λ x. x), λ x. x) in
    let few = c.blocks-blocks.ensures.same in
    let place : c.steps-steps.result * c.blocks-blocks.result ≡ w.steps * w.blocks =
    ap (λ k. k * c.blocks-blocks.result) c.steps-steps.ensures ∙ ap (λ k. w.steps * k) few in
    IfOk-weaker c.joined.result _ _
    (λ all made.
    last_numbers (s.takes w.stencil) (s.step w.stencil) (s.next w.stencil) w.cells.now w.blocks w.size w.steps w.cut w.taken
    (met.long w.stencil) (met.by_blocks w.stencil) (c.steps-steps.result * c.blocks-blocks.result) c.blocks-blocks.result all.items
    place few
    (made (block_graph (s.next w.stencil) w.cells.now w.blocks w.size w.steps) c.requires
    (λ i h. last_kept (s.next w.stencil) w.cells.now w.blocks w.size w.steps c.blocks-blocks.result c.steps-steps.result i few
    c.steps-steps.ensures)))
    c.joined.ensures.made
