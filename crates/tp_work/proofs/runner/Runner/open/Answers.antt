use Rattle.std.proofs.{Common.{◌≡◌, ◌∙◌, ◌*◌, ◌-◌, ℕ, sym, ap, length, vec_len}, lemmas.{List.length-map, Result.IfOk-weaker}}
use Rattle.{tp_base.specs.declared.limits.TheConstants.MAX_STEPS, tp_work.proofs.Lemmas.{length-first_links, length-first_shares}}
use Rattle.tp_board.specs.{Names.PoolNames, Numbers.{ShareNumbers, first_links, first_shares}, States.BoardState}
use Rattle.tp_node.specs.{Nodes.first_node, PoolLinks.empty_pool_link, Pools.{first_nodes, first_pool_links}, declared.pool.Pool.Pool}
use Rattle.tp_work.proofs.runner.Runner.open.Goals as goal

pub returns-clause-nodes : goal.returns-clause-nodes
returns-clause-nodes g c =
    let n = c.args.self.now.config.nodes in
    let same : g.K.Ledgers.names.nodes ≡ n = sym (ap (λ (names : PoolNames). names.nodes) c.requires.names) ∙ c.requires.nodes in
    IfOk-weaker c.open_pool.result (λ (p : Pool g.row.G.Denot g.row.K.Denot). p.nodes.items
    ≡ first_nodes c.args.self.now.graph n) (λ p. vec_len p.nodes ≡ g.K.Ledgers.names.nodes)
    (λ p is. p.nodes.ok.0 ∙ ap length is ∙ length-map (first_shares n) (λ (s : ShareNumbers). first_node c.args.self.now.graph n s.node)
    ∙ length-first_shares n ∙ sym same) c.open_pool.ensures.nodes

pub returns-clause-links : goal.returns-clause-links
returns-clause-links g c =
    let n = c.args.self.now.config.nodes in
    let same : g.K.Ledgers.names.nodes ≡ n = sym (ap (λ (names : PoolNames). names.nodes) c.requires.names) ∙ c.requires.nodes in
    IfOk-weaker c.open_pool.result (λ (p : Pool g.row.G.Denot g.row.K.Denot). p.links.items ≡ first_pool_links n) (λ p. vec_len p.links
    ≡ g.K.Ledgers.names.nodes * (g.K.Ledgers.names.nodes - 1))
    (λ p is. p.links.ok.0 ∙ ap length is ∙ length-map (first_links n) empty_pool_link ∙ length-first_links n
    ∙ ap (λ (k : ℕ). k * (k - 1)) (sym same)) c.open_pool.ensures.links

pub returns-clause-limit : goal.returns-clause-limit
returns-clause-limit g c =
    IfOk-weaker c.open_pool.result (λ (p : Pool g.row.G.Denot g.row.K.Denot). p.board ≡ _) (λ p. p.board.limit
    ≡ MAX_STEPS) (λ p is. ap (λ (b : BoardState). b.limit) is) c.open_pool.ensures.board
