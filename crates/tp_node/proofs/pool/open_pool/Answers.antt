use Rattle.tp_node.{proofs.Lemmas.{◌∙◌, ap, map, LinkNumbers, ShareNumbers}, specs.{Nodes.first_node, PoolLinks.empty_pool_link}}
use Rattle.tp_node.proofs.pool.open_pool.Goals as goal

pub open_parts-requires-clause-first : goal.open_parts-requires-clause-first
open_parts-requires-clause-first g c κs within = c.in_ok-board.ensures.all_first

pub open_parts-requires-clause-empty : goal.open_parts-requires-clause-empty
open_parts-requires-clause-empty g c κs within = c.in_ok-board.ensures.all_empty

pub returns-clause-nodes : goal.returns-clause-nodes
returns-clause-nodes g c =
    c.in_ok-nodes.ensures.nodes ∙ ap (map (λ (s : ShareNumbers). first_node c.args.graph c.args.nodes s.node)) c.in_ok-board.ensures.shares

pub returns-clause-links : goal.returns-clause-links
returns-clause-links g c = c.in_ok-nodes.ensures.links ∙ ap (map (λ (l : LinkNumbers). empty_pool_link l)) c.in_ok-board.ensures.links

pub returns-clause-board : goal.returns-clause-board
returns-clause-board g c = c.in_ok-board.ensures.board
