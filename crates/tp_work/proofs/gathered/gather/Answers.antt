use Rattle.{tp_board.specs.Numbers.LinkNumbers, tp_work.proofs.Lemmas.{present_events, pending_at, done_by, sum_by-map}}
use Rattle.tp_node.{proofs.Gathering.All-of_map, specs.PoolLinks.link_of}
use Rattle.tp_work.proofs.Lemmas.{rules, List, ◌≡◌, ap, sym, subst, ◌∙◌, length, All, count_by, sum_by, ShareNumbers, NodeState, counted_of}
use Rattle.tp_work.proofs.gathered.gather.Goals as goal

pub returns-clause-gathered : goal.returns-clause-gathered
returns-clause-gathered g c =
    let all : c.deref.result.now ≡ c.args.pool.nodes.items = search rules in
    record {
      pending = c.close_books-totals.ensures.pending ∙ ap (sum_by (λ (s : ShareNumbers). s.pending)) c.take_nodes.ensures.shares
          ∙ sum_by-map (λ (s : ShareNumbers). s.pending) counted_of c.args.pool.nodes.items;
      sent = c.close_books-totals.ensures.sent.0 ∙ ap (sum_by (λ (s : ShareNumbers). s.sent)) c.take_nodes.ensures.shares
          ∙ sum_by-map (λ (s : ShareNumbers). s.sent) counted_of c.args.pool.nodes.items;
      received = c.close_books-totals.ensures.received.0 ∙ ap (sum_by (λ (s : ShareNumbers). s.received)) c.take_nodes.ensures.shares
          ∙ sum_by-map (λ (s : ShareNumbers). s.received) counted_of c.args.pool.nodes.items;
      under = c.close_books-totals.ensures.under.0 ∙ ap (sum_by (λ (l : LinkNumbers). l.under)) c.take_pool_links.ensures
          ∙ sum_by-map (λ (l : LinkNumbers). l.under) link_of c.args.pool.links.items;
      balance = c.close_books-totals.ensures.balance;
      announced = c.count_told-announced.ensures ∙ ap (count_by (λ (n : NodeState g.row.G.Denot). n.state.ended)) all;
      done = c.close_books-totals.ensures.done.0 ∙ ap (sum_by (λ (s : ShareNumbers). s.done)) c.take_nodes.ensures.shares
          ∙ done_by c.args.pool.nodes.items ∙ ap length (sym c.take_nodes.ensures.results) ∙ search rules;
      results = c.take_nodes.ensures.results;
      fault = c.close_books-totals.ensures.fault;
      history = c.close_books-totals.ensures.history;
    }

pub returns-clause-each_node : goal.returns-clause-each_node
returns-clause-each_node g c =
    let each : All (λ s. s.pending
    ≡ pending_at s.node (present_events c.close_books-totals.result.history.events)) c.take_nodes.new.shares.items =
    rw c.close_books-totals.ensures.history c.close_books-totals.ensures.each_pending in
    All-of_map (λ s. s.pending
    ≡ pending_at s.node (present_events c.close_books-totals.result.history.events)) counted_of c.args.pool.nodes.items
    (subst (λ (shares : List ShareNumbers). All (λ s. s.pending
    ≡ pending_at s.node (present_events c.close_books-totals.result.history.events)) shares) c.take_nodes.ensures.shares each)
