use Rattle.std.specs.{List.All, Prelude.{◌≡◌, [], take}}
use Rattle.tp_node.proofs.reopening.audit_links.Given.{invariant-loop-pool_link as goal}

abbrev pub invariant-loop-pool_link : goal
invariant-loop-pool_link g l =
    record {
      board : l.board ≡ l.fn.board;
      links : l.links ≡ l.fn.links;
      empty : All (λ w. w.messages ≡ []) (take l.pool_link-index l.links);
    }
