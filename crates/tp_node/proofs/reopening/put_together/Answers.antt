use Rattle.{std.proofs.lemmas.List.Elements.All-rest, tp_node.proofs.reopening.put_together.Goals.loop-left-preserved as goal}
use Rattle.tp_node.proofs.Lemmas.{◌≡◌, ◌∷◌, ◌++◌, [], suc, sym, ap, ◌∙◌, arith, length, map, into_iter_items, IsOfPool, NodeState}

pub loop-left-preserved : goal
loop-left-preserved g c =
    let numbers = λ (n : NodeState g.row.G.Denot). n.numbers in
    let rest = into_iter_items c.next.new.self in
    let steps = c.in-Some.ensures.steps.0 in
    let both : c.in-Some-next.share ∷ into_iter_items c.next-in-loop-left.new.self ≡ c.in-Some.left.numbers ∷ map numbers rest =
    sym c.in-Some-next.ensures.items ∙ c.loop-left.invariant.shares ∙ ap (map numbers) steps in
    let fewer : length (into_iter_items c.loop-left.left-iterator) ≡ suc (length rest) = ap length steps in
    record {
      nodes = c.push_reserved.ensures.items ∙ ap (λ xs. xs ++ c.with_shares.result ∷ []) c.loop-left.invariant.nodes
          ∙ ap (λ (n : NodeState g.row.G.Denot). c.loop-left.yielded ++ n ∷ []) c.with_shares.ensures;
      shares = cc;
      pool = All-rest (IsOfPool g.K.Ledgers.names.nodes) c.in-Some.left rest (into_iter_items c.loop-left.left-iterator) steps
          c.loop-left.invariant.pool;
      room = omega (arith, fewer, c.loop-left.invariant.room, c.push_reserved.ensures.len, c.push_reserved.ensures.capacity);
    }
