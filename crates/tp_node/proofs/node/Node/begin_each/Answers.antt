use Rattle.tp_node.proofs.Lemmas.{◌≡◌, ◌+◌, ◌<◌, ◌∙◌, List, Option, arith, subst, sym, Begun, HasBegun, begins_one, BeginsSome, ready_count}
use Rattle.tp_node.proofs.node.Node.begin_each.Goals as goal

pub loop-preserved : goal.loop-preserved
loop-preserved g c =
    let turn = c.loop-test.true in
    let ready = c.requires.ready in
    let more : c.loop.counter < ready_count c.args.self.now = omega (arith, turn, ready) in
    record {
      has = subst (λ (places : List (Option (Begun g.row.G.Denot))). HasBegun c.args.self.now c.args.board.now (c.loop.counter + 1)
          c.begin_next.new.self c.begin_next.new.board places)
          (sym c.push_reserved.ensures.items)
          (begins_one c.args.self.now c.args.board.now c.loop.counter c.loop.self c.loop.board c.loop.works.items c.loop.invariant.has
          c.begin_next.new.self c.begin_next.new.board
          c.begin_next.result c.begin_next.ensures.begun c.begin_next.ensures.life c.begin_next.ensures.sound more);
      capacity = c.push_reserved.ensures.capacity ∙ c.loop.invariant.capacity;
    }

pub returns : goal.returns
returns g c =
    let over = c.loop-test.false in
    let end = c.loop.auto.counter-end in
    let same : c.loop.counter ≡ c.args.count = omega (arith, over, end) in
    subst (λ k. BeginsSome c.args.self.now c.loop.self c.args.board.now c.loop.board k c.loop.works.items) same c.loop.invariant.has.some
