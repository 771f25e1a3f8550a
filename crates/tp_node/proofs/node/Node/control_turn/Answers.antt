use Rattle.std.proofs.Common.{◌≡◌, ap, false, is_some, sym, ◌∙◌, rules}
use Rattle.tp_board.specs.Numbers.{ShareNumbers}
use Rattle.tp_node.{proofs.Lemmas.{answered, appended, at_piece, idle, kept, refused, turn_told, unset}, specs.Nodes.NodeState}
use Rattle.tp_node.proofs.node.Node.control_turn.Goals as goal

pub returns : goal.returns
returns g c =
    let now = c.args.self.now in
    let nodes = sym c.self.invariant.nodes ∙ ap (λ (n : NodeState g.row.G.Denot). n.nodes) c.self.view_is in
    let number =
    ap (λ (n : ShareNumbers). n.node) c.audit.ensures.same.1 ∙ ap (λ (n : NodeState g.row.G.Denot). n.numbers.node) c.self.view_is in
    let turn = turn_told now c.args.board.now nodes number c.audit.ensures.same.0 c.make_first.ensures in
    let sound : is_some c.args.board.now.fault ≡ false = search rules in
    record {
      node = search rules;
      fault = unset c.args.board.now.fault _ sound;
      idle = idle now sound turn;
      event = appended now sound turn;
      answer = answered now sound turn;
      refusal = refused now sound turn;
      piece = at_piece now sound turn;
      refused = kept now sound turn;
    }

pub make_first-requires : goal.make_first-requires
make_first-requires g c = search rules
