use Rattle.std.proofs.Common.{◌≡◌, min, rules}
use Rattle.tp_node.{proofs.Lemmas.room_answers, specs.Begins.ready_count}
use Rattle.tp_node.proofs.node.Node.begin_some.Goals as goal

pub begin_each-requires-send-G : goal.begin_each-requires-send-G
begin_each-requires-send-G g c κs within = c.type_bounds.send-G

pub begin_each-requires-sync-G : goal.begin_each-requires-sync-G
begin_each-requires-sync-G g c κs within = c.type_bounds.sync-G

pub returns-clause-refusal : goal.returns-clause-refusal
returns-clause-refusal g c =
    let same : c.min-count.result ≡ min (ready_count c.args.self.now) c.args.max = search rules in
    room_answers c.min-count.result (min (ready_count c.args.self.now) c.args.max) c.args.board.now c.in_ok-reserve.field-0
    c.begin_each.result same c.in_ok-reserve.ensures.refusal

pub begin_each-requires-after_bounds : goal.begin_each-requires-after_bounds
begin_each-requires-after_bounds g c κs within = search rules

pub returns-clause-begun : goal.returns-clause-begun
returns-clause-begun g c = search rules
