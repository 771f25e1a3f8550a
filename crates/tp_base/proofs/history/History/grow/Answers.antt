use Rattle.std.proofs.Common.{length, ap, arith, rules}
use Rattle.tp_base.{proofs.Pieces.counted, specs.History.Recorded}
use Rattle.tp_base.proofs.history.History.grow.Goals as goal

pub add_pieces-requires-clause-few : goal.add_pieces-requires-clause-few
add_pieces-requires-clause-few c =
    let self = c.self.inside in
    let all = counted self.full self.last c.self.invariant.0.each in
    let events = ap (λ (h : Recorded). length h.events) c.self.view_is in
    let room = ap (λ (h : Recorded). h.room) c.self.view_is in
    omega (arith, all, events, room, c.self.invariant.2, c.requires.short, c.requires.countable, c.div_ceil-more.ensures)

pub returns-clause-room : goal.returns-clause-room
returns-clause-room c = search rules
