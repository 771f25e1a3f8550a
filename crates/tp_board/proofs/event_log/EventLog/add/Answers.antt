use Rattle.std.proofs.Common.{refl, arith}
use Rattle.tp_board.{proofs.Answering.full, specs.States.BoardState}
use Rattle.tp_wave.{proofs.Generations.length-present, specs.Generations.present_events}
use Rattle.tp_board.proofs.event_log.EventLog.add.Goals as goal

pub follow-requires-clause-few : goal.follow-requires-clause-few
follow-requires-clause-few c =
    let events = c.self.inside.history.events in (
      present_events events,
      c.self.invariant.counted,
      omega (arith, length-present events, c.self.invariant.places, c.self.invariant.limited),
    )

pub returns-then-count-self-clause-refusal : goal.returns-then-count-self-clause-refusal
returns-then-count-self-clause-refusal c =
    let event_log = c.self.inside in
    let now : BoardState = record {
      history = event_log.history.events;
      limit = event_log.limit;
      reserved = event_log.reserved;
      fault = event_log.fault;
    } in
    rw (← c.self.view_is)
    (full now 1 c.len-count.result _ c.len-count.ensures (omega (arith, c.len-count.ensures, c.if-count-self.true)) refl)

pub returns-then-count-self-clause-reserved : goal.returns-then-count-self-clause-reserved
returns-then-count-self-clause-reserved c =
    rw (← c.self.view_is) (λ some. absurd (omega (arith, some, c.self.invariant.places, c.len-count.ensures, c.if-count-self.true)))
