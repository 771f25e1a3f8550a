use Rattle.std.proofs.Common.{◌≤◌, ◌<◌, ap, ◌∙◌, refl, arith}
use Rattle.tp_board.{proofs.{Counting.count_present-le, Routing.{fresh, event_log_send, event_log_sends}}, specs.Numbers.is_send}
use Rattle.tp_board.specs.States.{BoardState}
use Rattle.tp_wave.{proofs.Generations.length-present, specs.{Generations.{generation, present, present_events}, Machine.steps_of}}
use Rattle.tp_wave.specs.Steps.{count}
use Rattle.tp_board.proofs.event_log.EventLog.add_send.Goals as goal

pub overflow_cast-message : goal.overflow_cast-message
overflow_cast-message c = record { fits = omega (arith, c.len.ensures, (event_log_sends _ _ _ _ _ _ c.self.invariant).1) }

pub follow-requires-clause-few : goal.follow-requires-clause-few
follow-requires-clause-few c =
    let events = c.self.inside.history.events in (
      present_events events,
      c.self.invariant.counted,
      omega (arith, length-present events, c.self.invariant.places, c.self.invariant.limited),
    )

pub push_reserved-requires-clause-named : goal.push_reserved-requires-clause-named
push_reserved-requires-clause-named c =
    let is = c.self.view_is ∙ c.in_ok-reserve.ensures.ok in
    let reserved = ap (λ (b : BoardState). b.reserved) is in
    let number = ap (λ (b : BoardState). generation (steps_of b.history)) is in
    let below : c.len.result < 1048576 =
    omega (
      arith,
      c.len.ensures,
      (event_log_sends _ _ _ _ _ _ c.self.invariant).0,
      count_present-le is_send c.self.inside.history.events,
      c.self.invariant.places,
      c.self.invariant.limited,
      reserved,
    ) in (
      omega (arith, c.requires.from),
      omega (arith, c.requires.to),
      below,
      omega (arith, c.self.invariant.generation_is, number, c.requires.few),
    )

pub returns-clause-small : goal.returns-clause-small
returns-clause-small c =
    let reserved = ap (λ (b : BoardState). b.reserved) c.self.view_is ∙ ap (λ (b : BoardState). b.reserved) c.in_ok-reserve.ensures.ok in
    omega (
      arith,
      c.len.ensures,
      (event_log_sends _ _ _ _ _ _ c.self.invariant).0,
      count_present-le is_send c.self.inside.history.events,
      c.self.invariant.places,
      c.self.invariant.limited,
      reserved,
    )

pub invariant_of-self : goal.invariant_of-self
invariant_of-self c =
    let reserved = ap (λ (b : BoardState). b.reserved) c.self.view_is ∙ ap (λ (b : BoardState). b.reserved) c.in_ok-reserve.ensures.ok in
    let counted = c.follow.ensures (present_events c.self.inside.history.events) c.self.invariant.counted refl in
    event_log_send _ _ _ _ _ _ _ _ _ _ _ _ c.self.invariant (omega (arith, reserved)) c.len.ensures c.push_reserved.ensures.events
    c.push_reserved.ensures.room c.push_reserved-2.ensures.routes c.push_reserved-2.ensures.room counted

pub returns-clause-number : goal.returns-clause-number
returns-clause-number c =
    let same = ap (λ (b : BoardState). b.history) c.self.view_is ∙ ap (λ (b : BoardState). b.history) c.in_ok-reserve.ensures.ok in
    rw (← same) (c.len.ensures ∙ (event_log_sends _ _ _ _ _ _ c.self.invariant).0)

pub returns-clause-fresh : goal.returns-clause-fresh
returns-clause-fresh c =
    let same = ap (λ (b : BoardState). b.history) c.self.view_is ∙ ap (λ (b : BoardState). b.history) c.in_ok-reserve.ensures.ok in
    let steps = present (steps_of c.self.inside.history.events) in
    let late : count is_send steps ≤ c.len.result = omega (arith, c.len.ensures, (event_log_sends _ _ _ _ _ _ c.self.invariant).0) in
    rw (← same) (fresh c.len.result steps c.self.invariant.numbered late)
