use Rattle.tp_slots.proofs.Moves.{ap, ◌∙◌, opened, settled, content_is, popped, IsIdle-front, without_next}
use Rattle.tp_slots.proofs.raw_slots.RawSlotsSlots.pop_ready.Goals as goal

pub invariant_of-self : goal.invariant_of-self
invariant_of-self g c = settled (popped (opened c.self.invariant) _ (c.pop_from.ensures.lists _ c.self.invariant.linked.ready_lists))

pub invariant_of-self-2 : goal.invariant_of-self-2
invariant_of-self-2 g c = settled (popped (opened c.self.invariant) _ (c.pop_from.ensures.lists _ c.self.invariant.linked.ready_lists))

pub returns-in-Some-clause-content : goal.returns-in-Some-clause-content
returns-in-Some-clause-content g c =
    content_is _ _ _ (c.pop_from.ensures.lists _ c.self.invariant.linked.ready_lists) ∙ ap (λ s. without_next s.content) c.self.view_is

pub returns-in-Some-clause-idle : goal.returns-in-Some-clause-idle
returns-in-Some-clause-idle g c =
    rw (content_is _ _ _ (c.pop_from.ensures.lists _ c.self.invariant.linked.ready_lists))
    (IsIdle-front _ _ c.self.invariant.linked.sound (c.in-Some.ensures.next _ c.self.invariant.linked.ready_lists))

pub returns-clause-content : goal.returns-clause-content
returns-clause-content g c =
    content_is _ _ _ (c.pop_from.ensures.lists _ c.self.invariant.linked.ready_lists) ∙ ap (λ s. without_next s.content) c.self.view_is
