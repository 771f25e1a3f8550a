use Rattle.tp_slots.proofs.Lemmas.{arith, held, is_full, is_not_full, told}
use Rattle.tp_slots.proofs.slab_slots.SlabSlotsSlots.reserve.Goals as goal

pub returns-then-self-gt0-clause-not_full : goal.returns-then-self-gt0-clause-not_full
returns-then-self-gt0-clause-not_full g c =
    omega (arith, held c.self.inside.items c.self.inside.ready _ c.self.view_is, c.self.invariant.within)

pub returns-then-count-most-clause-refusal : goal.returns-then-count-most-clause-refusal
returns-then-count-most-clause-refusal g c =
    is_full c.args.self.now.content (omega (arith, c.len-count.ensures, held c.self.inside.items c.self.inside.ready _ c.self.view_is))

pub returns-in_err-reserve_each-clause-refusal : goal.returns-in_err-reserve_each-clause-refusal
returns-in_err-reserve_each-clause-refusal g c =
    told c.from_residual.result _ c.from_residual.ensures.1
    (is_not_full c.args.self.now.content
    (omega (arith, c.len-count.ensures, held c.self.inside.items c.self.inside.ready _ c.self.view_is, c.self.invariant.within)))

pub returns-in_err-reserve-clause-refusal : goal.returns-in_err-reserve-clause-refusal
returns-in_err-reserve-clause-refusal g c =
    told c.from_residual-in_err-reserve.result _ c.from_residual-in_err-reserve.ensures.1
    (is_not_full c.args.self.now.content
    (omega (arith, c.len-count.ensures, held c.self.inside.items c.self.inside.ready _ c.self.view_is, c.self.invariant.within)))

pub returns-clause-not_full : goal.returns-clause-not_full
returns-clause-not_full g c =
    omega (arith, c.len-count.ensures, held c.self.inside.items c.self.inside.ready _ c.self.view_is, c.self.invariant.within)
