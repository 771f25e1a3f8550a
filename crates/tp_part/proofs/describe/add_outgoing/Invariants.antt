use Rattle.tp_part.proofs.Theorems.{drop, with_messages, Growing}
use Rattle.tp_part.proofs.describe.add_outgoing.Given as goal

abbrev pub invariant-loop-input : goal.invariant-loop-input
invariant-loop-input l = Growing l.inputs (drop l.input-index l.inputs) (with_messages l.to l.numbers) l.fn.outgoing l.outgoing
