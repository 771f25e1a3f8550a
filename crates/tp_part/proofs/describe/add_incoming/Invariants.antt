use Rattle.tp_part.proofs.Theorems.{List, Edge, ℕ, ◌++◌, drop, edges_to, Growing}
use Rattle.tp_part.proofs.describe.add_incoming.Given as goal

abbrev pub invariant-loop-input : goal.invariant-loop-input
invariant-loop-input l = Growing l.inputs (drop l.input-index l.inputs)
    (λ (us : List ℕ) (es : List Edge). es ++ edges_to l.place l.numbers us) l.fn.incoming l.incoming
