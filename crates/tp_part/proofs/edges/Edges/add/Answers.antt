use Rattle.tp_part.proofs.Theorems.{List, ℕ, ◌++◌, ◌∷◌, [], ◌∙◌, ◌+◌, length, arith, ap, Edge, new_edge, chain_add}
use Rattle.tp_part.proofs.edges.Edges.add.Goals as goal

pub invariant_of-self-2 : goal.invariant_of-self-2
invariant_of-self-2 c = chain_add c.args.value c.args.target c.head_of-older.result
    (c.len.result + 1) c.self.invariant (omega (arith, ap length c.self.view_is, c.requires)) (c.push_reserved-2.ensures.items
    ∙ ap (λ (es : List Edge). es ++ new_edge c.args.value c.args.target ∷ []) c.reserve.ensures.items) (c.push_reserved.ensures.items
    ∙ ap (λ (ks : List ℕ). ks ++ c.head_of-older.result ∷ []) c.reserve-2.ensures.items) c.head_of-older.ensures
    (omega (arith, c.len.ensures, ap length c.reserve.ensures.items)) c.in_ok-put_head.ensures.ok
