use Rattle.tp_part.proofs.Theorems.{◌∙◌, List, ap, arith, length, set, slice_get, Edge, pass_one, index_is, there, chain_pass}
use Rattle.tp_part.proofs.edges.Edges.pass.Goals as goal

pub invariant_of-self : goal.invariant_of-self
invariant_of-self c = chain_pass c.args.place c.index-edge.result.now c.self.invariant (index_is c.self.inside.items.items
    c.args.place c.index-edge.result.now (omega (arith, ap length c.self.view_is, c.requires)) c.index-edge.ensures)

pub returns-clause-passed : goal.returns-clause-passed
returns-clause-passed c = λ e h. let i = index_is c.self.inside.items.items c.args.place c.index-edge.result.now
    (omega (arith, ap length c.self.view_is, c.requires)) c.index-edge.ensures in let same = there c.self.inside.items.items c.args.place
    c.index-edge.result.now e i (ap (λ (es : List Edge). slice_get es c.args.place) c.self.view_is ∙ h) in ap (λ (es : List Edge). set es
    c.args.place (pass_one c.index-edge.result.now)) c.self.view_is ∙ ap (λ (d : Edge). set c.args.self.now c.args.place (pass_one d)) same
