use Rattle.tp_part.proofs.Theorems.{arith, ap, length, at_below, index_is, newest_few}
use Rattle.tp_part.proofs.edges.Edges.older.Goals as goal

pub returns-clause-few : goal.returns-clause-few
returns-clause-few c = let s = ap length c.self.view_is in let x = at_below c.self.inside.items.items c.args.place
    (omega (arith, c.requires)) in let n = c.self.invariant.chain c.args.place c.index.result.now x.0 x.1 (index_is
    c.self.inside.older.items c.args.place c.index.result.now (omega (arith, c.requires, c.self.invariant.long)) c.index.ensures) in
    omega (arith, newest_few x.0.value c.self.inside.items.items c.args.place)
