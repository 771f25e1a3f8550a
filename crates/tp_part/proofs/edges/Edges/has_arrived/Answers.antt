use Rattle.tp_part.proofs.Theorems.{◌≤◌, ◌-◌, ◌∙◌, arith, length, sym, newest_few, read_newest, newest_read, arrived_like}
use Rattle.tp_part.proofs.edges.Edges.has_arrived.Goals as goal

pub returns-then-newest-eq0-clause-none : goal.returns-then-newest-eq0-clause-none
returns-then-newest-eq0-clause-none c = read_newest c.args.value c.args.self.now (sym c.newest-newest.ensures ∙ c.if-newest-eq0.true)

pub at-requires : goal.at-requires
at-requires c = let e = c.newest-newest.ensures in
    let h = c.if-newest-eq0.false in omega (arith, newest_few c.args.value c.args.self.now (length c.args.self.now))

pub returns-clause-some : goal.returns-clause-some
returns-clause-some c = let some : 1 ≤ c.newest-newest.result = omega (arith, c.if-newest-eq0.false) in
    let r = newest_read c.args.value c.args.self.now c.newest-newest.result c.at.result (sym c.newest-newest.ensures) some c.at.ensures in
    (r.1, arrived_like c.args.value (c.newest-newest.result - 1) c.args.self.now c.at.result c.requires c.at.ensures r.0)
