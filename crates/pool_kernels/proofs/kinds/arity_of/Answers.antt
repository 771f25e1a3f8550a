use Rattle.pool_kernels.proofs.Tables.{inputs_there, kind_within}
use Rattle.std.proofs.{Common.{◌≡◌, ◌-◌, ◌∙◌, suc, arith, rules}, lemmas.List.get_or_read}
use Rattle.pool_kernels.proofs.kinds.arity_of.Goals as goal

pub returns-then-row-eq0 : goal.returns-then-row-eq0
returns-then-row-eq0 g c = rw c.if-row-eq0.true (search rules)

pub returns-else-row-eq0 : goal.returns-else-row-eq0
returns-else-row-eq0 g c =
    let a = c.args in
    let s = c.args.shape in
    let known = c.requires.kinds in
    let next : a.row ≡ suc (a.row - 1) = omega arith in
    let within = kind_within (a.row - 1) s.period s.steps s.width a.column known.some (omega arith) c.requires.within.1 in
    rw next (get_or_read a.kinds.now.arities.items _ c.index.result.now (omega (arith, within, known.arities_are.long)) c.index.ensures 0
    ∙ inputs_there (g.P.Relation.relation a._relation.now s.width) s.width s.steps s.period a.kinds.now known (a.row - 1) a.column
    c.requires.within.1 (omega arith))
