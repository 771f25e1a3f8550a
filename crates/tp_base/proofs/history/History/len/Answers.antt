use Rattle.std.proofs.Common.{length, ap, arith}
use Rattle.tp_base.{proofs.Pieces.counted, specs.History.Recorded}
use Rattle.tp_base.proofs.history.History.len.Goals as goal

pub returns : goal.returns
returns c =
    let self = c.self.inside in
    let all = counted self.full self.last c.self.invariant.0.each in
    omega (arith, c.self.invariant.1, c.len.ensures, all, ap (λ (h : Recorded). length h.events) c.self.view_is)
