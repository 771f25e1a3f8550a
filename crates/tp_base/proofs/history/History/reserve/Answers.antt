use Rattle.std.proofs.Common.{◌∙◌, ◌++◌, ◌+◌, ◌%◌, length, reverse, sym, ap, rules}
use Rattle.tp_base.{proofs.Pieces.whole_pieces, specs.{History.Recorded, Pieces.joined}}
use Rattle.tp_base.proofs.history.History.reserve.Goals as goal

pub returns-then-additional-self-clause-keeps : goal.returns-then-additional-self-clause-keeps
returns-then-additional-self-clause-keeps c = search rules

pub returns-then-additional-self-clause-pieces : goal.returns-then-additional-self-clause-pieces
returns-then-additional-self-clause-pieces c =
    let self = c.self.inside in
    ap (λ (h : Recorded). (length h.events + h.room) % 1024) (sym c.self.view_is)
    ∙ ap (λ n. (length (reverse (joined self.full.items ++ self.last.items)) + n) % 1024) c.self.invariant.2
    ∙ whole_pieces self.full self.last self.spare c.self.invariant.0

pub returns-clause-pieces : goal.returns-clause-pieces
returns-clause-pieces c =
    let self = c.self.inside in
    ap (λ (h : Recorded). (length h.events + h.room) % 1024) (sym c.self.view_is)
    ∙ ap (λ n. (length (reverse (joined self.full.items ++ self.last.items)) + n) % 1024) c.self.invariant.2
    ∙ whole_pieces self.full self.last self.spare c.self.invariant.0
