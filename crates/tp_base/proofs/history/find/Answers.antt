use Rattle.std.proofs.Common.{◌∙◌, ◌/◌, ◌%◌, Some, slice_get, sym, ap}
use Rattle.tp_base.proofs.Pieces.{item_at, at_piece, at_last}
use Rattle.tp_base.proofs.history.find.Goals as goal

pub returns-in-Some : goal.returns-in-Some
returns-in-Some c =
    let there = item_at c.args.full.now (c.args.k / 1024) (Some c.in-Some.piece) c.in-Some.ensures.lookup in
    item_at _ _ _ c.get-in-Some.ensures.lookup
    ∙ ap (λ m. slice_get m (c.args.k % 1024)) c.deref.ensures.value
    ∙ sym (at_piece c.args.full.now c.args.last.now c.args.k c.in-Some.piece.now c.requires (sym there))

pub returns-in-None : goal.returns-in-None
returns-in-None c =
    item_at _ _ _ c.get-in-None.ensures.lookup
    ∙ sym (at_last c.args.full.now c.args.last.now c.args.k c.requires c.in-None.ensures.lookup.3)
