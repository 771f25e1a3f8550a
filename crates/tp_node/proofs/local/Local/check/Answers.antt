use Rattle.std.proofs.Common.{sym, ap, ◌∙◌}
use Rattle.tp_node.proofs.Lemmas.{delivery_active, delivery_of_known, refusal_is}
use Rattle.tp_node.proofs.local.Local.check.Goals.{else-pending-eq0-via-then-pending-eq0+else-not-is_known}
use Rattle.tp_node.proofs.local.Local.check.Goals.{else-pending-eq0-via-else-pending-eq0, returns as goal}

pub returns : goal
returns c =
    let store = ap (λ l. l.store) (sym c.self.view_is) in
    refusal_is _ _ c.check.ensures
    ∙ elim c.else-pending-eq0.branch [
      | else-pending-eq0-via-then-pending-eq0+else-not-is_known w ↦ delivery_of_known c.args.self.now c.self.inside.store.value
          c.args.task store (sym w.is_known.ensures ∙ w.if-not-is_known.false) c.args.arity c.args.slot
      | else-pending-eq0-via-else-pending-eq0 w ↦ delivery_active c.args.self.now c.self.inside.store.value c.args.task store
          c.pending.result c.pending.ensures.pending w.if-pending-eq0.false c.args.arity c.args.slot
    ]
