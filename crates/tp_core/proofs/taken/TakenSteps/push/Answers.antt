use Rattle.tp_core.proofs.Lemmas.{[], ◌∷◌, ◌≤◌, ◌∙◌, ap, sym, subst, arith, length, length-append, reverse-append, Taken}
use Rattle.tp_core.proofs.taken.TakenSteps.push.Goals as goal

pub invariant_of-self : goal.invariant_of-self
invariant_of-self c =
    let inv = c.self.invariant in
    let size = ap length c.push_reserved.ensures.items ∙ length-append c.self.inside.list.items (c.args.step ∷ []) in
    let room = rw c.if-self.true at (subst (λ (v : Taken). 1 ≤ v.room) (sym c.self.view_is) c.requires) in
    record {
      listed = λ h. rw (c.with-self-inside.ensures, c.push_reserved.ensures.items)
          (reverse-append c.self.inside.list.items (c.args.step ∷ []) ∙ ap (λ xs. c.args.step ∷ xs) (inv.listed h));
      unlisted = λ h. cc;
      counted = λ h. cc;
      within = omega (arith, size, room);
      pieces = rw c.push_reserved.ensures.capacity (omega (arith, size, room, inv.pieces));
      reserved = rw c.push_reserved.ensures.capacity inv.reserved;
      frugal = rw c.push_reserved.ensures.capacity (omega (arith, size, inv.frugal));
    }
