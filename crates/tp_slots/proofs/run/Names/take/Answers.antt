use Rattle.tp_slots.proofs.{Lemmas.is_full_from, Naming.{◌≡◌, ◌<◌, ◌++◌, ◌∷◌, [], List, false, subst, ap, sym, ◌∙◌, length, count_by}}
use Rattle.tp_slots.proofs.Naming.{is_some, arith, taken, refused, elsewhere, Take_reply, Take_refused, Taken, Standing, Held, Gone}
use Rattle.tp_slots.proofs.run.Names.take.Goals as goal

pub returns-in_ok-insert-in-Ok-clause-reply : goal.returns-in_ok-insert-in-Ok-clause-reply
returns-in_ok-insert-in-Ok-clause-reply g c s t =
    let p = c.in-Ok.place in
    let old = c.args.self.now.standings in
    let count : count_by is_some s.items < 65536 = subst (λ n. n < 65536) t.count c.in-Ok.ensures.not_full in
    let names : c.push_reserved.new.self.items ≡ old.items ++ Held p false ∷ [] =
    ◌∙◌ {A = List Standing} c.push_reserved.ensures.items (ap (λ (l : List Standing). l ++ Held p false ∷ []) c.reserve.ensures.items)
    in
    let number : c.len-number.result ≡ length old.items = omega (arith, c.len-number.ensures, old.ok) in
    let updates = c.in_ok-insert-in-Ok.ensures.updates in
    let reply = Take_reply s c.args.value count in (
      ap Taken (number ∙ t.long) ∙ reply.0,
      rw (
        c.in-Ok.ensures.content,
        names,
        ← reply.1,
      ) (taken _ _ _ s t p c.args.value _ c.in-Ok.ensures.fresh (rw number at updates.1) (λ q differs.
          updates.2 q (elsewhere p q differs))),
    )

pub returns-in-Err-StoreFull-default-clause-reply : goal.returns-in-Err-StoreFull-default-clause-reply
returns-in-Err-StoreFull-default-clause-reply g c s t =
    let e = c.in-Err-StoreFull-default in
    let all : count_by is_some s.items ≡ 65536 =
    sym t.count ∙ is_full_from (g.S.Slots.content c.args.slots.now) (sym e.field-0-0-is ∙ e.ensures.refusal) in
    let names : c.push_reserved-in-Err-StoreFull-default.new.self.items ≡ c.args.self.now.standings.items ++ Gone ∷ [] =
    ◌∙◌ {A = List Standing} c.push_reserved-in-Err-StoreFull-default.ensures.items
    (ap (λ (l : List Standing). l ++ Gone ∷ []) c.reserve.ensures.items) in
    let reply = Take_refused s c.args.value all in
    (reply.0, rw (e.ensures.unchanged, names, ← reply.1) (refused _ _ _ s t))
