use Rattle.tp_slots.proofs.Naming.{◌≡◌, false, idle_at, pushed, known, has_item, PushReady_reply, name_at, Held}
use Rattle.tp_slots.proofs.run.Names.push_ready.Goals as goal

pub push_ready-requires-clause-idle : goal.push_ready-requires-clause-idle
push_ready-requires-clause-idle g c =
    let name : name_at c.args.self.now.standings.items c.args.k ≡ Held c.in-Held-default-false.place false = cc in
    idle_at _ _ _ c.requires.0 c.requires.1 c.args.k c.in-Held-default-false.place name

pub returns-else-class-ge-CLASSES : goal.returns-else-class-ge-CLASSES
returns-else-class-ge-CLASSES g c s t =
    let name : name_at c.args.self.now.standings.items c.args.k ≡ Held c.in-Held-default-false.place false = cc in
    let item = has_item _ _ _ s t c.args.k c.in-Held-default-false.place false name in
    let is = known _ _ _ s t c.args.k c.in-Held-default-false.place item.0 false name item.1 in
    let reply = PushReady_reply s c.args.k c.args.class item.0 is.0 is.1 c.if-class-ge-CLASSES.false in (
      reply.0,
      rw (
        c.push_ready.ensures.content,
        ← reply.1,
      ) (pushed _ _ _ s t c.args.k c.in-Held-default-false.place c.args.class name c.if-class-ge-CLASSES.false),
    )
