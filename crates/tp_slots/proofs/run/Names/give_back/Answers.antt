use Rattle.tp_slots.proofs.Naming.{◌≡◌, false, idle_at, given_back, known, GiveBack_reply, name_at, Held}
use Rattle.tp_slots.proofs.run.Names.give_back.Goals as goal

pub give_back-requires : goal.give_back-requires
give_back-requires g c =
    let name : name_at c.args.self.now.standings.items c.args.k ≡ Held c.in-Held-default-false.place false = cc in
    idle_at _ _ _ c.requires.0 c.requires.1 c.args.k c.in-Held-default-false.place name

pub returns-in-Held-default-false : goal.returns-in-Held-default-false
returns-in-Held-default-false g c s t =
    let name : name_at c.args.self.now.standings.items c.args.k ≡ Held c.in-Held-default-false.place false = cc in
    let is = known _ _ _ s t c.args.k c.in-Held-default-false.place c.give_back.result false name c.give_back.ensures.value in
    let reply = GiveBack_reply s c.args.k c.give_back.result is.0 is.1 in
    (reply.0, rw (c.give_back.ensures.content, ← reply.1) (given_back _ _ _ s t c.args.k c.in-Held-default-false.place name))
