use Rattle.gerfmuod.proofs.Growing.{refl, ap, inl, ◌∙◌, length, plain, follows_on, found, judged_ok}
use Rattle.gerfmuod.proofs.graph.data.inferred.Goals as goal

pub returns-in-Ok-spawn-clause-spawns : goal.returns-in-Ok-spawn-clause-spawns
returns-in-Ok-spawn-clause-spawns c =
    let accesses = c.args.accesses.now in
    let s = c.in-Ok-spawn.spawned in
    inl (record {
      inputs = c.deref.result.now;
      inferred = found accesses c.clear.new.self.items c.find.new.inputs.items c.deref.result.now c.args.flow.now.state c.clear.ensures.items
          c.deref.ensures.value c.in-Ok.ensures.inputs;
      judged = judged_ok _ _ _ _ _ c.spawn.result s c.in-Ok-spawn.is c.spawn.ensures.checks (record {
        signals = s.signals;
        result = c.plain.ensures ∙ ap (λ t. plain 0 t s.signals) c.in-Ok-spawn.ensures.task;
        settles = c.in-Ok-spawn.ensures.ok;
        follows = follows_on c.args.flow.now.state c.find.new.self.state c.record.new.self.state c.tasks-number.result
            (length c.args.team.now.pool.tasks) accesses c.in-Ok.ensures.same c.tasks-number.ensures c.record.ensures.follows;
        stays = refl;
      });
    })
