use Rattle.gerfmuod.proofs.Growing.{refl, ap, inl, ◌∙◌, plain, follows_on, found, judged_part}
use Rattle.gerfmuod.proofs.part.tasks.inferred.Goals as goal

pub returns-in-Ok-task-clause-adds : goal.returns-in-Ok-task-clause-adds
returns-in-Ok-task-clause-adds c =
    let accesses = c.args.accesses.now in
    inl (record {
      inputs = c.deref.result.now;
      inferred = found accesses c.clear.new.self.items c.find.new.inputs.items c.deref.result.now c.args.flow.now.state c.clear.ensures.items
          c.deref.ensures.value c.in-Ok.ensures.inputs;
      judged = judged_part _ _ _ _ _ c.task.result c.in-Ok-task.task c.in-Ok-task.is c.task.ensures.checks (record {
        result = c.plain.ensures ∙ ap (λ n. plain 0 n 0) c.in-Ok-task.ensures.ok.0;
        becomes = c.in-Ok-task.ensures.ok.1;
        follows = follows_on c.args.flow.now.state c.find.new.self.state c.record.new.self.state c.described-number.result
            c.args.part.now.described accesses c.in-Ok.ensures.same c.described-number.ensures c.record.ensures.follows;
        stays = refl;
      });
    })
