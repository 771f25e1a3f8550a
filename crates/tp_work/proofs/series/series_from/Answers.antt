use Rattle.tp_work.proofs.Lemmas.{rules, ◌≡◌, ◌∙◌, ◌+◌, ℕ, IsTrue, length, map, refl, reverse, ap, subst, vec_len, length-map}
use Rattle.tp_work.proofs.Lemmas.{length-reverse, HasEachOnce, is_series, LivesInEach, generations, sent_in, IsKept, Round}
use Rattle.tp_work.proofs.series.series_from.Goals as goal

pub told_rounds-requires-clause-sent : goal.told_rounds-requires-clause-sent
told_rounds-requires-clause-sent g c =
    let h = c.args.report.history.events in
    let sent : c.deref.result.now ≡ reverse (map sent_in (generations h)) = c.deref.ensures.value ∙ c.in-Ok.ensures.sent in
    ap length sent ∙ length-reverse (map sent_in (generations h)) ∙ length-map (generations h) sent_in ∙ c.requires.number

pub returns-in-Ok-clause-series : goal.returns-in-Ok-clause-series
returns-in-Ok-clause-series g c =
    let graph = g.G.Graph.meaning c.args.graph.now in
    let h = c.args.report.history.events in
    let n = c.args.config.nodes in
    let workers = c.args.config.workers in
    let tasks : c.tasks-tasks.result ≡ graph.tasks = search rules in
    let last : Round =
    record {
      results = c.args.report.results;
      tasks = c.tasks-tasks.result;
      messages = 0;
      announced = c.args.report.announced;
      workers = c.args.workers;
    } in
    let own : IsKept n workers graph last = record {
      each_once = subst (λ (k : ℕ). HasEachOnce k c.args.report.results.items) tasks c.in-Ok.ensures.once.0;
      right = c.requires.report.right;
      tasks = tasks;
      announced = (c.requires.ended c.in-Ok.ensures.no_fault).announced;
      answered = c.requires.workers c.in-Ok.ensures.no_fault;
    } in
    let sent : c.deref.result.now ≡ reverse (map sent_in (generations h)) = c.deref.ensures.value ∙ c.in-Ok.ensures.sent in
    is_series n workers graph (vec_len c.args.rounds + 1) (record { rounds = c.told_rounds.result; history = c.args.report.history })
    c.requires.report.of_run.run (subst IsTrue c.requires.report.of_run.ended (c.requires.ended c.in-Ok.ensures.no_fault).detected)
    (subst (λ (k : ℕ). LivesInEach k h) tasks c.in-Ok.ensures.once.1)
    (c.told_rounds.ensures.kept n workers graph c.requires.kept own)
    (c.told_rounds.ensures.sent ∙ sent)
    c.told_rounds.ensures.many

pub returns-in-Err-clause-fault : goal.returns-in-Err-clause-fault
returns-in-Err-clause-fault g c =
    let tasks : c.tasks-tasks.result ≡ (g.G.Graph.meaning c.args.graph.now).tasks = search rules in
    (refl, rw tasks at c.in-Err.ensures.refusal)
