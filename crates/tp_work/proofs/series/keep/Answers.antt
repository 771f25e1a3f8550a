use Rattle.std.proofs.lemmas.{Option.MatchOption-at_none, Result.{IfOk-weaker, on_ok_weaker}}
use Rattle.tp_work.proofs.Lemmas.{rules, ◌≡◌, ◌∙◌, ◌<◌, ◌∷◌, [], ℕ, sym, ap, subst, inr, length, length-append, All-push, IfErr-weaker, All}
use Rattle.tp_work.proofs.Lemmas.{MatchOption, vec_len, HasEachOnce, Results, Pool, present_events, History, lack_by_check, at_none}
use Rattle.tp_work.proofs.Lemmas.{fault_of_lack, missing_or_memory, series_fault, generations, Lacks, IsKept, Round}
use Rattle.tp_work.proofs.series.keep.Goals as goal

pub returns-clause-nodes : goal.returns-clause-nodes
returns-clause-nodes g c =
    IfOk-weaker c.keep_unless.result _ _
    (λ (p : Pool g.row.G.Denot g.row.K.Denot) same. ap (λ (q : Pool g.row.G.Denot g.row.K.Denot). vec_len q.nodes) same
    ∙ c.args.pool.nodes.ok.0 ∙ c.requires.whole.nodes_are) c.keep_unless.ensures.pool

pub returns-clause-links : goal.returns-clause-links
returns-clause-links g c =
    IfOk-weaker c.keep_unless.result _ _
    (λ (p : Pool g.row.G.Denot g.row.K.Denot) same. ap (λ (q : Pool g.row.G.Denot g.row.K.Denot). vec_len q.links) same
    ∙ c.args.pool.links.ok.0 ∙ c.requires.whole.links_are) c.keep_unless.ensures.pool

pub returns-clause-kept : goal.returns-clause-kept
returns-clause-kept g c =
    let n = g.K.Ledgers.names.nodes in
    let graph = g.G.Graph.meaning c.args.graph in
    let tasks : c.tasks-tasks.result ≡ graph.tasks = search rules in
    let says = lack_by_check _ c.each_once.result c.lack_by-lack.result c.each_once.ensures c.lack_by-lack.ensures in
    let last : Round =
    record {
      results = c.args.results;
      tasks = c.tasks-tasks.result;
      messages = 0;
      announced = c.args.announced;
      workers = c.args.answered;
    } in
    on_ok_weaker c.keep_unless.result
    (λ kept workers answered.
    let once : HasEachOnce c.tasks-tasks.result c.deref.result.now = MatchOption-at_none _ _ kept.0 says in
    let own : IsKept n workers graph last = record {
      each_once = subst (λ (rs : Results). HasEachOnce graph.tasks rs) c.deref.ensures.value
          (subst (λ (k : ℕ). HasEachOnce k c.deref.result.now) tasks once);
      right = c.requires.right;
      tasks = tasks;
      announced = c.requires.announced;
      answered = answered;
    } in
    record {
      more = ap length kept.1 ∙ length-append c.args.rounds.now.items (last ∷ []);
      kept = λ all.
          subst (All (IsKept n workers graph)) (sym kept.1) (All-push (IsKept n workers graph) c.args.rounds.now.items last all own);
    })
    c.keep_unless.ensures.kept

pub returns-clause-lack : goal.returns-clause-lack
returns-clause-lack g c =
    let n = g.K.Ledgers.names.nodes in
    let graph = g.G.Graph.meaning c.args.graph in
    let tasks : c.tasks-tasks.result ≡ graph.tasks = search rules in
    let says = lack_by_check _ c.each_once.result c.lack_by-lack.result c.each_once.ensures c.lack_by-lack.ensures in
    IfErr-weaker c.keep_unless.result _ _
    (λ f told. fault_of_lack n graph f c.args.pool.nodes.items c.args.pool.board (HasEachOnce graph.tasks c.args.results.items)
    c.lack_by-lack.result
    (subst (λ (rs : Results). MatchOption c.lack_by-lack.result (HasEachOnce graph.tasks rs) (Lacks (HasEachOnce graph.tasks rs)))
    c.deref.ensures.value
    (subst (λ (k : ℕ). MatchOption c.lack_by-lack.result (HasEachOnce k c.deref.result.now) (Lacks (HasEachOnce k c.deref.result.now)))
    tasks says)) told) c.keep_unless.ensures.fault

pub returns-clause-fault : goal.returns-clause-fault
returns-clause-fault g c =
    let n = g.K.Ledgers.names.nodes in
    let graph = g.G.Graph.meaning c.args.graph in
    let tasks : c.tasks-tasks.result ≡ graph.tasks = search rules in
    let says = lack_by_check _ c.each_once.result c.lack_by-lack.result c.each_once.ensures c.lack_by-lack.ensures in
    IfErr-weaker c.keep_unless.result _ _
    (λ f told count few. series_fault n graph count f c.args.pool.nodes.items c.args.pool.board
    (Lacks (HasEachOnce c.tasks-tasks.result c.deref.result.now))
    (fault_of_lack n graph f c.args.pool.nodes.items c.args.pool.board (HasEachOnce c.tasks-tasks.result c.deref.result.now)
    c.lack_by-lack.result says told) few
    (λ r report why. at_none c.args.pool.board.fault _ _ c.requires.fault
    (inr (
      record {
        reopened = subst (λ (h : History). 1 < length (generations h)) (sym report.history) c.requires.opened.1;
        nothing = ap present_events report.history ∙ c.requires.opened.0;
      },
      missing_or_memory (HasEachOnce c.tasks-tasks.result c.deref.result.now) f.refusal why,
    )))) c.keep_unless.ensures.fault
