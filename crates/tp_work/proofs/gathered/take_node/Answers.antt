use Rattle.tp_work.proofs.Lemmas.{rules, ◌≡◌, ◌++◌, ◌∷◌, [], ◌∙◌, ap, arith, length, vec_len, ShareNumbers, Results, results_of}
use Rattle.tp_work.proofs.gathered.take_node.Goals as goal

pub unreachable-requires : goal.unreachable-requires
unreachable-requires g c =
    let more : vec_len c.into_parts-share.result.1 ≡ length (results_of c.args.node) =
    search rules ∙ ap length c.into_parts-share.ensures.results in
    omega (arith, more, c.requires.results, c.in_default.ensures.full)

pub returns-clause-shares : goal.returns-clause-shares
returns-clause-shares g c =
    c.push_reserved.ensures.items ∙ ap (λ (s : ShareNumbers). c.args.shares.now.items ++ s ∷ []) c.into_parts-share.ensures.counted

pub returns-clause-results : goal.returns-clause-results
returns-clause-results g c =
    c.in-Ok.ensures.items ∙ ap (λ (rs : Results). c.args.results.now.items ++ rs) c.into_parts-share.ensures.results

pub returns-clause-right : goal.returns-clause-right
returns-clause-right g c = c.into_parts-share.ensures.right
