use Rattle.{std.{proofs.lemmas.List.with_items_is, specs.Vec.with_items}, tp_work.proofs.Lemmas.{kept-told, messages-told, IsKept, Round}}
use Rattle.tp_work.proofs.Lemmas.{rules, ◌≡◌, ◌∙◌, ◌+◌, [], ◌∷◌, length, map, sym, ap, subst, arith, vec_len, length-append, All-push, All}
use Rattle.tp_work.proofs.series.told_rounds.Goals as goal

pub returns-clause-kept : goal.returns-clause-kept
returns-clause-kept c =
    λ n workers graph kept own.
    let all : c.deref_mut.result.now ≡ c.push_reserved.new.self.items = c.deref_mut.ensures.value in
    let pushed : All (IsKept n workers graph) c.deref_mut.result.now =
    subst (All (IsKept n workers graph)) (sym (all ∙ c.push_reserved.ensures.items))
    (All-push (IsKept n workers graph) c.args.rounds.items c.args.last kept own) in
    let rounds : vec_len c.args.rounds ≡ length c.args.rounds.items = search rules in
    let many : vec_len c.push_reserved.new.self ≡ vec_len c.args.rounds + 1 = search rules in
    let more : length c.deref_mut.result.now ≡ vec_len c.args.rounds + 1 =
    omega (arith, ap length all, ap length c.push_reserved.ensures.items, length-append c.args.rounds.items (c.args.last ∷ []), rounds) in
    let size : length c.tell.new.rounds ≡ vec_len c.push_reserved.new.self = omega (arith, c.tell.ensures.length, more, many) in
    let same : (with_items c.push_reserved.new.self c.tell.new.rounds).items ≡ c.tell.new.rounds =
    with_items_is c.push_reserved.new.self c.tell.new.rounds size in
    subst (All (IsKept n workers graph)) (sym same)
    (kept-told c.deref_mut.result.now c.tell.new.rounds c.args.sent.now c.tell.ensures.length c.tell.ensures.told n workers graph
    pushed)

pub returns-clause-sent : goal.returns-clause-sent
returns-clause-sent c =
    let all : c.deref_mut.result.now ≡ c.push_reserved.new.self.items = c.deref_mut.ensures.value in
    let rounds : vec_len c.args.rounds ≡ length c.args.rounds.items = search rules in
    let many : vec_len c.push_reserved.new.self ≡ vec_len c.args.rounds + 1 = search rules in
    let pushed : length c.deref_mut.result.now ≡ vec_len c.args.rounds + 1 =
    omega (arith, ap length all, ap length c.push_reserved.ensures.items, length-append c.args.rounds.items (c.args.last ∷ []), rounds) in
    let long : length c.deref_mut.result.now ≡ length c.args.sent.now = pushed ∙ sym c.requires.sent in
    let size : length c.tell.new.rounds ≡ vec_len c.push_reserved.new.self = omega (arith, c.tell.ensures.length, pushed, many) in
    let same : (with_items c.push_reserved.new.self c.tell.new.rounds).items ≡ c.tell.new.rounds =
    with_items_is c.push_reserved.new.self c.tell.new.rounds size in
    ap (map (λ (r : Round). r.messages)) same
    ∙ messages-told c.deref_mut.result.now c.tell.new.rounds c.args.sent.now c.tell.ensures.length c.tell.ensures.told long
