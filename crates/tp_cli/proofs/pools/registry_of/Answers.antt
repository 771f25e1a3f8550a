use Rattle.std.proofs.{Common.{◌<◌, ◌≤◌, arith, inl, length, map, refl, rules, subst, sym}, lemmas.List.{get_or-map, length-map}}
use Rattle.tp_base.specs.declared.limits.TheConstants.{MAX_POOLS}
use Rattle.tp_cli.{proofs.Several.{all_named, one_registered, refused_word}, specs.Pools.IsWordsFault}
use Rattle.tp_cli.proofs.pools.registry_of.Goals as goal

pub returns-in-Err : goal.returns-in-Err
returns-in-Err c =
    let i = c.loop-word.word-index in
    let words = map (λ w. w.now) c.args.words.now in
    let inside : i < length c.args.words.now = c.loop-word-test.true in
    let lt : i < length words = omega (arith, inside, length-map c.args.words.now (λ w. w.now)) in
    let few : length words ≤ MAX_POOLS = omega (arith, c.if-words.false, length-map c.args.words.now (λ w. w.now)) in
    subst (IsWordsFault words) (sym c.word_fault.ensures)
    (refused_word i words c.loop-word.registry _ c.in-Err.refusal c.loop-word.invariant lt
    (sym (get_or-map (λ w. w.now) c.args.words.now i _ _ inside)) few
    c.in-Err.ensures.why (λ none. search rules))

pub loop-word-preserved : goal.loop-word-preserved
loop-word-preserved c =
    let i = c.loop-word.word-index in
    let words = map (λ w. w.now) c.args.words.now in
    let inside : i < length c.args.words.now = c.loop-word-test.true in
    let lt : i < length words = omega (arith, inside, length-map c.args.words.now (λ w. w.now)) in
    one_registered i words c.loop-word.registry c.register.new.self _ c.register.result c.in_default.not-Err c.loop-word.invariant lt
    (sym (get_or-map (λ w. w.now) c.args.words.now i _ _ inside)) c.register.ensures.registered c.register.ensures.refusal

pub returns : goal.returns
returns c =
    let words = map (λ w. w.now) c.args.words.now in
    let long = length-map c.args.words.now (λ w. w.now) in
    let few : length words ≤ MAX_POOLS = omega (arith, c.if-words.false, long) in
    all_named c.loop-word.word-index words c.loop-word.registry c.loop-word.invariant
    (omega (arith, c.loop-word-test.false, c.loop-word.auto.word-index-end, long)) few

pub returns-then-words : goal.returns-then-words
returns-then-words c = inl (omega (arith, c.if-words.true, length-map c.args.words.now (λ w. w.now)), refl)
