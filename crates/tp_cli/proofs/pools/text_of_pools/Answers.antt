use Rattle.std.proofs.Common.{◌≡◌, ◌∙◌, ◌<◌, ◌≤◌, ◌++◌, Result, [], ap, ap₂, arith, length, map, sym}
use Rattle.std.proofs.lemmas.{List.{get_or_default, get_or-map, length-map}, Slice.Zip.{get_or-zip, length-zip}}
use Rattle.std.specs.{List.zip, Prelude.get_or}
use Rattle.tp_cli.{proofs.Outputs.{all_texts, text_more}, specs.Pools.{Word, pool_line}}
use Rattle.tp_work.specs.declared.config.{Fault.Fault, Outcome.Outcome}
use Rattle.tp_cli.proofs.pools.text_of_pools.Goals as goal

pub loop-number-preserved : goal.loop-number-preserved
loop-number-preserved c =
    let i = c.loop-number.number in
    let words = map (λ w. w.now) c.args.words.now in
    let answers = c.args.answers.now in
    let word : Word = get_or words i [] in
    let answer = c.index-answers-number.result in
    let one : Word × Result Outcome Fault = (word, answer) in
    let inside : i < length c.args.words.now = c.loop-number-test.true in
    let lt : i < length words = omega (arith, inside, length-map c.args.words.now (λ w. w.now)) in
    let lt' : i < length answers = omega (arith, inside, c.requires) in
    let line : c.as_bytes.result.now ≡ pool_line i word answer =
    c.as_bytes.ensures.value ∙ c.in_ok-line.ensures
    ∙ ap (λ w. pool_line i w answer) (sym (get_or-map (λ w. w.now) c.args.words.now i _ [] inside)) in
    let at : one ≡ get_or (zip words answers) i one =
    ap₂ (λ w a. (w, a)) (get_or_default words i [] word lt) c.index-answers-number.is ∙ sym (get_or-zip words answers i one lt lt') in
    text_more (λ k p. pool_line k p.0 p.1) 0 (zip words answers) i i one c.loop-number.text.items _
    (omega (arith, length-zip words answers, lt, lt')) at (omega arith)
    (c.in_ok-extend_from_slice.ensures.items ∙ ap (λ l. c.loop-number.text.items ++ l) line) c.loop-number.invariant

pub returns : goal.returns
returns c =
    let words = map (λ w. w.now) c.args.words.now in
    let past : length (zip words c.args.answers.now) ≤ c.loop-number.number =
    omega (arith, c.loop-number-test.false, length-map c.args.words.now (λ w. w.now), length-zip words c.args.answers.now) in
    all_texts (λ k p. pool_line k p.0 p.1) 0 (zip words c.args.answers.now) c.loop-number.number c.loop-number.text.items past
    c.loop-number.invariant
