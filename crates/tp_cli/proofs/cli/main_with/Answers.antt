use Rattle.std.proofs.Common.{◌≡◌, map}
use Rattle.tp_cli.{proofs.Ending.by_status, specs.Faults.line_of}
use Rattle.tp_cli.proofs.cli.main_with.Goals as goal

pub returns-clause-succeeded : goal.returns-clause-succeeded
returns-clause-succeeded g c =
    let ended = c.answer_words-ended.ensures in
    (by_status (map (λ w. w.now) c.args.words.now) (g.I.Read.remaining c.args.reader.now) (g.I.Read.remaining c.answer_words-ended.new.reader)
    (g.O.Write.contents c.args.out.now) (g.O.Write.contents c.answer_words-ended.new.out) (c.answer_words-ended.new.out ≡ c.args.out.now)
    (λ t. c.told.new.err ≡ c.args.err.now) (λ f. g.E.Diagnostics.tells c.args.err.now (line_of f) c.told.new.err) _ _ c.code.ensures.value
    c.answer_words-ended.result.0 ended.answered ended.why ended.unwritten c.told.ensures.done c.told.ensures.faulty).0

pub returns-clause-complained : goal.returns-clause-complained
returns-clause-complained g c =
    let ended = c.answer_words-ended.ensures in
    (by_status (map (λ w. w.now) c.args.words.now) (g.I.Read.remaining c.args.reader.now) (g.I.Read.remaining c.answer_words-ended.new.reader)
    (g.O.Write.contents c.args.out.now) (g.O.Write.contents c.answer_words-ended.new.out) (c.answer_words-ended.new.out ≡ c.args.out.now)
    (λ t. c.told.new.err ≡ c.args.err.now) (λ f. g.E.Diagnostics.tells c.args.err.now (line_of f) c.told.new.err) _ _ c.code.ensures.value
    c.answer_words-ended.result.0 ended.answered ended.why ended.unwritten c.told.ensures.done c.told.ensures.faulty).1

pub returns-clause-refused : goal.returns-clause-refused
returns-clause-refused g c =
    let ended = c.answer_words-ended.ensures in
    (by_status (map (λ w. w.now) c.args.words.now) (g.I.Read.remaining c.args.reader.now) (g.I.Read.remaining c.answer_words-ended.new.reader)
    (g.O.Write.contents c.args.out.now) (g.O.Write.contents c.answer_words-ended.new.out) (c.answer_words-ended.new.out ≡ c.args.out.now)
    (λ t. c.told.new.err ≡ c.args.err.now) (λ f. g.E.Diagnostics.tells c.args.err.now (line_of f) c.told.new.err) _ _ c.code.ensures.value
    c.answer_words-ended.result.0 ended.answered ended.why ended.unwritten c.told.ensures.done c.told.ensures.faulty).2

pub returns-clause-failed : goal.returns-clause-failed
returns-clause-failed g c =
    let ended = c.answer_words-ended.ensures in
    (by_status (map (λ w. w.now) c.args.words.now) (g.I.Read.remaining c.args.reader.now) (g.I.Read.remaining c.answer_words-ended.new.reader)
    (g.O.Write.contents c.args.out.now) (g.O.Write.contents c.answer_words-ended.new.out) (c.answer_words-ended.new.out ≡ c.args.out.now)
    (λ t. c.told.new.err ≡ c.args.err.now) (λ f. g.E.Diagnostics.tells c.args.err.now (line_of f) c.told.new.err) _ _ c.code.ensures.value
    c.answer_words-ended.result.0 ended.answered ended.why ended.unwritten c.told.ensures.done c.told.ensures.faulty).3
