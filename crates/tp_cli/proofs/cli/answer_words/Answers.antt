use Rattle.clap.{specs.{Values.kind_of, declared.error.kind.ErrorKind.TheVariants.MissingSubcommand}}
use Rattle.std.proofs.{Common.{inl, inr, map, subst, sym}, lemmas.Result.{IfErr-weaker, IfOk-weaker}}
use Rattle.tp_cli.proofs.Ending.{hidden, request_fault}
use Rattle.tp_cli.specs.{Command.{IsNeither, asked, tp_app}, Ends.{HasFault, IsFaultOf, IsOutputOf}}
use Rattle.tp_cli.specs.declared.request.Request.TheVariants as requests
use Rattle.tp_shell.proofs.Asked.{shown_asked, words_fault}
use Rattle.tp_cli.proofs.cli.answer_words.Goals as goal

pub returns-in-Ok-Answer-clause-answered : goal.returns-in-Ok-Answer-clause-answered
returns-in-Ok-Answer-clause-answered g c =
    let asks = rw c.in-Ok-Answer.field-0-is at c.in-Ok-Answer.ensures.asked in
    IfOk-weaker c.answer_text.result.0 _ _ (λ status did. inl (requests.Answer c.in-Ok-Answer.kind, asks, did)) c.answer_text.ensures.answered

pub returns-in-Ok-Answer-clause-why : goal.returns-in-Ok-Answer-clause-why
returns-in-Ok-Answer-clause-why g c =
    let asks = rw c.in-Ok-Answer.field-0-is at c.in-Ok-Answer.ensures.asked in
    IfErr-weaker c.answer_text.result.0 _ _ (request_fault (map (λ w. w.now) c.args.words.now) (g.I.Read.remaining c.args.reader.now)
    (g.I.Read.remaining c.answer_text.new.reader) (requests.Answer c.in-Ok-Answer.kind) asks) c.answer_text.ensures.why

pub returns-in-Ok-Answer-clause-unread : goal.returns-in-Ok-Answer-clause-unread
returns-in-Ok-Answer-clause-unread g c =
    inl (c.in-Ok-Answer.kind, rw c.in-Ok-Answer.field-0-is at c.in-Ok-Answer.ensures.asked)

pub returns-in-Ok-Run-clause-answered : goal.returns-in-Ok-Run-clause-answered
returns-in-Ok-Run-clause-answered g c =
    let asks = rw c.in-Ok-Run.field-0-is at c.in-Ok-Run.ensures.asked in
    let request = requests.Run c.in-Ok-Run.spec c.in-Ok-Run.plan c.in-Ok-Run.file in
    IfOk-weaker c.run-ended.result _ _ (λ status did. inl (request, asks, did)) c.run-ended.ensures.ran

pub returns-in-Ok-Run-clause-why : goal.returns-in-Ok-Run-clause-why
returns-in-Ok-Run-clause-why g c =
    let asks = rw c.in-Ok-Run.field-0-is at c.in-Ok-Run.ensures.asked in
    let request = requests.Run c.in-Ok-Run.spec c.in-Ok-Run.plan c.in-Ok-Run.file in
    let read = g.I.Read.remaining c.args.reader.now in
    IfErr-weaker c.run-ended.result _ _ (request_fault (map (λ w. w.now) c.args.words.now) read read request asks) c.run-ended.ensures.why

pub returns-in-Ok-Pools-clause-answered : goal.returns-in-Ok-Pools-clause-answered
returns-in-Ok-Pools-clause-answered g c =
    let asks = rw c.in-Ok-Pools.field-0-is at c.in-Ok-Pools.ensures.asked in
    let request = requests.Pools c.in-Ok-Pools.specs c.in-Ok-Pools.config in
    let ran = rw c.deref.ensures.value at c.run_several.ensures.ran in
    IfOk-weaker c.run_several.result _ _ (λ status did. inl (request, asks, did)) ran

pub returns-in-Ok-Pools-clause-why : goal.returns-in-Ok-Pools-clause-why
returns-in-Ok-Pools-clause-why g c =
    let asks = rw c.in-Ok-Pools.field-0-is at c.in-Ok-Pools.ensures.asked in
    let request = requests.Pools c.in-Ok-Pools.specs c.in-Ok-Pools.config in
    let read = g.I.Read.remaining c.args.reader.now in
    IfErr-weaker c.run_several.result _ _ (request_fault (map (λ w. w.now) c.args.words.now) read read request asks)
    (rw c.deref.ensures.value at c.run_several.ensures.why)

pub returns-in-Err-clause-answered : goal.returns-in-Err-clause-answered
returns-in-Err-clause-answered g c =
    let asking = map (λ w. w.now) c.args.words.now in
    let shown = shown_asked tp_app MissingSubcommand (IsNeither (asked asking)) asking (kind_of c.in-Err.error) hidden c.in-Err.ensures.why in
    IfOk-weaker c.show_asked.result _ _ (λ status did. inr (did.0, shown did.1, did.2)) c.show_asked.ensures.shown

pub returns-in-Err-clause-why : goal.returns-in-Err-clause-why
returns-in-Err-clause-why g c =
    let asking = map (λ w. w.now) c.args.words.now in
    let fails = c.in-Err.ensures.why in
    IfErr-weaker c.show_asked.result _ _
    (λ fault met. subst (HasFault asking _ _) (sym met.1)
    (words_fault tp_app MissingSubcommand (IsNeither (asked asking)) asking (kind_of c.in-Err.error) met.0 hidden fails met.2))
    c.show_asked.ensures.why
