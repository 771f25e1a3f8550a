use Rattle.std.proofs.{Common.{◌≡◌, Option, Result, Ok, Err, ap, sym, refl, ◌∙◌, arith, rules, tests}, lemmas.Result.err_from_is_err_and}
use Rattle.std.specs.Result.{result_err}
use Rattle.tp_base.specs.declared.{Sums.Sums, refusal.Refusal.{Refusal, TheVariants.NotIdle}, step.Step.TheVariants.Give}
use Rattle.tp_board.proofs.{Answering.{passed, refused, visit_rest, when_active, when_idle}, Further.{sums_now, wave_follows}}
use Rattle.tp_board.specs.{States.BoardState, declared.counts.NodeCounts.NodeCounts}
use Rattle.tp_wave.specs.{Generations.present_events, Machine.{pending_at, steps_of}}
use Rattle.tp_board.proofs.board.Board.give.Goals as goal

pub returns-in_err-sums-clause-refusal : goal.returns-in_err-sums-clause-refusal
returns-in_err-sums-clause-refusal g c =
    let p = err_from_is_err_and c.from_residual.result c.from_residual.ensures.1 in
    rw (← c.node-node.ensures.number) (refused _ _ _ _ _ _ (Give c.node-node.result) (visit_rest c.node-node.result.0 c.args.self.now) _ _ _
    c.self.invariant c.self.view_is c.give.ensures.table (ap result_err c.in_err-sums.was) (p.1 ∙ ap Err p.2))

pub returns-then-counts-gt0-clause-refusal : goal.returns-then-counts-gt0-clause-refusal
returns-then-counts-gt0-clause-refusal g c =
    let pending = ap (λ (x : NodeCounts). x.pending) c.counts-counts.ensures.counts in
    let answer : Result (Option Sums) Refusal = Err NotIdle in
    let active = when_active c.node-node.result.0 c.self.inside.event_log answer (omega (arith, pending)) refl in
    rw (← c.node-node.ensures.number)
    (passed _ _ _ _ _ _ (Give c.node-node.result) (visit_rest c.node-node.result.0) _ answer answer c.self.invariant c.self.view_is
    c.give.ensures.table (ap result_err c.in_ok-sums.was) active refl)

pub returns-in_err-add-clause-refusal : goal.returns-in_err-add-clause-refusal
returns-in_err-add-clause-refusal g c =
    let p = err_from_is_err_and c.from_residual-in_err-add.result c.from_residual-in_err-add.ensures.1 in
    let pending = ap (λ (x : NodeCounts). x.pending) c.counts-counts.ensures.counts in
    let idle = when_idle c.node-node.result.0 c.self.inside.event_log c.add.result (omega (arith, pending)) c.add.ensures.refusal in
    rw (← c.node-node.ensures.number) (passed _ _ _ _ _ _ (Give c.node-node.result) (visit_rest c.node-node.result.0) _ _ _
    c.self.invariant c.self.view_is c.give.ensures.table (ap result_err c.in_ok-sums.was) idle (ap result_err c.in_err-add.was
    ∙ sym (ap result_err (p.1 ∙ ap Err p.2))))

pub returns-clause-refusal : goal.returns-clause-refusal
returns-clause-refusal g c =
    let pending = ap (λ (x : NodeCounts). x.pending) c.counts-counts.ensures.counts in
    let answer : Result (Option Sums) Refusal = Ok c.in_ok-sums.sums in
    let idle = when_idle c.node-node.result.0 c.self.inside.event_log c.add.result (omega (arith, pending)) c.add.ensures.refusal in
    rw (← c.node-node.ensures.number) (passed _ _ _ _ _ _ (Give c.node-node.result) (visit_rest c.node-node.result.0) _ _ answer
    c.self.invariant c.self.view_is c.give.ensures.table (ap result_err c.in_ok-sums.was) idle (ap result_err c.in_ok-add.was))

pub invariant_of-self-2 : goal.invariant_of-self-2
invariant_of-self-2 g c =
    let history = ap (λ (b : BoardState). b.history) c.in_ok-add.ensures.ok in
    let counts = c.counts-counts.ensures.counts in
    let idle : pending_at c.node-node.result.0 (present_events c.self.inside.event_log.history) ≡ 0 =
    omega (arith, ap (λ (x : NodeCounts). x.pending) counts) in
    wave_follows _ _ c.node-node.result.0 _ _ _ _ _ _ _ (Give c.node-node.result) c.self.invariant history c.in_ok-add.ensures.places
    (omega (arith, c.node-node.ensures.number, c.node-node.ensures.below)) refl refl idle
    (c.in_ok-sums.ensures.follows _ _ c.self.invariant.now.follows (ap (λ (x : NodeCounts). x.sent) counts)
    (ap (λ (x : NodeCounts). x.received) counts)) refl c.self.invariant.now.judged

pub returns-clause-ok : goal.returns-clause-ok
returns-clause-ok g c = search (rules, tests)

pub returns-clause-sums : goal.returns-clause-sums
returns-clause-sums g c =
    let history = ap (λ (b : BoardState). b.history) c.in_ok-add.ensures.ok in
    let counts = c.counts-counts.ensures.counts in
    let past = steps_of (present_events c.self.inside.event_log.history) in
    let sums = c.in_ok-sums.ensures.counted g.K.Ledgers.names.nodes past c.self.invariant.now.follows
    (ap (λ (x : NodeCounts). x.sent) counts) (ap (λ (x : NodeCounts). x.received) counts) in
    sums_now _ c.self.inside.event_log.history _ c.node-node.result _ _ history c.node-node.ensures.number sums
