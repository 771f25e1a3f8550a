use Rattle.std.proofs.{Common.{List, [], ◌∷◌, Result, Ok, Err, ap, refl, sym, ◌∙◌, arith, rules, tests}, lemmas.Result.err_from_is_err_and}
use Rattle.std.specs.Result.{result_err}
use Rattle.tp_base.specs.{Checks.Check, declared.{refusal.Refusal.Refusal, step.Step.TheVariants.Down}}
use Rattle.tp_board.{proofs.{Answering.{passed, refused}, Further.wave_follows}, specs.States.{BoardState, full_check}}
use Rattle.tp_board.proofs.board.Board.down.Goals as goal

pub returns-in_err-down-clause-refusal : goal.returns-in_err-down-clause-refusal
returns-in_err-down-clause-refusal g c =
    let p = err_from_is_err_and c.from_residual.result c.from_residual.ensures.1 in
    rw (← c.node-node.ensures.number)
    (refused _ _ _ _ _ _ (Down c.node-node.result) (full_check 1 c.args.self.now
    ∷ []) _ _ _ c.self.invariant c.self.view_is c.down.ensures.table (ap result_err c.in_err-down.was) (p.1 ∙ ap Err p.2))

pub returns-in_err-add-clause-refusal : goal.returns-in_err-add-clause-refusal
returns-in_err-add-clause-refusal g c =
    let p = err_from_is_err_and c.from_residual-in_err-add.result c.from_residual-in_err-add.ensures.1 in
    let full : BoardState → List Check = λ b. full_check 1 b ∷ [] in
    rw (← c.node-node.ensures.number) (passed _ _ _ _ _ _ (Down c.node-node.result) full _ _ _
    c.self.invariant c.self.view_is c.down.ensures.table (ap result_err c.in_ok-down.was) c.add.ensures.refusal
    (ap result_err (c.in_err-add.was ∙ sym (p.1 ∙ ap Err p.2))))

pub returns-clause-refusal : goal.returns-clause-refusal
returns-clause-refusal g c =
    let full : BoardState → List Check = λ b. full_check 1 b ∷ [] in
    let ok : Result (Unit {0}) Refusal = Ok tt in
    rw (← c.node-node.ensures.number)
    (passed _ _ _ _ _ _ (Down c.node-node.result) full _ _ ok c.self.invariant c.self.view_is c.down.ensures.table
    (ap result_err c.in_ok-down.was) c.add.ensures.refusal (ap result_err c.in_ok-add.was))

pub invariant_of-self-2 : goal.invariant_of-self-2
invariant_of-self-2 g c =
    let history = ap (λ (b : BoardState). b.history) c.in_ok-add.ensures.ok in
    wave_follows _ _ c.node-node.result.0 _ _ _ _ _ _ _ (Down c.node-node.result) c.self.invariant history c.in_ok-add.ensures.places
    (omega (arith, c.node-node.ensures.number, c.node-node.ensures.below)) refl refl tt
    (c.in_ok-down.ensures.follows _ _ c.self.invariant.now.follows) refl c.self.invariant.now.judged

pub returns-clause-ok : goal.returns-clause-ok
returns-clause-ok g c = search (rules, tests)
