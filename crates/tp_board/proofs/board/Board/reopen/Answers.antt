use Rattle.std.proofs.Common.{ℕ, ◌≡◌, List, [], ◌∷◌, ◌++◌, ap, arith, drop, length, map, refl, sym, subst, take, ◌∙◌, IsTrue}
use Rattle.std.{proofs.{Math.Seq.take-append_seam, lemmas.List.Elements.{All-cons, All-nil, All-same}}, specs.List.All}
use Rattle.tp_board.{proofs.Further.{reopened, told}, specs.{Numbers.{ShareNumbers, first_numbers}, Reopening.begun_anew}}
use Rattle.tp_board.specs.States.{BoardState}
use Rattle.tp_wave.specs.{Generations.present, Machine.steps_of, Sums.is_ended, Wave.Follows}
use Rattle.tp_board.proofs.board.Board.reopen.Goals as goal

-- a list that was borrowed and came back unchanged
written_back : (n : ℕ) (new old : List ShareNumbers) → n ≡ length old → new ≡ old → take n (new ++ drop (length new) old) ≡ old
written_back n new old is same = rw (same, is) (take-append_seam old (drop (length old) old))

-- numbers that have begun anew are first ones
all_first : (xs : List ShareNumbers) → All (λ (s : ShareNumbers). s ≡ first_numbers s.node) (map begun_anew xs)
all_first [] = All-nil (λ (s : ShareNumbers). s ≡ first_numbers s.node)
all_first (x ∷ xs) = All-cons (λ (s : ShareNumbers). s ≡ first_numbers s.node) (begun_anew x) (map begun_anew xs) refl (all_first xs)

pub reopen-anew-requires-clause-totals : goal.reopen-anew-requires-clause-totals
reopen-anew-requires-clause-totals g c =
    let all = told _ _ _ _ _ c.self.invariant in (
      c.totals-totals.ensures.sent ∙ sym all.sent,
      c.totals-totals.ensures.received ∙ sym all.received,
      c.totals-totals.ensures.done ∙ sym all.done,
    )

pub invariant_of-self : goal.invariant_of-self
invariant_of-self g c =
    let n = g.K.Ledgers.names.nodes in
    let same = ap (λ (b : BoardState). b.history) (c.self.view_is ∙ c.audit_each.ensures.same.0 ∙ c.audit_ended.ensures.same) in
    let ended : IsTrue (is_ended n (present (steps_of c.self.inside.event_log.history))) = rw same c.audit_ended.ensures.ended in
    let follows = subst (λ k. Follows k [] c.new-self-inside.result) c.self.invariant.now.nodes_are c.new-self-inside.ensures.follows in
    reopened _ _ _ _ _ _ _ _ c.self.invariant (ap (λ (b : BoardState). b.history) c.reopen.ensures.ok) c.reopen.ensures.places ended
    c.reopen-anew.ensures.books c.reopen-anew.ensures.under follows

pub returns-clause-shares : goal.returns-clause-shares
returns-clause-shares g c =
    c.reopen-anew.ensures.shares
    ∙ ap (map begun_anew)
    (written_back _ _ _ (omega (arith, c.args.shares.ok.0)) (c.audit_each.ensures.same.1 ∙ c.deref_mut.ensures.value))

pub returns-clause-all_first : goal.returns-clause-all_first
returns-clause-all_first g c = All-same (λ (s : ShareNumbers). s ≡ first_numbers s.node) _ _ c.reopen-anew.ensures.shares (all_first _)
