use Rattle.tp_part.proofs.Theorems.{◌≡◌, ◌∙◌, Ok, Some, ap, arith, refl, sym, slice_get_within}
use Rattle.tp_part.proofs.Theorems.{index_is, holds_next, runs_shown, waits_shown}
use Rattle.tp_part.proofs.{Theorems.end_shown, part.Part.next.Goals.{in-Run, in-Wait, in-Finished}}
use Rattle.tp_part.proofs.part.Part.next.Goals as goal

pub index-requires-in-Run : goal.index-requires-in-Run
index-requires-in-Run c = let d = c.in_ok-next.ensures.run c.in-Run.place c.in-Run.is in let w = slice_get_within
    c.self.inside.pool.tasks c.in-Run.place d.becomes.was d.becomes.is in omega (arith, c.self.invariant.long, c.self.inside.numbers.ok.0)

pub invariant_of-self-2 : goal.invariant_of-self-2
invariant_of-self-2 c = holds_next c.self.invariant c.in_ok-next.next c.in_ok-next.ensures.run
    (λ e. c.in_ok-next.ensures.wait (ap Ok e)) (λ e. c.in_ok-next.ensures.over (ap Ok e))

pub returns-clause-run : goal.returns-clause-run
returns-clause-run c = elim c.match-next.branch [
  | in-Run w ↦ rw w.result-is (λ t h. let e : w.index-in-Run.result.now ≡ t = cc in
      let d = c.in_ok-next.ensures.run w.in-Run.place w.in-Run.is in let m = slice_get_within c.self.inside.pool.tasks w.in-Run.place
      d.becomes.was d.becomes.is in runs_shown c.self.inside t w.in-Run.place c.self.view_is c.self.invariant.arriving.awaited (index_is
      c.self.inside.numbers.items w.in-Run.place w.index-in-Run.result.now (omega (arith, c.self.invariant.long)) w.index-in-Run.ensures
      ∙ ap Some e) (omega (arith, c.self.invariant.sent, c.if-self-len.false, c.len.ensures, c.self.inside.outbox.ok.0)) d refl)
  | in-Wait w ↦ rw w.result-is (λ t h. cc)
  | in-Finished w ↦ rw w.result-is (λ t h. cc)
]

pub returns-clause-wait : goal.returns-clause-wait
returns-clause-wait c = elim c.match-next.branch [
  | in-Run w ↦ (λ h. let e = sym w.result-is ∙ h in cc)
  | in-Finished w ↦ (λ h. let e = sym w.result-is ∙ h in cc)
  | in-Wait w ↦ (λ h. waits_shown c.self.inside c.self.view_is c.self.invariant.arriving.awaited
      (omega (arith, c.self.invariant.sent, c.if-self-len.false, c.len.ensures, c.self.inside.outbox.ok.0)) (c.in_ok-next.ensures.idle
      (ap Ok w.in-Wait.is)) (c.in_ok-next.ensures.some_left (ap Ok w.in-Wait.is)) (c.in_ok-next.ensures.wait (ap Ok w.in-Wait.is)))
]

pub returns-clause-over : goal.returns-clause-over
returns-clause-over c = elim c.match-next.branch [
  | in-Run w ↦ (λ h. let e = sym w.result-is ∙ h in cc)
  | in-Wait w ↦ (λ h. let e = sym w.result-is ∙ h in cc)
  | in-Finished w ↦ (λ h. end_shown c.self.inside c.self.view_is
      (omega (arith, c.self.invariant.sent, c.if-self-len.false, c.len.ensures, c.self.inside.outbox.ok.0))
      (c.in_ok-next.ensures.finished (ap Ok w.in-Finished.is)) (c.in_ok-next.ensures.over (ap Ok w.in-Finished.is)))
]
