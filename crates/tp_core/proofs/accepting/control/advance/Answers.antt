use Rattle.tp_core.proofs.Lemmas.{ap, sym, ◌∙◌, judged, present, refl, two_told}
use Rattle.tp_core.proofs.accepting.control.advance.Goals as goal

pub start-requires : goal.start-requires
start-requires c =
    c.requires.few (rw c.in-Start.is refl)

pub returns-in-Some : goal.returns-in-Some
returns-in-Some c n steps h =
    let tell = two_told n (present steps) h.some_node h.is_run in
    rw c.in-Judge.is (
      sym (c.in_ok-ended-in-Judge.ensures.exact n (present steps) h.follows),
      ap judged (sym c.in-Some.is ∙ c.in_ok-ended-in-Judge.ensures.judged n (present steps) h.follows tell),
      c.in_ok-ended-in-Judge.ensures.follows n (present steps) h.follows tell,
    )

pub returns-in-None : goal.returns-in-None
returns-in-None c n steps h =
    let tell = two_told n (present steps) h.some_node h.is_run in
    rw c.in-Judge.is (
      sym (c.in_ok-ended-in-Judge.ensures.exact n (present steps) h.follows),
      ap judged (sym c.in-None.is ∙ c.in_ok-ended-in-Judge.ensures.judged n (present steps) h.follows tell),
      c.in_ok-ended-in-Judge.ensures.follows n (present steps) h.follows tell,
    )
