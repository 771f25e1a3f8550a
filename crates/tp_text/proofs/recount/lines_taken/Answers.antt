use Rattle.tp_text.proofs.Readings.{[], ◌∷◌, fault_format, fault_nodes, reads_none, reads_one}
use Rattle.tp_text.proofs.recount.lines_taken.Goals as goal

pub returns-in_default-clause-ok : goal.returns-in_default-clause-ok
returns-in_default-clause-ok c = fault_format _ _ c.in_default.ensures c.in_ok-syntax_line.ensures

pub returns-in_default-first_line-clause-ok : goal.returns-in_default-first_line-clause-ok
returns-in_default-first_line-clause-ok c =
    fault_nodes c.in-Some.version _ _ _ c.in-Some.ensures c.in_default-first_line.ensures c.in_ok-syntax_line-2.ensures

pub loop-rest-init : goal.loop-rest-init
loop-rest-init c =
    ([], reads_none c.in-Some.version _ c.in-Some.behind.now _ _ c.in-Some.ensures c.in-Some-first_line.ensures, c.new-auditor.ensures)

pub loop-rest-preserved : goal.loop-rest-preserved
loop-rest-preserved c =
    let reads = c.loop-rest.invariant.1 in (
      c.in-Some-next_line.line ∷ c.loop-rest.invariant.0,
      reads_one c.in-Some.version _ _ c.loop-rest.invariant.0 _ _ c.in-Some-next_line.line _ reads c.in-Some-next_line.ensures,
      c.in_ok-take.ensures.ok c.in-Some.version _ c.loop-rest.invariant.0 c.loop-rest.invariant.2 c.in-Some-next_line.ensures.0
          reads.number_is,
    )
