use Rattle.tp_cli.proofs.Outputs.{generations_of}
use Rattle.tp_wave.proofs.Generations.{generations_law}
use Rattle.tp_cli.proofs.printing.text_of.Goals as goal

pub text_of_generations-requires : goal.text_of_generations-requires
text_of_generations-requires c = rw c.deref.ensures.value (generations_of c.args.plan c.args.graph c.args.run.now c.requires.run)

pub print_trace-requires-clause-run : goal.print_trace-requires-clause-run
print_trace-requires-clause-run c = generations_law c.args.plan.config.nodes c.args.run.now.history.events c.requires.run.runs

pub returns-in-Table-clause-text : goal.returns-in-Table-clause-text
returns-in-Table-clause-text c = rw c.in-Table.is (rw c.deref.ensures.value at c.text_of_generations.ensures.text)

pub returns-in-Table-clause-none : goal.returns-in-Table-clause-none
returns-in-Table-clause-none c = rw c.in-Table.is (rw c.deref.ensures.value at c.text_of_generations.ensures.none)

pub returns-in-Trace-clause-text : goal.returns-in-Trace-clause-text
returns-in-Trace-clause-text c = rw c.in-Trace.is c.print_trace.ensures.ok
