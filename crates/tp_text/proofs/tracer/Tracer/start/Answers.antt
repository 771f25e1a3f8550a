use Rattle.tp_text.proofs.Readings.{arith, started_law}
use Rattle.tp_text.proofs.tracer.Tracer.start.Goals as goal

pub start-started-requires : goal.start-started-requires
start-started-requires c = omega (arith, (started_law c.requires.0 c.requires.1 c.args.self.now.wave c.requires.2.wave).1, c.requires.3.few)
