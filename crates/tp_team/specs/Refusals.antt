-- The numbers of a team's refusals, as C sees them.
use Rattle.std.specs.Prelude.{ℕ}
use Rattle.tp_team.specs.declared.refusal.TeamRefusal.{TeamRefusal, TheVariants.{Pool, NoThread, Stopped, Running}}
use Rattle.tp_base.specs.Refusals as base

abbrev pub number_of : TeamRefusal → ℕ
number_of (Pool refusal) = base.number_of refusal
number_of NoThread = 64
number_of Stopped = 66
number_of Running = 67
