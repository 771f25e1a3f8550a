-- Who makes a step: the pieces of work that may insert, supply, send and open, and the threads that run tasks.
use Rattle.std.specs.{List.find, Option.option_map, Prelude.{ℕ, ◌==◌, ◌&&◌, Bool, true, false, Option, Some, None}}
use Rattle.tp_base.specs.declared.Step.{Step, TheVariants.{Insert, Supply, Begin, Done, ActionOpen, Send}}
use Rattle.tp_core.specs.{StepChecks.is_running, World.{World, Opening, Named, OfMessage, home_of, life_of, is_open}}
use Rattle.tp_core.specs.declared.accepting.looking.Maker.{Maker}
use Rattle.tp_core.specs.declared.accepting.looking.Maker.TheVariants as maker

-- the home of a task, if it was inserted
abbrev pub home_if_known : ℕ → World → Option ℕ
home_if_known t w = option_map (λ x. x.home) (find (λ x. x.number == t) w.tasks)

-- The task runs at node i.
abbrev pub is_running_at : ℕ → ℕ → World → Bool
is_running_at i t w = is_running (life_of t w) && (home_of t w == i)

-- the node at which a step makes work, or begins or finishes a task: none for the other steps, or if there is no such task
abbrev pub node_of_work : Step → World → Option ℕ
node_of_work (Insert i t k) w = Some i.0
node_of_work (ActionOpen i a) w = Some i.0
node_of_work (Send i j m g) w = Some i.0
node_of_work (Supply t) w = home_if_known t.0 w
node_of_work (Begin t) w = home_if_known t.0 w
node_of_work (Done t) w = home_if_known t.0 w
node_of_work _ w = None

-- A thread makes no work: it only begins and finishes tasks.
abbrev pub runs_tasks : Step → Bool
runs_tasks (Begin t) = true
runs_tasks (Done t) = true
runs_tasks _ = false

-- The maker may make the step at node i: it is a task that runs there, an action, a received message or an opening that
-- is open there, or a thread of the node.
abbrev pub makes_at : Maker → Step → ℕ → World → Bool
makes_at (maker.Task t) s i w = is_running_at i t.0 w
makes_at (maker.Action a) s i w = is_open i (Named a.0) w
makes_at (maker.Message m) s i w = is_open i (OfMessage m.0) w
makes_at maker.Opening s i w = is_open i Opening w
makes_at (maker.Thread j) s i w = runs_tasks s && (j.0 == i)

abbrev pub makes_if : Maker → Step → Option ℕ → World → Bool
makes_if m s None w = false
makes_if m s (Some i) w = makes_at m s i w

-- The maker may make the step: at the node of the step.
abbrev pub is_maker : Maker → Step → World → Bool
is_maker m s w = makes_if m s (node_of_work s w) w
