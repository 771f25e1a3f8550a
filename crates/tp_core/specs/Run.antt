-- The runs of the core on n nodes in one generation. A list of steps has the newest step first.
use Rattle.std.specs.Prelude.{ℕ, ◌≡◌, List, [], ◌∷◌}
use Rattle.tp_base.specs.declared.Step.{Step, TheVariants.{Insert, Supply, Begin, Done, ActionOpen, ActionClose, Ready, Send, Recv}}
use Rattle.tp_base.specs.declared.Step.TheVariants.{MessageEnd, Start, Down, Give, Up, Judge, Reopen}
use Rattle.tp_core.specs.{Pool.{MayTake, after}, World.{World, first_world, home_of, pending}}
use Rattle.tp_wave.specs.{Control.IsControlStep, Machine.History}

-- the world after these steps
abbrev pub world : ℕ → List Step → World
world n [] = first_world n
world n (s ∷ past) = after s (world n past)

-- The core may take this step next: the world allows a step of the pool, the list of steps allows a control step. An
-- active node may not give.
abbrev pub IsLawful : ℕ → List Step → Step → Type 0
IsLawful n past Start = IsControlStep n past Start
IsLawful n past (Down i) = IsControlStep n past (Down i)
IsLawful n past (Give i) = IsControlStep n past (Give i) × (pending i.0 (world n past) ≡ 0)
IsLawful n past (Up i) = IsControlStep n past (Up i)
IsLawful n past Judge = IsControlStep n past Judge
IsLawful n past s = MayTake n (world n past) s

-- Each step was lawful when it was taken.
abbrev pub IsLawfulRun : ℕ → List Step → Type 0
IsLawfulRun n [] = Unit {0}
IsLawfulRun n (s ∷ past) = IsLawful n past s × IsLawfulRun n past

-- the node of a step: the home of its task, or the node that it names first, or the root
abbrev pub node_of : World → Step → ℕ
node_of w (Insert i t k) = i.0
node_of w (Supply t) = home_of t.0 w
node_of w (Begin t) = home_of t.0 w
node_of w (Done t) = home_of t.0 w
node_of w (ActionOpen i a) = i.0
node_of w (ActionClose i a) = i.0
node_of w (Ready i) = i.0
node_of w (Send i j m g) = i.0
node_of w (Recv j m g) = j.0
node_of w (MessageEnd j m g) = j.0
node_of w Start = 0
node_of w (Down i) = i.0
node_of w (Give i) = i.0
node_of w (Up i) = i.0
node_of w Judge = 0
node_of w Reopen = 0

-- the steps, each with its node
abbrev pub history : ℕ → List Step → History
history n [] = []
history n (s ∷ past) = (record { 0 = node_of (world n past) s }, s) ∷ history n past
