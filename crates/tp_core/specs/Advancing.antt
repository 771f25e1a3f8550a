-- The effect of a control step on the wave of a core, and the reply to it.
use Rattle.std.specs.Prelude.{ℕ, ◌≡◌, ◌<◌, ◌≤◌, List, ◌∷◌, true, Option, Some, None, Result, Ok, Err}
use Rattle.tp_base.specs.declared.{Refusal.Refusal, Step.Step, limits.TheConstants.{MAX_MESSAGES, MAX_NODES}}
use Rattle.tp_core.specs.{Accepted.reply_to, Kept.HasNumbers, Run.IsLawfulRun, StepChecks.refusal_of}
use Rattle.tp_core.specs.declared.{numbers.NodeNumbers.NodeNumbers, reply.Reply.{Reply, TheVariants.Over}}
use Rattle.tp_wave.specs.{Generations.present, Steps.{count, is_send_of, is_recv_at}, Wave.Follows, declared.Wave.Wave}

-- The steps on n nodes are a run in the present generation. The counters and the wave follow from them.
pub record HasWaves (n : ℕ) (numbers : List NodeNumbers) (steps : List Step) (wave : Wave) : Type 0 where
  pub some_node : 0 < n
  pub few_nodes : n ≤ MAX_NODES
  pub is_run : IsLawfulRun n (present steps)
  pub few_sent : (i : ℕ) → count (is_send_of i) (present steps) ≤ MAX_MESSAGES
  pub few_received : (i : ℕ) → count (is_recv_at i) (present steps) ≤ MAX_MESSAGES
  pub numbers_are : HasNumbers numbers (record { nodes = n; steps = present steps; recorded = true })
  pub follows : Follows n (present steps) wave

-- The step is refused with the first refusal that applies. If none does, the reply is that to the step, and the wave
-- advanced by it.
abbrev pub Advances : ℕ → List Step → Step → Result Reply Refusal → Wave → Type 0
Advances n past s (Ok reply) wave = (refusal_of n past s ≡ None) × (reply ≡ reply_to n past s) × Follows n (s ∷ present past) wave
Advances n past s (Err r) wave = refusal_of n past s ≡ Some r

-- the wave at whose end the pool had terminated, if the reply says so
abbrev pub over_of : Reply → Option ℕ
over_of (Over w) = Some w
over_of _ = None
