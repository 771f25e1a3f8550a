-- What a core has accepted, and its reply to the next step.
use Rattle.std.specs.{List.list_any, Prelude.{Bool, true, false, not, IsTrue, IsFalse, ℕ, ◌%◌, ◌&&◌, ◌||◌, ◌==◌, ◌≡◌, ◌<◌, ◌+◌, List, []}}
use Rattle.std.specs.Prelude.{◌∷◌, ◌++◌, nat_le, nat_lt, is_some, length, Option, Some, None, Result, Ok, Err, if◌then◌else◌}
use Rattle.tp_base.specs.{Checks.{Check, first_refusal}, Pages.is_beside}
use Rattle.tp_base.specs.declared.Refusal.{Refusal, TheVariants.{HistoryFull, NoMemory, StoreFull}}
use Rattle.tp_base.specs.declared.Step.{Step, TheVariants.{Insert, ActionOpen, Send, Recv, Start, Give, Judge, Reopen}}
use Rattle.tp_base.specs.declared.limits.TheConstants.{MAX_STEPS, MAX_MESSAGES}
use Rattle.tp_core.specs.{Generations.{world_after, MayCome}, Run.world, StepChecks.checks, World.{World, all_left, pending}}
use Rattle.tp_core.specs.declared.{accepting.TheConstants.MAX_COUNT, taken.TheConstants.PIECE, numbers.NodeNumbers.NodeNumbers}
use Rattle.tp_core.specs.declared.reply.Reply.{Reply, TheVariants.Plain}
use Rattle.tp_core.specs.declared.reply.Reply.TheVariants.{WaveSums, Not, Over, Opened}
use Rattle.tp_wave.specs.{Generations.{present, generation}, Steps.{any, count, is_send_of, is_recv_at}, Sums.{sums_of, waves, judgement}}

-- The number of nodes, the accepted steps, newest first, and whether the core keeps a list of them. If it does not, only
-- clauses see the steps.
pub record Accepted : Type 0 where
  pub nodes : ℕ
  pub steps : List Step
  pub recorded : Bool

abbrev pub world_of : Accepted → World
world_of a = world_after a.nodes a.steps

-- A counter of a core without a list of steps is at its limit, so the core cannot take this step: the number of what is
-- left, of messages in flight, of messages that the node has sent or received, of waves, or of generations. All but the
-- last are counted in the present generation.
abbrev pub is_at_limit : ℕ → List Step → Step → Bool
is_at_limit n past (Insert i t k) = nat_le MAX_COUNT (all_left (world_after n past))
is_at_limit n past (ActionOpen i a) = nat_le MAX_COUNT (all_left (world_after n past))
is_at_limit n past (Send i j m g) =
    nat_le MAX_MESSAGES (count (is_send_of i.0) (present past)) || nat_le MAX_COUNT (length (world_after n past).messages)
is_at_limit n past (Recv j m g) =
    nat_le MAX_MESSAGES (count (is_recv_at j.0) (present past)) || nat_le MAX_COUNT (all_left (world_after n past))
is_at_limit n past Start = nat_lt MAX_STEPS (waves (present past))
is_at_limit n past Reopen = nat_le MAX_COUNT (generation past)
is_at_limit n past _ = false

-- There is room for a step, if `taken` steps were accepted: in the list of steps, or, if there is none, in the counters.
abbrev pub HasRoom : (recorded : Bool) → (taken : ℕ) → (limit : Bool) → Type 0
HasRoom true taken limit = taken < MAX_STEPS
HasRoom false taken limit = IsFalse limit

-- the check for lack of room
abbrev pub room_check : (recorded : Bool) → (taken : ℕ) → (limit : Bool) → List Check
room_check true taken limit = (nat_le MAX_STEPS taken, HistoryFull taken) ∷ []
room_check false taken limit = (limit, StoreFull) ∷ []

-- Without a list, the check of the number of waves comes before all others.
abbrev pub wave_check : Accepted → Step → List Check
wave_check a Start = (not a.recorded && is_at_limit a.nodes a.steps Start, StoreFull) ∷ []
wave_check a _ = []

-- the first refusal that applies; the check for room is the last
abbrev pub refusal : Accepted → Step → Option Refusal
refusal a s =
    first_refusal (wave_check a s ++ (checks a.nodes a.steps s ++ room_check a.recorded (length a.steps) (is_at_limit a.nodes a.steps s)))

-- The next step begins a piece of the list of steps, if `taken` steps were accepted.
abbrev pub begins_piece : (recorded : Bool) → (taken : ℕ) → Bool
begins_piece recorded taken = recorded && (taken % PIECE == 0)

-- the number of steps in the list of a core, if it keeps one
abbrev pub list_length : Accepted → ℕ
list_length a = if a.recorded then length a.steps else 0

-- The step inserts a task whose number is k or shares a page with k. The next two tests are the same for opening a
-- named action and for sending a message.
abbrev pub is_task_beside : ℕ → Step → Bool
is_task_beside k (Insert i t inputs) = is_beside k t.0
is_task_beside k _ = false

abbrev pub is_action_beside : ℕ → Step → Bool
is_action_beside k (ActionOpen i a) = is_beside k a.0
is_action_beside k _ = false

abbrev pub is_message_beside : ℕ → Step → Bool
is_message_beside k (Send i j m g) = is_beside k m.0
is_message_beside k _ = false

-- The step needs a new place in a table: it inserts a task, opens a named action or sends a message, and none of the
-- past steps made a place for the number.
abbrev pub keeps_more : List Step → Step → Bool
keeps_more past (Insert i t k) = not (any (is_task_beside t.0) past)
keeps_more past (ActionOpen i a) = not (any (is_action_beside a.0) past)
keeps_more past (Send i j m g) = not (any (is_message_beside m.0) past)
keeps_more past _ = false

-- The step may have to allocate.
abbrev pub asks_memory : Accepted → Step → Bool
asks_memory a s = keeps_more (present a.steps) s || begins_piece a.recorded (length a.steps)

-- A call is refused with the first refusal that applies. If none does, it is refused with `NoMemory`, and only if it
-- may have to allocate.
abbrev pub IsRefusedFor : Option Refusal → Bool → Refusal → Type 0
IsRefusedFor (Some first) asks r = r ≡ first
IsRefusedFor None asks r = (r ≡ NoMemory) × IsTrue asks

abbrev pub with_step : Accepted → Step → Accepted
with_step a s = record a { steps = s ∷ a.steps }

-- the reply to a judgement
abbrev pub judged : Option ℕ → Reply
judged (Some w) = Over w
judged None = Not

-- The reply to an accepted step: the sums of the wave if the root gives, the judgement of the four counters, the number
-- of the generation that a reopening begins, or nothing more.
abbrev pub reply_to : ℕ → List Step → Step → Reply
reply_to n past (Give i) = if i.0 == 0 then WaveSums (sums_of n (Give i ∷ present past)) else Plain
reply_to n past Judge = judged (judgement n (present past))
reply_to n past Reopen = Opened (record { 0 = generation past + 1 })
reply_to n past _ = Plain

-- the result of the step, and what is accepted after it, unless memory runs out
abbrev pub answered : Accepted → Step → Option Refusal → Result Reply Refusal
answered a s None = Ok (reply_to a.nodes a.steps s)
answered a s (Some r) = Err r

abbrev pub answer : Accepted → Step → Result Reply Refusal
answer a s = answered a s (refusal a s)

abbrev pub next : Accepted → Step → Accepted
next a s = if is_some (refusal a s) then a else with_step a s

-- The result of a step for a core that had accepted the old steps, and what it has accepted afterwards.
abbrev pub AcceptsOrRefuses : Accepted → Step → Result Reply Refusal → Accepted → Type 0
AcceptsOrRefuses old s (Ok reply) new = (refusal old s ≡ None) × (reply ≡ reply_to old.nodes old.steps s) × (new ≡ with_step old s)
AcceptsOrRefuses old s (Err r) new = IsRefusedFor (refusal old s) (asks_memory old s) r × (new ≡ old)

-- the results of several steps, in order, and what is accepted after them, unless memory runs out
abbrev pub answers : Accepted → List Step → List (Result Reply Refusal)
answers a [] = []
answers a (s ∷ later) = answer a s ∷ answers (next a s) later

abbrev pub after_all : Accepted → List Step → Accepted
after_all a [] = a
after_all a (s ∷ later) = after_all (next a s) later

-- There is room for the step. The limit of a list counts the steps of all generations.
abbrev pub IsInRoom : Accepted → Step → Type 0
IsInRoom a s = HasRoom a.recorded (length a.steps) (is_at_limit a.nodes a.steps s)

-- The step may come next, and there is room for it.
abbrev pub IsAcceptable : Accepted → Step → Type 0
IsAcceptable a s = MayCome a.nodes a.steps s × IsInRoom a s

-- There was room for each step.
abbrev pub AreInRoom : Bool → ℕ → List Step → Type 0
AreInRoom recorded n [] = Unit {0}
AreInRoom recorded n (s ∷ past) = HasRoom recorded (length past) (is_at_limit n past s) × AreInRoom recorded n past

-- The results of several steps, in order, and what is accepted after them. Each may be refused for lack of memory.
abbrev pub AcceptOrRefuseAll : Accepted → List Step → List (Result Reply Refusal) → Accepted → Type 0
AcceptOrRefuseAll old [] [] new = new ≡ old
AcceptOrRefuseAll old (s ∷ later) (r ∷ rs) new = (mid : Accepted) × AcceptsOrRefuses old s r mid × AcceptOrRefuseAll mid later rs new
AcceptOrRefuseAll old [] (r ∷ rs) new = ⊥
AcceptOrRefuseAll old (s ∷ later) [] new = ⊥

abbrev pub is_no_memory : Result Reply Refusal → Bool
is_no_memory (Err NoMemory) = true
is_no_memory _ = false

-- If no result is `NoMemory`, the results and the accepted steps are functions of the steps.
abbrev pub RunsAreDetermined : Type 0
RunsAreDetermined = (old new : Accepted) (steps : List Step) (rs : List (Result Reply Refusal)) → AcceptOrRefuseAll old steps rs new
    → IsFalse (list_any is_no_memory rs) → (rs ≡ answers old steps) × (new ≡ after_all old steps)

-- the counters of node i, if the steps are those of one generation
abbrev pub numbers_in : ℕ → Accepted → NodeNumbers
numbers_in i a = record {
  pending = pending i (world a.nodes a.steps);
  sent = count (is_send_of i) a.steps;
  received = count (is_recv_at i) a.steps;
}

-- what was accepted in the present generation
abbrev pub now_of : Accepted → Accepted
now_of a = record { nodes = a.nodes; steps = present a.steps; recorded = true }

-- the counters of node i in the present generation
abbrev pub numbers_at : ℕ → Accepted → NodeNumbers
numbers_at i a = numbers_in i (now_of a)

-- the counters for a number that names no node
abbrev pub no_numbers : NodeNumbers
no_numbers = record { pending = 0; sent = 0; received = 0 }
