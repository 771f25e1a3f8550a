-- Why a run over borrowed cells has no result.
use Rattle.pool_blocks.{proofs.Blocks.after-length, specs.{Faults.{IsLentFault, IsOfPart, IsPartFault}, RunEvents.{TakeSteps, step_events}}}
use Rattle.pool_blocks.specs.{Runs.{HasRun, HasRunInParts}, Stencils.{AreNoSteps, AreSteps, BlockStep, IsCellsRefusal, KeepsLength}}
use Rattle.pool_blocks.specs.{Stencils.{LacksBlock, Step, after, block_graph, blocks_of}, declared.fault.LentFault.LentFault}
use Rattle.pool_blocks.specs.declared.fault.LentFault.TheVariants.{BadInput, Run, Unmade}
use Rattle.std.proofs.Common.{◌≡◌, ◌≢◌, ◌<◌, ◌≤◌, ◌+◌, ◌-◌, ◌*◌, ℕ, suc, ℤ, Bool, true, Result, Ok, Err, List, [], ◌∷◌, length, cond, refl}
use Rattle.std.proofs.{Common.{sym, ap, subst, ◌∙◌, ⊎_elim, inl, inr, arith}, lemmas.Bool.{false≢true, ne_eqb, Decides.nat_tests}}
use Rattle.std.{proofs.lemmas.{List.Sums.sum_by-cons, Nat.mul-le}, specs.{List.All, Prelude.{◌==◌, MatchResult}}}
use Rattle.tp_base.specs.declared.Refusal.{Refusal, TheVariants.{Missing, NoMemory}}
use Rattle.tp_graph.specs.{Found.{HasEachOnce, times}, Graphs.TaskGraph, Serial.Results}
use Rattle.tp_work.specs.Outcomes.{IsFault, IsOutcome}

-- what follows from a result
pub match_weaker : {T E : Type 0} (r : Result T E) (P P2 : T → Type 0) (Q Q2 : E → Type 0) → ((x : T) → P x → P2 x)
    → ((e : E) → Q e → Q2 e) → MatchResult r P Q → MatchResult r P2 Q2
match_weaker (Ok x) P P2 Q Q2 f h m = f x m
match_weaker (Err e) P P2 Q Q2 f h m = h e m

-- if no result is of a task, the task has none
times-none : (t : ℕ) (results : Results) → All (λ r. r.0.0 ≢ t) results → times t results ≡ 0
times-none t [] h = refl
times-none t (x ∷ xs) h =
    let rest : 0 + times t xs ≡ 0 = omega (arith, times-none t xs (λ i d p. h (suc i) d (omega arith))) in
    sum_by-cons (λ r. cond (r.0.0 == t) 1 0) x xs ∙ ap (λ b. cond b 1 0 + times t xs) (ne_eqb x.0.0 t (h 0 x (omega arith))) ∙ rest

-- if each task has one result, none lacks one
pub has_one : (tasks t : ℕ) (results : Results) → HasEachOnce tasks results → t < tasks → All (λ r. r.0.0 ≢ t) results → ⊥
has_one tasks t results once h none =
    let one : times t results ≡ 1 = grind (arith, nat_tests, once t) in
    absurd (omega (arith, one, times-none t results none))

-- after a whole run only memory is refused
pub cells_refused : (next : BlockStep) (cells : List ℤ) (blocks size steps : ℕ) (results : Results) (refusal : Refusal)
    → HasEachOnce (block_graph next cells blocks size steps).tasks results →
    IsCellsRefusal blocks steps results refusal → refusal ≡ NoMemory
unfolding block_graph
cells_refused next cells blocks size steps results refusal once why =
    ⊎_elim
    (λ e. e)
    (λ (lacks : (refusal ≡ Missing) × LacksBlock blocks steps results).
    let lack = lacks.1 in
    absurd (has_one ((steps + 1) * blocks) (steps * blocks + lack.place) results once (omega (arith, lack.within)) lack.none))
    why

-- cells that take this many steps in one run take any part of them
pub are_steps : (takes : ℕ → ℕ → Bool) (cells size n most part : ℕ) → takes cells size ≡ true → TakeSteps cells size n most → part ≤ most
    → AreSteps takes cells size part
are_steps takes cells size n most part taken all few =
    let blocks : ℕ = blocks_of cells size in
    let some : 1 ≤ blocks = omega arith in
    let each : 3 * blocks ≤ step_events blocks n = omega (arith, some) in
    let events : part * (3 * blocks) ≤ most * step_events blocks n = mul-le part (3 * blocks) most (step_events blocks n) few each in
    record {
      some_cells = all.some_cells;
      some_size = all.some_size;
      taken = taken;
      few_tasks = omega (arith, events, all.few_events);
    }

-- cells that take steps are not refused
pub are_not_none : (takes : ℕ → ℕ → Bool) (count size steps : ℕ) → AreSteps takes count size steps → AreNoSteps takes count size steps → ⊥
are_not_none takes count size steps are (inl none) = omega (arith, are.some_cells, none)
are_not_none takes count size steps are (inr (inl empty)) = omega (arith, are.some_size, empty)
are_not_none takes count size steps are (inr (inr (inl cut))) = false≢true (sym cut ∙ are.taken)
are_not_none takes count size steps are (inr (inr (inr many))) = omega (arith, are.few_tasks, many)

-- the graph of a part, by the cells that the whole began with
part-graph : (step : Step) (next : BlockStep) (cells made : List ℤ) (size done part : ℕ) → KeepsLength step → made ≡ after step done cells →
    block_graph next made (blocks_of (length made) size) size part
    ≡ block_graph next (after step done cells) (blocks_of (length cells) size) size part
part-graph step next cells made size done part long is =
    let same : length made ≡ length cells = ap length is ∙ after-length step done cells long in
    ap (λ count. block_graph next made (blocks_of count size) size part) same
    ∙ ap (λ xs. block_graph next xs (blocks_of (length cells) size) size part) is

-- what holds for the pool of the next part holds for that of a part
next_part : (step : Step) (next : BlockStep) (cells made : List ℤ) (size steps left part : ℕ) (Holds : TaskGraph → Type 0)
    → KeepsLength step → made ≡ after step (steps - left) cells → left ≤ steps → part ≤ left → 1 ≤ part →
    Holds (block_graph next made (blocks_of (length made) size) size part) → IsOfPart step next cells size steps Holds
next_part step next cells made size steps left part Holds long is h k some holds =
    (steps - left, part, some, omega (arith, h, k), subst Holds (part-graph step next cells made size (steps - left) part long is) holds)

-- if the pool of the next part ended, that of the last of the steps taken did
pub part_run : (n workers : ℕ) (step : Step) (next : BlockStep) (cells made : List ℤ) (size steps left part : ℕ) → KeepsLength step
    → made ≡ after step (steps - left) cells → left ≤ steps → part ≤ left → 1 ≤ part →
    HasRun n workers (block_graph next made (blocks_of (length made) size) size part)
    → HasRunInParts n workers step next cells size (steps - (left - part))
part_run n workers step next cells made size steps left part long is h k some run = inr (
  steps - left,
  part,
  some,
  omega (arith, h, k),
  subst (HasRun n workers) (part-graph step next cells made size (steps - left) part long is) run,
)

-- the fault of a part of the steps is one of the whole
pub part_fault : (n workers : ℕ) (takes : ℕ → ℕ
    → Bool) (step : Step) (next : BlockStep) (cells made : List ℤ) (size steps left part : ℕ) (fault : LentFault) → KeepsLength step
    → made ≡ after step (steps - left) cells → left ≤ steps → part ≤ left → 1 ≤ part →
    IsLentFault n workers ⊥ (block_graph next made (blocks_of (length made) size) size part) fault
    → IsPartFault n workers takes step next cells size steps fault
part_fault n workers takes step next cells made size steps left part BadInput long is h k some why = absurd why
part_fault n workers takes step next cells made size steps left part (Run fault) long is h k some why =
    next_part step next cells made size steps left part (λ g. IsFault n g fault) long is h k some why
part_fault n workers takes step next cells made size steps left part (Unmade outcome) long is h k some why =
    next_part step next cells made size steps left part (λ g. IsOutcome n workers g outcome) long is h k some why
