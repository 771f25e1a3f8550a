-- Which blocks of the last step have a result.
use Rattle.pool_blocks.specs.Stencils.{BlockStep, IsCellsRefusal, LacksBlock, block_graph}
use Rattle.std.proofs.Common.{◌≡◌, ◌<◌, ◌+◌, ◌*◌, ℕ, ℤ, List, [], ⊎_elim, arith}
use Rattle.tp_base.specs.declared.{Refusal.{Refusal, TheVariants.NoMemory}, TaskId.TaskId}
use Rattle.tp_graph.specs.Serial.{AreValues, Results}

-- the values of all tasks lack none
pub all_there : (next : BlockStep) (cells : List ℤ) (blocks size steps : ℕ) (results : Results)
    → AreValues (block_graph next cells blocks size steps) (block_graph next cells blocks size steps).tasks results
    → LacksBlock blocks steps results → ⊥
unfolding block_graph
all_there next cells blocks size steps results values lack =
    let t : ℕ = steps * blocks + lack.place in
    let known : t < (steps + 1) * blocks = omega (arith, lack.within) in
    let d : TaskId × List ℤ = (record { 0 = 0 }, []) in
    lack.none t d (omega (arith, values.long, known)) (values.rise t d known)

-- if no block lacks a result, only an allocation can fail
pub only_memory : (blocks steps : ℕ) (results : Results) (refusal : Refusal) → (LacksBlock blocks steps results → ⊥)
    → IsCellsRefusal blocks steps results refusal → refusal ≡ NoMemory
only_memory blocks steps results refusal whole why = ⊎_elim (λ e. e) (λ t. absurd (whole t.1)) why
