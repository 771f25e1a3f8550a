-- A whole graph in one call: what `describe` adds, and its first fault. Task t reads the inputs at places offsets[t] to offsets[t+1] - 1.
use Rattle.std.specs.{List.slice_index_or, Prelude.{ℕ, zero, suc, ◌+◌, ◌≡◌, ◌<◌, ◌||◌, List, [], ◌∷◌, length, not, nat_lt, Option, Some}}
use Rattle.std.specs.Prelude.{None, slice_range, ◌&&◌, ◌==◌, ◌-◌}
use Rattle.tp_base.specs.{Checks.{Check, first_refusal}, declared.refusal.Refusal.Refusal}
use Rattle.tp_dag.specs.{Calls.{task_checks, input_checks, with_task, with_input}, State.PoolState}
use Rattle.tp_base.specs.declared.refusal.Refusal.TheVariants as refusal

-- A graph: the class of each task, or none if all are 0; and where the inputs of each task are.
pub record Graph : Type 0 where
  pub classes : List ℕ
  pub offsets : List ℕ
  pub inputs : List ℕ

abbrev pub class_of : Graph → ℕ → ℕ
class_of g t = slice_index_or g.classes t 0

abbrev pub from_of : Graph → ℕ → ℕ
from_of g t = slice_index_or g.offsets t 0

abbrev pub inputs_of : Graph → ℕ → List ℕ
inputs_of g t = slice_range g.inputs (from_of g t) (from_of g (t + 1))

-- `input` for each of these sources
abbrev pub with_inputs : List ℕ → PoolState → PoolState
with_inputs [] a = a
with_inputs (s ∷ ss) a = with_inputs ss (with_input s a)

-- `task` and its inputs
abbrev pub with_next : Graph → ℕ → PoolState → PoolState
with_next g t a = with_inputs (inputs_of g t) (with_task (class_of g t) a)

-- the first n tasks
abbrev pub described : Graph → ℕ → PoolState → PoolState
described g zero a = a
described g (suc n) a = with_next g n (described g n a)

-- the first refusal of `input` for these sources
abbrev pub either_refusal : Option Refusal → Option Refusal → Option Refusal
either_refusal (Some r) o = Some r
either_refusal None o = o

abbrev pub inputs_refusal : List ℕ → PoolState → Option Refusal
inputs_refusal [] a = None
inputs_refusal (s ∷ ss) a = either_refusal (first_refusal (input_checks a s)) (inputs_refusal ss (with_input s a))

-- the range of a task's inputs is none
abbrev pub range_checks : ℕ → ℕ → List ℕ → List Check
range_checks from to inputs = (nat_lt to from || nat_lt (length inputs) to, refusal.BadSpec) ∷ []

-- why a task with the inputs at these places cannot be added: `task` is refused, its range is none, or `input` is refused
abbrev pub next_fault : ℕ → ℕ → ℕ → List ℕ → PoolState → Option Refusal
next_fault class from to inputs a =
    either_refusal (first_refusal (task_checks a class))
    (either_refusal (first_refusal (range_checks from to inputs)) (inputs_refusal (slice_range inputs from to) (with_task class a)))

-- why task t cannot be added after those before it
abbrev pub fault_of : Graph → ℕ → PoolState → Option Refusal
fault_of g t a = next_fault (class_of g t) (from_of g t) (from_of g (t + 1)) g.inputs (described g t a)

-- the checks of the whole call
abbrev pub describe_checks : Graph → PoolState → List Check
describe_checks g a =
    (a.started || not (length a.tasks == 0), refusal.WrongLife)
    ∷ (length g.offsets == 0, refusal.BadSpec)
    ∷ (not (length g.classes == 0) && not (length g.classes == length g.offsets - 1), refusal.BadSpec) ∷ []

-- Task t has this fault, and none before it has any.
pub record IsFirstFault (g : Graph) (a : PoolState) (r : Refusal) (t : ℕ) : Type 0 where
  pub within : t + 1 < length g.offsets
  pub fault : fault_of g t a ≡ Some r
  pub none_before : (u : ℕ) → u < t → fault_of g u a ≡ None
