-- The value of each task, as the graph defines it.
use Rattle.std.specs.Prelude.{◌≡◌, ◌<◌, ◌^◌, ◌&&◌, ◌⊎◌, ℕ, suc, zero, ℤ, pos, negsuc, Bool, true, List, [], ◌∷◌, Option, Some, None}
use Rattle.std.specs.Prelude.{if◌then◌else◌, ◌==◌, nat_lt, length, slice_index_or}
use Rattle.tp_base.specs.declared.Refusal.{Refusal, TheVariants.{BodyFailed, NoMemory}}
use Rattle.tp_graph.specs.Graphs.{TaskGraph}

-- a number of 64 bits
abbrev pub fits : ℤ → Bool
fits (pos n) = nat_lt n (2 ^ 63)
fits (negsuc n) = nat_lt n (2 ^ 63)

abbrev pub all_fit : List ℤ → Bool
all_fit [] = true
all_fit (z ∷ rest) = fits z && all_fit rest

abbrev pub then_some : {A B : Type 0} → Option A → (A → Option B) → Option B
then_some None f = None
then_some (Some x) f = f x

-- none if a number does not fit 64 bits
abbrev pub fitting : List ℤ → Option (List ℤ)
fitting numbers = if all_fit numbers then Some numbers else None

-- the result of task t on these inputs
abbrev pub outcome : TaskGraph → ℕ → List (List ℤ) → Option (List ℤ)
outcome g t inputs = then_some (g.rule t inputs) fitting

-- f 0, f 1 and so on, up to this count; none if one of them is none
abbrev pub gather : {A : Type 0} → ℕ → (ℕ → Option A) → Option (List A)
gather zero f = Some []
gather (suc count) f = then_some (f 0) (λ first. then_some (gather count (λ s. f (suc s))) (λ rest. Some (first ∷ rest)))

-- the result of task t on the values of its producers, in slot order
abbrev pub made_from : TaskGraph → (ℕ → Option (List ℤ)) → ℕ → Option (List ℤ)
made_from g values t = then_some (gather (g.arity t) (λ s. values (g.source t s))) (outcome g t)

-- the values of the tasks below a number; none for any other task
abbrev pub values_below : TaskGraph → ℕ → ℕ → Option (List ℤ)
values_below g zero p = None
values_below g (suc t) p = if p == t then made_from g (values_below g t) t else values_below g t p

-- The value of a task: its rule, applied to the values of its producers in slot order, which are lower. None if the rule fails, a
-- number does not fit 64 bits, or a producer has none.
unfoldable pub value_of : TaskGraph → ℕ → Option (List ℤ)
value_of g t = made_from g (values_below g t) t

-- slot s of task t waits for this value: that of the task that fills the slot
pub record IsInput (g : TaskGraph) (t s : ℕ) (input : List ℤ) : Type 0 where
  pub known : t < g.tasks
  pub within : s < g.arity t
  pub right : value_of g (g.source t s) ≡ Some input

-- the inputs of task t, in slot order
pub record AreInputs (g : TaskGraph) (t : ℕ) (inputs : List (List ℤ)) : Type 0 where
  pub long : length inputs ≡ g.arity t
  pub right : (s : ℕ) → s < g.arity t → value_of g (g.source t s) ≡ Some (slice_index_or inputs s [])

-- the number of a list of one number
abbrev pub lone_of : List ℤ → Option ℤ
lone_of (x ∷ []) = Some x
lone_of _ = None

-- why a body returns no value: it has none, or an allocation failed
abbrev pub IsRefusal : Option (List ℤ) → Refusal → Type 0
IsRefusal made refusal = (refusal ≡ NoMemory) ⊎ ((refusal ≡ BodyFailed) × (made ≡ None))
