-- How many events a grid takes, and its events and messages counted on its graph.
use Rattle.pool_kernels.specs.{Events.{GridEventsLaw, GridStepsLaw, NoMessageLaw, events_below, grid_events}, Grids.{Relation, grid_graph}}
use Rattle.pool_kernels.specs.Grids.{inputs}
use Rattle.std.proofs.Common.{◌≡◌, ◌<◌, ◌≤◌, ◌+◌, ◌*◌, ◌/◌, ◌%◌, ◌^◌, ◌∙◌, ℕ, zero, suc, ℤ, List, Option, refl, sym, ap, arith, add-one}
use Rattle.std.proofs.lemmas.{Bool.{eq-eqb, Decides.nat_tests}, Nat.{div_below, mul-le}}
use Rattle.tp_base.{proofs.Totals.{total-equal, total-zero}, specs.Totals.total}
use Rattle.tp_graph.{proofs.Counted.events_counted, specs.Events.{crossing, messages_from, task_events}}

-- a task takes three at least
three_each : (count : ℕ) → 3 ≤ task_events count
three_each count = grind (arith, nat_tests)

events_many : (r : Relation) (w n : ℕ) → 3 * n ≤ events_below r w n
events_many r w zero = omega arith
events_many r w (suc n) = omega (arith, events_many r w n, three_each (inputs r w (n / w) (n % w)))

-- this many tasks take too many
pub too_many : (r : Relation) (w steps : ℕ) → 349525 < steps * w → 1048576 < grid_events r w steps
too_many r w steps h = omega (arith, h, events_many r w (steps * w))

-- of fewer tasks, neither the columns nor the rows are many
pub few_sides : (w steps : ℕ) → 1 ≤ w → 1 ≤ steps → steps * w ≤ 349525 → (w < 2 ^ 20) × (steps < 2 ^ 20)
few_sides w steps some any few =
    (omega (arith, mul-le 1 w steps w any (omega arith)), omega (arith, mul-le steps 1 steps w (omega arith) some))

pub events_more : (r : Relation) (w n before now count : ℕ) → before ≡ events_below r w n → count ≡ inputs r w (n / w) (n % w)
    → now ≡ before + task_events count → now ≡ events_below r w (n + 1)
events_more r w n before now count e is sum = rw (add-one, sum, e, is) refl

-- ---- on the graph
all_below : (r : Relation) (w n : ℕ) → total n (λ t. task_events (inputs r w (t / w) (t % w))) ≡ events_below r w n
all_below r w zero = refl
all_below r w (suc n) = ap (λ k. k + task_events (inputs r w (n / w) (n % w))) (all_below r w n)

all_tasks : (r : Relation) (w steps : ℕ) (rule : ℕ → List (List ℤ) → Option (List ℤ))
    → total (grid_graph r w steps rule).tasks (λ t. task_events ((grid_graph r w steps rule).arity t)) ≡ grid_events r w steps
unfolding grid_graph
all_tasks r w steps rule = all_below r w (steps * w)

pub events_law : GridEventsLaw
events_law r w steps rule nodes = omega (arith, all_tasks r w steps rule)

pub steps_law : GridStepsLaw
steps_law r w steps rule nodes made works =
    events_counted nodes (grid_graph r w steps rule) made works ∙ events_law r w steps rule nodes

-- ---- at one node
one_home : (w t : ℕ) → 1 ≤ w → t % w * 1 / w ≡ 0
one_home w t some = omega (arith, div_below (t % w * 1) w 1 some (omega arith))

stays : (r : Relation) (w steps : ℕ) (rule : ℕ → List (List ℤ) → Option (List ℤ)) (p k : ℕ) → 1 ≤ w
    → crossing 1 (grid_graph r w steps rule) p k ≡ 0
unfolding grid_graph
stays r w steps rule p k some =
    let to : ℕ = (grid_graph r w steps rule).target p k in
    rw (eq-eqb (p % w * 1 / w) (to % w * 1 / w) (one_home w p some ∙ sym (one_home w to some))) refl

none_from : (r : Relation) (w steps : ℕ) (rule : ℕ → List (List ℤ) → Option (List ℤ)) (p : ℕ) → 1 ≤ w
    → messages_from 1 (grid_graph r w steps rule) p ≡ 0
none_from r w steps rule p some =
    total-equal ((grid_graph r w steps rule).feeds p) (crossing 1 (grid_graph r w steps rule) p) (λ k. 0)
    (λ k l. stays r w steps rule p k some)
    ∙ total-zero ((grid_graph r w steps rule).feeds p)

pub no_message : NoMessageLaw
unfolding grid_graph
no_message r zero steps rule = let none : steps * 0 ≡ 0 = omega arith in rw none refl
no_message r (suc n) steps rule =
    total-equal (steps * suc n) (messages_from 1 (grid_graph r (suc n) steps rule)) (λ p. 0)
    (λ p l. none_from r (suc n) steps rule p (omega arith))
    ∙ total-zero (steps * suc n)
