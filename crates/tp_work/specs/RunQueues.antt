-- What a node's lock protects: the node, and the begun work that waits for a worker.
use Rattle.std.specs.{Coded.{Coded, code_by, coded×, coded_ℕ, coded_ℤ, coded_list}, List.All, Prelude.{ℕ, ℤ, ◌≡◌, ◌≤◌, List, [], ◌∷◌}}
use Rattle.{std.specs.Prelude.{length, refl}, tp_board.specs.States.BoardState, tp_graph.specs.Carried.Begun, tp_node.specs.Calls.Begins}
use Rattle.tp_node.specs.{Calls.Rests, Nodes.{NodeState, node_code}}

-- a node, and the work that waits there, next one first
pub record RunQueueState (G : Type 0) : Type 0 where
  pub node : NodeState G
  pub begun : List (Begun G)

-- At most seven wait, each of the node's graph.
pub record IsRunQueue {G : Type 0} (d : RunQueueState G) : Type 0 where
  pub few : length d.begun ≤ 7
  pub graph : All (λ w. w.graph ≡ d.node.graph) d.begun

-- The node begins these one after another, each of them the next at that time, and no more.
abbrev pub BeginsEach : {G : Type 0} → List (Begun G) → NodeState G → NodeState G → BoardState → BoardState → Type 0
BeginsEach [] old new before later = Rests old new before later
BeginsEach {G} (work ∷ rest) old new before later =
    (mid : NodeState G) × (between : BoardState) × Begins old mid before between work × BeginsEach rest mid new between later

-- how proofs distinguish run queues
abbrev pub begun_code : {G : Type 0} → Coded G → Coded (Begun G)
begun_code {G} code =
    code_by
    (G × (ℕ × List (List ℤ)))
    (coded× code (coded× coded_ℕ (coded_list (coded_list coded_ℤ))))
    (λ w. (w.graph, (w.task.0, w.inputs)))
    (λ p. record { graph = p.0; task = record { 0 = p.1.0 }; inputs = p.1.1 })
    (λ _. refl)

abbrev pub run_queue_code : {G : Type 0} → Coded G → Coded (RunQueueState G)
run_queue_code {G} code =
    code_by
    (NodeState G × List (Begun G))
    (coded× (node_code code) (coded_list (begun_code code)))
    (λ d. (d.node, d.begun))
    (λ p. record { node = p.0; begun = p.1 })
    (λ _. refl)
