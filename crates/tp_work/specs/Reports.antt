-- The report of a pool.
use Rattle.std.specs.{List.{All, count_by, flat_map}, Prelude.{ℕ, ◌+◌, ◌≡◌, ◌≤◌, List, Some, None, Result, IsTrue, MatchResult, length}}
use Rattle.{std.specs.Prelude.{sum_by, vec_len}, tp_base.specs.{Totals.total, declared.limits.TheConstants.MAX_STEPS}}
use Rattle.{tp_base.specs.declared.refusal.Refusal.Refusal, tp_board.specs.{Numbers.{is_done, is_recv, is_send}, States.BoardState}}
use Rattle.{tp_graph.specs.{Graphs.TaskGraph, Left.AreResults}, tp_node.specs.{Locals.pending_here, Nodes.NodeState}}
use Rattle.{tp_node.specs.PoolLinks.PoolLinkState, tp_wave.specs.{Cut.IsQuietHistory, Generations.{AreRuns, present, present_events}}}
use Rattle.tp_wave.specs.{Machine.{pending_at, steps_of, under_way}, Steps.count, Sums.is_ended}
use Rattle.tp_work.specs.declared.gathered.Report.{Report}

-- to how many of these nodes termination was announced
abbrev pub nodes_announced : {G : Type 0} → List (NodeState G) → ℕ
nodes_announced nodes = count_by (λ n. n.state.ended) nodes

-- The report has the sums over the nodes and the links, each counted over its own state, the number of nodes to which
-- termination was announced, and the results of all nodes. Fault and events are the board's.
pub record IsGathered {G : Type 0} (nodes : List (NodeState G)) (links : List (PoolLinkState G)) (board : BoardState) (r : Report) : Type 0
  where
    pub pending : r.pending ≡ sum_by (λ n. pending_here n.state) nodes
    pub sent : r.sent ≡ sum_by (λ n. n.state.sent) nodes
    pub received : r.received ≡ sum_by (λ n. n.state.received) nodes
    pub under : r.under ≡ sum_by (λ w. length w.messages) links
    pub balance : r.sent ≡ r.received + r.under
    pub done : r.done ≡ vec_len r.results
    pub announced : r.announced ≡ nodes_announced nodes
    pub results : r.results.items ≡ flat_map (λ n. n.state.store.results) nodes
    pub fault : r.fault ≡ board.fault
    pub history : r.history.events ≡ board.history

-- The events are runs on n nodes, and the report has the numbers of the present generation. If that ended, nothing is
-- left.
pub record IsOfItsRun (n : ℕ) (r : Report) : Type 0 where
  pub run : AreRuns n r.history.events
  pub few : length r.history.events ≤ MAX_STEPS
  pub sent : r.sent ≡ count is_send (present (steps_of r.history.events))
  pub received : r.received ≡ count is_recv (present (steps_of r.history.events))
  pub under : r.under ≡ under_way (present (steps_of r.history.events))
  pub done : r.done ≡ count is_done (present (steps_of r.history.events))
  pub ended : r.ended ≡ is_ended n (present (steps_of r.history.events))
  pub quiet : IsTrue r.ended → IsQuietHistory n (present_events r.history.events)

-- what is pending at each node is the number of the present generation
abbrev pub AreOfTheRun : {G : Type 0} → List (NodeState G) → Report → Type 0
AreOfTheRun nodes r = All (λ n. pending_here n.state ≡ pending_at n.numbers.node (present_events r.history.events)) nodes

-- The report of a pool of n nodes, each at its place, that computes a graph: its numbers are those of the present
-- generation, messages sent minus messages received are in flight, termination was announced to at most all nodes, and
-- its results are what is left of values of the graph.
pub record IsReport (n : ℕ) (g : TaskGraph) (r : Report) : Type 0 where
  pub of_run : IsOfItsRun n r
  pub balance : r.sent ≡ r.received + r.under
  pub pending : r.pending ≡ total n (λ i. pending_at i (present_events r.history.events))
  pub done : r.done ≡ vec_len r.results
  pub announced : r.announced ≤ n
  pub right : AreResults g r.results.items

-- The report of a pool with these nodes and this board: it has the number of nodes to which termination was announced,
-- and the board's fault and events.
pub record IsReportOf (n : ℕ) (g : TaskGraph) {G : Type 0} (nodes : List (NodeState G)) (board : BoardState) (r : Report) : Type 0 where
  pub report : IsReport n g r
  pub announced : r.announced ≡ nodes_announced nodes
  pub fault : r.fault ≡ board.fault
  pub history : r.history.events ≡ board.history

-- The present generation of a pool of n nodes has ended without a fault: with these nodes and this board, termination
-- was detected and announced to each node.
pub record IsOver (n : ℕ) {G : Type 0} (nodes : List (NodeState G)) (board : BoardState) : Type 0 where
  pub no_fault : board.fault ≡ None
  pub detected : IsTrue (is_ended n (present (steps_of board.history)))
  pub announced : nodes_announced nodes ≡ n

-- How a pool ended: with its termination token if it is over, or with its fault.
abbrev pub IsEnd : ℕ → {G T : Type 0} → List (NodeState G) → BoardState → Result T Refusal → Type 0
IsEnd n nodes board end = MatchResult end (λ _. IsOver n nodes board) (λ e. board.fault ≡ Some e)
