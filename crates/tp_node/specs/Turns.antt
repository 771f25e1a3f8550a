-- The control step that a node makes next.
use Rattle.std.specs.{List.find, Prelude.{Option, None, is_some, if◌then◌else◌}}
use Rattle.tp_base.specs.declared.step.Step.{Step}
use Rattle.{tp_board.specs.{States.BoardState, Turns.{may_make, turn_steps}}, tp_node.specs.Nodes.NodeState}

-- the first of its control steps that a node may make; after a fault it makes none
abbrev pub turn_of : {G : Type 0} → NodeState G → BoardState → Option Step
turn_of node b = if is_some b.fault then None else find (may_make node.nodes node.numbers.node b.history) (turn_steps node.numbers.node)
