use Rattle.tp_node.proofs.node.Node.room_to_deliver.Goals as goal

pub returns-clause-reserved : goal.returns-clause-reserved
returns-clause-reserved g c = c.make_room.ensures.reserved
