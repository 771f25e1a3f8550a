use Rattle.std.specs.{List.range_with_len, Prelude.{◌≡◌, map, take}}
use Rattle.tp_work.specs.Places.{link_place}
use Rattle.tp_work.proofs.locks.check_links.Given as goal

abbrev pub invariant-loop-place : goal.invariant-loop-place
invariant-loop-place g l = map (λ w. link_place l.nodes w.from w.to) (take l.place l.links) ≡ range_with_len 0 l.place
