-- The proof of `gerfmuod_graph_task`: it passes its arguments on with a borrow of the graph.
use Rattle.gerfmuod.proofs.Borrowing.{refl, ◌$◌, !, done, enter, alloc_all, pass_all, free_all, exported, takes, reads, hands_on, frames}
use Rattle.gerfmuod.proofs.Borrowing.{listed, IsTaskCall, graph_row, graph_result_laws}
use Rattle.gerfmuod.proofs.graph.{data.task.Met.met, gerfmuod_graph_task.Statement.statement}
use Rattle.gerfmuod.specs.contracts.graph.access.RawAccess.{the_row as access_row}
use Rattle.gerfmuod.proofs.graph.gerfmuod_graph_task.Code as code

pub gerfmuod_graph_task_spec : {M : Type 1} → statement M
gerfmuod_graph_task_spec 𝓤 𝓛 𝓜 𝓡 wired =
    exported 𝓛 𝓜 𝓡 graph_row graph_result_laws (listed 𝓛 access_row) (λ κs a n u out new. IsTaskCall n a.0 a.1.0.now a.1.1.0 u new)
    _ code.function (code.unfolded 𝓤 𝓛.H 𝓜 𝓡 wired) _ (met 𝓤 𝓛 𝓜 𝓡 (code.calls-gerfmuod::graph::data::task 𝓡.env wired))
    (λ κs a b o ts Q. enter ! _ _ _ _ _ $ alloc_all ! (λ l. pass_all ! refl ((tt, tt), ts) $
    takes 𝓛 _ ! refl ((tt, tt), (tt, tt)) $ hands_on 𝓛 _ ! (frames 𝓛 𝓜 𝓡) (reads 𝓛 _ ! refl) (λ v. refl) (λ v. free_all ! refl $ done !)))
