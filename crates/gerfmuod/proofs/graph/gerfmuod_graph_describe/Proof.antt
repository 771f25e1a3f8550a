-- The proof of `gerfmuod_graph_describe`: it passes its arguments on with a borrow of the graph.
use Rattle.gerfmuod.proofs.Borrowing.{refl, ◌$◌, !, done, enter, alloc_all, pass_all, free_all, exported, takes, reads, hands_on, frames}
use Rattle.gerfmuod.proofs.Borrowing.{none, slice, u8, u32, IsDescribeCall, graph_row, graph_result_laws}
use Rattle.gerfmuod.proofs.graph.{calls.describe.Met.met, gerfmuod_graph_describe.Statement.statement}
use Rattle.gerfmuod.proofs.graph.gerfmuod_graph_describe.Code as code

pub gerfmuod_graph_describe_spec : {M : Type 1} → statement M
gerfmuod_graph_describe_spec 𝓤 𝓛 𝓜 𝓡 wired =
    let p = slice 𝓛 3 (slice 𝓛 3 (slice 𝓛 3 (none 𝓛 3) 2 tt u32) 1 tt u32) 0 tt u8 in
    exported 𝓛 𝓜 𝓡 graph_row graph_result_laws p
    (λ κs a n u out new. IsDescribeCall n (record { classes = a.0.now; offsets = a.1.0.now; inputs = a.1.1.0.now }) u new)
    _ code.function (code.unfolded 𝓤 𝓛.H 𝓜 𝓡 wired) _ (met 𝓤 𝓛 𝓜 𝓡 (code.calls-gerfmuod::graph::calls::describe 𝓡.env wired))
    (λ κs a b o ts Q. enter ! _ _ _ _ _ $ alloc_all ! (λ l. pass_all ! refl ((tt, tt), ts) $
    takes 𝓛 _ ! refl ((tt, tt), (tt, tt)) $ hands_on 𝓛 _ ! (frames 𝓛 𝓜 𝓡) (reads 𝓛 _ ! refl) (λ v. refl) (λ v. free_all ! refl $ done !)))
