-- `new` creates the owner of no cells. Before: nothing. Owning no cells takes nothing, so the owner is created. Assumes `Logic`.
use Rattle.tp_slots.proofs.CellCalls.{takes_all, enters, told, owner_made, ◌≡◌, refl, [], ◌∷◌, Fn, inst_fn, tables, ◌$◌, !, by, keep, agg}
use Rattle.tp_slots.proofs.CellCalls.{and_then, no_more, returns, alloc_all, pass_all, free_all, look_at, get, sets, nothing, El, args, Cr}
use Rattle.tp_slots.{proofs.{CellCalls.mark, cells.Cells.new.Statement.statement}, specs.contracts.cells.Cells.new.{ended, clauses}}
use Rattle.tp_slots.specs.contracts.cells.Cells.new.Key.{name as #self}
use Rattle.tp_slots.proofs.cells.Cells.new.Code as code

pub new_spec : {M : Type 1} → statement M
new_spec 𝓤 𝓛 𝓜 𝓡 wired X LX =
    let E : El = record { row = X; laws = LX } in
    let fn : Fn = inst_fn (args E) code.function in
    let 𝓣 = tables 𝓤 𝓛.H 𝓜 𝓡 𝓡.env in
    let none : (Cr E).Denot = record { mark = record {}; cells = [] } in
    takes_all 𝓛 (ended X) (clauses X 𝓛 𝓜.mem 𝓡.returns) 𝓜 𝓡 tt
    (#self (args E)) fn (code.unfolded 𝓤 𝓛.H 𝓜 𝓡 wired (X, tt)) (λ κs qs bounds a vss g are Post ends.
    -- [the tokens; what no arguments own; the `requires`]
    keep ! (0 ∷ []) $ enters ! 𝓣.C 𝓣.Λ fn [] Post refl $ alloc_all ! (λ l. pass_all ! refl tt $
    sets ! (agg ! (no_more !)) refl (tt, tt) $ sets ! (agg ! (and_then ! (get ! refl) (no_more !))) refl (tt, (tt, tt)) $
    nothing ! $ owner_made E ! [] $ returns ! (look_at ! 0 refl) $ free_all ! refl $
    told ! (none.cells ≡ []) refl $ keep ! (2 ∷ 1 ∷ 0 ∷ []) $ by ! (ends mark none tt)))
