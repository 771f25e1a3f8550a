-- `join` takes over the cells of another owner. Before: the borrow of the cells, and the other ones. No memory is touched:
-- both lists are owned, so their concatenation is, and the borrow is closed at it. Assumes `Logic`.
use Rattle.tp_slots.proofs.CellCalls.{gives_back, owner_is, enters, told, cells_opened, cells_closed, ◌≡◌, refl, List, [], ◌∷◌, ◌++◌, Fn}
use Rattle.tp_slots.proofs.CellCalls.{inst_fn, Val, vptr, vunit, tables, ‵, ◌$◌, !, by, move, keep, use2, fsplit, feq_i, unit_lit, of_opd}
use Rattle.tp_slots.proofs.CellCalls.{returns, alloc_all, pass_all, free_all, look_at, sets, unit, plain, El, R, args, cells_own}
use Rattle.tp_slots.proofs.{CellCalls.{with_cells, Cr, mark, cells_glue}, cells.Cells.join.Statement.statement}
use Rattle.tp_slots.specs.contracts.cells.Cells.join.{ended, clauses, Key.name as #self}
use Rattle.tp_slots.proofs.cells.Cells.join.Code as code

pub join_spec : {M : Type 1} → statement M
join_spec 𝓤 𝓛 𝓜 𝓡 wired X LX =
    let E : El = record { row = X; laws = LX } in
    let fn : Fn = inst_fn (args E) code.function in
    let 𝓣 = tables 𝓤 𝓛.H 𝓜 𝓡 𝓡.env in
    let T = ended X in
    gives_back E T.signature.outlives (plain (λ _. Cr E) ∷ []) T.kept.1 (plain (λ _. unit))
    𝓛 (clauses X 𝓛 𝓜.mem 𝓡.returns) 𝓜 𝓡 (λ κs x f. tt, tt)
    (#self (args E)) fn (code.unfolded 𝓤 𝓛.H 𝓜 𝓡 wired (X, tt)) (λ κs qs a vss g passed are Post ends.
    let r = a.0 in let d = r.now in let other = a.1.0 in let cells = d.cells ++ other.cells in
    -- [the borrow, in three entries; the type's token; what the other owner owns; the `requires`]
    move ! (4 ∷ []) $ fsplit ! $ fsplit ! $ keep ! (3 ∷ 4 ∷ 5 ∷ 1 ∷ 6 ∷ []) $
    enters ! 𝓣.C 𝓣.Λ fn (vptr r.ref_ptr.0 r.ref_ptr.1 ∷ mark ∷ []) Post (λ j. passed j ++ (owner_is E vss.1.0 are.0.0 j ++ [])) $
    alloc_all ! (λ l. pass_all ! refl ((tt, tt), ((tt, (tt, tt)), tt)) $ sets ! (of_opd ! (unit_lit !)) refl (tt, tt) $
    cells_opened E r ! tt d (λ vs.
    -- [the cells; the open borrow, in five entries; the other cells; the type's token]
    move ! (0 ∷ 6 ∷ []) $ use2 𝓛 (‵ (cells_own (R E) cells)) (cells_glue E 𝓛 d.cells other.cells) $ cells_closed E r ! tt d cells vs $
    returns ! (look_at ! 0 refl) $ free_all ! refl $ told ! (cells ≡ cells) refl $ feq_i ! (List Val) (vunit ∷ []) (vunit ∷ []) refl $
    keep ! (2 ∷ 3 ∷ 4 ∷ 5 ∷ 0 ∷ 1 ∷ []) $ by ! (ends vunit tt (with_cells d cells) (tt, tt)))))
