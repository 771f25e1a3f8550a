-- `split_off` gives up the later cells. Before: the borrow of the cells. No memory is touched: the list is owned, so both its
-- parts are; the borrow is closed at the first, and a new owner is created from the second. Assumes `Logic`.
use Rattle.tp_slots.proofs.CellCalls.{gives_back, enters, told_both, owner_made, cells_opened, cells_closed, ◌≡◌, refl, [], ◌∷◌, ◌++◌, take}
use Rattle.tp_slots.proofs.CellCalls.{drop, Fn, w64, inst_fn, vptr, vint, tables, ‵, ◌⊛◌, ◌$◌, !, by, move, keep, use1, split, agg}
use Rattle.tp_slots.proofs.CellCalls.{and_then, no_more, returns, alloc_all, pass_all, free_all, look_at, get, sets, usize, plain, El, R}
use Rattle.tp_slots.proofs.{CellCalls.{args, cells_own, with_cells, Cr, mark, cells_cut}, cells.Cells.split_off.Statement.statement}
use Rattle.tp_slots.specs.contracts.cells.Cells.split_off.{ended, clauses, Key.name as #self}
use Rattle.tp_slots.proofs.cells.Cells.split_off.Code as code

pub split_off_spec : {M : Type 1} → statement M
split_off_spec 𝓤 𝓛 𝓜 𝓡 wired X LX =
    let E : El = record { row = X; laws = LX } in
    let fn : Fn = inst_fn (args E) code.function in
    let 𝓣 = tables 𝓤 𝓛.H 𝓜 𝓡 𝓡.env in
    let T = ended X in
    gives_back E T.signature.outlives (plain (λ _. usize) ∷ []) T.kept.1 (plain (λ _. Cr E))
    𝓛 (clauses X 𝓛 𝓜.mem 𝓡.returns) 𝓜 𝓡 (λ κs x f. tt, tt)
    (#self (args E)) fn (code.unfolded 𝓤 𝓛.H 𝓜 𝓡 wired (X, tt)) (λ κs qs a vss g passed are Post ends.
    let r = a.0 in let d = r.now in let len = a.1.0 in let kept = take len d.cells in let given = drop len d.cells in
    -- [the borrow, in three entries; the type's token; what the number owns; the `requires`]
    keep ! (0 ∷ 1 ∷ 2 ∷ 3 ∷ []) $
    enters ! 𝓣.C 𝓣.Λ fn (vptr r.ref_ptr.0 r.ref_ptr.1 ∷ vint w64 len ∷ []) Post (λ j. passed j ++ (are.0.0 j ++ [])) $
    alloc_all ! (λ l. pass_all ! refl ((tt, tt), ((tt, record { fits = are.0.1 }), tt)) $
    sets ! (agg ! (no_more !)) refl (tt, tt) $ sets ! (agg ! (and_then ! (get ! refl) (no_more !))) refl (tt, (tt, tt)) $
    cells_opened E r ! tt d (λ vs.
    use1 𝓛 (‵ (cells_own (R E) kept) ⊛ ‵ (cells_own (R E) given)) (cells_cut E 𝓛 len d.cells) $ split ! $
    -- [the cells kept; those given; the open borrow, in five entries; the type's token]
    move ! (1 ∷ []) $ owner_made E ! given $ move ! (1 ∷ 2 ∷ 3 ∷ 4 ∷ 5 ∷ 6 ∷ []) $ cells_closed E r ! tt d kept vs $
    returns ! (look_at ! 0 refl) $ free_all ! refl $ told_both ! (kept ≡ kept) (given ≡ given) refl refl $
    keep ! (1 ∷ 2 ∷ 3 ∷ 5 ∷ 4 ∷ 0 ∷ []) $
    by ! (ends mark (record { mark = record {}; cells = given }) (with_cells d kept) (tt, tt)))))
