-- `read` moves the value out of a full cell. Before: the borrow of the cells. The raw read gives the value, and leaves the
-- cell's room; so the cell goes back into the list empty, and the borrow is closed. Assumes `Logic`.
use Rattle.tp_slots.proofs.CellCalls.{gives_back, address_is, kept_in, enters, asked, told_both, cell_opened, cell_closed, ◌≡◌, refl, sym}
use Rattle.tp_slots.proofs.CellCalls.{[], ◌∷◌, ◌++◌, set, Fn, w64, inst_fn, Val, vptr, vint, tables, full_share, never, id⊢, fat, froom}
use Rattle.tp_slots.proofs.CellCalls.{◌⊑◌, ‵, ◌⊛◌, some, given, at_ret, ◌$◌, !, by, move, keep, use1, split, rewrite, pick, learn, whole}
use Rattle.tp_slots.proofs.CellCalls.{sub, stop, hop, from, fld, look, load, of_opd, first, blocks, exec, returns, alloc_all, pass_all}
use Rattle.tp_slots.proofs.CellCalls.{free_all, look_at, look_in_at, take_at, give_at, get, sets, sets_last, env, Ptr, in_a_block, lies_at}
use Rattle.tp_slots.proofs.CellCalls.{usize, plain, after, word, word-Good, as_raw, El, R, args, elτ, Good, Some, None, cell_at, IsFull}
use Rattle.tp_slots.proofs.{CellCalls.{cell_owns, with_cells, Bs, full_inside, value_out}, cells.Cells.read.Statement.statement}
use Rattle.tp_slots.specs.contracts.cells.Cells.read.{ended, clauses, Key.name as #self}
use Rattle.tp_slots.proofs.cells.Cells.read.Code as code

pub read_spec : {M : Type 1} → statement M
read_spec 𝓤 𝓛 𝓜 𝓡 wired X LX =
    let E : El = record { row = X; laws = LX } in
    let fn : Fn = inst_fn (args E) code.function in
    let 𝓣 = tables 𝓤 𝓛.H 𝓜 𝓡 𝓡.env in
    let T = ended X in
    gives_back E T.signature.outlives (plain (λ _. Bs E) ∷ plain (λ _. usize) ∷ []) T.kept.1 (plain (λ _. R E))
    𝓛 (clauses X 𝓛 𝓜.mem 𝓡.returns) 𝓜 𝓡 (λ κs x f. tt, (λ κs x f. tt, tt))
    (#self (args E)) fn (code.unfolded 𝓤 𝓛.H 𝓜 𝓡 wired (X, tt)) (λ κs qs a vss g passed are Post ends.
    let r = a.0 in let d = r.now in let p : Ptr = a.1.0.ptr in let i = a.1.1.0 in
    -- [the borrow, in three entries; the type's token; what the other arguments own; the `requires`]
    move ! (5 ∷ []) $ asked ! (κs.1.0 ⊑ X.lives) (IsFull d.cells i p) (λ full.
    let x = full.0 in let within = full_inside d.cells i p full in
    keep ! (0 ∷ 1 ∷ 2 ∷ 3 ∷ []) $ enters ! 𝓣.C 𝓣.Λ fn (vptr r.ref_ptr.0 r.ref_ptr.1 ∷ word p ∷ vint w64 i ∷ []) Post
    (λ j. passed j ++ (address_is E a.1.0 vss.1.0 are.0 j ++ (are.1.0.0 j ++ []))) $
    alloc_all ! (λ l. pass_all ! refl ((tt, tt), (word-Good [] p, ((tt, record { fits = are.1.0.1 }), tt))) $
    let N = env fn.locals l in
    cell_opened E r ! tt d i (p, Some x) within full.1 (λ vs.
    in_a_block ! p (λ h. lies_at (R E) full_share h x) (id⊢ 𝓤 (never 𝓤)) (λ b o e.
    take_at ! 2 $ rewrite ! 0 (λ (h : Ptr). ‵ (kept_in E (l 2) h)) e refl $ give_at ! 2 $ first ! $ blocks ! $
    use1 𝓛 (some (λ (v : Val). given (Good E v) (‵ (fat full_share (elτ E) b o v) ⊛ ‵ (E.row.own_val x (v ∷ [])))))
    (value_out 0 E.row E.laws 𝓛 x b o) $ pick ! (λ v. learn ! (λ good. split ! $
    -- [the memory; the value; the other cells; the open borrow, in five entries; the type's token]
    sets_last ! (of_opd ! (load ! (from ! (fld ! refl (hop ! (look_in_at ! 2 (sub ! 0 refl (whole !))) (stop !)))) (look ! 0 refl)))
    refl good $
    exec ! 𝓣.C 𝓣.Λ N (after 1 fn.body) (at_ret N Post) $ sets ! (of_opd ! (get ! refl)) refl good $
    use1 𝓛 (‵ (froom (elτ E) b o)) (𝓛.laws.at_room (elτ E) b o v) $ as_raw ! (elτ E) b o $
    rewrite ! 0 (λ (h : Ptr). ‵ (cell_owns (R E) h None)) (sym e) refl $ move ! (0 ∷ 2 ∷ 3 ∷ 4 ∷ 5 ∷ 6 ∷ 7 ∷ []) $
    cell_closed E r ! tt d i (p, None) within vs $ returns ! (look_at ! 0 refl) $ free_all ! refl $
    let cells = set d.cells i (p, None) in told_both ! (cell_at d.cells i ≡ (p, Some x)) (cells ≡ cells) full.1 refl $
    keep ! (1 ∷ 2 ∷ 3 ∷ 5 ∷ 4 ∷ 0 ∷ []) $ by ! (ends v x (with_cells d cells) (tt, (tt, tt))))))))))
