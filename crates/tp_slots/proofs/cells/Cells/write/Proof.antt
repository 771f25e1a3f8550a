-- `write` fills an empty cell. Before: the borrow of the cells, and the value. The raw write takes the cell's room and the
-- value, and gives the cell full; so it goes back into the list, and the borrow is closed. Assumes `Logic`.
use Rattle.tp_slots.proofs.CellCalls.{gives_back, address_is, value_is, kept_in, enters, asked, told, cell_opened, cell_closed, ◌≡◌, refl}
use Rattle.tp_slots.proofs.CellCalls.{sym, List, [], ◌∷◌, ◌++◌, set, Fn, w64, inst_fn, Val, vptr, vint, vunit, tables, full_share, never}
use Rattle.tp_slots.proofs.CellCalls.{id⊢, ◌⊑◌, ‵, at_ret, ◌$◌, !, by, move, keep, use2, rewrite, fsplit, feq_i, skip, whole, sub, stop}
use Rattle.tp_slots.proofs.CellCalls.{hop, from, fld, init, unit_lit, of_opd, assigns_last, first, blocks, exec, returns, alloc_all}
use Rattle.tp_slots.proofs.CellCalls.{pass_all, free_all, look_at, look_in_at, take_at, give_at, get, sets, env, lone, Ptr, block_ptr}
use Rattle.tp_slots.proofs.CellCalls.{in_a_block, lies_at, room_for, unit, usize, plain, after, word, word-Good, as_written, El, R, args}
use Rattle.tp_slots.proofs.{CellCalls.{elτ, Some, None, IsEmpty, with_cells, Bs, value_in, bare}, cells.Cells.write.Statement.statement}
use Rattle.tp_slots.specs.contracts.cells.Cells.write.{ended, clauses, Key.name as #self}
use Rattle.tp_slots.proofs.cells.Cells.write.Code as code

pub write_spec : {M : Type 1} → statement M
write_spec 𝓤 𝓛 𝓜 𝓡 wired X LX =
    let E : El = record { row = X; laws = LX } in
    let fn : Fn = inst_fn (args E) code.function in
    let 𝓣 = tables 𝓤 𝓛.H 𝓜 𝓡 𝓡.env in
    let T = ended X in
    gives_back E T.signature.outlives (plain (λ _. Bs E) ∷ plain (λ _. usize) ∷ plain (λ _. R E) ∷ []) T.kept.1 (plain (λ _. unit))
    𝓛 (clauses X 𝓛 𝓜.mem 𝓡.returns) 𝓜 𝓡 (λ κs x f. tt, (λ κs x f. tt, (λ κs x f. tt, tt)))
    (#self (args E)) fn (code.unfolded 𝓤 𝓛.H 𝓜 𝓡 wired (X, tt)) (λ κs qs a vss g passed are Post ends.
    let r = a.0 in let d = r.now in let p : Ptr = a.1.0.ptr in let i = a.1.1.0 in let x = a.1.1.1.0 in
    let got = value_is E 𝓛 x vss.1.1.1.0 are.1.1.0 in let v : Val = got.0 in
    -- [the borrow, in three entries; the type's token; what the other arguments own; the `requires`]
    move ! (5 ∷ []) $ asked ! (κs.1.0 ⊑ X.lives) (IsEmpty d.cells i p) (λ empty.
    move ! (4 ∷ []) $ fsplit ! $ skip ! $ fsplit ! $ skip ! $ fsplit ! $
    rewrite ! 0 (λ (us : List Val). ‵ ((R E).own_val x us)) got.1 refl $ keep ! (2 ∷ 3 ∷ 4 ∷ 0 ∷ 5 ∷ []) $
    enters ! 𝓣.C 𝓣.Λ fn (vptr r.ref_ptr.0 r.ref_ptr.1 ∷ word p ∷ vint w64 i ∷ v ∷ []) Post
    (λ j. passed j ++ (address_is E a.1.0 vss.1.0 are.0 j ++ (are.1.0.0 j ++ (got.1 j ++ [])))) $
    alloc_all ! (λ l. pass_all ! refl ((tt, tt), (word-Good [] p, ((tt, record { fits = are.1.0.1 }), (got.2, tt)))) $
    let N = env fn.locals l in
    cell_opened E r ! tt d i (p, None) empty.0 empty.1 (λ vs.
    in_a_block ! p (λ h. room_for (bare (lone (R E).mir)) h) (id⊢ 𝓤 (never 𝓤)) (λ b o e. as_written ! (elτ E) b o $
    take_at ! 2 $ rewrite ! 0 (λ (h : Ptr). ‵ (kept_in E (l 2) h)) e refl $ give_at ! 2 $
    -- [the room; the other cells; the open borrow, in five entries; the value; the type's token]
    first ! $ blocks ! $ sets ! (of_opd ! (get ! refl)) refl got.2 $
    assigns_last ! (of_opd ! (get ! refl)) (from ! (fld ! refl (hop ! (look_in_at ! 2 (sub ! 0 refl (whole !))) (stop !))))
    (init ! 0 refl got.2) $
    exec ! 𝓣.C 𝓣.Λ N (after 1 fn.body) (at_ret N Post) $ sets ! (of_opd ! (unit_lit !)) refl (tt, tt) $
    move ! (0 ∷ 7 ∷ []) $ use2 𝓛 (‵ (lies_at (R E) full_share (block_ptr b o) x)) (value_in 0 E.row E.laws 𝓛 x b o v) $
    rewrite ! 0 (λ (h : Ptr). ‵ (lies_at (R E) full_share h x)) (sym e) refl $ cell_closed E r ! tt d i (p, Some x) empty.0 vs $
    returns ! (look_at ! 0 refl) $ free_all ! refl $
    let cells = set d.cells i (p, Some x) in told ! (cells ≡ cells) refl $
    feq_i ! (List Val) (vunit ∷ []) (vunit ∷ []) refl $ keep ! (2 ∷ 3 ∷ 4 ∷ 5 ∷ 0 ∷ 1 ∷ []) $
    by ! (ends vunit tt (with_cells d cells) (tt, (tt, (tt, tt)))))))))
