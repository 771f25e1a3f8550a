-- `get` returns a `&` to the value of a full cell. Before: a `&` to the cells, which borrows each of them. The one at
-- the index is seen, so its address is in a block, and the borrowed cell has a `&` to its value; nothing is given back.
-- Assumes `Logic`.
use Rattle.tp_slots.proofs.CellCalls.{takes_all, address_is, kept_in, enters, asked, told, ◌≡◌, refl, List, [], ◌∷◌, ◌++◌, Fn, w64, inst_fn}
use Rattle.tp_slots.proofs.CellCalls.{Val, vptr, vint, tables, id⊢, ftrue, fsep, flft, ◌⊑◌, ‵, ◌⊛◌, at_ret, ◌$◌, ◌∵◌, !, qed, by, done}
use Rattle.tp_slots.proofs.CellCalls.{move, keep, use1, split, join, rewrite, fsplit, fjoin, feq_i, skip, whole, sub, stop, hop, from, fld}
use Rattle.tp_slots.proofs.CellCalls.{addr, of_opd, first, blocks, exec, returns, alloc_all, pass_all, free_all, look_at, look_in_at}
use Rattle.tp_slots.proofs.CellCalls.{take_at, give_at, get, sets, sets_last, env, Ptr, null_ptr, in_a_block, lent_at, hide, unhide, after}
use Rattle.tp_slots.proofs.CellCalls.{word, word-Good, El, R, args, Some, cell_at, IsFull, cell_lent, Cell, full_inside, cell_seen}
use Rattle.tp_slots.{proofs.cells.Cells.get.Statement.statement, specs.contracts.cells.Cells.get.{ended, clauses, Key.name as #self}}
use Rattle.tp_slots.proofs.cells.Cells.get.Code as code

pub get_spec : {M : Type 1} → statement M
get_spec 𝓤 𝓛 𝓜 𝓡 wired X LX =
    let E : El = record { row = X; laws = LX } in
    let fn : Fn = inst_fn (args E) code.function in
    let 𝓣 = tables 𝓤 𝓛.H 𝓜 𝓡 𝓡.env in
    takes_all 𝓛 (ended X) (clauses X 𝓛 𝓜.mem 𝓡.returns) 𝓜 𝓡 (λ κs x f. tt, (λ κs x f. tt, (λ κs x f. tt, tt)))
    (#self (args E)) fn (code.unfolded 𝓤 𝓛.H 𝓜 𝓡 wired (X, tt)) (λ κs qs bounds a vss g are Post ends.
    let κ = κs.0 in let r = a.0 in let d = r.now in let p : Ptr = a.1.0.ptr in let i = a.1.1.0 in
    -- [the tokens; what the arguments own; the `requires`]
    move ! (2 ∷ []) $ asked ! (κs.1.0 ⊑ X.lives) (IsFull d.cells i p) (λ full.
    let x = full.0 in let within = full_inside d.cells i p full in
    use1 𝓛 (‵ (flft κ qs.0) ⊛ ‵ (fsep (flft κs.1.0 qs.1.0) ftrue)) (id⊢ 𝓤 _) $ split ! $
    move ! (2 ∷ []) $ fsplit ! $ fsplit ! $ keep ! (1 ∷ 3 ∷ 4 ∷ []) $
    enters ! 𝓣.C 𝓣.Λ fn (vptr r.ref_ptr.0 r.ref_ptr.1 ∷ word p ∷ vint w64 i ∷ []) Post
    (λ j. are.0.0 j ++ (address_is E a.1.0 vss.1.0 are.1.0 j ++ (are.1.1.0.0 j ++ []))) $
    alloc_all ! (λ l. pass_all ! refl ((tt, tt), (word-Good [] p, ((tt, record { fits = are.1.1.0.1 }), tt))) $
    let N = env fn.locals l in
    -- [the `&` to the cells; its token; the type's token]
    unhide ! $ fsplit ! $ skip ! $
    use1 𝓛 (‵ (cell_lent (R E) (cell_at d.cells i).0 (cell_at d.cells i).1 κ)) (cell_seen E 𝓛 κ d.cells i within) $
    rewrite ! 0 (λ (c : Cell E). ‵ (cell_lent (R E) c.0 c.1 κ)) full.1 refl $
    in_a_block ! p (λ h. lent_at (R E) h x κ) (qed 𝓛 (‵ (lent_at (R E) null_ptr x κ) ∷ []) ∵ fsplit ! $ keep ! (0 ∷ []) $ done !) (λ b o e.
    take_at ! 2 $ rewrite ! 0 (λ (h : Ptr). ‵ (kept_in E (l 2) h)) e refl $ give_at ! 2 $ first ! $ blocks ! $
    sets_last ! (addr ! (from ! (fld ! refl (hop ! (look_in_at ! 2 (sub ! 0 refl (whole !))) (stop !))))) refl (tt, tt) $
    exec ! 𝓣.C 𝓣.Λ N (after 1 fn.body) (at_ret N Post) $ sets ! (of_opd ! (get ! refl)) refl (tt, tt) $
    fsplit ! $ skip ! $ hide ! $ feq_i ! (List Val) (vptr b o ∷ []) (vptr b o ∷ []) refl $ fjoin ! $
    returns ! (look_at ! 0 refl) $ free_all ! refl $
    -- [a `&` to the value; the tokens]
    told ! (cell_at d.cells i ≡ (p, Some x)) full.1 $ move ! (2 ∷ 3 ∷ []) $ join ! $ keep ! (0 ∷ 2 ∷ 1 ∷ []) $
    by ! (ends (vptr b o) (record { ref_ptr = (b, o); now = x }) (tt, (tt, (tt, tt))))))))
