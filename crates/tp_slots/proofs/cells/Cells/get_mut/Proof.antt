-- `get_mut` returns a `&mut` to the value of a full cell. Before: the borrow of the cells. It is opened, the cell is
-- taken out, and its value is reborrowed under a new name; what is left waits for the value to be returned, and then
-- the cells are whole again, with the last value in that cell. So the cells follow the reborrowed value, and nothing is
-- given back now. Assumes `Logic`.
use Rattle.tp_slots.proofs.CellCalls.{takes_all, address_is, kept_in, enters, asked, told, cell_opened, Around, cell_returns, ◌≡◌, refl, []}
use Rattle.tp_slots.proofs.CellCalls.{◌∷◌, ◌++◌, set, Fn, named, w64, inst_fn, vptr, vint, tables, full_share, never, id⊢, GName, Fml}
use Rattle.tp_slots.proofs.CellCalls.{ftrue, fsep, flft, sem, ◌⊑◌, ‵, raw, ◌⊛◌, some, later, at_ret, ◌$◌, !, by, move, keep, use1, split}
use Rattle.tp_slots.proofs.CellCalls.{split3, join, group, rewrite, await, pick, fsplit, fsplit3, fjoin3, whole, sub, stop, hop, from, fld}
use Rattle.tp_slots.proofs.CellCalls.{addr, of_opd, first, blocks, exec, returns, alloc_all, pass_all, free_all, look_at, look_in_at}
use Rattle.tp_slots.proofs.CellCalls.{take_at, give_at, get, sets, sets_last, env, Ptr, in_a_block, lies_at, MutBor, MutRef, after, word}
use Rattle.tp_slots.proofs.CellCalls.{word-Good, El, R, args, el_x, Some, cell_at, IsFull, with_cells, Cr, full_inside, follows, Part}
use Rattle.tp_slots.{proofs.{CellCalls.lends_Part, cells.Cells.get_mut.Statement.statement}, specs.contracts.cells.Cells.get_mut.ended}
use Rattle.tp_slots.specs.contracts.cells.Cells.get_mut.{clauses, Key.name as #self}
use Rattle.tp_slots.proofs.cells.Cells.get_mut.Code as code

pub get_mut_spec : {M : Type 1} → statement M
get_mut_spec 𝓤 𝓛 𝓜 𝓡 wired X LX =
    let E : El = record { row = X; laws = LX } in
    let fn : Fn = inst_fn (args E) code.function in
    let 𝓣 = tables 𝓤 𝓛.H 𝓜 𝓡 𝓡.env in
    takes_all 𝓛 (ended X) (clauses X 𝓛 𝓜.mem 𝓡.returns) 𝓜 𝓡 (λ κs x f. tt, (λ κs x f. tt, (λ κs x f. tt, tt)))
    (#self (args E)) fn (code.unfolded 𝓤 𝓛.H 𝓜 𝓡 wired (X, tt)) (λ κs qs bounds a vss g are Post ends.
    let κ = κs.0 in let q = qs.0 in let r = a.0 in let γ : GName = r.ghost_name in let d = r.now in
    let rb = r.ref_ptr.0 in let ro = r.ref_ptr.1 in let p : Ptr = a.1.0.ptr in let i = a.1.1.0 in
    let new : el_x E → (Cr E).Denot = λ w. with_cells d (set d.cells i (p, Some w)) in
    -- [the tokens; what the arguments own; the `requires`]
    move ! (2 ∷ []) $ asked ! (κs.1.0 ⊑ X.lives) (IsFull d.cells i p) (λ full.
    let x = full.0 in let within = full_inside d.cells i p full in
    use1 𝓛 (‵ (flft κ q) ⊛ ‵ (fsep (flft κs.1.0 qs.1.0) ftrue)) (id⊢ 𝓤 _) $ split ! $
    move ! (2 ∷ []) $ fsplit ! $ fsplit3 ! $ keep ! (1 ∷ 2 ∷ 4 ∷ 5 ∷ []) $
    enters ! 𝓣.C 𝓣.Λ fn (vptr rb ro ∷ word p ∷ vint w64 i ∷ []) Post
    (λ j. are.0.0 j ++ (address_is E a.1.0 vss.1.0 are.1.0 j ++ (are.1.1.0.0 j ++ []))) $
    alloc_all ! (λ l. pass_all ! refl ((tt, tt), (word-Good [] p, ((tt, record { fits = are.1.1.0.1 }), tt))) $
    let N = env fn.locals l in
    cell_opened E r ! tt d i (p, Some x) within full.1 (λ vs.
    in_a_block ! p (λ h. lies_at (R E) full_share h x) (id⊢ 𝓤 (never 𝓤)) (λ b o e.
    take_at ! 2 $ rewrite ! 0 (λ (h : Ptr). ‵ (kept_in E (l 2) h)) e refl $ give_at ! 2 $ first ! $ blocks ! $
    sets_last ! (addr ! (from ! (fld ! refl (hop ! (look_in_at ! 2 (sub ! 0 refl (whole !))) (stop !))))) refl (tt, tt) $
    exec ! 𝓣.C 𝓣.Λ N (after 1 fn.body) (at_ret N Post) $ sets ! (of_opd ! (get ! refl)) refl (tt, tt) $
    -- [the value; the other cells; the open borrow, in five entries; the type's token]
    move ! (1 ∷ 2 ∷ 3 ∷ []) $ fjoin3 ! $ move ! (2 ∷ 3 ∷ 4 ∷ 1 ∷ 0 ∷ []) $ group ! 5 $
    let rest = sem 𝓛 (Around E r i vs) in let way = cell_returns E 𝓛 r i p vs b o e within in let seen = (Cr E).coded.code d in
    use1 𝓛 (later (some (λ (δ : GName). raw (Part 𝓛 (Cr E) (R E) new (named 0) κ q rb ro b o γ rest way x δ))))
    (lends_Part 𝓛 (Cr E) (R E) new (named 0) κ q rb ro b o γ rest way seen seen x) $ await ! tt $ pick ! (λ δ.
    let out : MutBor (el_x E) = record { ref_ptr = (b, o); ghost_name = δ; now = x } in
    returns ! (look_at ! 0 refl) $ free_all ! refl $
    let lent : Fml = (MutRef (named 0) κ (R E)).own_val out (vptr b o ∷ []) in
    use1 𝓛 (‵ lent ⊛ ‵ (flft κ q) ⊛ ‵ (follows (Cr E) (R E) γ δ new)) (id⊢ 𝓤 _) $ split3 ! $
    -- [a `&mut` to the value; the token; the cells follow it; the type's token]
    told ! (cell_at d.cells i ≡ (p, Some x)) full.1 $ move ! (3 ∷ 0 ∷ []) $ join ! $ move ! (2 ∷ 3 ∷ []) $ join ! $
    keep ! (0 ∷ 2 ∷ 1 ∷ []) $ by ! (ends (vptr b o) out (tt, (tt, (tt, tt))))))))))
