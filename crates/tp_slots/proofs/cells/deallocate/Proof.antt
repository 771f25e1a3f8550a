-- `deallocate` frees a block. Before: a `&` to the allocator, all cells of the block, each empty, and the deed, which has the
-- right to free it. The cells are joined to room for one array; the raw call takes that room and the right, and returns the
-- token. Assumes `Logic`.
use Rattle.tp_slots.proofs.CellCalls.{takes_all, address_is, owner_is, enters, asked_beside, ◌≡◌, refl, sym, ap, subst, ◌∙◌, ℕ, ◌*◌, ◌<◌}
use Rattle.tp_slots.proofs.CellCalls.{◌^◌, arith, List, [], ◌∷◌, ◌++◌, Fn, w64, ty_array, inst_fn, Val, vptr, vint, vunit, tables, id⊢, Fml}
use Rattle.tp_slots.proofs.CellCalls.{Incl-trans, ftrue, fsep, froom, flft, ◌⊑◌, ‵, raw, ◌⊛◌, later, given, at_ret, ◌$◌, !, by, move, keep}
use Rattle.tp_slots.proofs.CellCalls.{use1, split, join, group, rewrite, await, learn, fsplit, feq_i, feq_l, flt_l, whole, sub, stop, fld}
use Rattle.tp_slots.proofs.CellCalls.{bin, unit_lit, size_word, align_word, of_opd, and_then, no_more, first, blocks, exec, returns}
use Rattle.tp_slots.proofs.CellCalls.{alloc_all, pass_all, free_all, look_at, get, get_in, is, sets, lands_last, env, Ptr, ptr_val}
use Rattle.tp_slots.proofs.CellCalls.{in_a_block, nothing, after, word, word-Good, as_raw, El, R, elτ, empty_at, cells_own, row_from, align}
use Rattle.tp_slots.proofs.CellCalls.{capped, capped_fits, calls_at_last, framed, Al, token, Gives, at_gives, Gives-goes, Gives-Gives}
use Rattle.tp_slots.proofs.CellCalls.{uncapped, block_ty, block_size, block_align, block_args, sz, to_room, no_block, Cell, mark, T, bare}
use Rattle.tp_slots.{proofs.{CellCalls.{ty_unit, has_ty, WT}, cells.deallocate.Statement.statement}, specs.contracts.cells.deallocate.ended}
use Rattle.tp_slots.specs.contracts.cells.deallocate.{clauses, Key.name as #self}
use Rattle.tp_slots.proofs.cells.deallocate.Code as code

pub deallocate_spec : {M : Type 1} → statement M
deallocate_spec 𝓤 𝓛 𝓜 𝓡 wired X W LX LW g d dd met md =
    let E : El = record { row = X; laws = LX } in
    let Z : Al = record { row = W; laws = LW; g = g; d = d; drops = dd } in
    let fn : Fn = inst_fn (block_args E Z) code.function in
    let 𝓣 = tables 𝓤 𝓛.H 𝓜 𝓡 𝓡.env in
    let Gives-here = Gives Z 𝓛 𝓜.mem 𝓡.returns in
    takes_all 𝓛 (ended X W g d dd) (clauses X W g d dd 𝓛 𝓜.mem 𝓡.returns) 𝓜 𝓡
    (λ κs x f. tt, (λ κs x f. tt, (λ κs x f. tt, (λ κs x f. tt, (λ κs x f. tt, tt)))))
    (#self (block_args E Z)) fn (code.unfolded 𝓤 𝓛.H 𝓜 𝓡 wired (X, (W, tt)) d dd) (λ κs qs bounds a vss ghost are Post ends.
    let κ = κs.0 in let q = qs.0 in let rb = a.0.ref_ptr.0 in let ro = a.0.ref_ptr.1 in let heap = a.0.now in
    let p : Ptr = a.1.0.ptr in let len : ℕ = a.1.1.0 in let cells = a.1.1.1.0.cells in let deed = a.1.1.1.1.0 in
    let others : Fml = fsep (flft κs.1.0 qs.1.0) (fsep (flft κs.1.1.0 qs.1.1.0) ftrue) in
    let Asked : Type 0 = (0 < len) × (cells ≡ empty_at deed.row) × (deed.at ≡ p) × (deed.len ≡ len) × (deed.alloc ≡ heap) in
    -- [the tokens; what the arguments own; the `requires`]
    move ! (2 ∷ []) $ asked_beside ! (κs.1.0 ⊑ X.lives) (κs.1.1.0 ⊑ W.lives) Asked (λ within asked.
    use1 𝓛 (‵ (flft κ q) ⊛ ‵ others) (id⊢ 𝓤 _) $ split ! $ move ! (2 ∷ []) $ fsplit ! $ fsplit ! $ move ! (2 ∷ []) $
    -- [what all but the `&` own; an equation; the `&`; the token; the other tokens]
    fsplit ! $ move ! (1 ∷ []) $ fsplit ! $ move ! (1 ∷ []) $ fsplit ! $ fsplit ! $ move ! (2 ∷ []) $ fsplit ! $ fsplit ! $
    -- [the deed's own value; what the deed owns; nothing; the owner's own value; the cells; two facts; an equation; the `&`; ..]
    keep ! (4 ∷ 1 ∷ 8 ∷ 9 ∷ 10 ∷ []) $
    enters ! 𝓣.C 𝓣.Λ fn (vptr rb ro ∷ word p ∷ vint w64 len ∷ mark ∷ mark ∷ []) Post
    (λ j. are.0.0 j ++ (address_is E a.1.0 vss.1.0 are.1.0 j ++ (are.1.1.0.0 j ++ (owner_is E vss.1.1.1.0 are.1.1.1.0.0 j
    ++ (owner_is E vss.1.1.1.1.0 are.1.1.1.1.0.0 j ++ []))))) $
    alloc_all ! (λ l. pass_all ! refl
    ((tt, tt), (word-Good [] p, ((tt, record { fits = are.1.1.0.1 }), ((tt, (tt, tt)), ((tt, (tt, tt)), tt))))) $
    let N = env fn.locals l in let s = sz E in let al : ℕ = capped (align (elτ E)) in let τ = block_ty E len in
    -- the cells are the row that the deed speaks of, from the address on
    move ! (1 ∷ []) $ fsplit ! $ move ! (1 ∷ []) $ fsplit ! $ flt_l ! (λ fit. feq_l ! (λ lies. move ! (1 ∷ []) $
    rewrite ! 0 (λ (c : List (Cell E)). ‵ (cells_own (R E) c)) (asked.1 ∙ sym lies ∙ (λ i. row_from (R E) (asked.2 i) (asked.3 i))) refl $
    in_a_block ! p (λ h. cells_own (R E) (row_from (R E) h len)) (no_block E 𝓛 0 len asked.0) (λ b o e.
    let small : len * s < 2 ^ 63 = subst (λ (k : ℕ). k * s < 2 ^ 63) asked.3 fit in let bytes : len * s < 2 ^ 64 = omega arith in
    let y : Gives-here.Ghost = at_gives Z 𝓛 𝓜.mem 𝓡.returns κ q (rb, ro) heap b o (len * s) al τ in
    rewrite ! 1 (λ (h : W.Denot × Ptr × ℕ). ‵ (token Z h.0 (bare (ty_array (elτ E) h.2)) h.1))
    (λ i. (asked.4 i, (asked.2 ∙ e) i, asked.3 i)) refl $
    -- [the room of the block; the right to free it; the `&`; the token; the other tokens]
    use1 𝓛 (‵ (froom (ty_array (elτ E) len) b o)) (to_room E 𝓛 b len o) $ as_raw ! (ty_array (elτ E) len) b o $ first ! $ blocks ! $
    sets ! (is ! (of_opd ! (get_in ! (fld ! refl (stop !)) (sub ! 0 refl (whole !)))) (ap ptr_val e)) refl (tt, tt) $
    let wide : len * capped s < 2 ^ 64 = subst (λ (k : ℕ). k < 2 ^ 64) (sym (uncapped len s bytes)) bytes in
    sets ! (is ! (bin ! (get ! refl) (size_word !) (record { fits = wide })) (ap (vint w64) (uncapped len s bytes)))
    refl (tt, record { fits = bytes }) $
    group ! 4 $ use1 𝓛 (raw (Gives-here.pre y)) (Gives-goes Z 𝓛 𝓜.mem 𝓡.returns κ q (rb, ro) heap (Incl-trans bounds.0 within) b o
    (len * s) al τ (block_size E len bytes) (block_align E len) bytes (capped_fits (align (elτ E)))) $
    calls_at_last ! (framed 𝓤 𝓛.H 𝓜 𝓣) Gives-here (met.deallocate dd) y
    (and_then ! (get ! refl) (and_then ! (get ! refl) (and_then ! (get ! refl) (and_then ! (align_word !) (no_more !))))) (λ v.
    use1 𝓛 (later (given (v ≡ vunit) (‵ (flft κ q)))) (Gives-Gives Z 𝓛 𝓜.mem 𝓡.returns κ q (rb, ro) heap b o (len * s) al τ v) $
    await ! tt $ learn ! (λ unit_is.
    lands_last ! refl (subst (λ (z : Val). T (has_ty ty_unit z) × WT z) (sym unit_is) (tt, tt)) $
    exec ! 𝓣.C 𝓣.Λ N (after 1 fn.body) (at_ret N Post) $ sets ! (of_opd ! (unit_lit !)) refl (tt, tt) $
    returns ! (look_at ! 0 refl) $ free_all ! refl $
    -- [the token; the other tokens]
    keep ! (0 ∷ 1 ∷ []) $ join ! $ feq_i ! (List Val) (vunit ∷ []) (vunit ∷ []) refl $ move ! (1 ∷ 0 ∷ []) $ nothing ! $
    keep ! (1 ∷ 2 ∷ 0 ∷ []) $ by ! (ends vunit tt (tt, (tt, (tt, (tt, (tt, tt))))))))))))))
