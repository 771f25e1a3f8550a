-- `allocate` creates a row of empty cells. Before: a `&` to the allocator. The raw call takes its token and gives room for an
-- array, and the right to free it. The room is cut into empty cells, next to each other, and the right goes into the deed; if the
-- allocation fails, nothing is owned but the refusal. Assumes `Logic`.
use Rattle.tp_slots.proofs.CellCalls.{IsGood, first_Good, takes_all, enters, asked_beside, told, owner_made, mark_put, ◌≡◌, refl, sym, ap}
use Rattle.tp_slots.proofs.CellCalls.{subst, ℕ, ◌*◌, ◌<◌, ◌^◌, arith, List, [], ◌∷◌, ◌++◌, true, false, lit<, Fn, Body, w64, ty_array}
use Rattle.tp_slots.proofs.CellCalls.{inst_fn, Val, vptr, vint, vstruct, vcons, vnil, Env, Wp, after_seq, at_return, tables, id⊢, Fml}
use Rattle.tp_slots.proofs.CellCalls.{Incl-trans, ftrue, fsep, flft, ◌⊑◌, Sq, prop, ‵, raw, ◌⊛◌, later, any_q, at_ret, ◌$◌, !, by, move}
use Rattle.tp_slots.proofs.CellCalls.{keep, use1, use2, use3, split, join, await, fsplit, fjoin, feq_i, flt_i, After, whole, agg, live, vrt}
use Rattle.tp_slots.proofs.CellCalls.{in_variant, stop, fld, bin, lit, size_word, align_word, of_opd, switches_on, and_then, no_more, first}
use Rattle.tp_slots.proofs.CellCalls.{exec, returns, alloc_all, pass_all, free_all, look_at, get, get_in, get_tag, is, sets, sets_last}
use Rattle.tp_slots.proofs.CellCalls.{lands_as, env, RattleType, layout, Ptr, block_ptr, InBlock, after, word, word-Good, as_written, El, R}
use Rattle.tp_slots.proofs.CellCalls.{elτ, Option, IfOk, Ok, Err, empty_at, cells_own, row_from, align, capped, capped_fits, Is, owned}
use Rattle.tp_slots.proofs.CellCalls.{Struct, Struct-Makes, Tuple, calls_at, framed, FitsInBlock, Al, Answer-typed, Takes, at_takes}
use Rattle.tp_slots.proofs.CellCalls.{Answered, Takes-goes, Takes-gives, answers, head, arm_body, ok_of, err_of, uncapped, block_ty}
use Rattle.tp_slots.proofs.CellCalls.{block_size, block_align, block_args, P, sz, of_room, pointers_from, row_is, Cr, Bs, mark, word_made}
use Rattle.tp_slots.{proofs.{CellCalls.{three_val, three_of}, cells.allocate.Statement.statement}, specs.contracts.cells.allocate.ended}
use Rattle.tp_slots.specs.contracts.cells.allocate.{clauses, Key.name as #self}
use denote.Struct.Declared as Declared
use Rattle.std.specs.contracts.result.Result as RS
use Rattle.std.specs.contracts.alloc.AllocError as AE
use Rattle.tp_slots.specs.contracts.cells.Deed as D-type
use Rattle.tp_slots.proofs.cells.allocate.Code as code

pub allocate_spec : {M : Type 1} → statement M
allocate_spec 𝓤 𝓛 𝓜 𝓡 wired X W LX LW g d dd met md =
    let E : El = record { row = X; laws = LX } in let Z : Al = record { row = W; laws = LW; g = g; d = d; drops = dd } in
    let fn : Fn = inst_fn (block_args E Z) code.function in let 𝓣 = tables 𝓤 𝓛.H 𝓜 𝓡 𝓡.env in
    let D : RattleType = D-type.the_row (R E) (P E Z) g in let Three : RattleType = Tuple (Bs E ∷ Cr E ∷ D ∷ []) in
    let Out : RattleType = RS.the_row Three AE.the_row in let Takes-here = Takes Z 𝓛 𝓜.mem 𝓡.returns in
    takes_all 𝓛 (ended X W g d dd) (clauses X W g d dd 𝓛 𝓜.mem 𝓡.returns) 𝓜 𝓡 (λ κs x f. tt, (λ κs x f. tt, tt))
    (#self (block_args E Z)) fn (code.unfolded 𝓤 𝓛.H 𝓜 𝓡 wired (X, (W, tt)) d dd) (λ κs qs bounds a vss ghost are Post ends.
    let κ = κs.0 in let q = qs.0 in let rb = a.0.ref_ptr.0 in let ro = a.0.ref_ptr.1 in let heap = a.0.now in let len : ℕ = a.1.0 in
    let others : Fml = fsep (flft κs.1.0 qs.1.0) (fsep (flft κs.1.1.0 qs.1.1.0) ftrue) in
    let Made : Out.Denot → Type 0 = λ r. IfOk r (λ t. (t.1.cells ≡ row_from (R E) t.0.ptr len) × (t.1.cells ≡ empty_at t.2.row)
    × (t.2.at ≡ t.0.ptr) × (t.2.len ≡ len) × (t.2.alloc ≡ heap) × InBlock t.0.ptr) in
    -- how both cases end: the result is owned, and the tokens are back
    let answered : (r : Out.Denot) (v : Val) → Made r
    → Sq 𝓛 (‵ (Out.own_val r (v ∷ [])) ∷ ‵ (flft κ q) ∷ ‵ others ∷ []) (prop (Post v)) = λ r v made.
    told ! (Made r) made $ move ! (2 ∷ 3 ∷ []) $ join ! $ keep ! (0 ∷ 2 ∷ 1 ∷ []) $ by ! (ends v r (tt, (tt, tt))) in
    -- [the tokens; what the arguments own; the `requires`]
    move ! (2 ∷ []) $ asked_beside ! (κs.1.0 ⊑ X.lives) (κs.1.1.0 ⊑ W.lives) (FitsInBlock (R E) len) (λ within asked.
    use1 𝓛 (‵ (flft κ q) ⊛ ‵ others) (id⊢ 𝓤 _) $ split ! $ move ! (2 ∷ []) $ fsplit ! $ fsplit ! $ keep ! (1 ∷ 3 ∷ 4 ∷ []) $
    enters ! 𝓣.C 𝓣.Λ fn (vptr rb ro ∷ vint w64 len ∷ []) Post (λ j. are.0.0 j ++ (are.1.0.0 j ++ [])) $
    alloc_all ! (λ l. pass_all ! refl ((tt, tt), ((tt, record { fits = are.1.0.1 }), tt)) $
    let N : Env 𝓤 𝓛.H = env fn.locals l in let both : Body = head (after 2 fn.body) in let Back = at_return 𝓤 𝓛.H N Post in
    let Then : After 𝓤 𝓛.H = any_q (after_seq 𝓤 𝓛.H (Wp 𝓤 𝓛.H 𝓣.C 𝓣.Λ N (after 3 fn.body) Back) Back) in
    let s = sz E in let small : len * s < 2 ^ 63 = asked.0 in let bytes : len * s < 2 ^ 64 = omega arith in
    let al : ℕ = capped (align (elτ E)) in let τ = block_ty E len in
    let y : Takes-here.Ghost = at_takes Z 𝓛 𝓜.mem 𝓡.returns κ q (rb, ro) heap (len * s) al τ in
    let wide : len * capped s < 2 ^ 64 = subst (λ (k : ℕ). k < 2 ^ 64) (sym (uncapped len s bytes)) bytes in
    sets ! (is ! (bin ! (get ! refl) (size_word !) (record { fits = wide })) (ap (vint w64) (uncapped len s bytes)))
    refl (tt, record { fits = bytes }) $
    use2 𝓛 (raw (Takes-here.pre y)) (Takes-goes Z 𝓛 𝓜.mem 𝓡.returns κ q (rb, ro) heap (Incl-trans bounds.0 within) (len * s) al τ
    (block_size E len bytes) (block_align E len) bytes (capped_fits (align (elτ E)))) $
    calls_at ! (framed 𝓤 𝓛.H 𝓜 𝓣) Takes-here (met.allocate dd) y
    (and_then ! (get ! refl) (and_then ! (get ! refl) (and_then ! (align_word !) (no_more !)))) (λ v.
    use1 𝓛 (later (raw (Answered Z 𝓛 𝓜.mem 𝓡.returns heap τ v) ⊛ ‵ (flft κ q)))
    (Takes-gives Z 𝓛 𝓜.mem 𝓡.returns κ q (rb, ro) heap (len * s) al τ v) $ await ! tt $ split ! $
    answers Z ! 𝓜.mem 𝓡.returns heap τ v
    -- a block: [the right to free it; its room; the token; the other tokens]
    (λ b o e.
    let p : Ptr = block_ptr b o in let row = row_from (R E) p len in
    let base : (Bs E).Denot = record { ptr = p } in let cells : (Cr E).Denot = record { mark = record {}; cells = row } in
    let deed : D.Denot = record { mark = record {}; at = p; len = len; alloc = heap; row = pointers_from E p len } in
    let made : Val = three_val (word p) mark mark in
    let typed : IsGood (layout Three) made = (tt, ((tt, tt), ((tt, tt), ((tt, tt), tt)))) in
    let ok = first_Good (layout Three) made typed in
    lands_as ! e refl (Answer-typed true b o) $ first ! $ switches_on ! (get_tag ! (vrt ! refl (fld ! refl (stop !))) (whole !)) $
    exec ! 𝓣.C 𝓣.Λ N (arm_body 0 both) Then $
    sets ! (of_opd ! (get_in ! (vrt ! refl (fld ! refl (stop !))) (in_variant ! 0 0 refl refl (whole !)))) refl (tt, tt) $
    sets ! (of_opd ! (get ! refl)) refl (tt, tt) $ sets ! (agg ! (and_then ! (get ! refl) (no_more !))) refl (word-Good [] p) $
    sets ! (agg ! (no_more !)) refl (tt, tt) $ sets ! (agg ! (and_then ! (get ! refl) (no_more !))) refl (tt, (tt, tt)) $
    sets ! (agg ! (no_more !)) refl (tt, tt) $ sets ! (agg ! (and_then ! (get ! refl) (no_more !))) refl (tt, (tt, tt)) $
    sets ! (agg ! (and_then ! (get ! refl) (and_then ! (get ! refl) (and_then ! (get ! refl) (no_more !))))) refl typed $
    sets_last ! (agg ! (and_then ! (lit ! tt) (and_then ! (get ! refl) (no_more !)))) refl ok $
    exec ! 𝓣.C 𝓣.Λ N (after 3 fn.body) (at_ret N Post) $ sets ! (of_opd ! (get ! refl)) refl ok $
    -- the deed: the address of the block, its length, and the right to free it
    move ! (1 ∷ []) $ feq_i ! (List (Ptr × Option (R E).Denot)) row (empty_at (pointers_from E p len)) (row_is E p len) $
    flt_i ! (len * s) (2 ^ 63) small $ fjoin ! $ move ! (1 ∷ []) $ fjoin ! $ mark_put E ! $ fjoin ! $
    -- the owner of the cells, and the address of the first
    move ! (1 ∷ []) $ as_written ! (ty_array (elτ E) len) b o $ use1 𝓛 (‵ (cells_own (R E) row)) (of_room E 𝓛 b len o) $
    owner_made E ! row $ word_made ! p $ let answer = live 0 (vcons made vnil) in
    use3 𝓛 (‵ (Three.own_val (base, cells, deed) (made ∷ []))) (three_of 𝓛 (Bs E) (Cr E) D base cells deed (word p) mark mark) $
    use1 𝓛 (‵ (Out.own_val (Ok (base, cells, deed)) (answer ∷ []))) (ok_of 𝓛 Three AE.the_row (base, cells, deed) made) $
    returns ! (look_at ! 0 refl) $ free_all ! refl $ keep ! (0 ∷ 1 ∷ 2 ∷ []) $
    answered (Ok (base, cells, deed)) answer (refl, row_is E p len, refl, refl, refl, tt))
    -- a refusal: [the token; the other tokens]
    (λ e.
    let Refusal : RattleType = Struct (Declared.shape AE.the_type) in let none : Val = live 1 (vcons (vstruct vnil) vnil) in
    let typed : IsGood (layout Out) none = (tt, (record { fits = lit< tt }, (tt, tt))) in
    lands_as ! e refl (Answer-typed false 0 0) $ first ! $ switches_on ! (get_tag ! (vrt ! refl (fld ! refl (stop !))) (whole !)) $
    exec ! 𝓣.C 𝓣.Λ N (arm_body 1 both) Then $
    sets ! (of_opd ! (get_in ! (vrt ! refl (fld ! refl (stop !))) (in_variant ! 1 0 refl refl (whole !)))) refl (tt, tt) $
    sets_last ! (agg ! (and_then ! (lit ! tt) (and_then ! (get ! refl) (no_more !)))) refl typed $
    exec ! 𝓣.C 𝓣.Λ N (after 3 fn.body) (at_ret N Post) $ sets ! (of_opd ! (get ! refl)) refl typed $
    owned ! Refusal (Is Refusal) (Struct-Makes 𝓛 (Declared.shape AE.the_type) tt) tt (vstruct vnil ∷ []) (tt, (refl, tt)) $
    use1 𝓛 (‵ (Out.own_val (Err (record {})) (none ∷ []))) (err_of 𝓛 Three AE.the_row (record {}) (vstruct vnil)) $
    returns ! (look_at ! 0 refl) $ free_all ! refl $ keep ! (0 ∷ 1 ∷ 2 ∷ []) $ answered (Err (record {})) none tt)))))
