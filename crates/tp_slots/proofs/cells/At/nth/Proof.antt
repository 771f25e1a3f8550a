-- `nth` moves an address along a row of cells. Before: the address, which owns nothing; it is in a block, and the distance to the
-- cell fits a word. So the machine's sum of the two is defined, and it is the new address. Assumes `Logic`.
use Rattle.tp_slots.proofs.CellCalls.{type_size, takes_all, address_is, kept_in, enters, told, ◌≡◌, refl, sym, ap, ◌∙◌, ℕ, ◌+◌, ◌*◌, ◌<◌}
use Rattle.tp_slots.proofs.CellCalls.{◌^◌, arith, [], ◌∷◌, ◌++◌, Fn, w64, inst_fn, vint, tables, id⊢, fact, ◌⊑◌, ‵, raw, ◌⊛◌, at_ret, ◌$◌}
use Rattle.tp_slots.proofs.CellCalls.{by, !, keep, use1, split, split3, rewrite, whole, sub, agg, stop, fld, bin, size_lit, of_opd}
use Rattle.tp_slots.proofs.CellCalls.{and_then, no_more, first, blocks, exec, returns, alloc_all, pass_all, free_all, look_at, take_at}
use Rattle.tp_slots.proofs.CellCalls.{give_at, get, get_in, sets, sets_last, env, Ptr, block_ptr, ◌+ₚ◌, InBlock, at_block, block_of}
use Rattle.tp_slots.proofs.{CellCalls.{count_of, heard, after, word, word-Good, El, R, args, word_made}, cells.At.nth.Statement.statement}
use Rattle.tp_slots.specs.contracts.cells.At.nth.{ended, clauses, Key.name as #self}
use Rattle.tp_slots.proofs.cells.At.nth.Code as code

-- the machine adds the bytes to the count of the address
moved : (p : Ptr) → InBlock p → (bytes : ℕ) → block_ptr (block_of p) (bytes + count_of p) ≡ p +ₚ bytes
moved p inside bytes =
    let sum : bytes + count_of p ≡ count_of p + bytes = omega arith in
    ap (block_ptr (block_of p)) sum ∙ sym (ap (λ (h : Ptr). h +ₚ bytes) (at_block p inside))

pub nth_spec : {M : Type 1} → statement M
nth_spec 𝓤 𝓛 𝓜 𝓡 wired X LX =
    let E : El = record { row = X; laws = LX } in
    let fn : Fn = inst_fn (args E) code.function in
    let 𝓣 = tables 𝓤 𝓛.H 𝓜 𝓡 𝓡.env in
    takes_all 𝓛 (ended X) (clauses X 𝓛 𝓜.mem 𝓡.returns) 𝓜 𝓡 (λ κs x f. tt, (λ κs x f. tt, tt))
    (#self (args E)) fn (code.unfolded 𝓤 𝓛.H 𝓜 𝓡 wired (X, tt)) (λ κs qs bounds a vss g are Post ends.
    let p : Ptr = a.0.ptr in let i : ℕ = a.1.0 in let s : ℕ = type_size (R E) in
    -- [the tokens; what the arguments own; the `requires`]
    keep ! (2 ∷ 0 ∷ []) $
    use1 𝓛 (raw (fact 𝓤 (κs.0 ⊑ X.lives)) ⊛ raw (fact 𝓤 (InBlock p)) ⊛ raw (fact 𝓤 (s < 2 ^ 63)) ⊛ raw (fact 𝓤 (i * s < 2 ^ 63)))
    (id⊢ 𝓤 _) $ split3 ! $ heard ! _ (λ _. heard ! _ (λ inside. split ! $ heard ! _ (λ small. heard ! _ (λ near.
    let to : Ptr = block_ptr (block_of p) (i * s + count_of p) in
    let tiny : s < 2 ^ 64 = omega arith in let far : i * s < 2 ^ 64 = omega arith in
    enters ! 𝓣.C 𝓣.Λ fn (word p ∷ vint w64 i ∷ []) Post (λ j. address_is E a.0 vss.0 are.0 j ++ (are.1.0.0 j ++ [])) $
    alloc_all ! (λ l. pass_all ! refl (word-Good [] p, ((tt, record { fits = are.1.0.1 }), tt)) $
    let N = env fn.locals l in
    take_at ! 1 $ rewrite ! 0 (λ (h : Ptr). ‵ (kept_in E (l 1) h)) (at_block p inside) refl $ give_at ! 1 $ first ! $ blocks ! $
    sets ! (of_opd ! (get_in ! (fld ! refl (stop !)) (sub ! 0 refl (whole !)))) refl (tt, tt) $
    sets ! (of_opd ! (get ! refl)) refl (tt, record { fits = are.1.0.1 }) $
    sets ! (bin ! (get ! refl) (size_lit ! (record { fits = tiny })) (record { fits = far })) refl (tt, record { fits = far }) $
    sets_last ! (bin ! (get ! refl) (get ! refl) tt) refl (tt, tt) $ exec ! 𝓣.C 𝓣.Λ N (after 1 fn.body) (at_ret N Post) $
    sets ! (of_opd ! (get ! refl)) refl (tt, tt) $ sets ! (agg ! (and_then ! (get ! refl) (no_more !))) refl (word-Good [] to) $
    returns ! (look_at ! 0 refl) $ free_all ! refl $
    word_made ! to $ told ! (to ≡ p +ₚ (i * s)) (moved p inside (i * s)) $ keep ! (2 ∷ 1 ∷ 0 ∷ []) $
    by ! (ends (word to) (record { ptr = to }) (tt, (tt, tt)))))))))
