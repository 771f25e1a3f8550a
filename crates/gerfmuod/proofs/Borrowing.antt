-- Exported functions that borrow the value at a raw pointer for one call: each passes its arguments on to a function that takes a `&mut`
-- in place of the pointer, and returns that function's result. Also the names that the proofs of all exports use. Assumes `Logic`.
pub use Rattle.gerfmuod.proofs.answer.{Counters.TheLaws.the_row_laws as counters_laws, Settled.TheLaws.the_row_laws as settled_laws}
pub use Rattle.gerfmuod.proofs.answer.{Status.TheLaws.the_row_laws as status_laws, StepResult.TheLaws.the_row_laws as result_laws}
pub use Rattle.gerfmuod.proofs.answer.{LeftTask.TheLaws.the_row_laws as left_laws, Written.TheLaws.the_row_laws as written_laws}
pub use Rattle.gerfmuod.{proofs.graph.answer.GraphResult.TheLaws.the_row_laws as graph_result_laws, specs.Calls.{IsByCall, IsClosed}}
pub use Rattle.gerfmuod.specs.Calls.{IsCountersCall, IsLeftCall, IsRestartCall, IsSettleCall, IsStepCall, IsStepsCall, IsTraceCall}
pub use Rattle.gerfmuod.specs.Calls.{IsReserveCall, IsStatusCall, raw_step, CoreState, opened, opened_as, opening}
pub use Rattle.gerfmuod.specs.Part.{GraphState, opened_graph}
pub use Rattle.gerfmuod.specs.Part.{IsDescribeCall, IsGraphCall, IsSpawnCall, IsTaskCall, IsPartCall, IsSharedTaskCall, IsTaskOfCall}
pub use Rattle.gerfmuod.specs.Part.{PartView, opened_part}
pub use Rattle.gerfmuod.specs.contracts.{answer.StepResult.the_row as result_row, graph.slot.GraphSlot.the_row as graph_row}
pub use Rattle.gerfmuod.specs.contracts.{part.slot.PartSlot.the_row as part_row, slot.CoreSlot.the_row as core_row}
pub use Rattle.std.proofs.{Common.{◌≡◌, List, [], ◌∷◌, refl, ap, subst, ◌++◌, w32, MutBor, ℕ, zero, suc}, RcSteps.Good}
pub use Rattle.std.{proofs.raw_atomic.Walks.proved, specs.contracts.alloc.Global.the_row as Z}
pub use base.Fml.{Fml, GName, Share, ftrue, fsep, fat, flft, flent, fres, fbor, froom}
pub use base.Fraction.{full_share}
pub use base.Logic.{SProp, ent, sep, ex, id⊢}
pub use borrow.Table.OneValue.{part_in}
pub use contract.Lifetimes.{Lfts, Shares, toks, lft_at}
pub use contract.Monad.{fact, Fun}
pub use contract.Running.{tables, Running, MachineTables}
pub use denote.Builtin.{u32, u8, usize, unit}
pub use denote.Exit.{yes}
pub use denote.Laws.{Is, shows, Are, Ises, Spells, Tells, Tellss, valss}
pub use denote.Lend.{lends_ref, ref_back}
pub use denote.Memory.{mem, lone}
pub use denote.Param.{param, layout, Laws.{Laws, param_laws, of_field}, Shared.copy_shared}
pub use denote.Plain.{uint_Makes, uint_vals, uint_Tells}
pub use denote.RattleType.{RattleType, owns, Denots, Valss, flat}
pub use denote.RawPtr.{Ptr, lies_at, RawPtr, block_ptr, in_a_block, rawptr_vals, rawptr_Tells, rawptr_Lawful, room_at}
pub use denote.Ref.{MutRef}
pub use denote.Signature.{plain, AllWithin, Slot, type_at, types_at, shr_slice_of, mut_slice_of}
pub use denote.Slice.{shr_slice_vals, shr_slice_Tells, mut_slice_vals, mut_slice_Tells}
pub use denote.Steps.{peeks, nothing, owned, heard}
pub use denote.Struct.{Field.{u32-field, usize-field}, Laws.{u32-laws, u32-copy, usize-laws, usize-copy}}
pub use denote.Triple.{Call.calls_from, Clauses.{Clauses, Ended, closing}, End.{Kepts, Fins, Outs, all, outs, lasts_of}, Spec.Meets}
pub use denote.Triple.{Statement.FmF, Table.{framed, Enters, enters}, Walked.{says, Stays, walk_of, stay_dropped}}
pub use denote.Triple.Walked.{Goes-dropped, ends_at, gave_slice, Goes-gave_slice, AllGo, fits_of, has_of, Silent}
pub use mir.Syntax.{Ty, named, Callee, Fn, Opd, Body as Code, seq, call, assign, return, place, copy, deref, rv_opd, addr_of}
pub use mir.Val.{Val, vptr, vunit}
pub use prog.Model.{Model}
pub use prog.Wp.{WpFn, Calls, Closed, Env, Loops, spot_of}
pub use seplogic.Ra.Ura.{Ura}
pub use sound.WpLaws.{FmC}
pub use types.ByLocal.{alloc_all, pass_all, free_all, look_at, get, through, sets, look_in_at, get_in, AllTyped, at, set, cell}
pub use types.Kit.{Item, Seq, mean, ‵, ◌$◌, ◌∵◌, !, qed, done, rewrite, show, raw, ◌⊛◌, some, later, prop, move, keep, drop, use1, use2}
pub use types.Kit.{use3, updating, now, by, Sq, split, join, fsplit, pick, await, regoal, suffices, group, feq_i, feq_l, frame, fjoin, Post}
pub use types.Kit.{runs, frees, at_ret, Step, step, nth, del}
pub use types.Logic.{Logic, sem}
pub use types.Part.{whole, sub, agg}
pub use types.Run.{enter, of_opd, addr, stop, no_more, and_then, returns, unit_lit, init, assigns, land, from, fld, hop, Opds}
pub use types.SemTy.{Body}
pub use types.Tokens.{lft_new, lft_end}
use Rattle.std.proofs.alloc.Global.TheLaws as heap

module _ {M : Type 1} {𝓤 : Ura M} (𝓛 : Logic 𝓤) (R : RattleType) where
  -- The memory at p has some value with the property P.
  pub lies_so : (p : Ptr) (P : R.Denot → Type 0) (x : R.Denot) → P x
      → ent 𝓤 (sem 𝓛 (lies_at R full_share p x)) (ex 𝓤 (λ (y : R.Denot). sep 𝓤 (sem 𝓛 (lies_at R full_share p y)) (fact 𝓤 (P y))))
  lies_so p P x h =
      qed 𝓛 (‵ (lies_at R full_share p x) ∷ []) ∵ show ! (λ (y : R.Denot). sep 𝓤 (sem 𝓛 (lies_at R full_share p y)) (fact 𝓤 (P y))) x $
      says ! h $ done !

pub u32_laws : Laws u32
u32_laws = of_field u32-field u32-laws refl (copy_shared u32-field u32-copy)

pub usize_laws : Laws usize
usize_laws = of_field usize-field usize-laws refl (copy_shared usize-field usize-copy)

-- a `&mut` to n at (b, o), under the ghost name γ
abbrev pub lent : {X : Type 0} → ℕ → ℕ → GName → X → MutBor X
lent b o γ n = record { ref_ptr = (b, o); ghost_name = γ; now = n }

-- ---- the code of the exported function
-- Q of the result, which is of the layout τ, after an update of ghost state
abbrev pub Typed : {M : Type 1} {𝓤 : Ura M} (𝓛 : Logic 𝓤) → Ty → (Val → SProp 𝓤) → Val → SProp 𝓤
Typed {𝓤 = 𝓤} 𝓛 τ Q v = 𝓛.H.⇛ (sep 𝓤 (Q v) (fact 𝓤 (Good τ v)))

-- operands that copy the locals from i on, which hold the values
abbrev copies : ℕ → List Val → List Opd
copies i [] = []
copies i (v ∷ vs) = copy (place i []) ∷ copies (suc i) vs

module _ {M : Type 1} {𝓤 : Ura M} (𝓛 : Logic 𝓤) (E : Env 𝓤 𝓛.H) where
  -- the entry of local i, if it is empty, or holds v
  abbrev empty : ℕ → Item 𝓤
  empty i = ‵ (froom (spot_of 𝓤 𝓛.H E i).0 (spot_of 𝓤 𝓛.H E i).1 zero)

  abbrev holds : ℕ → Val → Item 𝓤
  holds i v = ‵ (fat full_share (spot_of 𝓤 𝓛.H E i).0 (spot_of 𝓤 𝓛.H E i).1 zero v)

  abbrev held : ℕ → List Val → List (Item 𝓤)
  held i [] = []
  held i (v ∷ vs) = holds i v ∷ held (suc i) vs

  abbrev entries : ℕ → List Val → List (Item 𝓤) → List (Item 𝓤)
  entries i [] Γ = []
  entries i (v ∷ vs) Γ = at 𝓛 i Γ ∷ entries (suc i) vs Γ

  abbrev Fits : ℕ → Val → Type 0
  Fits i = Good (spot_of 𝓤 𝓛.H E i).0

  module _ {K : Type 0} {Γ : List (Item 𝓤)} where
    read_from : K → (i : ℕ) (vs : List Val) → entries i vs Γ ≡ held i vs → Opds K 𝓛 Γ E (copies i vs) vs
    read_from t i [] e = no_more t
    read_from t i (v ∷ vs) e = and_then t (get t (ap (nth 𝓛 0) e)) (read_from t (suc i) vs (ap (del 𝓛 0) e))

    -- The arguments are local i, and the locals from 2 on.
    pub reads : K → {i : ℕ} {v : Val} {vs : List Val} → at 𝓛 i Γ ∷ entries 2 vs Γ ≡ holds i v ∷ held 2 vs
        → Opds K 𝓛 Γ E (copy (place i []) ∷ copies 2 vs) (v ∷ vs)
    reads t {vs = vs} e = and_then t (get t (ap (nth 𝓛 0) e)) (read_from t 2 vs (ap (del 𝓛 0) e))

    -- The pointer in local 1 is copied to local i, and what it points at is borrowed in local j.
    pub takes : K → {C : Calls 𝓤 𝓛.H} {Λ : Loops 𝓤 𝓛.H} {q : Post 𝓤 𝓛.H} {i j b o : ℕ} {σ : Ty} {rest : Code}
        → at 𝓛 1 Γ ∷ at 𝓛 i Γ ∷ at 𝓛 i (set 𝓛 i (holds i (vptr b o)) Γ) ∷ at 𝓛 j (set 𝓛 i (holds i (vptr b o)) Γ) ∷ []
        ≡ holds 1 (vptr b o) ∷ empty i ∷ holds i (vptr b o) ∷ empty j ∷ [] → Fits i (vptr b o) × Fits j (vptr b o)
        → Step K 𝓛 (set 𝓛 j (holds j (vptr b o)) (set 𝓛 i (holds i (vptr b o)) Γ)) (runs C Λ E rest q) Γ (runs C Λ E
        (seq (assign (place i []) (rv_opd (copy (place 1 [])))) (seq (assign (place j []) (addr_of (place i (deref σ ∷ [])))) rest)) q)
    takes t {i = i} {j = j} {b = b} {o = o} e w =
        let next = set 𝓛 i (holds i (vptr b o)) Γ in step (λ s.
        assigns t (of_opd t (get t (ap (nth 𝓛 0) e))) (from t (stop t)) (init t (cell i Γ) (ap (nth 𝓛 1) e) w.0) $
        assigns t (addr t (through t (ap (nth 𝓛 2) e) (stop t))) (from t (stop t)) (init t (cell j next) (ap (nth 𝓛 3) e) w.1) $ s)

    -- What the callee ensures is what its caller has to.
    pub hands_on : K → {C : Calls 𝓤 𝓛.H} {Λ : Loops 𝓤 𝓛.H} → FmC 𝓤 𝓛.H 𝓛.laws C
        → {f : Callee} {xs : List Opd} {vs : List Val} {Q : Val → SProp 𝓤}
        → Opds K 𝓛 (raw (C f vs (Typed 𝓛 (spot_of 𝓤 𝓛.H E 0).0 Q)) ∷ Γ) E xs vs
        → ((v : Val) → at 𝓛 0 (raw (Q v) ∷ Γ) ∷ at 𝓛 0 (set 𝓛 0 (holds 0 v) (raw (Q v) ∷ Γ)) ∷ [] ≡ empty 0 ∷ holds 0 v ∷ [])
        → ((v : Val) → Seq K 𝓛 (set 𝓛 0 (holds 0 v) (raw (Q v) ∷ Γ)) (frees E (prop (Q v))))
        → Seq K 𝓛 (raw (C f vs (Typed 𝓛 (spot_of 𝓤 𝓛.H E 0).0 Q)) ∷ Γ) (runs C Λ E (seq (call f xs (place 0 [])) return) (at_ret E Q))
    hands_on t {C} fm {f} {vs = vs} {Q = Q} os e k =
        let P : Val → SProp 𝓤 = Typed 𝓛 (spot_of 𝓤 𝓛.H E 0).0 Q in calls_from t fm (raw (C f vs P)) vs P (id⊢ 𝓤 _) os (λ v.
        use1 𝓛 (later (raw (Q v) ⊛ raw (fact 𝓤 (Fits 0 v)))) (id⊢ 𝓤 _) $ await t tt $ split t $ move t (1 ∷ []) $ heard t _ (λ good.
        land t (from t (stop t)) (init t (cell 0 (raw (Q v) ∷ Γ)) (ap (nth 𝓛 0) (e v)) good) $
        returns t (look_at t 0 (ap (nth 𝓛 1) (e v))) $ k v))

-- ---- the callee borrows the value
module _ (R A : RattleType) {M : Type 1} {𝓤 : Ura M} (𝓛 : Logic 𝓤) (b o : ℕ) where
  -- the borrow of the value n at (b, o), and the lender's claim
  abbrev pub Lent : ℕ → R.Denot → GName → Item 𝓤
  Lent α n γ = ‵ ((MutRef (named 0) (α ∷ []) R).own_val (lent b o γ n) (vptr b o ∷ []))

  abbrev pub Claim : ℕ → GName → Item 𝓤
  Claim α γ = ‵ (flent (α ∷ []) (Body (mem R) b o γ))

  -- At (b, o) lies some value of which P is true.
  abbrev pub Lies : (R.Denot → Type 0) → Item 𝓤
  Lies P = raw (ex 𝓤 (λ (x : R.Denot). sep 𝓤 (sem 𝓛 (lies_at R full_share (block_ptr b o) x)) (fact 𝓤 (P x))))

  -- what the callee gives: the lifetime and the other tokens, the result, the borrow's last value, and what is left of the other parameters
  abbrev pub Returns : {Ws : Type 0} → List ℕ → Share → GName → SProp 𝓤 → (Ws → R.Denot) → (Ws → Fml) → (A.Denot → Ws → R.Denot → Type 0)
      → Val → Item 𝓤
  Returns {Ws} κ q γ I new Rest Told v =
      later (some (λ (u : A.Denot). ((‵ (flft κ q) ⊛ raw I) ⊛ ‵ (A.own_val u (v ∷ []))) ⊛ some (λ (ws : Ws).
      ‵ (fsep (fsep (fres γ (R.coded.code (new ws))) (fbor κ (Body (mem R) b o γ))) (Rest ws)) ⊛ raw (fact 𝓤 (Told u ws (new ws))))))

  module _ (laws : Laws A) {Ws : Type 0} (n : R.Denot) (I J : SProp 𝓤) (vs : List Val) (new : Ws → R.Denot) (Rest : Ws → Fml)
      (Told : A.Denot → Ws → R.Denot → Type 0) (Q : Val → SProp 𝓤)
      (ends : (u : A.Denot) (ws : Ws) (v : Val)
      → ent 𝓤 (mean 𝓛 (‵ (A.own_val u (v ∷ [])) ⊛ raw I ⊛ Lies (Told u ws) ⊛ ‵ (Rest ws))) (Q v)) where
    -- The lifetime ends, and the value is there again.
    given_back : (α : ℕ) (γ : GName) (v : Val) (P : SProp 𝓤) → ent 𝓤 P (mean 𝓛 (Returns (α ∷ []) full_share γ I new Rest Told v))
        → ent 𝓤 (sep 𝓤 P (mean 𝓛 (Claim α γ))) (Typed 𝓛 (layout A) Q v)
    given_back α γ v P is =
        qed 𝓛 (raw P ∷ Claim α γ ∷ []) ∵ updating ! $ use1 𝓛 (Returns (α ∷ []) full_share γ I new Rest Told v) is $
        await ! tt $ pick ! (λ u. split ! $ split ! $ split ! $ lft_end ! tt $
        -- [the lifetime has ended; the other tokens; the result; the callee's postcondition; the lender's claim]
        move ! (3 ∷ []) $ pick ! (λ ws. split ! $ move ! (1 ∷ []) $ heard ! _ (λ told. fsplit ! $ fsplit ! $
        -- [the last value; its borrow; the rest; the lifetime has ended; the other tokens; the result; the lender's claim]
        move ! (3 ∷ 6 ∷ 0 ∷ []) $
        use3 𝓛 (later (‵ (lies_at R full_share (block_ptr b o) (new ws)))) (ref_back 𝓛 R (α ∷ []) γ (new ws) b o) $ await ! tt $
        use1 𝓛 (Lies (Told u ws)) (lies_so 𝓛 R (block_ptr b o) (Told u ws) (new ws) told) $
        -- [the value; its borrow; the rest; the other tokens; the result]
        move ! (4 ∷ []) $ peeks ! (param 0 A) (Is (param 0 A)) (shows 𝓛 (param 0 A)) u (v ∷ []) (λ is_u. now ! $
        says ! (((param_laws 0 A laws).lawful 𝓛).typed u (v ∷ []) is_u).0 $ keep ! (0 ∷ 4 ∷ 1 ∷ 3 ∷ []) $ by ! (ends u ws v)))))

    -- The value is lent for a new lifetime, which ends when the callee has returned.
    pub borrows : (C : Fun 𝓤) → FmF 𝓤 C → Enters 𝓤 𝓛.H C
        → ((α : ℕ) (γ : GName) → ent 𝓤 (mean 𝓛 (((‵ (flft (α ∷ []) full_share) ⊛ raw I) ⊛ (Lent α n γ ⊛ raw J)) ⊛ ‵ ftrue))
        (C vs (λ v. mean 𝓛 (Returns (α ∷ []) full_share γ I new Rest Told v))))
        → ent 𝓤 (mean 𝓛 (‵ (lies_at R full_share (block_ptr b o) n) ⊛ raw J ⊛ raw I)) (C vs (Typed 𝓛 (layout A) Q))
    borrows C fm into met =
        qed 𝓛 (‵ (lies_at R full_share (block_ptr b o) n) ∷ raw J ∷ raw I ∷ []) ∵ suffices ! _ (into vs (Typed 𝓛 (layout A) Q)) $
        updating ! $ lft_new ! tt (λ α. move ! (1 ∷ []) $
        use1 𝓛 (later (some (λ (γ : GName). Lent α n γ ⊛ Claim α γ))) (lends_ref 𝓛 R (named 0) (α ∷ []) n b o) $
        await ! tt $ pick ! (λ γ. split ! $
        -- [the borrow; the lender's claim; the lifetime's token; the other parameters; the other tokens]
        move ! (0 ∷ 3 ∷ []) $ join ! $ move ! (2 ∷ 3 ∷ []) $ join ! $ join ! $ nothing ! $ move ! (1 ∷ 0 ∷ []) $ join ! $
        let given : Val → SProp 𝓤 = λ v. mean 𝓛 (Returns (α ∷ []) full_share γ I new Rest Told v) in
        use1 𝓛 (raw (C vs given)) (met α γ) $ now ! $
        by ! (fm vs given (Typed 𝓛 (layout A) Q) (mean 𝓛 (Claim α γ)) (λ v. given_back α γ v (given v) (id⊢ 𝓤 _)))))

-- ---- the parameters after the pointer
-- their types, wherever they are
abbrev pub cells : {l : ℕ} → List (Slot l) → Lfts l → List (Ty × ℕ)
cells [] κs = []
cells (s ∷ ss) κs = (lone (type_at s κs).mir, 0) ∷ cells ss κs

abbrev pub nums : {l : ℕ} → ℕ → List (Slot l)
nums zero = []
nums (suc k) = plain (λ _. u32) ∷ nums k

-- what is picked at the contract of a callee that borrows a value of R: the lifetimes, their shares, and the arguments with their machine
-- values
abbrev pub Picked : {l : ℕ} → RattleType → List (Slot l) → Type 0
Picked {l} R ss = (x : (κs : Lfts (suc l)) × Shares (suc l) × Unit {0} × (MutBor R.Denot × Denots (types_at ss κs.1))
    × (List Val × Valss (types_at ss κs.1))) × Unit {0}

module _ {M : Type 1} {𝓤 : Ura M} (𝓛 : Logic 𝓤) (l : ℕ) where
  -- What the callee leaves of the parameters is what its caller has of them at the exit.
  abbrev pub Left : (ss : List (Slot l)) (ks : Kepts ss) → Stays ss ks → Type 1
  Left ss ks hs = (κs : Lfts l) (a : Denots (types_at ss κs)) (ws : Fins κs ss ks a) (vs : Valss (types_at ss κs))
      → ent 𝓤 (sem 𝓛 (lasts_of κs ss ks a ws)) (sep 𝓤 (sem 𝓛 (has_of κs ss ks hs a ws vs)) (fact 𝓤 (fits_of κs ss ks hs a ws)))

  -- what is had of each at the exit, and each one's machine values
  pub record Passed (ss : List (Slot l)) (ks : Kepts ss) : Type 2 where
    pub stays : Stays ss ks
    pub go : AllGo 𝓛 l ss ks stays
    pub leaves : Left ss ks stays
    pub spells : (κs : Lfts l) → Spells (types_at ss κs)
    pub tell : (κs : Lfts l) → Tellss (types_at ss κs) (Ises (types_at ss κs)) (spells κs)
    pub typed : (κs : Lfts l) (a : Denots (types_at ss κs))
        → Are (types_at ss κs) (Ises (types_at ss κs)) a (valss (types_at ss κs) (spells κs) a)
        → AllTyped (cells ss κs) (flat (types_at ss κs) (valss (types_at ss κs) (spells κs) a))

  abbrev pub values : {ss : List (Slot l)} {ks : Kepts ss} → Passed ss ks → (κs : Lfts l) → Denots (types_at ss κs) → Valss (types_at ss κs)
  values {ss} p κs = valss (types_at ss κs) (p.spells κs)

  pub leaves_none : Left [] tt tt
  leaves_none κs a ws vs = qed 𝓛 (‵ ftrue ∷ []) ∵ says ! tt $ done !

  abbrev pub none : Passed [] tt
  none = record { stays = tt; go = tt; leaves = leaves_none; spells = λ κs. tt; tell = λ κs. tt; typed = λ κs a are. tt }

  pub leaves_buffer : (j : ℕ) (ok : AllWithin l (j ∷ [])) (E : RattleType)
      → Left (mut_slice_of (j ∷ []) ok (plain (λ _. E)) ∷ []) (yes, tt) (gave_slice (j ∷ []) ok (plain (λ _. E)), tt)
  leaves_buffer j ok E κs a ws vs =
      qed 𝓛 (‵ (lasts_of κs (mut_slice_of (j ∷ []) ok (plain (λ _. E)) ∷ []) (yes, tt) a ws) ∷ []) ∵ fsplit ! $ fsplit ! $ fsplit ! $
      move ! (1 ∷ []) $ feq_l ! (λ same. says ! (same, tt) $ fjoin ! $ fjoin ! $ done !)

  -- a buffer, which the callee gets
  abbrev pub buffer : (j : ℕ) (ok : AllWithin l (j ∷ [])) (E : RattleType)
      → Passed (mut_slice_of (j ∷ []) ok (plain (λ _. E)) ∷ []) (yes, tt)
  buffer j ok E = record {
    stays = (gave_slice (j ∷ []) ok (plain (λ _. E)), tt);
    go = (Goes-gave_slice 𝓛 l j ok (plain (λ _. E)), tt);
    leaves = leaves_buffer j ok E;
    spells = λ κs. (mut_slice_vals, tt);
    tell = λ κs. (mut_slice_Tells (named j) (lft_at l j ok κs) E, tt);
    typed = λ κs a are. ((tt, (tt, (record { fits = are.0.0.1.0 }, tt))), tt);
  }

  module _ {ss : List (Slot l)} {ks : Kepts ss} (p : Passed ss ks) where
    pub leaves_more : (s : Slot l) → Left (s ∷ ss) (yes, ks) (stay_dropped s yes, p.stays)
    leaves_more s κs a ws vs =
        qed 𝓛 (‵ (lasts_of κs (s ∷ ss) (yes, ks) a ws) ∷ []) ∵ fsplit ! $ drop ! $
        use1 𝓛 (‵ (has_of κs ss ks p.stays a.1 ws.1 vs.1) ⊛ raw (fact 𝓤 (fits_of κs ss ks p.stays a.1 ws.1))) (p.leaves κs a.1 ws.1 vs.1) $
        split ! $ move ! (1 ∷ []) $ heard ! _ (λ fit. says ! (tt, fit) $ nothing ! $ fjoin ! $ done !)

    -- one more, of which nothing is had at the exit
    abbrev pub more : (s : Slot l) → Silent 𝓛 l s yes → (sp : (κs : Lfts l) → (type_at s κs).Denot → List Val)
        → ((κs : Lfts l) → Tells (type_at s κs) (Is (type_at s κs)) (sp κs))
        → ((κs : Lfts l) (x : (type_at s κs).Denot) (cs : List (Ty × ℕ)) (vs : List Val) → Is (type_at s κs) x (sp κs x) → AllTyped cs vs
        → AllTyped ((lone (type_at s κs).mir, 0) ∷ cs) (sp κs x ++ vs)) → Passed (s ∷ ss) (yes, ks)
    more s silent sp tl fit = record {
      stays = (stay_dropped s yes, p.stays);
      go = (Goes-dropped 𝓛 l s yes silent, p.go);
      leaves = leaves_more s;
      spells = λ κs. (sp κs, p.spells κs);
      tell = λ κs. (tl κs, p.tell κs);
      typed = λ κs a are. fit κs a.0 (cells ss κs) (flat (types_at ss κs) (values p κs a.1)) are.0 (p.typed κs a.1 are.1);
    }

    abbrev pub number : Passed (plain (λ _. u32) ∷ ss) (yes, ks)
    number = more (plain (λ _. u32)) (λ κs x w. refl) (λ κs. uint_vals w32) (λ κs. uint_Tells w32)
        (λ κs x cs vs is h. ((tt, record { fits = is.1 }), h))

    abbrev pub pointer : Passed (plain (λ _. RawPtr) ∷ ss) (yes, ks)
    pointer = more (plain (λ _. RawPtr)) (λ κs x w. refl) (λ κs. rawptr_vals) (λ κs. rawptr_Tells)
        (λ κs x cs vs is h. (((rawptr_Lawful 𝓛).typed x (rawptr_vals x) is).0, h))

    abbrev pub allocator : Passed (plain (λ _. Z) ∷ ss) (yes, ks)
    allocator = more (plain (λ _. Z)) (λ κs x w. refl) (λ κs d. heap.lowered d ∷ []) (λ κs. heap.lowers.val_is)
        (λ κs x cs vs is h. (((heap.the_row_laws.lawful 𝓛).typed x (heap.lowered x ∷ []) is).0, h))

    abbrev pub slice : (j : ℕ) (ok : AllWithin l (j ∷ [])) (E : RattleType)
        → Passed (shr_slice_of (j ∷ []) ok (plain (λ _. E)) ∷ ss) (yes, ks)
    slice j ok E = more (shr_slice_of (j ∷ []) ok (plain (λ _. E))) (λ κs x w. refl) (λ κs. shr_slice_vals)
        (λ κs. shr_slice_Tells (named j) (lft_at l j ok κs) E) (λ κs x cs vs is h. ((tt, (tt, (record { fits = is.0.1.0 }, tt))), h))

  abbrev pub numbers : (k : ℕ) → Passed (nums k) (all yes (nums k))
  numbers zero = none
  numbers (suc k) = number (numbers k)

-- a number, a slice and a number
abbrev pub listed : {M : Type 1} {𝓤 : Ura M} (𝓛 : Logic 𝓤) (E : RattleType)
    → Passed 𝓛 1 (plain (λ _. u32) ∷ shr_slice_of (0 ∷ []) tt (plain (λ _. E)) ∷ plain (λ _. u32) ∷ []) (yes, (yes, (yes, tt)))
listed 𝓛 E = number 𝓛 1 (slice 𝓛 1 (number 𝓛 1 (none 𝓛 1)) 0 tt E)

module _ {M : Type 1} {𝓤 : Ura M} (𝓛 : Logic 𝓤) (E : Env 𝓤 𝓛.H) (R : RattleType) (laws : Laws R) (new : R.Denot)
    {ss : List (Slot 0)} {ks : Kepts ss} (p : Passed 𝓛 0 ss ks) (x : Denots (types_at ss tt)) where
  abbrev arguments : Item 𝓤
  arguments = ‵ (owns (types_at ss tt) x (values 𝓛 0 p tt x))

  -- what the callee gives, which returns `new`
  abbrev Made : Val → Item 𝓤
  Made v = later (some (λ (r : R.Denot). (‵ ftrue ⊛ ‵ (R.own_val r (v ∷ [])))
      ⊛ some (λ (ws : Fins tt ss ks x). ‵ (lasts_of tt ss ks x ws) ⊛ raw (fact 𝓤 (r ≡ new)))))

  abbrev Landed : Val → Fins tt ss ks x → List (Item 𝓤) → List (Item 𝓤)
  Landed v ws Γ = ‵ (R.own_val new (v ∷ [])) ∷ ‵ (lasts_of tt ss ks x ws) ∷ Γ

  -- It lands in local i, and what is left of the parameters is had.
  pub makes : {K : Type 0} {Γ : List (Item 𝓤)} → K → {C : Calls 𝓤 𝓛.H} {Λ : Loops 𝓤 𝓛.H} {q : Post 𝓤 𝓛.H} → FmC 𝓤 𝓛.H 𝓛.laws C
      → {f : Callee} {xs : List Opd} {i : ℕ} {rest : Code}
      → ent 𝓤 (mean 𝓛 ((‵ ftrue ⊛ arguments) ⊛ ‵ ftrue)) (C f (flat (types_at ss tt) (values 𝓛 0 p tt x)) (λ v. mean 𝓛 (Made v)))
      → Opds K 𝓛 (arguments ∷ Γ) E xs (flat (types_at ss tt) (values 𝓛 0 p tt x))
      → ((v : Val) (ws : Fins tt ss ks x) → at 𝓛 i (Landed v ws Γ) ≡ empty 𝓛 E i) → layout R ≡ (spot_of 𝓤 𝓛.H E i).0
      → ((v : Val) (ws : Fins tt ss ks x) → Fits 𝓛 E i v → Seq K 𝓛 (set 𝓛 i (holds 𝓛 E i v) (Landed v ws Γ)) (runs C Λ E rest q))
      → Seq K 𝓛 (arguments ∷ Γ) (runs C Λ E (seq (call f xs (place i [])) rest) q)
  makes {Γ = Γ} t {C} fm {f} {i = i} met os e same k =
      calls_from t fm arguments (flat (types_at ss tt) (values 𝓛 0 p tt x)) (λ v. mean 𝓛 (Made v))
      (qed 𝓛 (arguments ∷ []) ∵ nothing ! $ join ! $ nothing ! $ move ! (1 ∷ 0 ∷ []) $ join ! $ by ! met) os (λ v.
      use1 𝓛 (Made v) (id⊢ 𝓤 _) $ await t tt $ pick t (λ r. split t $ split t $ drop t $ move t (1 ∷ []) $
      pick t (λ ws. split t $ move t (1 ∷ []) $ heard t _ (λ is. move t (1 ∷ []) $ rewrite t 0 (λ (y : R.Denot). ‵ (R.own_val y (v ∷ []))) is refl $
      peeks t (param 0 R) (Is (param 0 R)) (shows 𝓛 (param 0 R)) new (v ∷ []) (λ good.
      let fits : Fits 𝓛 E i v = subst (λ (τ : Ty). Good τ v) same (((param_laws 0 R laws).lawful 𝓛).typed new (v ∷ []) good).0 in
      land t (from t (stop t)) (init t (cell i (Landed v ws Γ)) (e v ws) fits) $ k v ws fits)))))

module _ {M : Type 1} {𝓤 : Ura M} (𝓛 : Logic 𝓤) (𝓜 : Model 𝓤 𝓛.H) (𝓡 : Running 𝓤 𝓛.H 𝓜) where
  abbrev 𝓣 : MachineTables 𝓤 𝓛.H 𝓜
  𝓣 = tables 𝓤 𝓛.H 𝓜 𝓡 𝓡.env

  abbrev pub frames : FmC 𝓤 𝓛.H 𝓛.laws 𝓣.C
  frames = framed 𝓤 𝓛.H 𝓜 𝓣

  module _ (R : RattleType) {A : RattleType} (laws : Laws A) {l : ℕ} {ss : List (Slot l)} {ks : Kepts ss} (p : Passed 𝓛 l ss ks) where
    abbrev ended : Ended
    ended = record {
      signature = record { lifetimes = l; outlives = []; params = plain (λ _. RawPtr) ∷ ss; result = plain (λ _. A) };
      kept = (yes, ks);
    }

    -- what the parameters, the value before, the result, the parameters' last values and the value after the call are to each other
    abbrev Effect : Type 1
    Effect = (κs : Lfts l) → Denots (types_at ss κs) → R.Denot → A.Denot → Outs κs ss ks → R.Denot → Type 0

    abbrev clauses : Effect → Clauses 𝓤 ended
    clauses P κs a = record {
      ghost = R.Denot;
      requires = λ n. sem 𝓛 (lies_at R full_share a.0 n);
      ensures = λ n u out. ex 𝓤 (λ (new : R.Denot). sep 𝓤 (sem 𝓛 (lies_at R full_share a.0 new)) (fact 𝓤 (P κs a.1 n u out.1 new)));
    }

    abbrev Vals : (κs : Lfts l) → Denots (types_at ss κs) → List Val
    Vals κs a = flat (types_at ss κs) (values 𝓛 l p κs a)

    pub exported : (P : Effect) (f : Callee) (e : Fn) → Closed 𝓤 𝓛.H 𝓣.C 𝓣.Λ f e → (k : Callee)
        → ((z : Picked R ss) → let κs = z.0.0.1 in let qs = z.0.1 in let r = z.0.3.0 in let a = z.0.3.1 in ent 𝓤
        (mean 𝓛 (((‵ (flft z.0.0.0 qs.0) ⊛ raw (toks 𝓛 l κs qs.1)) ⊛ (‵ ((MutRef (named 0) z.0.0.0 R).own_val r z.0.4.0)
        ⊛ ‵ (owns (types_at ss κs) a z.0.4.1))) ⊛ ‵ ftrue)) (𝓣.C k (z.0.4.0 ++ flat (types_at ss κs) z.0.4.1) (λ v. mean 𝓛
        (Returns R A 𝓛 r.ref_ptr.0 r.ref_ptr.1 {Ws = R.Denot × Fins κs ss ks a} z.0.0.0 qs.0 r.ghost_name (toks 𝓛 l κs qs.1)
        (λ ws. ws.0) (λ ws. lasts_of κs ss ks a ws.1) (λ u ws. P κs a r.now u (outs κs ss ks a ws.1)) v))))
        → ((κs : Lfts l) (a : Denots (types_at ss κs)) (b o : ℕ) → AllTyped (cells ss κs) (Vals κs a) → (Q : Val → SProp 𝓤)
        → Sq 𝓛 (raw (𝓣.C k (vptr b o ∷ Vals κs a) (Typed 𝓛 (layout A) Q)) ∷ []) (prop (WpFn 𝓤 𝓛.H 𝓣.C 𝓣.Λ e (vptr b o ∷ Vals κs a) Q)))
        → Meets 𝓛 ended.signature (𝓣.C f) (closing 𝓛 ended (clauses P))
    exported P f e closed k met run =
        let c = clauses P in let ps = pointer 𝓛 l p in let W = walk_of 𝓛 ended ps.stays c in
        proved 𝓛 ended ps.stays c 𝓜 𝓡 ps.go f e closed ps.spells ps.tell (λ κs qs bounds a n are.
        let Ts = types_at ss κs in let vs = values 𝓛 l p κs a.1 in let tokens = toks 𝓛 l κs qs in
        let y : Ptr → W.Ghost = λ x. ((κs, qs, bounds, (x, a.1), (rawptr_vals x, vs)), n) in
        qed 𝓛 ((raw tokens ⊛ ‵ (owns (RawPtr ∷ Ts) a (rawptr_vals a.0, vs))) ∷ ‵ (lies_at R full_share a.0 n) ∷ []) ∵
        split ! $ move ! (1 ∷ []) $ fsplit ! $ drop ! $ move ! (2 ∷ []) $
        -- [the value; the other parameters; the tokens]
        in_a_block ! a.0 (λ x. lies_at R full_share x n) (id⊢ 𝓤 _) (λ b o is_ptr.
        regoal ! (λ x. prop (WpFn 𝓤 𝓛.H 𝓣.C 𝓣.Λ e (rawptr_vals x ++ flat Ts vs) (W.post (y x)))) is_ptr refl $
        let us : List Val = vptr b o ∷ flat Ts vs in
        let Q : Val → SProp 𝓤 = W.post (y (block_ptr b o)) in
        let Told : A.Denot → R.Denot × Fins κs ss ks a.1 → R.Denot → Type 0 = λ u ws. P κs a.1 n u (outs κs ss ks a.1 ws.1) in
        let S : SProp 𝓤 = 𝓣.C k us (Typed 𝓛 (layout A) Q) in
        suffices ! S (qed 𝓛 (raw S ∷ []) ∵ run κs a.1 b o (p.typed κs a.1 are.1) Q) $
        by ! (borrows R A 𝓛 b o laws n tokens (sem 𝓛 (owns Ts a.1 vs)) us (λ ws. ws.0) (λ ws. lasts_of κs ss ks a.1 ws.1) Told Q
        (λ u ws v.
        qed 𝓛 (‵ (A.own_val u (v ∷ [])) ∷ raw tokens ∷ Lies R A 𝓛 b o (Told u ws) ∷ ‵ (lasts_of κs ss ks a.1 ws.1) ∷ []) ∵
        move ! (3 ∷ []) $
        use1 𝓛 (‵ (has_of κs ss ks p.stays a.1 ws.1 vs) ⊛ raw (fact 𝓤 (fits_of κs ss ks p.stays a.1 ws.1))) (p.leaves κs a.1 ws.1 vs) $
        split ! $ move ! (1 ∷ []) $ heard ! _ (λ fit.
        suffices ! _ (ends_at 𝓛 ended ps.stays c (y (block_ptr b o)) v u (tt, ws.1) (tt, fit)) $
        -- [the other parameters; the result; the tokens; the value]
        nothing ! $ fjoin ! $ move ! (2 ∷ 0 ∷ 1 ∷ []) $ group ! 3 $ done !))
        (𝓣.C k) (framed 𝓤 𝓛.H 𝓜 𝓣 k) (enters 𝓤 𝓛.H 𝓜 𝓣 k)
        (λ α γ. met (((α ∷ [], κs), (full_share, qs), tt, (lent b o γ n, a.1), (vptr b o ∷ [], vs)), tt)))))

  -- ---- an exported function that makes a value where its pointer points, and has k numbers after the pointer
  module _ (R A : RattleType) (k : ℕ) where
    abbrev Nums : List RattleType
    Nums = types_at {n = 0} (nums k) tt

    abbrev making : Ended
    making = record {
      signature = record { lifetimes = 0; outlives = []; params = plain (λ _. Z) ∷ plain (λ _. RawPtr) ∷ nums k; result = plain (λ _. A) };
      kept = (yes, (yes, all yes (nums k)));
    }

    abbrev made : (Denots Nums → Ptr → A.Denot → SProp 𝓤) → Clauses 𝓤 making
    made P κs a = record { ghost = Unit {0}; requires = λ n. sem 𝓛 (room_at R a.1.0); ensures = λ n u out. P a.1.1 a.1.0 u }

    pub opens : (P : Denots Nums → Ptr → A.Denot → SProp 𝓤) (f : Callee) (e : Fn) → Closed 𝓤 𝓛.H 𝓣.C 𝓣.Λ f e
        → ((d : Z.Denot) (a : Denots Nums) (b o : ℕ) (Q : Val → SProp 𝓤)
        → AllTyped ((lone Z.mir, 0) ∷ cells {l = 0} (nums k) tt) (heap.lowered d ∷ flat Nums (values 𝓛 0 (numbers 𝓛 0 k) tt a))
        → ((u : A.Denot) (v : Val) (ws : Fins tt (nums k) (all yes (nums k)) a) → ent 𝓤 (mean 𝓛
        (‵ (A.own_val u (v ∷ [])) ⊛ ‵ (lasts_of tt (nums k) (all yes (nums k)) a ws) ⊛ raw (P a (block_ptr b o) u))) (Q v))
        → Sq 𝓛 (‵ (froom (lone R.mir) b o)
        ∷ ‵ (owns (Z ∷ Nums) (d, a) (heap.lowered d ∷ [], values 𝓛 0 (numbers 𝓛 0 k) tt a)) ∷ [])
        (prop (WpFn 𝓤 𝓛.H 𝓣.C 𝓣.Λ e (heap.lowered d ∷ vptr b o ∷ flat Nums (values 𝓛 0 (numbers 𝓛 0 k) tt a)) Q)))
        → Meets 𝓛 making.signature (𝓣.C f) (closing 𝓛 making (made P))
    opens P f e closed run =
        let c = made P in let ps = allocator 𝓛 0 (pointer 𝓛 0 (numbers 𝓛 0 k)) in let W = walk_of 𝓛 making ps.stays c in
        proved 𝓛 making ps.stays c 𝓜 𝓡 ps.go f e closed ps.spells ps.tell (λ κs qs bounds a n are.
        let Ts = Nums in let d = a.0 in let vs = values 𝓛 0 (numbers 𝓛 0 k) tt a.1.1 in
        let y : Ptr → W.Ghost = λ x. ((κs, qs, bounds, (d, (x, a.1.1)), (heap.lowered d ∷ [], (rawptr_vals x, vs))), n) in
        qed 𝓛 ((‵ ftrue ⊛ ‵ (owns (Z ∷ RawPtr ∷ Ts) a (y a.1.0).0.4)) ∷ ‵ (room_at R a.1.0) ∷ []) ∵ split ! $ drop ! $ fsplit ! $
        move ! (1 ∷ []) $ fsplit ! $ drop ! $ move ! (1 ∷ 0 ∷ []) $ fjoin ! $ move ! (1 ∷ []) $
        in_a_block ! a.1.0 (λ x. room_at R x) (id⊢ 𝓤 _) (λ b o is_ptr.
        regoal ! (λ x. prop (WpFn 𝓤 𝓛.H 𝓣.C 𝓣.Λ e (heap.lowered d ∷ (rawptr_vals x ++ flat Ts vs)) (W.post (y x)))) is_ptr refl $
        use1 𝓛 (‵ (froom (lone R.mir) b o)) (id⊢ 𝓤 _) $
        run d a.1.1 b o (W.post (y (block_ptr b o)))
        (((heap.the_row_laws.lawful 𝓛).typed d (heap.lowered d ∷ []) are.0).0, (numbers 𝓛 0 k).typed tt a.1.1 are.1.1) (λ u v ws.
        qed 𝓛 (‵ (A.own_val u (v ∷ [])) ∷ ‵ (lasts_of κs (nums k) (all yes (nums k)) a.1.1 ws) ∷ raw (P a.1.1 (block_ptr b o) u) ∷ []) ∵
        let p = numbers 𝓛 0 k in move ! (1 ∷ []) $
        use1 𝓛 (‵ (has_of κs (nums k) (all yes (nums k)) p.stays a.1.1 ws vs) ⊛ raw (fact 𝓤 (fits_of κs (nums k) (all yes (nums k)) p.stays a.1.1 ws)))
        (p.leaves κs a.1.1 ws vs) $ split ! $ move ! (1 ∷ []) $ heard ! _ (λ fit.
        suffices ! _ (ends_at 𝓛 making ps.stays c (y (block_ptr b o)) v u (tt, (tt, ws)) (tt, (tt, fit))) $
        nothing ! $ fjoin ! $ nothing ! $ fjoin ! $ nothing ! $ group ! 3 $ done !))))
