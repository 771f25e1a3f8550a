-- How a call on raw cells meets its contract: what it gets, and what it has to leave. Assumes `Logic`.
-- docs/PROOFS-OF-CELLS.md explains such a proof step by step.
pub mod CellSteps
pub use CellSteps.*
use Rattle.std.proofs.raw_atomic.Walks.{leaves}

module _ {n : ℕ} where
  -- of none of these parameters has the call anything left when it returns
  abbrev pub let_go : (ss : List (Slot n)) (ks : Kepts ss) → Stays ss ks
  let_go [] ks = tt
  let_go (s ∷ ss) ks = (stay_dropped s ks.0, let_go ss ks.1)

  -- and the contract says nothing of how it leaves them
  abbrev pub Unsaid : (ss : List (Slot n)) → Kepts ss → Type 0
  Unsaid [] ks = Unit {0}
  Unsaid (s ∷ ss) ks =
      ((κs : Lfts n) (x : (s.row κs).Denot) (f : Last ((s.row κs).exit ks.0) x) → T (blank (left ((s.row κs).exit ks.0) x f)))
      × Unsaid ss ks.1

  -- of what they end as, nothing is owed
  all_fit : (ss : List (Slot n)) (ks : Kepts ss) (κs : Lfts n) (a : Denots (types_at ss κs)) (ws : Fins κs ss ks a)
      → fits_of κs ss ks (let_go ss ks) a ws
  all_fit [] ks κs a ws = tt
  all_fit (s ∷ ss) ks κs a ws = (tt, all_fit ss ks.1 κs a.1 ws.1)

  module _ {M : Type 1} {𝓤 : Ura M} (𝓛 : Logic 𝓤) where
    -- so each is left as the contract says
    all_gone : (ss : List (Slot n)) (ks : Kepts ss) → Unsaid ss ks → AllGo 𝓛 n ss ks (let_go ss ks)
    all_gone [] ks u = tt
    all_gone (s ∷ ss) ks u = (Goes-blank 𝓛 n s ks.0 u.0, all_gone ss ks.1 u.1)

    -- and what the call has left of them is obtained without any
    nothing_left : (ss : List (Slot n)) (ks : Kepts ss) (κs : Lfts n) (a : Denots (types_at ss κs)) (ws : Fins κs ss ks a)
        (vss : Valss (types_at ss κs)) → ent 𝓤 (emp 𝓤) (sem 𝓛 (has_of κs ss ks (let_go ss ks) a ws vss))
    nothing_left [] ks κs a ws vss = id⊢ 𝓤 (emp 𝓤)
    nothing_left (s ∷ ss) ks κs a ws vss =
        let rest : SProp 𝓤 = sem 𝓛 (has_of κs ss ks.1 (let_go ss ks.1) a.1 ws.1 vss.1) in
        via 𝓤 rest (nothing_left ss ks.1 κs a.1 ws.1 vss.1) (emp∗ 𝓤 rest)

-- The contract of a call that returns no argument is met, once its walk is shown. The walk gets what the tokens, the
-- arguments' types and the `requires` own, and has to leave the tokens, the result and the `ensures`.
module _ {M : Type 1} {𝓤 : Ura M} (𝓛 : Logic 𝓤) (T : Ended) (c : Clauses 𝓤 T) (𝓜 : Model 𝓤 𝓛.H) (𝓡 : Running 𝓤 𝓛.H 𝓜) where
  open 𝓛 use {H}

  abbrev S : Signature
  S = T.signature

  abbrev 𝓣 : MachineTables 𝓤 H 𝓜
  𝓣 = tables 𝓤 H 𝓜 𝓡 𝓡.env

  abbrev gone : Stays S.params T.kept
  gone = let_go S.params T.kept

  pub takes_all : Unsaid S.params T.kept → (k : Callee) (e : Fn) → Closed 𝓤 H 𝓣.C 𝓣.Λ k e
      → ((κs : Lfts S.lifetimes) (qs : Shares S.lifetimes) (bounds : AllOutlive S.lifetimes S.outlives κs)
      (a : Args S κs) (vss : Vals S κs) (g : (c κs a).ghost)
      → Are (types_at S.params κs) (Ises (types_at S.params κs)) a vss → (Post : Val → SProp 𝓤)
      → ((v : Val) (r : Res S κs) (ws : Lasts T κs a) → ent 𝓤
      (⋆ 𝓛 (raw (alive 𝓛 S κs qs) ∷ ‵ ((type_at S.result κs).own_val r (v ∷ [])) ∷ raw ((c κs a).ensures g r (at_exit T κs a ws)) ∷ []))
      (Post v))
      → Sq 𝓛 (raw (alive 𝓛 S κs qs) ∷ ‵ (owns (types_at S.params κs) a vss) ∷ raw ((c κs a).requires g) ∷ [])
      (prop (WpFn 𝓤 H 𝓣.C 𝓣.Λ e (flat (types_at S.params κs) vss) Post)))
      → Meets 𝓛 S (𝓣.C k) (closing 𝓛 T c)
  takes_all unsaid k e closed walk =
      proved_at 𝓛 T gone c 𝓜 𝓡 (all_gone 𝓛 S.params T.kept unsaid) k e closed (λ y are.
      let κs = y.0.0 in let qs = y.0.1 in let a = y.0.3 in let vss = y.0.4 in
      qed 𝓛 ((raw (alive 𝓛 S κs qs) ⊛ ‵ (owns (types_at S.params κs) a vss)) ∷ raw ((c κs a).requires y.1) ∷ []) ∵ split ! $
      walk κs qs y.0.2 a vss y.1 are ((walk_of 𝓛 T gone c).post y) (λ v r ws.
      qed 𝓛 (raw (alive 𝓛 S κs qs) ∷ ‵ ((type_at S.result κs).own_val r (v ∷ []))
      ∷ raw ((c κs a).ensures y.1 r (at_exit T κs a ws)) ∷ []) ∵
      use0 𝓛 (‵ (has_of κs S.params T.kept gone a ws vss)) (nothing_left 𝓛 S.params T.kept κs a ws vss) $ move ! (1 ∷ 0 ∷ []) $
      by ! (leaves 𝓛 T gone c y v r ws (all_fit S.params T.kept κs a ws))))

-- A call that borrows the cells by `&mut` and has further parameters ss. It returns nothing of these.
module _ (E : El) (outlives : List (Outlives 2)) (ss : List (Slot 2)) (ks : Kepts ss) (res : Slot 2) where
  abbrev pub Lent : Ended
  Lent = record {
    signature = record {
      lifetimes = 2;
      outlives = outlives;
      params = RefMutOf (0 ∷ []) tt (plain (λ _. Cr E)) (λ _. tt) ∷ ss;
      result = res;
    };
    kept = (yes, ks);
  }

  module _ {M : Type 1} {𝓤 : Ura M} (𝓛 : Logic 𝓤) (c : Clauses 𝓤 Lent) (𝓜 : Model 𝓤 𝓛.H) (𝓡 : Running 𝓤 𝓛.H 𝓜) where
    open 𝓛 use {H}

    abbrev B : Signature
    B = Lent.signature

    abbrev 𝓑 : MachineTables 𝓤 H 𝓜
    𝓑 = tables 𝓤 H 𝓜 𝓡 𝓡.env

    abbrev held : Stays B.params Lent.kept
    held = (stay_ref (0 ∷ []) tt (plain (λ _. Cr E)), let_go ss ks)

    -- Its contract is met, once its walk is shown. The walk gets the borrow of the cells, the tokens, and what the
    -- other arguments and the `requires` own, and has to leave the borrow at the new cells, the tokens, the result and
    -- the `ensures`.
    pub gives_back : Unsaid ss ks → (k : Callee) (e : Fn) → Closed 𝓤 H 𝓑.C 𝓑.Λ k e
        → ((κs : Lfts 2) (qs : Shares 2) (a : Args B κs) (vss : Vals B κs) (g : (c κs a).ghost) → vss.0 ≡ mut_vals a.0
        → Are (types_at ss κs) (Ises (types_at ss κs)) a.1 vss.1 → (Post : Val → SProp 𝓤)
        → ((v : Val) (r : Res B κs) (new : (Cr E).Denot) (ws : Fins κs ss ks a.1) → ent 𝓤
        (⋆ 𝓛 (‵ (seen E a.0 new) ∷ ‵ (borrow E a.0 κs.0) ∷ ‵ (flft κs.0 qs.0) ∷ ‵ (flft κs.1.0 qs.1.0)
        ∷ ‵ ((type_at res κs).own_val r (v ∷ [])) ∷ raw ((c κs a).ensures g r (at_exit Lent κs a (new, ws))) ∷ []))
        (Post v))
        → Sq 𝓛 (‵ (seen E a.0 a.0.now) ∷ ‵ (borrow E a.0 κs.0) ∷ ‵ (flft κs.0 qs.0) ∷ ‵ (flft κs.1.0 qs.1.0)
        ∷ ‵ (owns (types_at ss κs) a.1 vss.1) ∷ raw ((c κs a).requires g) ∷ [])
        (prop (WpFn 𝓤 H 𝓑.C 𝓑.Λ e (flat (types_at B.params κs) vss) Post)))
        → Meets 𝓛 B (𝓑.C k) (closing 𝓛 Lent c)
    gives_back unsaid k e closed walk =
        proved_at 𝓛 Lent held c 𝓜 𝓡 (Goes-ref 𝓛 2 0 tt (plain (λ _. Cr E)), all_gone 𝓛 ss ks unsaid) k e closed (λ y are.
        let κs = y.0.0 in let qs = y.0.1 in let a = y.0.3 in let vss = y.0.4 in
        qed 𝓛 (((‵ (flft κs.0 qs.0) ⊛ ‵ (flft κs.1.0 qs.1.0) ⊛ ‵ ftrue) ⊛ ‵ (owns (types_at B.params κs) a vss))
        ∷ raw ((c κs a).requires y.1) ∷ []) ∵
        split ! $ move ! (1 ∷ []) $ fsplit ! $ fsplit3 ! $ skip ! $ move ! (3 ∷ []) $ split3 ! $ keep ! (3 ∷ 4 ∷ 0 ∷ 1 ∷ 5 ∷ 6 ∷ []) $
        walk κs qs a vss y.1 are.0.0 are.1 ((walk_of 𝓛 Lent held c).post y) (λ v r new ws.
        qed 𝓛 (‵ (seen E a.0 new) ∷ ‵ (borrow E a.0 κs.0) ∷ ‵ (flft κs.0 qs.0) ∷ ‵ (flft κs.1.0 qs.1.0)
        ∷ ‵ ((type_at res κs).own_val r (v ∷ [])) ∷ raw ((c κs a).ensures y.1 r (at_exit Lent κs a (new, ws))) ∷ []) ∵
        feq_i ! (List Val) vss.0 (mut_vals a.0) are.0.0 $ fjoin3 ! $
        use0 𝓛 (‵ (has_of κs ss ks (let_go ss ks) a.1 ws vss.1)) (nothing_left 𝓛 ss ks κs a.1 ws vss.1) $ move ! (1 ∷ 0 ∷ []) $ fjoin ! $
        nothing ! $ move ! (2 ∷ 3 ∷ 0 ∷ []) $ group ! 3 $
        by ! (leaves 𝓛 Lent held c y v r (new, ws) (tt, all_fit ss ks κs a.1 ws))))
