-- Steps of the walks of calls on raw cells: between a borrow of all cells and the one cell at an address. Assumes `Logic`.
-- docs/PROOFS-OF-CELLS.md explains such a proof step by step.
pub mod CellsMemory
pub use CellsMemory.*
use denote.Memory.{part_of}

-- ---- the machine values that the arguments are passed as
module _ (E : El) where
  -- an address is passed as its one pointer
  pub address_is : (at : (Bs E).Denot) (vs : List Val) → Is (Bs E) at vs → vs ≡ word at.ptr ∷ []
  address_is at vs is = subst (λ (ws : List Val). vs ≡ vstruct (of_list (ws ++ [])) ∷ []) is.1.1.0 is.1.0

  -- an owner of cells is passed as the same value, whatever it owns
  pub owner_is : (vs : List Val) → Is (Mark E) (tt, tt) vs → vs ≡ mark ∷ []
  owner_is vs is = subst (λ (ws : List Val). vs ≡ vstruct (of_list (ws ++ [])) ∷ []) is.1.1.0.1.0 is.1.0

  -- a value of the cells' type is passed as one machine value of that type, which the value does not determine
  pub value_is : {M : Type 1} {𝓤 : Ura M} (𝓛 : Logic 𝓤) (x : (R E).Denot) (vs : List Val) → Is (R E) x vs
      → (v : Val) × (vs ≡ v ∷ []) × Good E v
  value_is 𝓛 x vs is = one E vs ((lawful E 𝓛).typed x vs is)

-- ---- the two parts of a borrow of the cells by `&mut`, and the token of its lifetime
module _ (E : El) where
  -- under the borrow's name the cells are now those of d
  abbrev pub seen : MutBor (Cr E).Denot → (Cr E).Denot → Fml
  seen r d = fobs r.ghost_name ((Cr E).coded.code d)

  -- while κ lasts, the holder of this may open it to the cells, and has to close it again
  abbrev pub borrow : MutBor (Cr E).Denot → Lft → Fml
  borrow r κ = fbor κ (Borrowed (mem (Cr E)) r.ref_ptr.0 r.ref_ptr.1 r.ghost_name)

  -- what is owed while it is open: with the cells as they are then, the borrow and its token are returned
  abbrev pub owed : MutBor (Cr E).Denot → Lft → Share → Fml
  owed r κ q = fobor κ q (Borrowed (mem (Cr E)) r.ref_ptr.0 r.ref_ptr.1 r.ghost_name)

  -- the cell of the local that holds an address
  abbrev pub kept_in : ℕ → Ptr → Fml
  kept_in b p = fat full_share (layout (Bs E)) b 0 (word p)

  -- what is left of the open cells while the i-th is reborrowed: the others, the owner's own value, and its address
  abbrev pub Around : MutBor (Cr E).Denot → ℕ → List Val → Fml
  Around r i vs = fsep (Besides E r.now.cells i)
      (fsep ((Mark E).own_val (tt, tt) vs) (mem_cell full_share (Cr E).mir vs r.ref_ptr.0 r.ref_ptr.1))

  -- when the value of the cell at p comes back as w, the cells are whole again, with w in that cell
  pub cell_returns : {M : Type 1} {𝓤 : Ura M} (𝓛 : Logic 𝓤) (r : MutBor (Cr E).Denot) (i : ℕ) (p : Ptr) (vs : List Val) (b o : ℕ)
      → p ≡ block_ptr b o → i < length r.now.cells → (w : el_x E)
      → ent 𝓤 (sep 𝓤 (sem 𝓛 ((mem (R E)).own_at w b o)) (sem 𝓛 (Around r i vs)))
      (sem 𝓛 ((mem (Cr E)).own_at (with_cells r.now (set r.now.cells i (p, Some w))) r.ref_ptr.0 r.ref_ptr.1))
  unfolding part_of
  cell_returns 𝓛 r i p vs b o e within w =
      let new = with_cells r.now (set r.now.cells i (p, Some w)) in
      qed 𝓛 (‵ (lies_at (R E) full_share (block_ptr b o) w) ∷ ‵ (Around r i vs) ∷ []) ∵
      rewrite ! 0 (λ (h : Ptr). ‵ (lies_at (R E) full_share h w)) (sym e) refl $ move ! (1 ∷ []) $ fsplit3 ! $ move ! (3 ∷ 0 ∷ []) $
      use2 𝓛 (‵ (cells_own (R E) new.cells)) (cell_in E 𝓛 r.now.cells i within (p, Some w)) $
      move ! (1 ∷ 0 ∷ []) $ fjoin ! $ move ! (1 ∷ 0 ∷ []) $ fjoin ! $
      fpack ! (List Val) (λ us. fsep (mem_cell full_share (Cr E).mir us r.ref_ptr.0 r.ref_ptr.1) ((Cr E).own_val new us)) vs $ done !

module _ {M : Type 1} {𝓤 : Ura M} {𝓛 : Logic 𝓤} {K : Type 0} {Γ : List (Item 𝓤)} where
  open 𝓛 use {H}

  -- the body is entered: the arguments are passed as these machine values
  pub enters : K → (C : Calls 𝓤 H) (Λ : Loops 𝓤 H) (f : Fn) {us : List Val} (vs : List Val) (Post : Val → SProp 𝓤) → us ≡ vs
      → Step K 𝓛 Γ (allocs f.locals (λ N. params' N vs (runs C Λ N f.body (at_ret N Post)))) Γ (prop (WpFn 𝓤 H C Λ f us Post))
  enters t C Λ f vs Post e =
      step (λ s. regoal t (λ (ws : List Val). prop (WpFn 𝓤 H C Λ f ws Post)) e refl $ enter t C Λ f vs Post $ s)

  module _ {G : Goal 𝓤 H} where
    -- of a `requires` that begins with the fact on the lifetime of the cells' type, the rest
    pub asked : K → (φ ψ : Type 0) → (ψ → Seq K 𝓛 Γ G) → Seq K 𝓛 (raw (sep 𝓤 (fact 𝓤 φ) (fact 𝓤 ψ)) ∷ Γ) G
    asked t φ ψ k = use1 𝓛 (raw (fact 𝓤 φ) ⊛ raw (fact 𝓤 ψ)) (id⊢ 𝓤 _) $ split t $ heard t φ (λ _. heard t ψ k)

    -- the same if an allocator's type comes second: the fact on its lifetime, and the rest
    pub asked_beside : K → (φ ψ χ : Type 0) → (ψ → χ → Seq K 𝓛 Γ G)
        → Seq K 𝓛 (raw (sep 𝓤 (fact 𝓤 φ) (sep 𝓤 (fact 𝓤 ψ) (fact 𝓤 χ))) ∷ Γ) G
    asked_beside t φ ψ χ k = use1 𝓛 (raw (fact 𝓤 φ) ⊛ raw (fact 𝓤 ψ) ⊛ raw (fact 𝓤 χ)) (id⊢ 𝓤 _) $
        split3 t $ heard t φ (λ _. heard t ψ (λ within. heard t χ (k within)))

    -- a fact that an `ensures` says
    pub told : K → (φ : Type 0) → φ → Step K 𝓛 (raw (fact 𝓤 φ) ∷ Γ) G Γ G
    told t φ x = use0 𝓛 (raw (fact 𝓤 φ)) (fact_i 𝓤 φ (emp 𝓤) x)

    -- two facts that an `ensures` says
    pub told_both : K → (φ ψ : Type 0) → φ → ψ → Step K 𝓛 (raw (sep 𝓤 (fact 𝓤 φ) (fact 𝓤 ψ)) ∷ Γ) G Γ G
    told_both t φ ψ x y = use0 𝓛 (raw (sep 𝓤 (fact 𝓤 φ) (fact 𝓤 ψ))) (via 𝓤 (sep 𝓤 (emp 𝓤) (emp 𝓤)) (emp∗ 𝓤 (emp 𝓤))
        (mono∗ 𝓤 (fact_i 𝓤 φ (emp 𝓤) x) (fact_i 𝓤 ψ (emp 𝓤) y)))

    module _ (E : El) where
      -- the own value of an owner or a deed is obtained from nothing: it takes no bytes
      pub mark_put : K → Step K 𝓛 (‵ ((Mark E).own_val (tt, tt) (mark ∷ [])) ∷ Γ) G Γ G
      mark_put t = use0 𝓛 (‵ ((Mark E).own_val (tt, tt) (mark ∷ []))) (mark_made E 𝓛)

      -- the owner of cells is created: its own value, and what it owns
      pub owner_made : K → (cells : List (Cell E)) → Step K 𝓛
          (‵ ((Cr E).own_val (record { mark = record {}; cells = cells }) (mark ∷ [])) ∷ Γ) G (‵ (cells_own (R E) cells) ∷ Γ) G
      owner_made t cells = step (λ s. use0 𝓛 (‵ ((Mark E).own_val (tt, tt) (mark ∷ []))) (mark_made E 𝓛) $ fjoin t $ s)

      module _ (r : MutBor (Cr E).Denot) {κ : Lft} {q : Share} where
        -- the borrow is opened: the cells, the owner's own value, its address, what is owed, and the name's two parts
        pub cells_opened : K → Soaks G → (d : (Cr E).Denot) → ((vs : List Val) → Seq K 𝓛
            (‵ (cells_own (R E) d.cells) ∷ ‵ ((Mark E).own_val (tt, tt) vs) ∷ ‵ (mem_cell full_share (Cr E).mir vs r.ref_ptr.0 r.ref_ptr.1)
            ∷ ‵ (owed E r κ q) ∷ ‵ (seen E r d) ∷ ‵ (fauth r.ghost_name ((Cr E).coded.code d)) ∷ Γ) G)
            → Seq K 𝓛 (‵ (seen E r d) ∷ ‵ (borrow E r κ) ∷ ‵ (flft κ q) ∷ Γ) G
        cells_opened t z d k =
            opens t z (Cr E) {h = d} r.ref_ptr.0 r.ref_ptr.1 (λ vs. move t (1 ∷ []) $ fsplit t $ move t (1 ∷ 0 ∷ 2 ∷ []) $ k vs)

        -- the borrow is closed at new cells
        pub cells_closed : K → Soaks G → (d : (Cr E).Denot) (cells : List (Cell E)) (vs : List Val) {u v : Gv} → Step K 𝓛
            (‵ (seen E r (with_cells d cells)) ∷ ‵ (borrow E r κ) ∷ ‵ (flft κ q) ∷ Γ) G
            (‵ (cells_own (R E) cells) ∷ ‵ ((Mark E).own_val (tt, tt) vs) ∷ ‵ (mem_cell full_share (Cr E).mir vs r.ref_ptr.0 r.ref_ptr.1)
            ∷ ‵ (owed E r κ q) ∷ ‵ (fobs r.ghost_name u) ∷ ‵ (fauth r.ghost_name v) ∷ Γ) G
        cells_closed t z d cells vs = step (λ s.
            move t (1 ∷ 0 ∷ []) $ fjoin t $ move t (1 ∷ 0 ∷ []) $ closes t z (Cr E) (with_cells d cells) vs r.ref_ptr.0 r.ref_ptr.1 $ s)

        -- the borrow is opened and one cell taken out of the list: first comes what owns that cell, then the others
        pub cell_opened : K → Soaks G → (d : (Cr E).Denot) (i : ℕ) (c : Cell E) → i < length d.cells → cell_at d.cells i ≡ c
            → ((vs : List Val) → Seq K 𝓛
            (‵ (One E c) ∷ ‵ (Besides E d.cells i)
            ∷ ‵ ((Mark E).own_val (tt, tt) vs) ∷ ‵ (mem_cell full_share (Cr E).mir vs r.ref_ptr.0 r.ref_ptr.1)
            ∷ ‵ (owed E r κ q) ∷ ‵ (seen E r d) ∷ ‵ (fauth r.ghost_name ((Cr E).coded.code d)) ∷ Γ) G)
            → Seq K 𝓛 (‵ (seen E r d) ∷ ‵ (borrow E r κ) ∷ ‵ (flft κ q) ∷ Γ) G
        cell_opened t z d i c within here k = cells_opened t z d (λ vs.
            use1 𝓛 (‵ (One E (cell_at d.cells i)) ⊛ ‵ (Besides E d.cells i)) (cell_out E 𝓛 d.cells i within) $ split t $
            rewrite t 0 (λ (x : Cell E). ‵ (One E x)) here refl $ k vs)

        -- the cell goes back into the list as c, and the borrow is closed: the list has c in its place
        pub cell_closed : K → Soaks G → (d : (Cr E).Denot) (i : ℕ) (c : Cell E) → i < length d.cells → (vs : List Val) {u v : Gv} → Step K 𝓛
            (‵ (seen E r (with_cells d (set d.cells i c))) ∷ ‵ (borrow E r κ) ∷ ‵ (flft κ q) ∷ Γ) G
            (‵ (One E c) ∷ ‵ (Besides E d.cells i)
            ∷ ‵ ((Mark E).own_val (tt, tt) vs) ∷ ‵ (mem_cell full_share (Cr E).mir vs r.ref_ptr.0 r.ref_ptr.1)
            ∷ ‵ (owed E r κ q) ∷ ‵ (fobs r.ghost_name u) ∷ ‵ (fauth r.ghost_name v) ∷ Γ) G
        cell_closed t z d i c within vs = step (λ s.
            use2 𝓛 (‵ (cells_own (R E) (set d.cells i c))) (cell_in E 𝓛 d.cells i within c) $
            cells_closed t z d (set d.cells i c) vs $ s)
