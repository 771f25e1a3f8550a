-- How a `&` to the cells is created, that it obeys the laws of a `&`, and that cells may cross threads. Assumes `Logic`.
pub mod Words
pub use Words.*
use denote.Exit.{leaves}

module _ (R : RattleType) (L : RowLaws R) where
  cell_lent_laws : (p : Ptr) (c : Option R.Denot) → ShrLaws (cell_lent R p c)
  cell_lent_laws p (Some x) = lent_at_shr_laws R L p x
  cell_lent_laws p None = nothing_shr_laws

  pub cells_lent_laws : (cs : List (Ptr × Option R.Denot)) → ShrLaws (cells_lent R cs)
  cells_lent_laws [] = nothing_shr_laws
  cells_lent_laws (c ∷ cs) = beside_shr_laws _ _ (cell_lent_laws c.0 c.1) (cells_lent_laws cs)

module _ {M : Type 1} {𝓤 : Ura M} (𝓛 : Logic 𝓤) (l : Lft) (R : RattleType) (L : Laws R) (inc : Incl l R.lives) where
  Lends-cell : (p : Ptr) (c : Option R.Denot) → Lends 𝓛 (cell_owns R p c) (cell_lent R p c) l
  Lends-cell p (Some x) = Lends-lies 𝓛 R l p x (Shares-less 𝓛 R R.lives l inc (L.shares 𝓛) x)
  Lends-cell p None = Lends-nothing 𝓛 (cell_owns R p None) l

  pub Lends-cells : (cs : List (Ptr × Option R.Denot)) → Lends 𝓛 (cells_own R cs) (cells_lent R cs) l
  Lends-cells [] = Lends-nothing 𝓛 ftrue l
  Lends-cells (c ∷ cs) = Lends-both 𝓛 (cell_owns R c.0 c.1) (cells_own R cs) (cell_lent R c.0 c.1) (cells_lent R cs) l
      (Lends-cell c.0 c.1) (Lends-cells cs)

-- ==== Raw cells may cross threads as their values and their allocator may.

quiet : {D X : Type 0} (to : D → X) (e : Exit X) → Quiet e → Quiet (hidden (under to e))
quiet to unchanged q = λ x w. tt
quiet to (leaves L l S s r₀) q = λ d. q (to d)

room : (τ : Ty) (p : Ptr) → Keyless (room_for τ p)
room τ (block_ptr b o) = tt
room τ null_ptr = tt

inside : (p : Ptr) (F : Fml) → Keyless F → Keyless (in_block p F)
inside (block_ptr b o) F k = k
inside null_ptr F k = tt

module _ (R : RattleType) where
  lies : IsSend R → (p : Ptr) (x : R.Denot) → Keyless (lies_at R full_share p x)
  lies s (block_ptr b o) x = part_keyless R s full_share x b o
  lies s null_ptr x = tt

  seen : IsSync R → (p : Ptr) (x : R.Denot) → Common (lent_at R p x)
  seen s p x κ = (inside p ftrue tt, s.shared x (block_of p) (count_of p) κ)

  cells-Keyless : IsSend R → (cs : List (Ptr × Option R.Denot)) → Keyless (cells_own R cs)
  cells-Keyless s [] = tt
  cells-Keyless s ((p, Some x) ∷ cs) = (lies s p x, cells-Keyless s cs)
  cells-Keyless s ((p, None) ∷ cs) = (room _ p, cells-Keyless s cs)

  cells_lent-Common : IsSync R → (cs : List (Ptr × Option R.Denot)) → Common (cells_lent R cs)
  cells_lent-Common y [] κ = tt
  cells_lent-Common y ((p, Some x) ∷ cs) κ = (seen y p x κ, cells_lent-Common y cs κ)
  cells_lent-Common y ((p, None) ∷ cs) κ = (tt, cells_lent-Common y cs κ)

  pub Cells-send : IsSend R → IsSend (Cells.the_row R)
  Cells-send s =
      let O = Cells.the_type R in let all : AllSend (fields O) = (search sendable, tt) in
      owning_send O all (λ d. cells-Keyless s d.cells) (λ k. quiet (to O) (exits_of k (fields O)) ((struct_send (shape O) all).leaving k))

  pub Cells-sync : IsSync R → IsSync (Cells.the_row R)
  Cells-sync y = let O = Cells.the_type R in record {
    shared = λ d b o κ. ((struct_sync (shape O) (search sendable, tt)).shared (to O d) b o κ, cells_lent-Common y d.cells κ);
  }

  module _ (A : RattleType) (g : Ghosts A.Denot) where
    pub Deed-send : Frees g g.dealloc_token → IsSend (Deed.the_row R A g)
    Deed-send f =
        let O = Deed.the_type R A g in let all : AllSend (fields O) = (search sendable, tt) in
        owning_send O all (λ d. (f.frees d.alloc _ d.at, (tt, tt)))
        (λ k. quiet (to O) (exits_of k (fields O)) ((struct_send (shape O) all).leaving k))

    pub Deed-sync : IsSync (Deed.the_row R A g)
    Deed-sync = let O = Deed.the_type R A g in record {
      shared = λ d b o κ. ((struct_sync (shape O) (search sendable, tt)).shared (to O d) b o κ, tt);
    }
