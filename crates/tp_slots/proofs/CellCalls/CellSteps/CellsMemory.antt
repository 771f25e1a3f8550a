-- What the walks of the functions on raw cells share. Assumes `Logic`.
--     cell_out, cell_in, cell_seen      one cell is taken out of the row, put back, or seen
pub mod CellsLeases
pub use CellsLeases.*
pub use Rattle.tp_slots.proofs.Lemmas.Naming.Moves.Keeping.Lists.{full_inside}

module _ (E : El) where
  -- the type of an owner of cells
  abbrev pub Cr : RattleType
  Cr = Cells.the_row (R E)

  -- the type of an address
  abbrev pub Bs : RattleType
  Bs = At.the_row (R E)

  -- the one field of `Cells`, which takes no bytes
  abbrev pub Mark : RattleType
  Mark = Struct (shape (Cells.the_type (R E)))

  -- a cell as the lists have it: its address, and its value if it is full
  abbrev pub Cell : Type 0
  Cell = Ptr × Option (el_x E)

  -- the permission of one cell
  abbrev pub One : Cell → Fml
  One c = cell_owns (R E) c.0 c.1

abbrev one_field : Shape
one_field = record { name = []; args = []; types = []; fields = RawPtr ∷ [] }

-- a struct of one pointer
abbrev pub Word : RattleType
Word = Struct one_field

-- the machine value of an owner, and of a deed
abbrev pub mark : Val
mark = vstruct (vcons (vstruct vnil) vnil)

-- it owns nothing, so it is created from nothing
pub mark_made : (E : El) {M : Type 1} {𝓤 : Ura M} (𝓛 : Logic 𝓤) → ent 𝓤 (emp 𝓤) (sem 𝓛 ((Mark E).own_val (tt, tt) (mark ∷ [])))
mark_made E 𝓛 = makes_shadow 𝓛 ((Mark E).own_val (tt, tt) (mark ∷ [])) (λ vss. (tt, ((λ uss. (tt, tt)), tt))) (
  (vstruct vnil ∷ [], tt),
  (refl, ((tt, (refl, tt)), tt)),
)

module _ {M : Type 1} {𝓤 : Ura M} {𝓛 : Logic 𝓤} {K : Type 0} {Γ : List (Item 𝓤)} {G : Goal 𝓤 𝓛.H} where
  -- an address by value is its one pointer, and owns nothing
  pub word_made : K → (c : Ptr) → Step K 𝓛 (‵ (Word.own_val (c, tt) (word c ∷ [])) ∷ Γ) G Γ G
  word_made t c = step (λ s.
      nothing t $ feq_i t (List Val) (ptr_val c ∷ []) (ptr_val c ∷ []) refl $ fjoin t $
      feq_i t (List Val) (word c ∷ []) (word c ∷ []) refl $ fjoin t $
      fpack t (Valss (RawPtr ∷ [])) (within one_field (c, tt) (word c ∷ [])) (ptr_val c ∷ [], tt) $ s)

module _ (i : ℕ) (Y : RattleType) (L : Laws Y) {M : Type 1} {𝓤 : Ura M} (𝓛 : Logic 𝓤) where
  open 𝓛 use {H}

  -- a value at an address is memory with a machine value, of its type, and separately what the value owns
  pub value_out : (x : Y.Denot) (b o : ℕ) → ent 𝓤 (sem 𝓛 (part_at (param i Y) full_share x b o))
      (ex 𝓤 (λ (v : Val). guard 𝓤 (IsGood (layout Y) v) (sep 𝓤 (H.at full_share (layout Y) b o v) (sem 𝓛 (Y.own_val x (v ∷ []))))))
  value_out x b o = qed 𝓛 (‵ (part_at (param i Y) full_share x b o) ∷ []) ∵
      use1 𝓛 (some (λ (v : Val). ‵ (fat full_share (layout Y) b o v) ⊛ ‵ (Y.own_val x (v ∷ []))))
      (part_out 𝓛 (param i Y) refl full_share x b o) $ pick ! (λ v. split ! $ move ! (1 ∷ []) $
      peeks ! (param i Y) (Is (param i Y)) (shows 𝓛 (param i Y)) x (v ∷ []) (λ p.
      show ! (λ (w : Val). guard 𝓤 (IsGood (layout Y) w) (sep 𝓤 (H.at full_share (layout Y) b o w) (sem 𝓛 (Y.own_val x (w ∷ []))))) v
      $ check ! (((param_laws i Y L).lawful 𝓛).typed x (v ∷ []) p).0 $ move ! (1 ∷ 0 ∷ []) $ done !))

  -- and back
  pub value_in : (x : Y.Denot) (b o : ℕ) (v : Val) → ent 𝓤 (sep 𝓤 (H.at full_share (layout Y) b o v) (sem 𝓛 (Y.own_val x (v ∷ []))))
      (sem 𝓛 (part_at (param i Y) full_share x b o))
  value_in x b o v = part_in 𝓛 (param i Y) refl full_share x b o v

-- the machine value of a triple
abbrev pub three_val : Val → Val → Val → Val
three_val u v w = vstruct (vcons u (vcons v (vcons w vnil)))

-- a triple owns what its three parts own
pub three_of : {M : Type 1} {𝓤 : Ura M} (𝓛 : Logic 𝓤) (R S T : RattleType) (x : R.Denot) (y : S.Denot) (z : T.Denot) (u v w : Val)
    → ent 𝓤 (sep 𝓤 (sem 𝓛 (R.own_val x (u ∷ []))) (sep 𝓤 (sem 𝓛 (S.own_val y (v ∷ []))) (sem 𝓛 (T.own_val z (w ∷ [])))))
    (sem 𝓛 ((Tuple (R ∷ S ∷ T ∷ [])).own_val (x, y, z) (three_val u v w ∷ [])))
three_of 𝓛 R S T x y z u v w =
    qed 𝓛 (‵ (R.own_val x (u ∷ [])) ∷ ‵ (S.own_val y (v ∷ [])) ∷ ‵ (T.own_val z (w ∷ [])) ∷ []) ∵ nothing ! $ move ! (3 ∷ 0 ∷ []) $
    fjoin ! $ move ! (2 ∷ 0 ∷ []) $ fjoin ! $ move ! (1 ∷ 0 ∷ []) $ fjoin ! $
    feq_i ! (List Val) (three_val u v w ∷ []) (three_val u v w ∷ []) refl $ fjoin ! $
    fpack ! (Valss (R ∷ S ∷ T ∷ [])) (within (Declared.shape (tuple_type (R ∷ S ∷ T ∷ []))) (x, (y, (z, tt))) (three_val u v w ∷ []))
    (u ∷ [], (v ∷ [], (w ∷ [], tt))) $ done !

module _ (E : El) where
  -- the cells but for the i-th
  abbrev pub Besides : List (Cell E) → ℕ → Fml
  Besides [] i = ftrue
  Besides (c ∷ cs) zero = cells_own (R E) cs
  Besides (c ∷ cs) (suc i) = fsep (One E c) (Besides cs i)

module _ (E : El) {M : Type 1} {𝓤 : Ura M} (𝓛 : Logic 𝓤) where
  -- the permission of the i-th cell is taken out of the list
  pub cell_out : (cs : List (Cell E)) (i : ℕ) → i < length cs
      → ent 𝓤 (sem 𝓛 (cells_own (R E) cs)) (sep 𝓤 (sem 𝓛 (One E (cell_at cs i))) (sem 𝓛 (Besides E cs i)))
  cell_out [] i lt = absurd (omega arith)
  cell_out (c ∷ cs) zero lt = id⊢ 𝓤 _
  cell_out (c ∷ cs) (suc i) lt = qed 𝓛 (‵ (cells_own (R E) (c ∷ cs)) ∷ []) ∵ fsplit ! $ move ! (1 ∷ []) $
      use1 𝓛 (‵ (One E (cell_at cs i)) ⊛ ‵ (Besides E cs i)) (cell_out cs i (omega arith)) $ split ! $ move ! (2 ∷ 1 ∷ []) $ fjoin ! $
      move ! (1 ∷ []) $ done !

  -- it goes back in its place, as the permission of a cell c: the list has c there
  pub cell_in : (cs : List (Cell E)) (i : ℕ) → i < length cs → (c : Cell E)
      → ent 𝓤 (sep 𝓤 (sem 𝓛 (One E c)) (sem 𝓛 (Besides E cs i))) (sem 𝓛 (cells_own (R E) (set cs i c)))
  cell_in [] i lt c = absurd (omega arith)
  cell_in (x ∷ cs) zero lt c = id⊢ 𝓤 _
  cell_in (x ∷ cs) (suc i) lt c = qed 𝓛 (‵ (One E c) ∷ ‵ (Besides E (x ∷ cs) (suc i)) ∷ []) ∵ move ! (1 ∷ []) $ fsplit ! $
      move ! (2 ∷ 1 ∷ []) $
      use2 𝓛 (‵ (cells_own (R E) (set cs i c))) (cell_in cs i (omega arith) c) $ move ! (1 ∷ 0 ∷ []) $ fjoin ! $ done !

  -- a `&` to the cells borrows the i-th cell
  pub cell_seen : (κ : Lft) (cs : List (Cell E)) (i : ℕ) → i < length cs
      → ent 𝓤 (sem 𝓛 (cells_lent (R E) cs κ)) (sem 𝓛 (cell_lent (R E) (cell_at cs i).0 (cell_at cs i).1 κ))
  cell_seen κ [] i lt = absurd (omega arith)
  cell_seen κ (c ∷ cs) zero lt = fst∗ 𝓤 _ (sem 𝓛 (cells_lent (R E) cs κ))
  cell_seen κ (c ∷ cs) (suc i) lt = via 𝓤 _ (snd∗ 𝓤 (sem 𝓛 (cell_lent (R E) c.0 c.1 κ)) _) (cell_seen κ cs i (omega arith))

  -- the owner of two lists of cells owns the one after the other
  pub cells_glue : (xs ys : List (Cell E)) → ent 𝓤 (sep 𝓤 (sem 𝓛 (cells_own (R E) xs)) (sem 𝓛 (cells_own (R E) ys)))
      (sem 𝓛 (cells_own (R E) (xs ++ ys)))
  cells_glue [] ys = qed 𝓛 (‵ ftrue ∷ ‵ (cells_own (R E) ys) ∷ []) ∵ skip ! $ done !
  cells_glue (x ∷ xs) ys = qed 𝓛 (‵ (cells_own (R E) (x ∷ xs)) ∷ ‵ (cells_own (R E) ys) ∷ []) ∵ fsplit ! $ move ! (1 ∷ 2 ∷ []) $
      use2 𝓛 (‵ (cells_own (R E) (xs ++ ys))) (cells_glue xs ys) $ move ! (1 ∷ 0 ∷ []) $ fjoin ! $ done !

  -- the owner of a list of cells owns its first n and the rest
  pub cells_cut : (n : ℕ) (cs : List (Cell E)) → ent 𝓤 (sem 𝓛 (cells_own (R E) cs))
      (sep 𝓤 (sem 𝓛 (cells_own (R E) (take n cs))) (sem 𝓛 (cells_own (R E) (drop n cs))))
  cells_cut zero cs = qed 𝓛 (‵ (cells_own (R E) cs) ∷ []) ∵ nothing ! $ done !
  cells_cut (suc n) [] = qed 𝓛 (‵ ftrue ∷ []) ∵ nothing ! $ done !
  cells_cut (suc n) (c ∷ cs) = qed 𝓛 (‵ (cells_own (R E) (c ∷ cs)) ∷ []) ∵ fsplit ! $ move ! (1 ∷ []) $
      use1 𝓛 (‵ (cells_own (R E) (take n cs)) ⊛ ‵ (cells_own (R E) (drop n cs))) (cells_cut n cs) $ split ! $ move ! (2 ∷ 0 ∷ []) $
      fjoin ! $ done !
