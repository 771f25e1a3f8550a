-- The layout of a block of cells. Assumes `Logic`.
pub mod CellsSharing
pub use CellsSharing.*

-- if the product fits a word, the count is zero or the size fits too
pub uncapped : (i k : ℕ) → i * k < 2 ^ 64 → i * capped k ≡ i * k
uncapped zero k h = zero-mul (capped k) ∙ sym (zero-mul k)
uncapped (suc i) k h = let up = suc-mul i k in ap (λ (j : ℕ). suc i * j) (capped_is k (omega arith))

module _ (E : El) where
  -- the bytes from one cell of a row to the next
  abbrev pub sz : ℕ
  sz = type_size (R E)

  -- the addresses of this many cells next to each other
  abbrev pub pointers_from : Ptr → ℕ → List Ptr
  pointers_from p zero = []
  pointers_from p (suc n) = p ∷ pointers_from (p +ₚ sz) n

  -- a row of empty cells is the empty cells at its addresses
  pub row_is : (p : Ptr) (n : ℕ) → row_from (R E) p n ≡ empty_at (pointers_from p n)
  row_is p zero = refl
  row_is p (suc n) = ap (λ l. (p, None) ∷ l) (row_is (p +ₚ sz) n)

  -- the type that a block of n cells is allocated for
  abbrev pub block_ty : ℕ → Ty
  block_ty n = bare (ty_array (elτ E) n)

  -- its bytes, if they fit a word
  pub block_size : (n : ℕ) → n * sz < 2 ^ 64 → capped (size (block_ty n)) ≡ n * sz
  block_size n fits = ap capped (size-raw (ty_array (elτ E) n)) ∙ capped_is (n * sz) fits

  -- its alignment is that of one cell
  pub block_align : (n : ℕ) → capped (align (block_ty n)) ≡ capped (align (elτ E))
  block_align n = ap capped (align-raw (ty_array (elτ E) n))

module _ (E : El) (Z : Al) where
  abbrev pub block_args : MirArgs
  block_args = bounded (a_type ∷ a_type ∷ []) (E.row, (Z.row, tt)) (dcons Z.d (dcons Z.drops dnil))

  abbrev pub P : RattleType
  P = param 1 Z.row

module _ (E : El) {M : Type 1} {𝓤 : Ura M} (𝓛 : Logic 𝓤) (b : ℕ) where
  open 𝓛 use {H}

  -- room for an array is a row of empty cells
  pub of_room : (n o : ℕ) → ent 𝓤 (H.room (ty_array (elτ E) n) b o) (sem 𝓛 (cells_own (R E) (row_from (R E) (block_ptr b o) n)))
  of_room zero o = qed 𝓛 (‵ (froom (ty_array (elτ E) 0) b o) ∷ []) ∵ keep ! [] $ done !
  of_room (suc n) o = qed 𝓛 (‵ (froom (ty_array (elτ E) (suc n)) b o) ∷ []) ∵
      use1 𝓛 (‵ (froom (elτ E) b o) ⊛ ‵ (froom (ty_array (elτ E) n) b (o + sz E))) (𝓛.laws.room_uncons (elτ E) n b o) $ split ! $
      use1 𝓛 (‵ (cell_owns (R E) (block_ptr b o) None)) (𝓛.laws.room-raw (elτ E) b o) $ frame ! $ by ! (of_room n (o + sz E))

  -- and a row of empty cells is room for an array
  pub to_room : (n o : ℕ) → ent 𝓤 (sem 𝓛 (cells_own (R E) (row_from (R E) (block_ptr b o) n))) (H.room (ty_array (elτ E) n) b o)
  to_room zero o = 𝓛.laws.room_nil (elτ E) b o
  to_room (suc n) o =
      qed 𝓛 (‵ (cell_owns (R E) (block_ptr b o) None) ∷ ‵ (cells_own (R E) (row_from (R E) (block_ptr b (o + sz E)) n)) ∷ []) ∵
      use1 𝓛 (‵ (froom (elτ E) b o)) (𝓛.laws.raw-room (elτ E) b o) $ move ! (1 ∷ []) $
      use1 𝓛 (‵ (froom (ty_array (elτ E) n) b (o + sz E))) (to_room n (o + sz E)) $ move ! (1 ∷ []) $ by ! (𝓛.laws.room_cons (elτ E) n b o)

  -- a block that is not empty is not at the null address
  pub no_block : (n : ℕ) → 0 < n → ent 𝓤 (sem 𝓛 (cells_own (R E) (row_from (R E) null_ptr n))) (never 𝓤)
  no_block zero lt = absurd (omega arith)
  no_block (suc n) lt = fst∗ 𝓤 (never 𝓤) (sem 𝓛 (cells_own (R E) (row_from (R E) null_ptr n)))
