-- The indices of the elements of pieces in their concatenation.
use Rattle.std.proofs.Common.{◌≡◌, ◌≤◌, ◌<◌, ◌+◌, ◌-◌, ◌*◌, ◌/◌, ◌%◌, ◌++◌, ◌∙◌, ℕ, List, [], ◌∷◌, None, Some, suc, zero, length, slice_get}
use Rattle.std.proofs.{Common.{Vec, reverse, vec_len, Option, Bor, refl, sym, ap, inl, inr, arith}, lemmas.List.length-append}
use Rattle.std.proofs.lemmas.{List.{length-reverse, append_assoc, Elements.{All-head, All-tail}}, Nat.{div-add-mod', mod-mul-add}}
use Rattle.std.{proofs.lemmas.Option.{slice_get_past, slice_get_read}, specs.{List.All, Option.{option_copied, unwrap_or}, Slice.IsItemAt}}
use Rattle.std.specs.declared.alloc.Global.{Global}
use Rattle.tp_base.specs.{Pieces.{joined, places, ArePieces, IsFull}, declared.history.TheConstants.PIECE}

module _ {X : Type 0} where
  pub item_at : (xs : List X) (i : ℕ) (found : Option (Bor X)) → IsItemAt xs i found → option_copied found ≡ slice_get xs i
  item_at xs i None h = sym (slice_get_past xs i h.3)
  item_at xs i (Some x) h = sym (slice_get_read xs (length xs) i x.now refl h.3.0 h.1)

  get_left : (xs ys : List X) (k : ℕ) → k < length xs → slice_get (xs ++ ys) k ≡ slice_get xs k
  get_left [] ys k h = absurd (omega arith)
  get_left (x ∷ xs) ys zero h = refl
  get_left (x ∷ xs) ys (suc k) h = get_left xs ys k (omega arith)

  get_right : (xs ys : List X) (i k : ℕ) → i ≡ length xs + k → slice_get (xs ++ ys) i ≡ slice_get ys k
  get_right [] ys i k e = let same : i ≡ k = omega arith in ap (slice_get ys) same
  get_right (x ∷ xs) ys zero k e = absurd (omega arith)
  get_right (x ∷ xs) ys (suc i) k e = get_right xs ys i k (omega arith)

  pub length_joined : (pieces : List (Vec X Global)) → All IsFull pieces → length (joined pieces) ≡ length pieces * PIECE
  length_joined [] h = refl
  length_joined (p ∷ ps) h =
      omega (arith, length-append p.items (joined ps), p.ok.0, All-head IsFull p ps h, length_joined ps (All-tail IsFull p ps h))

  -- the number of elements in all
  pub counted : (full : Vec (Vec X Global) Global) (last : Vec X Global) → All IsFull full.items
      → length (reverse (joined full.items ++ last.items)) ≡ vec_len full * PIECE + vec_len last
  counted full last h =
      omega (
        arith,
        length-reverse (joined full.items ++ last.items),
        length-append (joined full.items) last.items,
        length_joined full.items h,
        full.ok.0,
        last.ok.0,
      )

  -- The number of events and free places is a multiple of the size of a piece.
  pub whole_pieces : (full : Vec (Vec X Global) Global) (last : Vec X Global) (spare : Vec (Vec X Global) Global)
      → ArePieces full last spare → (length (reverse (joined full.items ++ last.items)) + places last spare) % 1024 ≡ 0
  whole_pieces full last spare h =
      let all = counted full last h.each in
      let within = last.ok.1 in
      elim h.room [
        | inl none ↦
            let same : length (reverse (joined full.items ++ last.items)) + places last spare ≡ (vec_len full + vec_len spare) * 1024 + 0 =
            omega (arith, all, within, none) in
            ap (λ n. n % 1024) same ∙ mod-mul-add (vec_len full + vec_len spare) 1024 0 (omega arith)
        | inr some ↦
            let same : length (reverse (joined full.items ++ last.items)) + places last spare
            ≡ (vec_len full + vec_len spare + 1) * 1024 + 0 = omega (arith, all, within, some) in
            ap (λ n. n % 1024) same ∙ mod-mul-add (vec_len full + vec_len spare + 1) 1024 0 (omega arith)
      ]

  at_piece-from : (pieces : List (Vec X Global)) (last : List X) (i j : ℕ) (p : Vec X Global)
      → All IsFull pieces → slice_get pieces i ≡ Some p → j < PIECE
      → slice_get (joined pieces ++ last) (i * PIECE + j) ≡ slice_get p.items j
  at_piece-from [] last i j p h is below = cc
  at_piece-from (q ∷ qs) last zero j p h is below =
      let long : length q.items ≡ PIECE = sym q.ok.0 ∙ All-head IsFull q qs h in
      let place : 0 * PIECE + j ≡ j = omega arith in
      ap (slice_get ((q.items ++ joined qs) ++ last)) place
      ∙ ap (λ m. slice_get m j) (append_assoc q.items (joined qs) last)
      ∙ get_left q.items (joined qs ++ last) j (omega (arith, long))
      ∙ ap (λ o. slice_get (unwrap_or o q).items j) is
  at_piece-from (q ∷ qs) last (suc i) j p h is below =
      let long : length q.items ≡ PIECE = sym q.ok.0 ∙ All-head IsFull q qs h in
      ap (λ m. slice_get m (suc i * PIECE + j)) (append_assoc q.items (joined qs) last)
      ∙ get_right q.items (joined qs ++ last) _ (i * PIECE + j) (omega (arith, long))
      ∙ at_piece-from qs last i j p (All-tail IsFull q qs h) is below

  pub at_piece : (pieces : List (Vec X Global)) (last : List X) (k : ℕ) (p : Vec X Global) → All IsFull pieces
      → slice_get pieces (k / PIECE) ≡ Some p → slice_get (joined pieces ++ last) k ≡ slice_get p.items (k % PIECE)
  at_piece pieces last k p h is =
      ap (slice_get (joined pieces ++ last)) (sym (div-add-mod' k PIECE))
      ∙ at_piece-from pieces last (k / PIECE) (k % PIECE) p h is (omega arith)

  pub at_last : (pieces : List (Vec X Global)) (last : List X) (k : ℕ) → All IsFull pieces → length pieces ≤ k / PIECE
      → slice_get (joined pieces ++ last) k ≡ slice_get last (k - length pieces * PIECE)
  at_last pieces last k h past = get_right (joined pieces) last k _ (omega (arith, length_joined pieces h, div-add-mod' k PIECE))
