-- A row of sums that is computed part by part.
pub mod Added
pub use Added.*

module _ (order : ℕ) (lefts rights : List ℤ) (x y start side : ℕ) where
  -- a row with no product more
  pub row_of_none : (sums : List ℤ) → length sums ≡ side → gather side (row_entry order lefts rights x y start 0 sums) ≡ Some sums
  row_of_none sums long = gather-is side (row_entry order lefts rights x y start 0 sums) sums (pos 0) long (λ n h. refl)

  -- a row with one product more
  pub row_of_one : (left : ℤ) (sums right : List ℤ) → length right ≡ side → left ≡ entry order lefts x start
      → ((n : ℕ) → n < side → get_or right n (pos 0) ≡ entry order rights start (y + n)) →
      gather side (row_entry order lefts rights x y start 1 sums) ≡ gather (length right) (one_more sums left right)
  row_of_one left sums right long left_is right_is =
      let place : start ≡ start + 0 = omega arith in
      let each : (n : ℕ) → n < side → row_entry order lefts rights x y start 1 sums n ≡ one_more sums left right n =
      λ n h.
      let product : left *ℤ get_or right n (pos 0) ≡ term order lefts rights x (y + n) (start + 0) =
      ap (λ b. left *ℤ b) (right_is n h) ∙ ap (λ a. a *ℤ entry order rights start (y + n)) left_is
      ∙ ap (term order lefts rights x (y + n)) place in
      running_more (get_or sums n (pos 0)) start 0 (term order lefts rights x (y + n)) (get_or sums n (pos 0))
      (left *ℤ get_or right n (pos 0)) (one_more sums left right n) refl product refl in
      gather-same side (row_entry order lefts rights x y start 1 sums) (one_more sums left right) each
      ∙ ap (λ n. gather n (one_more sums left right)) (sym long)

  -- a row whose sums continue from where they were
  pub rows_joined : (some later : ℕ) (before sums : List ℤ) → gather side (row_entry order lefts rights x y start some before) ≡ Some sums
      → gather side (row_entry order lefts rights x y start (some + later) before)
      ≡ gather side (row_entry order lefts rights x y (start + some) later sums)
  rows_joined some later before sums made =
      let all = gathered side (row_entry order lefts rights x y start some before) sums (pos 0) made in
      gather-same side (row_entry order lefts rights x y start (some + later) before)
      (row_entry order lefts rights x y (start + some) later sums)
      (λ n h. running_joined (get_or before n (pos 0)) start some later (term order lefts rights x (y + n)) (get_or sums n (pos 0))
      (all.1 n h))

  -- a row that has failed stays so
  pub row_stays : (some later : ℕ) (before : List ℤ) → gather side (row_entry order lefts rights x y start some before) ≡ None
      → some ≤ later → gather side (row_entry order lefts rights x y start later before) ≡ None
  row_stays some later before failed h =
      let lack = gather_lacks side (row_entry order lefts rights x y start some before) failed in
      gather_fails side lack.0 (row_entry order lefts rights x y start later before) lack.1
      (none_stays (get_or before lack.0 (pos 0)) start some later (term order lefts rights x (y + lack.0)) lack.2 h)
