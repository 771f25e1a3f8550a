-- The lists of first links.
use Rattle.std.proofs.Common.{List, ℕ, zero, suc, ◌+◌, ◌*◌, ◌≡◌, ◌≢◌, ◌<◌, ◌≤◌, ◌==◌, [], ◌∷◌, ◌++◌, get_or, length, length-append}
use Rattle.std.proofs.{Common.{append-nil, not, map, filter, refl, sym, ap, ◌∙◌, add-one, arith, inl, inr}, lemmas.Bool.{eq-eqb, ne_eqb}}
use Rattle.std.proofs.lemmas.{Bool.{cases_eq, cases_lt}, Grind.flat_map-append, List.{map-append, Elements.{All-append, All-cons}}}
use Rattle.std.{proofs.lemmas.List.{Elements.filter-append, FromFn.{get_or-map-range_with_len, length-map-range_with_len}}, specs.List.All}
use Rattle.std.specs.List.{flat_map, range_with_len}
use Rattle.tp_board.specs.Numbers.{LinkNumbers, ShareNumbers, empty_link, first_links, first_numbers, first_shares, links_of}

range_from : (a n : ℕ) → range_with_len a (suc n) ≡ range_with_len a n ++ (a + n) ∷ []
range_from a zero = ap (λ k. k ∷ []) (omega arith)
range_from a (suc n) = ap (λ ks. a ∷ ks) (range_from (a + 1) n ∙ ap (λ k. range_with_len (a + 1) n ++ k ∷ []) (omega arith))

range_more : (n : ℕ) → range_with_len 0 (suc n) ≡ range_with_len 0 n ++ n ∷ []
range_more n = range_from 0 n ∙ ap (λ k. range_with_len 0 n ++ k ∷ []) (omega arith)

links_more : (n i : ℕ) → links_of (suc n) i ≡ links_of n i ++ map (empty_link i) (filter (λ j. not (i == j)) (n ∷ []))
links_more n i =
    ap (λ ks. map (empty_link i) (filter (λ j. not (i == j)) ks)) (range_more n)
    ∙ ap (map (empty_link i)) (filter-append (λ j. not (i == j)) (range_with_len 0 n) (n ∷ []))
    ∙ map-append (empty_link i) (filter (λ j. not (i == j)) (range_with_len 0 n)) (filter (λ j. not (i == j)) (n ∷ []))

links_other : (n i : ℕ) → n ≢ i → links_of (suc n) i ≡ links_of n i ++ empty_link i n ∷ []
links_other n i apart = links_more n i ∙ rw (ne_eqb i n (λ e. apart (sym e))) refl

links_same : (n i : ℕ) → n ≡ i → links_of (suc n) i ≡ links_of n i
links_same n i same = links_more n i ∙ rw (eq-eqb i n (sym same)) (append-nil (links_of n i))

-- one more link, to another node
pub links_of-next : (n i : ℕ) → n ≢ i → links_of (n + 1) i ≡ links_of n i ++ empty_link i n ∷ []
links_of-next n i apart = rw add-one (links_other n i apart)

-- none to the node itself
pub links_of-same : (n i : ℕ) → n ≡ i → links_of (n + 1) i ≡ links_of n i
links_of-same n i same = rw add-one (links_same n i same)

-- a node has a link to each other one
pub length-links_of-to : (n i : ℕ) → n ≤ i → length (links_of n i) ≡ n
length-links_of-to zero i less = refl
length-links_of-to (suc n) i less =
    let one : length (links_of (suc n) i) ≡ length (links_of n i) + 1 =
    ap length (links_other n i (omega arith)) ∙ length-append (links_of n i) (empty_link i n ∷ []) in
    omega (arith, one, length-links_of-to n i (omega arith))

pub length-links_of : (n i : ℕ) → i < n → length (links_of n i) + 1 ≡ n
length-links_of zero i less = absurd (omega arith)
length-links_of (suc n) i less =
    elim (cases_eq n i) [
      | inl same ↦ omega (arith, ap length (links_same n i same), length-links_of-to n i (omega arith))
      | inr apart ↦
          let one : length (links_of (suc n) i) ≡ length (links_of n i) + 1 =
          ap length (links_other n i apart) ∙ length-append (links_of n i) (empty_link i n ∷ []) in
          omega (arith, one, length-links_of n i (omega arith))
    ]

-- before the last of them there are fewer
pub few_links : (n i j : ℕ) → i < n → j < n → j ≢ i → length (links_of j i) + 1 < n
few_links n i j here there apart =
    elim (cases_lt j i) [
      | inl less ↦ omega (arith, length-links_of-to j i (omega arith))
      | inr more ↦ omega (arith, length-links_of j i (omega arith))
    ]

-- the links of one more node
pub first_links-next : (n i : ℕ) → flat_map (links_of n) (range_with_len 0 (i + 1)) ≡ flat_map (links_of n) (range_with_len 0 i)
    ++ links_of n i
first_links-next n i =
    rw add-one (ap (flat_map (links_of n)) (range_more i) ∙ flat_map-append (links_of n) (range_with_len 0 i) (i ∷ [])
    ∙ ap (λ ls. flat_map (links_of n) (range_with_len 0 i) ++ ls) (append-nil (links_of n i)))

pub times_next : (a b : ℕ) → (a + 1) * b ≡ a * b + b
times_next a b = grind arith

-- the first shares are first ones
pub all_first : (n : ℕ) (xs : List ShareNumbers) → xs ≡ first_shares n → All (λ (s : ShareNumbers). s ≡ first_numbers s.node) xs
all_first n xs are k d less =
    let at : get_or xs k d ≡ first_numbers k =
    ap (λ ys. get_or ys k d) are
    ∙ get_or-map-range_with_len first_numbers 0 n k k d (omega (arith, ap length are, length-map-range_with_len first_numbers 0 n))
    (omega arith) in
    rw at refl

empty_each : (i : ℕ) (js : List ℕ) → All (λ (l : LinkNumbers). l.under ≡ 0) (map (empty_link i) js)
empty_each i [] = λ k d less. absurd (omega arith)
empty_each i (j ∷ js) = All-cons (λ (l : LinkNumbers). l.under ≡ 0) (empty_link i j) (map (empty_link i) js) refl (empty_each i js)

empty_all : (n : ℕ) (is : List ℕ) → All (λ (l : LinkNumbers). l.under ≡ 0) (flat_map (links_of n) is)
empty_all n [] = λ k d less. absurd (omega arith)
empty_all n (i ∷ is) =
    All-append (λ (l : LinkNumbers). l.under ≡ 0) (links_of n i) (flat_map (links_of n) is) (empty_each i _) (empty_all n is)

-- the first links are empty
pub all_empty : (n : ℕ) (ls : List LinkNumbers) → ls ≡ first_links n → All (λ (l : LinkNumbers). l.under ≡ 0) ls
all_empty n ls are = rw are (empty_all n (range_with_len 0 n))
