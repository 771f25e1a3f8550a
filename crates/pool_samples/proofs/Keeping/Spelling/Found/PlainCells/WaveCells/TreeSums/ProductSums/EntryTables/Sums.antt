-- Sums and lists, extended by one element.
pub mod Names
pub use Names.*

-- one more number of a sum
pub next_sum : (n : ℕ) (f : ℕ → ℤ) (sum next : ℤ) → sum ≡ sum_from 0 n f → next ≡ sum +ℤ f n → next ≡ sum_from 0 (n + 1) f
next_sum n f sum next before is =
    let place : 0 + n ≡ n = omega arith in
    rw add-one (is ∙ ap (λ s. s +ℤ f n) before ∙ ap (λ k. sum_from 0 n f +ℤ f k) (sym place))

-- two sums of the same numbers
pub sum_same : (start count : ℕ) (f g : ℕ → ℤ) → ((n : ℕ) → n < count → f n ≡ g (start + n)) → sum_from 0 count f ≡ sum_from start count g
sum_same start zero f g h = refl
sum_same start (suc count) f g h =
    let place : 0 + count ≡ count = omega arith in
    ap (λ s. s +ℤ f (0 + count)) (sum_same start count f g (λ n b. h n (omega arith)))
    ∙ ap (λ n. sum_from start count g +ℤ f n) place
    ∙ ap (λ y. sum_from start count g +ℤ y) (h count (omega arith))

list_last : {A : Type 0} (count : ℕ) (f : ℕ → A) → list_of (suc count) f ≡ list_of count f ++ f count ∷ []
list_last zero f = refl
list_last (suc count) f = ap (λ l. f 0 ∷ l) (list_last count (λ e. f (suc e)))

-- one more element after a list
pub list_more : {A : Type 0} (xs : List A) (count : ℕ) (f : ℕ → A) → xs ++ list_of (count + 1) f ≡ (xs ++ list_of count f) ++ f count ∷ []
list_more xs count f = rw add-one (ap (λ l. xs ++ l) (list_last count f) ∙ sym (append_assoc xs (list_of count f) (f count ∷ [])))

-- one more number after a list
pub pushed : {A : Type 0} (xs before now : List A) (count : ℕ) (f : ℕ → A) (next : A) → before ≡ xs ++ list_of count f → now ≡ before
    ++ next ∷ [] → next ≡ f count → now ≡ xs ++ list_of (count + 1) f
pushed xs before now count f next same is here =
    is ∙ ap (λ l. l ++ next ∷ []) same ∙ ap (λ y. (xs ++ list_of count f) ++ y ∷ []) here ∙ sym (list_more xs count f)

-- a list of the numbers of f, and one of those that follow
list-joined : {A : Type 0} (m n : ℕ) (f g : ℕ → A) → ((c : ℕ) → c < n → g c ≡ f (m + c)) → list_of m f ++ list_of n g ≡ list_of (m + n) f
list-joined m zero f g h = let none : m + 0 ≡ m = omega arith in append-nil (list_of m f) ∙ ap (λ k. list_of k f) (sym none)
list-joined m (suc n) f g h =
    let many : m + suc n ≡ suc (m + n) = omega arith in
    ap (λ l. list_of m f ++ l) (list_last n g)
    ∙ sym (append_assoc (list_of m f) (list_of n g) (g n ∷ []))
    ∙ ap (λ l. l ++ g n ∷ []) (list-joined m n f g (λ c b. h c (omega arith)))
    ∙ ap (λ y. list_of (m + n) f ++ y ∷ []) (h n (omega arith))
    ∙ sym (list_last (m + n) f)
    ∙ ap (λ k. list_of k f) (sym many)

-- one more row of a tile
pub row_joined : (side seed i j k r : ℕ) (before now : List ℤ) →
    before ≡ list_of (r * side) (λ e. sum_from (k * side) side (term seed (i * side + e / side) (j * side + e % side))) →
    now ≡ before ++ list_of side (λ c. sum_from (k * side) side (term seed (i * side + r) (j * side + c))) →
    now ≡ list_of ((r + 1) * side) (λ e. sum_from (k * side) side (term seed (i * side + e / side) (j * side + e % side)))
row_joined side seed i j k r before now rows row =
    let at : ℕ → ℕ → ℤ = λ x y. sum_from (k * side) side (term seed (i * side + x) (j * side + y)) in
    let here : (c : ℕ) → c < side → at r c ≡ at ((r * side + c) / side) ((r * side + c) % side) =
    λ c b. sym (ap (λ x. at x ((r * side + c) % side)) (div-mul-add r side c b) ∙ ap (at r) (mod-mul-add r side c b)) in
    let many : r * side + side ≡ (r + 1) * side = omega arith in
    row ∙ ap (λ l. l ++ list_of side (at r)) rows ∙ list-joined (r * side) side (λ e. at (e / side) (e % side)) (at r) here
    ∙ ap (λ n. list_of n (λ e. at (e / side) (e % side))) many

-- one more text
pub texts_more : (count : ℕ) (text : ℕ → List ℕ) → texts (count + 1) text ≡ texts count text ++ text count
texts_more count text = rw add-one refl

pub list-length : {A : Type 0} (count : ℕ) (f : ℕ → A) → length (list_of count f) ≡ count
list-length zero f = refl
list-length (suc count) f = ap suc (list-length count (λ e. f (suc e)))

pub added-length : (a b : List ℤ) → length a ≡ length b → length (add_lists a b) ≡ length a
added-length [] b e = refl
added-length (x ∷ xs) [] e = absurd (omega arith)
added-length (x ∷ xs) (y ∷ ys) e = ap suc (added-length xs ys (omega arith))

pub added-at : (a b : List ℤ) (k : ℕ) → k < length a → length a ≡ length b
    → get_or (add_lists a b) k (pos 0) ≡ get_or a k (pos 0) +ℤ get_or b k (pos 0)
added-at [] b k h e = absurd (omega arith)
added-at (x ∷ xs) [] k h e = absurd (omega arith)
added-at (x ∷ xs) (y ∷ ys) zero h e = refl
added-at (x ∷ xs) (y ∷ ys) (suc k) h e = added-at xs ys k (omega arith) (omega arith)

fit-at : (xs : List ℤ) (k : ℕ) → k < length xs → fits (get_or xs k (pos 0)) ≡ false → all_fit xs ≡ false
fit-at [] k h e = absurd (omega arith)
fit-at (x ∷ xs) zero h e = rw e refl
fit-at (x ∷ xs) (suc k) h e = and_right (fits x) (all_fit xs) (fit-at xs k (omega arith) e)

-- one more sum
add-step : (a b sums : List ℤ) (k : ℕ) (sum : ℤ) → length a ≡ length b → k < length a → sums ≡ take k (add_lists a b)
    → all_fit sums ≡ true →
    place_sum a b k ≡ sum → fits (place_sum a b k) ≡ true →
    (sums ++ sum ∷ [] ≡ take (k + 1) (add_lists a b)) × (all_fit (sums ++ sum ∷ []) ≡ true)
add-step a b sums k sum long h same fit is fits_too =
    let inside : k < length (add_lists a b) = omega (arith, added-length a b long) in
    let next = take_more (add_lists a b) k (pos 0) inside in
    let here : get_or (add_lists a b) k (pos 0) ≡ sum = added-at a b k h long ∙ is in
    let P : ℤ → Type 0 = λ y. fits y ≡ true in (
      (ap (λ l. l ++ sum ∷ []) same ∙ ap (λ y. take k (add_lists a b) ++ y ∷ []) (sym here) ∙ sym next),
      fit-push sums sum fit (subst P is fits_too),
    )

-- if a position of b is unchanged, its sum is the one with b
same_place : (a b now : List ℤ) (k : ℕ) → get_or now k (pos 0) ≡ get_or b k (pos 0) → place_sum a now k ≡ place_sum a b k
same_place a b now k e = ap (λ y. get_or a k (pos 0) +ℤ y) e

-- one more sum, written over b's number
pub add_written : (a b now : List ℤ) (k : ℕ) (sum : ℤ) → length a ≡ length b → k < length a → k < length now →
    take k now ≡ take k (add_lists a b) → all_fit (take k now) ≡ true → get_or now k (pos 0) ≡ get_or b k (pos 0) →
    place_sum a now k ≡ sum → fits (place_sum a now k) ≡ true →
    (take (k + 1) (set now k sum) ≡ take (k + 1) (add_lists a b)) × (all_fit (take (k + 1) (set now k sum)) ≡ true)
add_written a b now k sum long h room same fit rest is fits_too =
    let was = same_place a b now k rest in
    let step = add-step a b (take k now) k sum long h same fit (sym was ∙ is) (ap fits (sym was) ∙ fits_too) in
    let next = take_more_set now k sum room in
    (next ∙ step.0, ap all_fit next ∙ step.1)

pub nat-same : (n : ℕ) → nat_eq n n ≡ true
nat-same n = grind (arith, nat_tests)

-- a sum that does not fit
pub add_fails : (a b now : List ℤ) (k : ℕ) → length a ≡ length b → k < length a → get_or now k (pos 0) ≡ get_or b k (pos 0)
    → fits (place_sum a now k) ≡ false → added a b ≡ None
add_fails a b now k long h rest e =
    let inside : k < length (add_lists a b) = omega (arith, added-length a b long) in
    let here : fits (place_sum a b k) ≡ false = ap fits (sym (same_place a b now k rest)) ∙ e in
    let not : all_fit (add_lists a b) ≡ false = fit-at (add_lists a b) k inside (ap fits (added-at a b k h long) ∙ here) in
    rw (long, nat-same (length b)) (rw not refl)

-- all sums
pub add_ends : (a b sums : List ℤ) (k : ℕ) → length a ≡ length b → length sums ≡ length b → length a ≤ k
    → take k sums ≡ take k (add_lists a b) → all_fit (take k sums) ≡ true → added a b ≡ Some sums
add_ends a b sums k long as_long h same fit =
    let short : length (add_lists a b) ≤ k = omega (arith, added-length a b long) in
    let within : length sums ≤ k = omega arith in
    let whole : take k sums ≡ sums = take_all k sums within in
    let all : sums ≡ add_lists a b = sym whole ∙ same ∙ take_all k (add_lists a b) short in
    let fit' : all_fit (add_lists a b) ≡ true = ap all_fit (sym all ∙ sym whole) ∙ fit in
    rw (long, nat-same (length b)) (rw fit' (ap Some (sym all)))

-- lists of different lengths
pub add_unlike : (a b : List ℤ) → (length a ≡ length b → ⊥) → added a b ≡ None
add_unlike a b h = let no : nat_eq (length a) (length b) ≡ false = grind (arith, nat_tests) in rw no refl

-- the result of the rule of a product on one input
pub tile_added : (side seed i j k : ℕ) (input made : List ℤ) → made ≡ tile side seed i j k
    → then_some (tile_and_input (side * side) (tile side seed i j k) (input ∷ [])) fitting ≡ added input made
tile_added side seed i j k input made e =
    let long : length made ≡ side * side =
    ap length e ∙ list-length (side * side) (λ p. sum_from (k * side) side (term seed (i * side + p / side) (j * side + p % side))) in
    ap (λ m. then_some (tile_and_input (side * side) m (input ∷ [])) fitting) (sym e)
    ∙ ap (λ n. then_some (tile_and_input n made (input ∷ [])) fitting) (sym long)

pub one_item : {A : Type 0} (xs : List A) (x : A) → length xs ≡ 1 → x ≡ get_or xs 0 x → xs ≡ x ∷ []
one_item [] x e h = absurd (omega arith)
one_item (y ∷ []) x e h = ap (λ v. v ∷ []) (sym h)
one_item (y ∷ (z ∷ zs)) x e h = absurd (omega arith)
