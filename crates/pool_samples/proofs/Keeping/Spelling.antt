-- The decimal spelling of numbers, and how specifications are parsed.
pub mod Found
pub use Found.*

own : IsNumeralModel (λ ds. all_ascii_digits ds ≡ true) (digits_value 10)
own = numerals_by_value (λ ds. all_ascii_digits ds ≡ true) tells_all_ascii_digits

-- no digit is a colon
no_colon : (n : ℕ) → n < 2 ^ 64 → (i : ℕ) → i < length (decimal n) → get_or (decimal n) i 0 ≢ 58
no_colon n h = not_in_digits own (decimal n) 58 (digits_decimal own n h) (λ r. omega arith)

unpadded : (n : ℕ) → n < 2 ^ 64 → get_or (decimal n) 0 0 ≡ 48 → length (decimal n) ≡ 1
unpadded zero h e = ap length (decimal_digit 0 (omega arith))
unpadded (suc n) h e = let positive : 0 < suc n = omega arith in absurd (omega (arith, first_decimal (suc n) positive h))

-- a decimal number has neither a sign nor zeros in front
pub decimal_plain : (n : ℕ) → n < 2 ^ 64 → IsPlain (decimal n)
decimal_plain n h = record {
  unsigned = not_in_digits own (decimal n) 43 (digits_decimal own n h) (λ r. omega arith) 0 (decimal_nonempty n h);
  unpadded = unpadded n h;
}

-- plain digits are the decimal of the number that they are read as
pub read_plain : {E : Type 0} (bs : List ℕ) (r : Result ℕ E) → ParsesUnsigned 32 10 bs r → IsPlain bs
    → IfSome (result_ok r) (λ n. bs ≡ decimal n)
read_plain {E} bs (Ok n) h plain =
    let told = parse_plain own {E = E} 32 bs (Ok n) h plain.unsigned in
    let small : digits_value 10 bs < 2 ^ 64 = omega (arith, told.0.2) in
    sym (ap decimal told.1 ∙ decimal-digits_value own bs told.0.0 told.0.1 plain.unpadded small)
read_plain {E} bs (Err e) h plain = tt

-- a decimal number is read as itself
pub read_decimal : {E : Type 0} (bs : List ℕ) (n : ℕ) (r : Result ℕ E) → ParsesUnsigned 32 10 bs r → n < 2 ^ 32 → bs ≡ decimal n
    → result_ok r ≡ Some n
read_decimal bs n r h small e = let wide : n < 2 ^ 64 = omega arith in ap result_ok (parse-decimal 32 n bs r small wide e h)

-- the text before and after the first colon
split_same : (xs ys a b : List ℕ) → ((i : ℕ) → i < length xs → get_or xs i 0 ≢ 58) → ((i : ℕ) → i < length ys → get_or ys i 0 ≢ 58) → xs
    ++ 58 ∷ a ≡ ys ++ 58 ∷ b → (xs ≡ ys) × (a ≡ b)
split_same [] [] a b p q e = (refl, cc)
split_same [] (y ∷ ys) a b p q e = let here : y ≡ 58 = cc in absurd (q 0 (omega arith) here)
split_same (x ∷ xs) [] a b p q e = let here : x ≡ 58 = cc in absurd (p 0 (omega arith) here)
split_same (x ∷ xs) (y ∷ ys) a b p q e =
    let head : x ≡ y = cc in
    let tail : xs ++ 58 ∷ a ≡ ys ++ 58 ∷ b = cc in
    let rest = split_same xs ys a b (λ i h. p (suc i) (omega arith)) (λ i h. q (suc i) (omega arith)) tail in
    let first = rest.0 in
    (cc, rest.1)

-- a number and a rest are the text before and after the first colon
pub split_number : (text first rest : List ℕ) (n : ℕ) (after : List ℕ) → text ≡ first ++ 58 ∷ rest
    → ((i : ℕ) → i < length first → get_or first i 0 ≢ 58) →
    n < 2 ^ 32 → text ≡ joined (decimal n) after → (first ≡ decimal n) × (rest ≡ after)
split_number text first rest n after split clean small e = let wide : n < 2 ^ 64 =
    omega arith in split_same first (decimal n) rest after clean (no_colon n wide) (sym split ∙ e)

-- a number and a rest have a colon between them
pub has_colon : (text : List ℕ) (n : ℕ) (after : List ℕ) → ((i : ℕ) → i < length text → get_or text i 0 ≢ 58)
    → text ≡ joined (decimal n) after → ⊥
has_colon text n after none e =
    let long : length (decimal n ++ 58 ∷ after) ≡ length (decimal n) + suc (length after) = length-append (decimal n) (58 ∷ after) in
    let inside : length (decimal n) < length text = omega (arith, ap length e) in
    none (length (decimal n)) inside (ap (λ l. get_or l (length (decimal n)) 0) e ∙ get_or-append_seam (decimal n) 58 after 0)

pub few_leaves : (n : ℕ) → IsTrue (is_leaf_count n) → n < 2 ^ 32
few_leaves n t = grind (arith, nat_tests)

-- the order of a product
pub record IsOrder (tiles side : ℕ) : Type 0 where
  pub some_order : 1 ≤ tiles * side
  pub few_sides : side ≤ 64
  pub whole : (tiles * side) % side ≡ 0
  pub parts : (tiles * side) / side ≡ tiles

pub order_is : (tiles side seed : ℕ) → IsProduct tiles side seed → IsOrder tiles side
order_is tiles side seed rule =
    let least : 1 * side ≤ tiles * side = mul-le 1 side tiles side rule.some_tiles (omega arith) in
    let plain : tiles * side ≡ tiles * side + 0 = omega arith in
    let positive : 0 < side = omega (arith, rule.some_side) in
    record {
      some_order = omega (arith, least, rule.some_side);
      few_sides = omega (arith, least, rule.small);
      whole = ap (λ n. n % side) plain ∙ mod-mul-add tiles side 0 positive;
      parts = ap (λ n. n / side) plain ∙ div-mul-add tiles side 0 positive;
    }

-- what holds for a triple follows from its parts
pub each_of_three : (a b d x y z : ℕ) → (let left : ℕ × ℕ × ℕ = (a, b, d) in let right : ℕ × ℕ × ℕ = (x, y, z) in Some left ≡ Some right)
    → (a ≡ x) × (b ≡ y) × (d ≡ z)
each_of_three a b d x y z e =
    let left : ℕ × ℕ × ℕ = (a, b, d) in
    let right : ℕ × ℕ × ℕ = (x, y, z) in
    let same : left ≡ right = cc in
    (ap (λ n. n.0) same, ap (λ n. n.1) same, ap (λ n. n.2) same)
