-- Lines and their words: how they split, and how each is spelled.
pub mod Names
pub use Names.*

-- ==== A text splits in one way into bytes of one kind and a rest that does not begin with one.

pub split_unique : (P : ℕ → Type 0) (xs ys a b : List ℕ) → All P xs → All P ys → BeginsWithout P a → BeginsWithout P b
    → xs ++ a ≡ ys ++ b → (xs ≡ ys) × (a ≡ b)
split_unique P [] [] a b p q s t e = (refl, e)
split_unique P [] (y ∷ ys) a b p q s t e = absurd (subst (BeginsWithout P) e s (All-head P y ys q))
split_unique P (x ∷ xs) [] a b p q s t e = absurd (subst (BeginsWithout P) (sym e) t (All-head P x xs p))
split_unique P (x ∷ xs) (y ∷ ys) a b p q s t e =
    let head : x ≡ y = cc in
    let tail : xs ++ a ≡ ys ++ b = cc in
    let rest = split_unique P xs ys a b (All-tail P x xs p) (All-tail P y ys q) s t tail in
    let same = rest.0 in
    (cc, rest.1)

-- ==== Numbers as decimal digits at the front of a text.

abbrev AreDigits : List ℕ → Type 0
AreDigits ds = (i : ℕ) → i < length ds → IsDigit (get_or ds i 0)

own : IsNumeralModel AreDigits (digits_value 10)
own = numerals_by_value AreDigits tells_by_index

pub decimal_digits : (k : ℕ) → IsNumber k → All IsDigit (decimal k)
decimal_digits k h i d l = subst IsDigit (get_or_default (decimal k) i 0 d l) (digits_decimal own k (omega arith) i l)

-- a number and the text after it are determined, if that text does not begin with a digit
pub one_number : (j k : ℕ) (a b : List ℕ) → IsNumber j → IsNumber k → BeginsWithout IsDigit a → BeginsWithout IsDigit b
    → decimal j ++ a ≡ decimal k ++ b → (j ≡ k) × (a ≡ b)
one_number j k a b p q s t e =
    let both = split_unique IsDigit (decimal j) (decimal k) a b (decimal_digits j p) (decimal_digits k q) s t e in
    (decimal_injective j k (omega arith) (omega arith) both.0, both.1)

-- one more digit
pub value_more : (text : List ℕ) (n value : ℕ) → n < length text → IsDigit (slice_index text n) → value ≡ digits_value 10 (take n text)
    → value * 10 + (slice_index text n - 48) ≡ digits_value 10 (take (n + 1) text)
value_more text n value l digit e = omega (arith, digits_value_more 10 text n l, digit_value_digit (get_or text n 0) digit)

-- ---- the digits at the front

-- `len` is the number of digits at the front, but at most 7, and this is the value of these digits.
pub record HasDigits (text : List ℕ) (len value : ℕ) : Type 0 where
  pub few : len ≤ 7
  pub within : len ≤ length text
  pub digits : (i : ℕ) → i < len → IsDigit (slice_index text i)
  pub stops : len < 7 → len < length text → ¬ IsDigit (slice_index text len)
  pub value_is : value ≡ digits_value 10 (take len text)

digits_in : (text : List ℕ) (n : ℕ) → n ≤ length text → ((i : ℕ) → i < n → IsDigit (slice_index text i)) → AreDigits (take n text)
digits_in text n within digits i l =
    let below : i < n = omega (arith, length-take-le n text within) in
    subst IsDigit (sym (get_or-take n text i 0 below)) (digits i below)

digits_there : (text : List ℕ) (n value : ℕ) → HasDigits text n value → AreDigits (take n text)
digits_there text n value h = digits_in text n h.within h.digits

-- six digits or fewer spell a number
pub value_small : (text : List ℕ) (n value : ℕ) → n ≤ 6 → n ≤ length text → ((i : ℕ) → i < n → IsDigit (slice_index text i))
    → value ≡ digits_value 10 (take n text) → value < 1000000
value_small text n value few within digits e =
    omega (arith, e, digits_value_short own (take n text) 6 (digits_in text n within digits) (omega (arith, length-take-le n text within)))

all_digits : (text : List ℕ) (n value : ℕ) → HasDigits text n value → All IsDigit (take n text)
all_digits text n value h i d l = subst IsDigit (get_or_default (take n text) i 0 d l) (digits_there text n value h i l)

front : (text : List ℕ) (n value : ℕ) → HasDigits text n value → length (take n text) ≡ n
front text n value h = length-take-le n text h.within

first : (text : List ℕ) (n value : ℕ) → HasDigits text n value → 0 < n → get_or (take n text) 0 0 ≡ slice_index text 0
first text n value h some = get_or-take n text 0 0 some

-- after fewer than seven digits there is no other
ends : (text : List ℕ) (n : ℕ) → n ≤ length text → (n < length text → ¬ IsDigit (slice_index text n)) → BeginsWithout IsDigit (drop n text)
ends [] zero within none = tt
ends (b ∷ text) zero within none = none (omega arith)
ends [] (suc n) within none = tt
ends (b ∷ text) (suc n) within none = ends text n (omega arith) (λ l. none (omega arith))

splits : (text : List ℕ) (n value : ℕ) → HasDigits text n value → n < 7 → Splits IsDigit text (take n text) (drop n text)
splits text n value h few = (sym (take-append-drop n text), all_digits text n value h, ends text n h.within (h.stops few))

-- if the digits spell no number, there is none at the front
none_by : (text : List ℕ) (n value : ℕ) → HasDigits text n value → n < 7 → ((k : ℕ) → IsNumber k → take n text ≢ decimal k)
    → (k : ℕ) (b : List ℕ) → IsNumber k → BeginsWithout IsDigit b → text ≢ decimal k ++ b
none_by text n value h few none k b p t e =
    let s = splits text n value h few in
    none k p (split_unique IsDigit (take n text) (decimal k) (drop n text) b s.1 (decimal_digits k p) s.2 t (sym s.0 ∙ e)).0

-- without a digit
pub none_without : (text : List ℕ) (n value : ℕ) → n ≡ 0 → HasDigits text n value
    → (k : ℕ) (b : List ℕ) → IsNumber k → BeginsWithout IsDigit b → text ≢ decimal k ++ b
none_without text n value none h =
    none_by text n value h (omega arith) (λ k p e. omega (arith, ap length e, front text n value h, decimal_nonempty k (omega arith)))

-- with a leading zero
none_padded : (text : List ℕ) (n value : ℕ) → HasDigits text n value → 1 < n → slice_index text 0 ≡ 48 → (k : ℕ) → IsNumber k
    → take n text ≢ decimal k
none_padded text n value h several zero_first zero p e =
    let one : length (decimal 0) ≡ 1 =
    ap length (decimal_digit 0 (omega arith)) in omega (arith, several, ap length e, front text n value h)
none_padded text n value h several zero_first (suc k) p e =
    omega (
      arith,
      zero_first,
      first text n value h (omega arith),
      ap (λ l. get_or l 0 0) e,
      first_decimal (suc k) (omega arith) (omega arith),
    )

pub none_where_padded : (text : List ℕ) (n value : ℕ) → HasDigits text n value → n ≤ 6 → (1 < n) × (slice_index text 0 ≡ 48)
    → (k : ℕ) (b : List ℕ) → IsNumber k → BeginsWithout IsDigit b → text ≢ decimal k ++ b
none_where_padded text n value h few padded = none_by text n value h (omega arith) (none_padded text n value h padded.0 padded.1)

-- with seven digits: a number at the front has at least as many
no_more : (P : ℕ → Type 0) (xs ys a b : List ℕ) → All P xs → BeginsWithout P b → xs ++ a ≡ ys ++ b → length xs ≤ length ys
no_more P [] ys a b p t e = omega arith
no_more P (x ∷ xs) [] a b p t e = absurd (subst (BeginsWithout P) (sym e) t (All-head P x xs p))
no_more P (x ∷ xs) (y ∷ ys) a b p t e =
    let tail : xs ++ a ≡ ys ++ b = cc in
    omega (arith, no_more P xs ys a b (All-tail P x xs p) t tail)

pub none_where_long : (text : List ℕ) (n value : ℕ) → HasDigits text n value → 6 < n
    → (k : ℕ) (b : List ℕ) → IsNumber k → BeginsWithout IsDigit b → text ≢ decimal k ++ b
none_where_long text n value h long k b p t e =
    let fits = no_more IsDigit (take n text) (decimal k) (drop n text) b (all_digits text n value h) t (take-append-drop n text ∙ e) in
    omega (arith, fits, front text n value h, length-decimal-le 6 k (omega arith) (omega arith) (omega arith))

-- the text after the digits, as a slice
rest_is : (text : List ℕ) (n : ℕ) → take (length text - n) (drop n text) ≡ drop n text
rest_is text n = take_all (length text - n) (drop n text) (omega (arith, length-drop n text))

lone_zero : (text : List ℕ) (n value : ℕ) → HasDigits text n value → 0 < n → ¬ ((1 < n) × (slice_index text 0 ≡ 48))
    → get_or (take n text) 0 0 ≡ 48 → length (take n text) ≡ 1
lone_zero text n value h some plain e =
    let is : slice_index text 0 ≡ 48 = sym (first text n value h some) ∙ e in
    let several : ¬ (1 < n) = λ l. plain (l, is) in
    omega (arith, front text n value h, several)

-- these digits spell their value
pub spells_value : (text : List ℕ) (n value : ℕ) → HasDigits text n value → 0 < n → n ≤ 6 → ¬ ((1 < n) × (slice_index text 0 ≡ 48))
    → IsNumber value × BeginsWithout IsDigit (take (length text - n) (drop n text))
    × (text ≡ decimal value ++ take (length text - n) (drop n text))
spells_value text n value h some few plain =
    let long = front text n value h in
    let small = value_small text n value few h.within h.digits h.value_is in
    let same : decimal value ≡ take n text =
    ap decimal h.value_is
    ∙ decimal-digits_value own (take n text) (digits_there text n value h) (omega arith) (lone_zero text n value h some plain)
    (omega (arith, h.value_is)) in
    let s = splits text n value h (omega arith) in
    let found : IsNumber value × BeginsWithout IsDigit (drop n text) × (text ≡ decimal value ++ drop n text) =
    (small, s.2, s.0 ∙ ap (λ ds. ds ++ drop n text) (sym same)) in
    subst (λ rest. IsNumber value × BeginsWithout IsDigit rest × (text ≡ decimal value ++ rest)) (sym (rest_is text n)) found

-- ==== The numbers after a word, up to the end of the line.

-- The text does not begin with at most n numbers, each after a space, and a line feed.
abbrev pub HasNoNumbers : ℕ → List ℕ → Type 0
HasNoNumbers n text = (ks rest : List ℕ) → All IsNumber ks → length ks ≤ n → text ≢ spaced ks ++ 10 ∷ rest

-- a space or a line feed is no digit
pub ends_number : (ks rest : List ℕ) → BeginsWithout IsDigit (spaced ks ++ 10 ∷ rest)
ends_number [] rest = λ d. omega (arith, d.0)
ends_number (k ∷ ks) rest = λ d. omega (arith, d.0)

pub none_at_all : (text : List ℕ) → ((rest : List ℕ) → text ≢ 10 ∷ rest) → HasNoNumbers 0 text
none_at_all text end [] rest p few e = end rest e
none_at_all text end (k ∷ ks) rest p few e = omega arith

pub none_next : (n : ℕ) (text : List ℕ) → ((rest : List ℕ) → text ≢ 10 ∷ rest)
    → ((k : ℕ) (rest : List ℕ) → IsNumber k → BeginsWithout IsDigit rest → text ≢ 32 ∷ (decimal k ++ rest)) → HasNoNumbers n text
none_next n text end next [] rest p few e = end rest e
none_next n text end next (k ∷ ks) rest p few e =
    next k (spaced ks
    ++ 10 ∷ rest) (All-head IsNumber k ks p) (ends_number ks rest) (e
    ∙ ap (λ l. 32 ∷ l) (append_assoc (decimal k) (spaced ks) (10 ∷ rest)))

pub none_behind : (n j : ℕ) (text rest : List ℕ) → IsNumber j × BeginsWithout IsDigit rest × (text ≡ 32 ∷ (decimal j ++ rest))
    → HasNoNumbers n rest → HasNoNumbers (n + 1) text
none_behind n j text rest found none [] after q few e = let bad : 32 ∷ (decimal j ++ rest) ≡ 10 ∷ after = sym found.2 ∙ e in cc
none_behind n j text rest found none (k ∷ ks) after q few e =
    let whole : 32 ∷ (decimal j ++ rest) ≡ 32 ∷ (decimal k ++ (spaced ks ++ 10 ∷ after)) =
    sym found.2 ∙ e ∙ ap (λ l. 32 ∷ l) (append_assoc (decimal k) (spaced ks) (10 ∷ after)) in
    let same : decimal j ++ rest ≡ decimal k ++ (spaced ks ++ 10 ∷ after) = cc in
    none ks after (All-tail IsNumber k ks q) (omega arith)
    (one_number j k rest (spaced ks ++ 10 ∷ after) found.0 (All-head IsNumber k ks q) found.1 (ends_number ks after) same).1

-- ==== The line of a step determines the step.

abbrev is_word : List ℕ → Bool
is_word [] = true
is_word (b ∷ text) = (not (eqb b 32) && not (eqb b 10)) && is_word text

word_byte : (b : ℕ) → (not (eqb b 32) && not (eqb b 10)) ≡ true → IsWordByte b
word_byte b e = grind (arith, nat_tests)

pub word_bytes : (text : List ℕ) → is_word text ≡ true → All IsWordByte text
word_bytes [] e = All-nil IsWordByte
word_bytes (b ∷ text) e =
    let both = and_parts (not (eqb b 32) && not (eqb b 10)) (is_word text) e in
    All-cons IsWordByte b text (word_byte b both.0) (word_bytes text both.1)

-- the first words of lines have no space and no line feed
pub step_word : (s : Step) → is_word (word_of s) ≡ true
step_word (steps.Insert i t k) = refl
step_word (steps.Supply t) = refl
step_word (steps.Begin t) = refl
step_word (steps.Done t) = refl
step_word (steps.ActionOpen i a) = refl
step_word (steps.ActionClose i a) = refl
step_word (steps.Ready i) = refl
step_word (steps.Send i j m g) = refl
step_word (steps.Recv j m g) = refl
step_word (steps.MessageEnd j m g) = refl
step_word steps.Start = refl
step_word (steps.Down i) = refl
step_word (steps.Give i) = refl
step_word (steps.Up i) = refl
step_word steps.Judge = refl
step_word steps.Reopen = refl

pub keyword_of_step : (s : Step) → (k : Keyword) × (word_of s ≡ keyword_text k)
keyword_of_step (steps.Insert i t k) = (keywords.Insert, refl)
keyword_of_step (steps.Supply t) = (keywords.Supply, refl)
keyword_of_step (steps.Begin t) = (keywords.Begin, refl)
keyword_of_step (steps.Done t) = (keywords.Done, refl)
keyword_of_step (steps.ActionOpen i a) = (keywords.Open, refl)
keyword_of_step (steps.ActionClose i a) = (keywords.Close, refl)
keyword_of_step (steps.Ready i) = (keywords.Ready, refl)
keyword_of_step (steps.Send i j m g) = (keywords.Send, refl)
keyword_of_step (steps.Recv j m g) = (keywords.Recv, refl)
keyword_of_step (steps.MessageEnd j m g) = (keywords.End, refl)
keyword_of_step steps.Start = (keywords.Start, refl)
keyword_of_step (steps.Down i) = (keywords.Down, refl)
keyword_of_step (steps.Give i) = (keywords.Give, refl)
keyword_of_step (steps.Up i) = (keywords.Up, refl)
keyword_of_step steps.Judge = (keywords.Judge, refl)
keyword_of_step steps.Reopen = (keywords.Reopen, refl)

pub ends_word : (ks rest : List ℕ) → BeginsWithout IsWordByte (spaced ks ++ 10 ∷ rest)
ends_word [] rest = λ h. h.1 refl
ends_word (k ∷ ks) rest = λ h. h.0 refl

pub line_parts : (word : List ℕ) (ks rest : List ℕ) → line (word ++ spaced ks) ++ rest ≡ word ++ (spaced ks ++ 10 ∷ rest)
line_parts word ks rest = append_assoc (word ++ spaced ks) (10 ∷ []) rest ∙ append_assoc word (spaced ks) (10 ∷ rest)

-- the word and the rest of a line are determined
pub one_word : (text word a w : List ℕ) (ks rest : List ℕ) → Splits IsWordByte text word a → is_word w ≡ true
    → text ≡ line (w ++ spaced ks) ++ rest → (word ≡ w) × (a ≡ spaced ks ++ 10 ∷ rest)
one_word text word a w ks rest h q e =
    split_unique IsWordByte word w a (spaced ks
    ++ 10 ∷ rest) h.1 (word_bytes w q) h.2 (ends_word ks rest) (sym h.0 ∙ e ∙ line_parts w ks rest)

-- and so are its numbers
pub same_numbers : (js ks a b : List ℕ) → All IsNumber js → All IsNumber ks → spaced js ++ 10 ∷ a ≡ spaced ks ++ 10 ∷ b
    → (js ≡ ks) × (a ≡ b)
same_numbers [] [] a b p q e = (refl, cc)
same_numbers [] (k ∷ ks) a b p q e = cc
same_numbers (j ∷ js) [] a b p q e = cc
same_numbers (j ∷ js) (k ∷ ks) a b p q e =
    let whole : 32 ∷ (decimal j ++ (spaced js ++ 10 ∷ a)) ≡ 32 ∷ (decimal k ++ (spaced ks ++ 10 ∷ b)) =
    sym (ap (λ l. 32 ∷ l) (append_assoc (decimal j) (spaced js) (10 ∷ a))) ∙ e
    ∙ ap (λ l. 32 ∷ l) (append_assoc (decimal k) (spaced ks) (10 ∷ b)) in
    let same : decimal j ++ (spaced js ++ 10 ∷ a) ≡ decimal k ++ (spaced ks ++ 10 ∷ b) = cc in
    let first = one_number j k (spaced js ++ 10 ∷ a) (spaced ks
    ++ 10 ∷ b) (All-head IsNumber j js p) (All-head IsNumber k ks q) (ends_number js a) (ends_number ks b) same in
    let head : j ≡ k = first.0 in
    let rest = same_numbers js ks a b (All-tail IsNumber j js p) (All-tail IsNumber k ks q) first.1 in
    let tail : js ≡ ks = rest.0 in
    (cc, rest.1)

-- the generation that a number spells; in version 1 all messages are of the first
abbrev pub generation_spelled : Version → ℕ → ℕ
generation_spelled versions.One k = 1
generation_spelled versions.Two k = k

-- the step that a word and numbers spell
abbrev pub step_spelled : Version → List ℕ → List ℕ → Step
step_spelled v w ks =
    let a = get_or ks 0 0 in let b = get_or ks 1 0 in let d = get_or ks 2 0 in let e = get_or ks 3 0 in
    cond (bytes_eq w (codes "insert")) (steps.Insert (record { 0 = a }) (record { 0 = b }) (record { count = d }))
    (cond (bytes_eq w (codes "supply")) (steps.Supply (record { 0 = a }))
    (cond (bytes_eq w (codes "begin")) (steps.Begin (record { 0 = a }))
    (cond (bytes_eq w (codes "done")) (steps.Done (record { 0 = a }))
    (cond (bytes_eq w (codes "open")) (steps.ActionOpen (record { 0 = a }) (record { 0 = b }))
    (cond (bytes_eq w (codes "close")) (steps.ActionClose (record { 0 = a }) (record { 0 = b }))
    (cond (bytes_eq w (codes "ready")) (steps.Ready (record { 0 = a }))
    (cond (bytes_eq w (codes "send"))
    (steps.Send (record { 0 = a }) (record { 0 = b }) (record { 0 = d }) (record { 0 = generation_spelled v e }))
    (cond (bytes_eq w (codes "recv")) (steps.Recv (record { 0 = a }) (record { 0 = b }) (record { 0 = generation_spelled v d }))
    (cond (bytes_eq w (codes "end")) (steps.MessageEnd (record { 0 = a }) (record { 0 = b }) (record { 0 = generation_spelled v d }))
    (cond (bytes_eq w (codes "start")) steps.Start
    (cond (bytes_eq w (codes "down")) (steps.Down (record { 0 = a }))
    (cond (bytes_eq w (codes "give")) (steps.Give (record { 0 = a }))
    (cond (bytes_eq w (codes "up")) (steps.Up (record { 0 = a }))
    (cond (bytes_eq w (codes "judge")) steps.Judge steps.Reopen))))))))))))))

pub step_again : (v : Version) (s : Step) → IsOfVersion v s → step_spelled v (word_of s) (numbers_of v s) ≡ s
step_again v (steps.Insert i t k) h = refl
step_again v (steps.Supply t) h = refl
step_again v (steps.Begin t) h = refl
step_again v (steps.Done t) h = refl
step_again v (steps.ActionOpen i a) h = refl
step_again v (steps.ActionClose i a) h = refl
step_again v (steps.Ready i) h = refl
step_again versions.One (steps.Send i j m g) h = ap (λ k. steps.Send i j m (record { 0 = k })) (sym h)
step_again versions.Two (steps.Send i j m g) h = refl
step_again versions.One (steps.Recv j m g) h = ap (λ k. steps.Recv j m (record { 0 = k })) (sym h)
step_again versions.Two (steps.Recv j m g) h = refl
step_again versions.One (steps.MessageEnd j m g) h = ap (λ k. steps.MessageEnd j m (record { 0 = k })) (sym h)
step_again versions.Two (steps.MessageEnd j m g) h = refl
step_again v steps.Start h = refl
step_again v (steps.Down i) h = refl
step_again v (steps.Give i) h = refl
step_again v (steps.Up i) h = refl
step_again v steps.Judge h = refl
step_again v steps.Reopen h = refl

-- the first line determines its step and the rest
pub same_step : (v : Version) (s t : Step) (a b : List ℕ) → IsSpelled v s → IsSpelled v t
    → step_line v s ++ a ≡ step_line v t ++ b → (s ≡ t) × (a ≡ b)
same_step v s t a b p q e =
    let words = one_word (step_line v s ++ a) (word_of s) (spaced (numbers_of v s) ++ 10 ∷ a) (word_of t) (numbers_of v t) b
    (line_parts (word_of s) (numbers_of v s) a, word_bytes (word_of s) (step_word s), ends_word (numbers_of v s) a) (step_word t) e in
    let numbers = same_numbers (numbers_of v s) (numbers_of v t) a b p.0 q.0 words.1 in
    let same = ap (λ w. step_spelled v w (numbers_of v s)) words.0 ∙ ap (step_spelled v (word_of t)) numbers.0 in
    (sym (step_again v s p.2) ∙ same ∙ step_again v t q.2, numbers.1)

-- ==== Texts that begin with no line for a step, or with none for the number of nodes.

not_false : (b : Bool) → false ≡ not b → b ≡ true
not_false true e = refl
not_false false e = e

-- what `!=` shows about two texts
pub alike : (xs ys : List ℕ) {zs : List ℕ} → false ≡ not (bytes_eq xs ys) → ys ≡ zs → xs ≡ zs
alike xs ys e is = (bytes_eq-Decides xs ys).0 (not_false (bytes_eq xs ys) e) ∙ is

pub unlike : (xs ys : List ℕ) {zs : List ℕ} → true ≡ not (bytes_eq xs ys) → ys ≡ zs → xs ≢ zs
unlike xs ys e is same = let yes : bytes_eq xs ys ≡ true = (bytes_eq-Decides xs ys).1 (same ∙ sym is) in let no : true ≡ not true =
    e ∙ ap not yes in cc

pub no_keyword : (v : Version) (text word a : List ℕ) → Splits IsWordByte text word a → ((k : Keyword) → word ≢ keyword_text k)
    → ¬ BeginsWithStep v text
no_keyword v text word a h none (s, rest, p, e) =
    let words = one_word text word a (word_of s) (numbers_of v s) rest h (step_word s) e in
    let key = keyword_of_step s in
    none key.0 (words.0 ∙ key.1)

pub no_nodes : (text word a : List ℕ) → Splits IsWordByte text word a → word ≢ codes "nodes" → ¬ BeginsWithNodes text
no_nodes text word a h none (n, rest, p, e) = none (one_word text word a (codes "nodes") (n ∷ []) rest h refl e).0

pub is_number : (n : ℕ) → IsNodeCount n → All IsNumber (n ∷ [])
is_number n p = All-cons IsNumber n [] (omega (arith, p.1)) (All-nil IsNumber)

pub no_count : (text word a : List ℕ) → Splits IsWordByte text word a
    → ((ks rest : List ℕ) → All IsNumber ks → length ks ≤ 4 → a ≢ spaced ks ++ 10 ∷ rest) → ¬ BeginsWithNodes text
no_count text word a h none (n, rest, p, e) =
    none (n ∷ []) rest (is_number n p) (lit≤ tt) (one_word text word a (codes "nodes") (n ∷ []) rest h refl e).1

pub no_counted : (text word a : List ℕ) (os : Operands) (after : List ℕ) → Splits IsWordByte text word a
    → All IsNumber (numbers_in os) × (a ≡ spaced (numbers_in os) ++ 10 ∷ after)
    → ((n : ℕ) → IsNodeCount n → numbers_in os ≢ n ∷ []) → ¬ BeginsWithNodes text
no_counted text word a os after h found none (n, rest, p, e) =
    let words = one_word text word a (codes "nodes") (n ∷ []) rest h refl e in
    none n p (same_numbers (numbers_in os) (n ∷ []) after rest found.0 (is_number n p) (sym found.1 ∙ words.1)).0

pub nodes_found : (text word a : List ℕ) (os : Operands) (after : List ℕ) (n : ℕ) → Splits IsWordByte text word a → word ≡ codes "nodes"
    → All IsNumber (numbers_in os) × (a ≡ spaced (numbers_in os) ++ 10 ∷ after) → IsNodeCount n × (numbers_in os ≡ n ∷ [])
    → IsNodeCount n × (text ≡ nodes_line n ++ after)
nodes_found text word a os after n h w found count =
    let numbers : a ≡ spaced (n ∷ []) ++ 10 ∷ after = found.1 ∙ ap (λ ks. spaced ks ++ 10 ∷ after) count.1 in
    (count.0, h.0 ∙ ap (λ l. l ++ a) w ∙ ap (λ l. codes "nodes" ++ l) numbers ∙ sym (line_parts (codes "nodes") (n ∷ []) after))

-- ==== What the first line of a text is in a trace, by its first word and what follows it.

-- ---- the claim of a judgement line

pub not_plain : (text : List ℕ) → pointwise nat_eq (take 5 text) (codes " not\n") ≡ false → (rest : List ℕ)
    → text ≢ codes " not" ++ 10 ∷ rest
not_plain text h rest e = let bad : true ≡ false = ap (λ t. pointwise nat_eq (take 5 t) (codes " not\n")) (sym e) ∙ h in cc

-- the text after a prefix
pub ended_is : (text a : List ℕ) → pointwise nat_eq (take 6 text) (codes " ended") ≡ true → a ≡ drop 6 text → text ≡ codes " ended" ++ a
ended_is text a h e =
    sym (take-append-drop 6 text) ∙ ap (λ l. l ++ drop 6 text) (same_text (take 6 text) (codes " ended") (sym h))
    ∙ ap (λ l. codes " ended" ++ l) (sym e)

pub no_words : (text a : List ℕ) → ((rest : List ℕ) → text ≢ codes " not" ++ 10 ∷ rest) → text ≡ codes " ended" ++ a
    → ((w : ℕ) (rest : List ℕ) → AreWords (Some w) → a ≢ spaced (w ∷ []) ++ 10 ∷ rest) → (o : Option ℕ) (rest : List ℕ)
    → AreWords o → text ≢ words o ++ 10 ∷ rest
no_words text a plain is none None rest p e = plain rest e
no_words text a plain is none (Some w) rest p e =
    let whole : codes " ended" ++ a ≡ codes " ended" ++ (spaced (w ∷ []) ++ 10 ∷ rest) =
    sym is ∙ e ∙ append_assoc (codes " ended") (spaced (w ∷ [])) (10 ∷ rest) in
    none w rest p (ap (λ l. drop 6 l) whole)

pub one_wave : (w : ℕ) → AreWords (Some w) → All IsNumber (w ∷ [])
one_wave w p = All-cons IsNumber w [] p.1 (All-nil IsNumber)

pub no_operands_words : (a : List ℕ) → ((ks rest : List ℕ) → All IsNumber ks → length ks ≤ 4 → a ≢ spaced ks ++ 10 ∷ rest)
    → (w : ℕ) (rest : List ℕ) → AreWords (Some w) → a ≢ spaced (w ∷ []) ++ 10 ∷ rest
no_operands_words a none w rest p e = none (w ∷ []) rest (one_wave w p) (omega arith) e

pub no_wave_words : (a : List ℕ) (os : Operands) (after : List ℕ)
    → All IsNumber (numbers_in os) × (a ≡ spaced (numbers_in os) ++ 10 ∷ after)
    → ((w : ℕ) → 1 ≤ w → numbers_in os ≢ w ∷ []) → (w : ℕ) (rest : List ℕ) → AreWords (Some w) → a ≢ spaced (w ∷ []) ++ 10 ∷ rest
no_wave_words a os after found none w rest p e =
    none w p.0 (same_numbers (numbers_in os) (w ∷ []) after rest found.0 (one_wave w p) (sym found.1 ∙ e)).0

-- ---- the numbers of a step

pub no_step_behind : (v : Version) (a : List ℕ) (k : Keyword) (os : Operands) (after : List ℕ)
    → All IsNumber (numbers_in os) × (a ≡ spaced (numbers_in os) ++ 10 ∷ after)
    → ((s : Step) → IsSpelled v s → word_of s ≡ keyword_text k → numbers_of v s ≢ numbers_in os)
    → (s : Step) (rest : List ℕ) → IsSpelled v s → word_of s ≡ keyword_text k → a ≢ spaced (numbers_of v s) ++ 10 ∷ rest
no_step_behind v a k os after found none s rest p is e =
    none s p is (same_numbers (numbers_of v s) (numbers_in os) rest after p.0 found.0 (sym e ∙ found.1)).0

-- ---- a line for a step

abbrev StepFound : Version → List ℕ → Keyword → Step → List ℕ → Type 0
StepFound v a k s after = IsSpelled v s × (word_of s ≡ keyword_text k) × (a ≡ spaced (numbers_of v s) ++ 10 ∷ after)

pub line_read : (v : Version) (text word a : List ℕ) (k : Keyword) (s : Step) (after : List ℕ) → Splits IsWordByte text word a
    → word ≡ keyword_text k → StepFound v a k s after
    → text ≡ step_line v s ++ after
line_read v text word a k s after h is found =
    h.0 ∙ ap (λ w. w ++ a) (is ∙ sym found.1) ∙ ap (λ l. word_of s ++ l) found.2 ∙ sym (line_parts (word_of s) (numbers_of v s) after)

-- ---- a line of a trace

ends_judge : (o : Option ℕ) (rest : List ℕ) → BeginsWithout IsWordByte (words o ++ 10 ∷ rest)
ends_judge None rest = λ h. h.0 refl
ends_judge (Some w) rest = λ h. h.0 refl

pub judge_parts : (v : Version) (o : Option ℕ) (rest : List ℕ) → trace_line v (Judged o) ++ rest ≡ codes "judge" ++ (words o ++ 10 ∷ rest)
judge_parts v o rest = append_assoc (codes "judge" ++ words o) (10 ∷ []) rest ∙ append_assoc (codes "judge") (words o) (10 ∷ rest)

-- the word and the rest of a judgement line
pub judge_word : (v : Version) (text word a : List ℕ) (o : Option ℕ) (rest : List ℕ) → Splits IsWordByte text word a
    → text ≡ trace_line v (Judged o) ++ rest
    → (word ≡ codes "judge") × (a ≡ words o ++ 10 ∷ rest)
judge_word v text word a o rest h e =
    split_unique IsWordByte word (codes "judge") a (words o ++ 10 ∷ rest) h.1 (word_bytes (codes "judge") refl) h.2 (ends_judge o rest)
    (sym h.0 ∙ e ∙ judge_parts v o rest)

pub is_judgement : (v : Version) (s : Step) → IsOfVersion v s → word_of s ≡ codes "judge" → s ≡ steps.Judge
is_judgement v s h e = sym (step_again v s h) ∙ ap (λ w. step_spelled v w (numbers_of v s)) e

pub no_line_keyword : (v : Version) (text word a : List ℕ) → Splits IsWordByte text word a
    → ((k : Keyword) → word ≢ keyword_text k) → ¬ BeginsWithLine v text
no_line_keyword v text word a h none (Plain s, rest, p, e) =
    let parts = one_word text word a (word_of s) (numbers_of v s) rest h (step_word s) e in
    let key = keyword_of_step s in
    none key.0 (parts.0 ∙ key.1)
no_line_keyword v text word a h none (Judged o, rest, p, e) = none keywords.Judge (judge_word v text word a o rest h e).0

-- ==== What the test of a loop shows about the elements that are left.

pub some_left : {X : Type 0} (xs : List X) → false ≡ (length xs == 0) → 0 < length xs
some_left [] e = absurd cc
some_left (x ∷ xs) e = omega arith

pub none_left : {X : Type 0} (xs : List X) → true ≡ (length xs == 0) → length xs ≡ 0
none_left [] e = refl
none_left (x ∷ xs) e = grind (arith, nat_tests)

-- ==== Steps that continue the present generation.

-- If none of these steps is a reopening, they are in the generation that was present before.
pub present-append : (later past : List Step) → IsFalse (any is_reopen later) → present (later ++ past) ≡ later ++ present past
present-append [] past e = refl
present-append (s ∷ later) past e =
    elim (cases_Bool (is_reopen s)) [
      | inl reopens ↦ absurd (let bad : true ≡ false = rw reopens at e in cc)
      | inr on ↦ present-goes_on s (later ++ past) on ∙ ap (λ (xs : List Step). s ∷ xs) (present-append later past (rw on at e))
    ]

reopenings_grow : (later past : List Step) → count is_reopen past ≤ count is_reopen (later ++ past)
reopenings_grow [] past = omega arith
reopenings_grow (s ∷ later) past =
    elim (is_reopen s) as (λ b. count is_reopen past ≤ cond b (count is_reopen (later ++ past) + 1) (count is_reopen (later ++ past))) [
      | true ↦ omega (arith, reopenings_grow later past)
      | false ↦ reopenings_grow later past
    ]

-- If the number of the generation is the same after these steps, none of them is a reopening.
pub same_generation : (later past : List Step) → generation (later ++ past) ≡ generation past → IsFalse (any is_reopen later)
same_generation [] past e = refl
same_generation (s ∷ later) past e =
    elim (cases_Bool (is_reopen s)) [
      | inl reopens ↦ absurd (omega (arith, rw reopens at e, reopenings_grow later past))
      | inr on ↦ rw on (same_generation later past (rw on at e))
    ]

-- ---- a run of one generation

goes_on : (n : ℕ) (past : History) (i : ℕ) (s : Step) → Needs n past i s → IsFalse (is_reopen s)
goes_on n past i Reopen needed = absurd needed
goes_on n past i _ needed = refl

pub all_present : (n : ℕ) (h : History) → IsRun n h → present_events h ≡ h
all_present n [] r = refl
all_present n (e ∷ h) r =
    events.present-goes_on e h (goes_on n h e.0.0 e.1 r.0.needed) ∙ ap (λ (xs : History). e ∷ xs) (all_present n h r.1)

run_behind : (n : ℕ) (later past : History) → IsRun n (later ++ past) → IsRun n past
run_behind n [] past r = r
run_behind n (e ∷ later) past r = run_behind n later past r.1

pub run_in_each : RunsOfOneGeneration
run_in_each n h r later past e =
    let run : IsRun n past = run_behind n later past (subst (IsRun n) e r) in
    subst (IsRun n) (sym (all_present n past run)) run

-- ==== The closing lines and their sums, node by node.

pub lines_more : (n : ℕ) (f : ℕ → NodeNumbers) → node_lines (n + 1) f ≡ node_lines n f ++ node_line n (f n)
lines_more n f = rw add-one refl

-- a text that is appended in four pieces
pub four_pieces : (out a b d e f x y z w : List ℕ) → x ≡ out ++ a → y ≡ x ++ b → z ≡ y ++ (d ++ e) → w ≡ z ++ f
    → w ≡ out ++ ((((a ++ b) ++ d) ++ e) ++ f)
four_pieces out a b d e f x y z w p q r s = s ∙ simp (r, q, p, append_assoc)

lines_same : (n : ℕ) (f g : ℕ → NodeNumbers) → ((i : ℕ) → i < n → f i ≡ g i) → node_lines n f ≡ node_lines n g
lines_same zero f g same = refl
lines_same (suc n) f g same =
    ap (λ l. l ++ node_line n (f n)) (lines_same n f g (λ i h. same i (omega arith)))
    ∙ ap (λ x. node_lines n g ++ node_line n x) (same n (omega arith))

total_same : (n : ℕ) (f g : ℕ → ℕ) → ((i : ℕ) → i < n → f i ≡ g i) → total n f ≡ total n g
total_same zero f g same = refl
total_same (suc n) f g same = omega (arith, total_same n f g (λ i h. same i (omega arith)), same n (omega arith))

-- The list has the numbers of the nodes.
pub record Lists (xs : List NodeNumbers) (a : Accepted) : Type 0 where
  pub size : length xs ≡ a.nodes
  pub each : (i : ℕ) → i < a.nodes → listed xs i ≡ numbers_at i a

-- These are the sums over the list.
pub record AddsUp (xs : List NodeNumbers) (x : NodeNumbers) : Type 0 where
  pub pending : x.pending ≡ total (length xs) (λ i. (listed xs i).pending)
  pub sent : x.sent ≡ total (length xs) (λ i. (listed xs i).sent)
  pub received : x.received ≡ total (length xs) (λ i. (listed xs i).received)

numbers_lines : (xs : List NodeNumbers) (a : Accepted) → Lists xs a
    → node_lines (length xs) (listed xs) ≡ node_lines a.nodes (λ i. numbers_at i a)
numbers_lines xs a h = ap (λ n. node_lines n (listed xs)) h.size ∙ lines_same a.nodes (listed xs) (λ i. numbers_at i a) h.each

total_of : (xs : List NodeNumbers) (a : Accepted) → Lists xs a → (field : NodeNumbers → ℕ)
    → total (length xs) (λ i. field (listed xs i)) ≡ total a.nodes (λ i. field (numbers_at i a))
total_of xs a h field =
    ap (λ n. total n (λ i. field (listed xs i))) h.size
    ∙ total_same a.nodes (λ i. field (listed xs i)) (λ i. field (numbers_at i a)) (λ i l. ap field (h.each i l))

numbers_sums : (xs : List NodeNumbers) (x : NodeNumbers) (a : Accepted) → Lists xs a → AddsUp xs x
    → counts x ≡ counts (all_numbers a.nodes (λ i. numbers_at i a))
numbers_sums xs x a h t =
    let p : x.pending ≡ total a.nodes (λ i. (numbers_at i a).pending) = t.pending ∙ total_of xs a h (λ y. y.pending) in
    let s : x.sent ≡ total a.nodes (λ i. (numbers_at i a).sent) = t.sent ∙ total_of xs a h (λ y. y.sent) in
    let r : x.received ≡ total a.nodes (λ i. (numbers_at i a).received) = t.received ∙ total_of xs a h (λ y. y.received) in
    ap (λ n. codes " pending " ++ decimal n ++ codes " sent " ++ decimal x.sent ++ codes " received " ++ decimal x.received) p
    ∙ ap (λ n. codes " pending " ++ decimal (total a.nodes (λ i. (numbers_at i a).pending)) ++ codes " sent " ++ decimal n
    ++ codes " received " ++ decimal x.received) s
    ∙ ap (λ n. codes " pending " ++ decimal (total a.nodes (λ i. (numbers_at i a).pending)) ++ codes " sent "
    ++ decimal (total a.nodes (λ i. (numbers_at i a).sent)) ++ codes " received " ++ decimal n) r

no_truth : (b : Bool) → (IsTrue b → ⊥) → b ≡ false
no_truth true h = absurd (h (search rules))
no_truth false h = refl

truth : (b : Bool) → IsTrue b → b ≡ true
truth true h = refl
truth false h = absurd (search (rules, h))

is_more : (n : ℕ) → (suc n == 0) ≡ false
is_more n = grind (arith, nat_tests)

quiet_by_parts : (b t : Bool) (actions : List Action) (messages : List Message)
    → (IsTrue b ↔ (IsFalse t × (actions ≡ []) × (messages ≡ [])))
    → b ≡ (not t && ((length actions == 0) && (length messages == 0)))
quiet_by_parts b true actions messages h = no_truth b (λ y. let no : IsFalse true = (h.0 y).0 in search (rules, no))
quiet_by_parts b false [] [] h = truth b (h.1 (search rules, refl, refl))
quiet_by_parts b false [] (y ∷ messages) h =
    no_truth b (λ z. let no : y ∷ messages ≡ [] = (h.0 z).2 in cc) ∙ sym (is_more (length messages))
quiet_by_parts b false (x ∷ actions) messages h =
    no_truth b (λ z. let no : x ∷ actions ≡ [] = (h.0 z).1 in cc) ∙ sym (ap (λ v. v && (length messages == 0)) (is_more (length actions)))

-- the result of `quiet`
quiet_is : (b : Bool) (w : World) → (IsTrue b ↔ IsQuiet w) → b ≡ is_quiet w
quiet_is b w h = quiet_by_parts b (list_any (λ x. not (is_done x.life)) w.tasks) w.actions w.messages h

three_pieces : (out a b d p q r : List ℕ) → p ≡ out ++ a → q ≡ p ++ b → r ≡ q ++ d → r ≡ out ++ ((a ++ b) ++ d)
three_pieces out a b d p q r e f g = g ∙ simp (f, e, append_assoc)

pub closing_written : (a : Accepted) (xs : List NodeNumbers) (x : NodeNumbers) (under : ℕ) (b : Bool) (out p q r : List ℕ)
    → Lists xs a → AddsUp xs x
    → under ≡ length (world_of a).messages → (IsTrue b ↔ IsQuiet (world_of a)) → p ≡ out ++ node_lines (length xs) (listed xs)
    → q ≡ p ++ line (codes "total" ++ counts x ++ codes " under " ++ decimal under)
    → r ≡ q ++ line (codes "quiet " ++ (if b then codes "yes" else codes "no"))
    → r ≡ out ++ closing a
closing_written a xs x under b out p q r lists sums u quiet ep eq er =
    three_pieces out (node_lines a.nodes (λ i. numbers_at i a))
    (line (codes "total" ++ counts (all_numbers a.nodes (λ i. numbers_at i a)) ++ codes " under "
    ++ decimal (length (world_of a).messages)))
    (line (codes "quiet " ++ (if is_quiet (world_of a) then codes "yes" else codes "no"))) p q r
    (ep ∙ ap (λ l. out ++ l) (numbers_lines xs a lists))
    (eq ∙ ap (λ l. p ++ line (codes "total" ++ l ++ codes " under " ++ decimal under)) (numbers_sums xs x a lists sums)
    ∙ ap (λ n. p ++ line (codes "total" ++ counts (all_numbers a.nodes (λ i. numbers_at i a)) ++ codes " under " ++ decimal n)) u)
    (er ∙ ap (λ v. q ++ line (codes "quiet " ++ (if v then codes "yes" else codes "no"))) (quiet_is b (world_of a) quiet))

-- the first numbers of a longer list
pub lists_first : (xs : List NodeNumbers) (n : ℕ) (a : Accepted) → n ≡ a.nodes → n ≤ length xs
    → ((i : ℕ) (d : NodeNumbers) → i < a.nodes → slice_index_or xs i d ≡ numbers_at i a) → Lists (take n xs) a
lists_first xs n a e fits each = record {
  size = length-take-le n xs fits ∙ e;
  each = λ i h. let below : i < n = omega arith in get_or-take n xs i no_numbers below ∙ each i no_numbers h;
}
