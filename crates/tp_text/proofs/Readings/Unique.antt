-- Each meaning has one text.
pub mod Traces
pub use Traces.*

-- ==== A text is the script of at most one list of steps, and there is at most one reply to it.

pub same_count : (n m : ℕ) (a b : List ℕ) → IsNodeCount n → IsNodeCount m → nodes_line n ++ a ≡ nodes_line m ++ b → (n ≡ m) × (a ≡ b)
same_count n m a b p q e =
    let words = one_word (nodes_line n ++ a) (codes "nodes") (spaced (n ∷ []) ++ 10 ∷ a) (codes "nodes") (m ∷ []) b
    (line_parts (codes "nodes") (n ∷ []) a, word_bytes (codes "nodes") refl, ends_word (n ∷ []) a) refl e in
    let numbers = same_numbers (n ∷ []) (m ∷ []) a b (is_number n p) (is_number m q) words.1 in
    let same : n ∷ [] ≡ m ∷ [] = numbers.0 in
    (cc, numbers.1)

same_steps : (v : Version) (steps others : List Step) (a b : List ℕ) → All (IsSpelled v) steps → All (IsSpelled v) others
    → ¬ BeginsWithStep v a → ¬ BeginsWithStep v b
    → flat_map (step_line v) steps ++ a ≡ flat_map (step_line v) others ++ b → (steps ≡ others) × (a ≡ b)
same_steps v [] [] a b p q s t e = (refl, e)
same_steps v [] (y ∷ others) a b p q s t e =
    absurd (s (
      y,
      flat_map (step_line v) others
          ++ b,
      All-head (IsSpelled v) y others q,
      e ∙ append_assoc (step_line v y) (flat_map (step_line v) others) b,
    ))
same_steps v (x ∷ steps) [] a b p q s t e =
    absurd (t (
      x,
      flat_map (step_line v) steps
          ++ a,
      All-head (IsSpelled v) x steps p,
      sym e ∙ append_assoc (step_line v x) (flat_map (step_line v) steps) a,
    ))
same_steps v (x ∷ steps) (y ∷ others) a b p q s t e =
    let whole : step_line v x ++ (flat_map (step_line v) steps ++ a) ≡ step_line v y ++ (flat_map (step_line v) others ++ b) =
    sym (append_assoc (step_line v x) (flat_map (step_line v) steps) a) ∙ e
    ∙ append_assoc (step_line v y) (flat_map (step_line v) others) b in
    let first = same_step v x y (flat_map (step_line v) steps ++ a) (flat_map (step_line v) others
    ++ b) (All-head (IsSpelled v) x steps p) (All-head (IsSpelled v) y others q) whole in
    let rest = same_steps v steps others a b (All-tail (IsSpelled v) x steps p) (All-tail (IsSpelled v) y others q) s t first.1 in
    (ap (λ z. z ∷ steps) first.0 ∙ ap (λ l. y ∷ l) rest.0, rest.1)

-- the version of a script is determined
same_version : (v w : Version) (n m : ℕ) (a b : List ℕ) → version_lines v ++ (nodes_line n ++ a) ≡ version_lines w ++ (nodes_line m ++ b)
    → (v ≡ w) × (nodes_line n ++ a ≡ nodes_line m ++ b)
same_version versions.One versions.One n m a b e = (refl, e)
same_version versions.One versions.Two n m a b e = absurd (omega (arith, ap (λ l. slice_index_or l 0 0) e))
same_version versions.Two versions.One n m a b e = absurd (omega (arith, ap (λ l. slice_index_or l 0 0) e))
same_version versions.Two versions.Two n m a b e = (refl, ap (λ l. drop 9 l) e)

-- a script and more text, with the version line first
spread_script : (v : Version) (n : ℕ) (steps : List Step) (a : List ℕ)
    → script v n steps ++ a ≡ version_lines v ++ (nodes_line n ++ (flat_map (step_line v) steps ++ a))
spread_script v n steps a =
    append_assoc (version_lines v) (nodes_line n ++ flat_map (step_line v) steps) a
    ∙ ap (λ l. version_lines v ++ l) (append_assoc (nodes_line n) (flat_map (step_line v) steps) a)

same_script_lines : (v : Version) (n m : ℕ) (steps others : List Step) (a b : List ℕ) → IsNodeCount n → IsNodeCount m
    → All (IsSpelled v) steps → ¬ BeginsWithStep v a → All (IsSpelled v) others → ¬ BeginsWithStep v b
    → nodes_line n ++ (flat_map (step_line v) steps ++ a) ≡ nodes_line m ++ (flat_map (step_line v) others ++ b)
    → (n ≡ m) × (steps ≡ others) × (a ≡ b)
same_script_lines v n m steps others a b p q ps s qs t e =
    let first = same_count n m (flat_map (step_line v) steps ++ a) (flat_map (step_line v) others ++ b) p q e in
    let rest = same_steps v steps others a b ps qs s t first.1 in
    (first.0, rest.0, rest.1)

-- up to the first line that is no step's, a text is the script of one list of steps
pub same_reading : (v w : Version) (n m : ℕ) (steps others : List Step) (a b : List ℕ) → IsNodeCount n → IsNodeCount m
    → All (IsSpelled v) steps → All (IsSpelled w) others → ¬ BeginsWithStep v a → ¬ BeginsWithStep w b
    → script v n steps ++ a ≡ script w m others ++ b → (v ≡ w) × (n ≡ m) × (steps ≡ others) × (a ≡ b)
same_reading v w n m steps others a b p q ps qs s t e =
    let head = same_version v w n m (flat_map (step_line v) steps ++ a) (flat_map (step_line w) others ++ b)
    (sym (spread_script v n steps a) ∙ e ∙ spread_script w m others b) in
    let P : Version → Type 0 = λ x. All (IsSpelled x) others → ¬ BeginsWithStep x b
    → nodes_line n ++ (flat_map (step_line v) steps ++ a) ≡ nodes_line m ++ (flat_map (step_line x) others ++ b)
    → (n ≡ m) × (steps ≡ others) × (a ≡ b) in
    let rest = subst P head.0 (same_script_lines v n m steps others a b p q ps s) qs t head.1 in
    (head.0, rest.0, rest.1, rest.2)

no_step_in_nothing : (v : Version) → ¬ BeginsWithStep v []
no_step_in_nothing v (s, rest, p, e) =
    let whole : [] ≡ word_of s ++ (spaced (numbers_of v s) ++ 10 ∷ rest) = e ∙ line_parts (word_of s) (numbers_of v s) rest in
    omega (arith, ap length whole, length-append {A = ℕ})

-- a script begins with a line for the number of nodes, or with the version line
script_begins : (v : Version) (bytes : List ℕ) (n : ℕ) (steps : List Step) (rest : List ℕ) → IsNodeCount n
    → bytes ≡ script v n steps ++ rest
    → ¬ BeginsWithNodes bytes → ¬ BeginsWithVersion bytes → ⊥
script_begins versions.One bytes n steps rest p e nodes version =
    nodes (n, flat_map (step_line versions.One) steps ++ rest, p, e ∙ spread_script versions.One n steps rest)
script_begins versions.Two bytes n steps rest p e nodes version =
    version (nodes_line n ++ (flat_map (step_line versions.Two) steps ++ rest), e ∙ spread_script versions.Two n steps rest)

-- and after the version line there is one for the number of nodes
script_goes_on : (v : Version) (bytes : List ℕ) (n : ℕ) (steps : List Step) (rest : List ℕ) → IsNodeCount n
    → bytes ≡ script v n steps ++ rest
    → ¬ LacksNodesBehind (version_lines versions.Two) bytes
script_goes_on versions.One bytes n steps rest p e (after, is, none) =
    absurd (omega (arith, ap (λ l. slice_index_or l 0 0) (sym is ∙ e ∙ spread_script versions.One n steps rest)))
script_goes_on versions.Two bytes n steps rest p e (after, is, none) =
    none (n, flat_map (step_line versions.Two) steps ++ rest, p, ap (λ l. drop 9 l) (sym is ∙ e ∙ spread_script versions.Two n steps rest))

same_stop : (bytes : List ℕ) (v w : Version) (n m : ℕ) (steps others : List Step) (a b : List ℕ) → StopsAfter bytes v n steps a
    → StopsAfter bytes w m others b
    → length steps + nodes_at v + 1 ≡ length others + nodes_at w + 1
same_stop bytes v w n m steps others a b h g =
    let both = same_reading v w n m steps others a b h.before.nodes g.before.nodes h.before.spelled g.before.spelled h.no_step g.no_step
    (sym h.text ∙ g.text) in
    ap (λ ss. length ss + nodes_at v + 1) both.2 ∙ ap (λ x. length others + nodes_at x + 1) both.0

pub same_fault : (bytes : List ℕ) (k l : ℕ) → HasFaultAt bytes k → HasFaultAt bytes l → k ≡ l
same_fault bytes k l (inl p) (inl q) = p.0 ∙ sym q.0
same_fault bytes k l (inl p) (inr (inl q)) = absurd (p.2 (q.1.0, q.1.1))
same_fault bytes k l (inl p) (inr (inr (w, m, others, b, g, q))) = absurd (script_begins w bytes m others b g.before.nodes g.text p.1 p.2)
same_fault bytes k l (inr (inl p)) (inl q) = absurd (q.2 (p.1.0, p.1.1))
same_fault bytes k l (inr (inl p)) (inr (inl q)) = p.0 ∙ sym q.0
same_fault bytes k l (inr (inl p)) (inr (inr (w, m, others, b, g, q))) =
    absurd (script_goes_on w bytes m others b g.before.nodes g.text p.1)
same_fault bytes k l (inr (inr (v, n, steps, a, h, p))) (inl q) = absurd (script_begins v bytes n steps a h.before.nodes h.text q.1 q.2)
same_fault bytes k l (inr (inr (v, n, steps, a, h, p))) (inr (inl q)) = absurd (script_goes_on v bytes n steps a h.before.nodes h.text q.1)
same_fault bytes k l (inr (inr (v, n, steps, a, h, p))) (inr (inr (w, m, others, b, g, q))) =
    p ∙ same_stop bytes v w n m steps others a b h g ∙ sym q

pub no_fault : (bytes : List ℕ) (v : Version) (n : ℕ) (steps : List Step) (l : ℕ) → IsScript bytes v n steps → ¬ HasFaultAt bytes l
no_fault bytes v n steps l h fault =
    let whole : bytes ≡ script v n steps ++ [] = h.text ∙ sym (append-nil (script v n steps)) in
    elim fault [
      | inl q ↦ script_begins v bytes n steps [] h.nodes whole q.1 q.2
      | inr (inl q) ↦ script_goes_on v bytes n steps [] h.nodes whole q.1
      | inr (inr (w, m, others, b, g, q)) ↦
          g.more (sym (same_reading v w n m steps others [] b h.nodes g.before.nodes h.spelled g.before.spelled (no_step_in_nothing v)
          g.no_step
          (sym whole ∙ g.text)).3)
    ]

pub scripts_determined : ScriptsAreDetermined
scripts_determined bytes v w n m steps others h g =
    let ends : (x : Version) (k : ℕ) (ss : List Step) → script x k ss ++ [] ≡ script x k ss = λ x k ss. append-nil (script x k ss) in
    let all = same_reading v w n m steps others [] [] h.nodes g.nodes h.spelled g.spelled (no_step_in_nothing v) (no_step_in_nothing w)
    (ends v n steps ∙ sym h.text ∙ g.text ∙ sym (ends w m others)) in
    (all.0, all.1, all.2)

pub texts_determined : TextsAreDetermined
texts_determined bytes Sound text Sound other (v, n, steps, h, e) (w, m, others, g, f) =
    let all = scripts_determined bytes v w n m steps others h g in
    (refl, e ∙ ap (λ k. report k steps) all.1 ∙ ap (report m) all.2 ∙ sym f)
texts_determined bytes Sound text Refused other (v, n, steps, h, e) (l, g, f) = absurd (no_fault bytes v n steps l h g)
texts_determined bytes Refused text Sound other (l, h, e) (v, n, steps, g, f) = absurd (no_fault bytes v n steps l g h)
texts_determined bytes Refused text Refused other (k, h, e) (l, g, f) =
    (refl, e ∙ ap (λ i. line (codes "syntax line " ++ decimal i)) (same_fault bytes k l h g) ∙ sym f)

-- ==== A text is the trace of at most one list of lines.

-- ---- one line

same_words : (o p : Option ℕ) (a b : List ℕ) → AreWords o → AreWords p → words o ++ 10 ∷ a ≡ words p ++ 10 ∷ b → (o ≡ p) × (a ≡ b)
same_words None None a b h g e = (refl, ap (λ l. drop 5 l) e)
same_words None (Some w) a b h g e = absurd (omega (arith, ap (λ l. slice_index_or l 1 0) e))
same_words (Some u) None a b h g e = absurd (omega (arith, ap (λ l. slice_index_or l 1 0) e))
same_words (Some u) (Some w) a b h g e =
    let whole : codes " ended" ++ (spaced (u ∷ []) ++ 10 ∷ a) ≡ codes " ended" ++ (spaced (w ∷ []) ++ 10 ∷ b) =
    sym (append_assoc (codes " ended") (spaced (u ∷ [])) (10 ∷ a)) ∙ e ∙ append_assoc (codes " ended") (spaced (w ∷ [])) (10 ∷ b) in
    let both = same_numbers (u ∷ []) (w ∷ []) a b (one_wave u h) (one_wave w g) (ap (λ l. drop 6 l) whole) in
    (ap (λ ks. Some (slice_index_or ks 0 0)) both.0, both.1)

no_both : (v : Version) (l : TraceLine) (o : Option ℕ) (a b : List ℕ) → IsWritten v l
    → trace_line v l ++ a ≡ trace_line v (Judged o) ++ b → AreWords o → (l ≡ Judged o) × (a ≡ b)
no_both v (Plain s) o a b h e p =
    let word = judge_word v (step_line v s ++ a) (word_of s) (spaced (numbers_of v s) ++ 10 ∷ a) o b
    (line_parts (word_of s) (numbers_of v s) a, word_bytes (word_of s) (step_word s), ends_word (numbers_of v s) a) e in
    absurd (h.1 (is_judgement v s h.0.2 word.0))
no_both v (Judged q) o a b h e p =
    let whole : codes "judge" ++ (words q ++ 10 ∷ a) ≡ codes "judge" ++ (words o ++ 10 ∷ b) =
    sym (judge_parts v q a) ∙ e ∙ judge_parts v o b in
    let both = same_words q o a b h p (ap (λ l. drop 5 l) whole) in
    (ap (λ x. Judged x) both.0, both.1)

same_line : (v : Version) (l m : TraceLine) (a b : List ℕ) → IsWritten v l → IsWritten v m
    → trace_line v l ++ a ≡ trace_line v m ++ b → (l ≡ m) × (a ≡ b)
same_line v (Plain s) (Plain t) a b h g e = let both = same_step v s t a b h.0 g.0 e in (ap (λ x. Plain x) both.0, both.1)
same_line v l (Judged o) a b h g e = no_both v l o a b h e g
same_line v (Judged o) m a b h g e = let both = no_both v m o b a g (sym e) h in (sym both.0, sym both.1)

-- ---- all lines, oldest first

abbrev pub oldest_first : List TraceLine → List TraceLine
oldest_first [] = []
oldest_first (l ∷ past) = oldest_first past ++ l ∷ []

snoc_same : (xs ys : List TraceLine) (x y : TraceLine) → xs ++ x ∷ [] ≡ ys ++ y ∷ [] → (xs ≡ ys) × (x ≡ y)
snoc_same [] [] x y e = (refl, cc)
snoc_same [] (b ∷ ys) x y e = absurd (omega (arith, ap length e, length-append ys (y ∷ [])))
snoc_same (a ∷ xs) [] x y e = absurd (omega (arith, ap length e, length-append xs (x ∷ [])))
snoc_same (a ∷ xs) (b ∷ ys) x y e =
    let head : a ≡ b = cc in
    let rest = snoc_same xs ys x y (cc) in
    (ap (λ l. l ∷ xs) head ∙ ap (λ l. b ∷ l) rest.0, rest.1)

oldest_same : (xs ys : List TraceLine) → oldest_first xs ≡ oldest_first ys → xs ≡ ys
oldest_same [] [] e = refl
oldest_same [] (y ∷ ys) e = absurd (omega (arith, ap length e, length-append (oldest_first ys) (y ∷ [])))
oldest_same (x ∷ xs) [] e = absurd (omega (arith, ap length e, length-append (oldest_first xs) (x ∷ [])))
oldest_same (x ∷ xs) (y ∷ ys) e =
    let both = snoc_same (oldest_first xs) (oldest_first ys) x y e in
    ap (λ l. l ∷ xs) both.1 ∙ ap (λ l. y ∷ l) (oldest_same xs ys both.0)

oldest_written : (v : Version) (lines : List TraceLine) → All (IsWritten v) lines → All (IsWritten v) (oldest_first lines)
oldest_written v [] h = h
oldest_written v (l ∷ lines) h =
    All-more (IsWritten v) (oldest_first lines) l (oldest_written v lines (All-tail (IsWritten v) l lines h))
    (All-head (IsWritten v) l lines h)

line_last : (v : Version) (xs : List TraceLine) (l : TraceLine)
    → flat_map (trace_line v) (xs ++ l ∷ []) ≡ flat_map (trace_line v) xs ++ trace_line v l
line_last v [] l = append-nil (trace_line v l)
line_last v (x ∷ xs) l =
    ap (λ z. trace_line v x ++ z) (line_last v xs l) ∙ sym (append_assoc (trace_line v x) (flat_map (trace_line v) xs) (trace_line v l))

pub trace_is : (v : Version) (n : ℕ) (lines : List TraceLine)
    → trace v n lines ≡ format_line v ++ (nodes_line n ++ flat_map (trace_line v) (oldest_first lines))
trace_is v n [] = ap (λ l. format_line v ++ l) (sym (append-nil (nodes_line n)))
trace_is v n (l ∷ past) =
    ap (λ z. z ++ trace_line v l) (trace_is v n past)
    ∙ append_assoc (format_line v) (nodes_line n ++ flat_map (trace_line v) (oldest_first past)) (trace_line v l)
    ∙ ap (λ z. format_line v ++ z) (append_assoc (nodes_line n) (flat_map (trace_line v) (oldest_first past)) (trace_line v l)
    ∙ ap (λ z. nodes_line n ++ z) (sym (line_last v (oldest_first past) l)))

same_lines : (v : Version) (xs ys : List TraceLine) (a b : List ℕ) → All (IsWritten v) xs → All (IsWritten v) ys
    → ¬ BeginsWithLine v a → ¬ BeginsWithLine v b
    → flat_map (trace_line v) xs ++ a ≡ flat_map (trace_line v) ys ++ b → (xs ≡ ys) × (a ≡ b)
same_lines v [] [] a b p q s t e = (refl, e)
same_lines v [] (y ∷ ys) a b p q s t e =
    absurd (s (
      y,
      flat_map (trace_line v) ys
          ++ b,
      All-head (IsWritten v) y ys q,
      e ∙ append_assoc (trace_line v y) (flat_map (trace_line v) ys) b,
    ))
same_lines v (x ∷ xs) [] a b p q s t e =
    absurd (t (
      x,
      flat_map (trace_line v) xs
          ++ a,
      All-head (IsWritten v) x xs p,
      sym e ∙ append_assoc (trace_line v x) (flat_map (trace_line v) xs) a,
    ))
same_lines v (x ∷ xs) (y ∷ ys) a b p q s t e =
    let whole : trace_line v x ++ (flat_map (trace_line v) xs ++ a) ≡ trace_line v y ++ (flat_map (trace_line v) ys ++ b) =
    sym (append_assoc (trace_line v x) (flat_map (trace_line v) xs) a) ∙ e ∙ append_assoc (trace_line v y) (flat_map (trace_line v) ys) b in
    let first = same_line v x y (flat_map (trace_line v) xs ++ a) (flat_map (trace_line v) ys
    ++ b) (All-head (IsWritten v) x xs p) (All-head (IsWritten v) y ys q) whole in
    let rest = same_lines v xs ys a b (All-tail (IsWritten v) x xs p) (All-tail (IsWritten v) y ys q) s t first.1 in
    (ap (λ z. z ∷ xs) first.0 ∙ ap (λ l. y ∷ l) rest.0, rest.1)

-- the text after the format line
abbrev pub behind : Version → ℕ → List TraceLine → List ℕ → List ℕ
behind v n lines rest = nodes_line n ++ (flat_map (trace_line v) (oldest_first lines) ++ rest)

pub spread : (v : Version) (n : ℕ) (lines : List TraceLine) (rest : List ℕ)
    → trace v n lines ++ rest ≡ format_line v ++ behind v n lines rest
spread v n lines rest =
    ap (λ z. z ++ rest) (trace_is v n lines)
    ∙ append_assoc (format_line v) (nodes_line n ++ flat_map (trace_line v) (oldest_first lines)) rest
    ∙ ap (λ z. format_line v ++ z) (append_assoc (nodes_line n) (flat_map (trace_line v) (oldest_first lines)) rest)

-- the version of a trace is determined
pub same_format : (v w : Version) (a b : List ℕ) → format_line v ++ a ≡ format_line w ++ b → (v ≡ w) × (a ≡ b)
same_format versions.One versions.One a b e = (refl, ap (λ l. drop 8 l) e)
same_format versions.One versions.Two a b e = absurd (omega (arith, ap (λ l. slice_index_or l 6 0) e))
same_format versions.Two versions.One a b e = absurd (omega (arith, ap (λ l. slice_index_or l 6 0) e))
same_format versions.Two versions.Two a b e = (refl, ap (λ l. drop 8 l) e)

same_behind : (v : Version) (n m : ℕ) (lines others : List TraceLine) (a b : List ℕ) → IsNodeCount n → IsNodeCount m
    → All (IsWritten v) lines → ¬ BeginsWithLine v a → All (IsWritten v) others → ¬ BeginsWithLine v b
    → behind v n lines a ≡ behind v m others b → (n ≡ m) × (lines ≡ others) × (a ≡ b)
same_behind v n m lines others a b p q ps s qs t e =
    let first = same_count n m (flat_map (trace_line v) (oldest_first lines) ++ a) (flat_map (trace_line v) (oldest_first others)
    ++ b) p q e in
    let rest = same_lines v (oldest_first lines) (oldest_first others) a b (oldest_written v lines ps) (oldest_written v others qs) s t
    first.1 in
    (first.0, oldest_same lines others rest.0, rest.1)

-- up to the first line that does not match the grammar, a text is the trace of one list of lines
pub same_trace : (v w : Version) (n m : ℕ) (lines others : List TraceLine) (a b : List ℕ) → IsNodeCount n → IsNodeCount m
    → All (IsWritten v) lines → All (IsWritten w) others → ¬ BeginsWithLine v a → ¬ BeginsWithLine w b
    → trace v n lines ++ a ≡ trace w m others ++ b → (v ≡ w) × (n ≡ m) × (lines ≡ others) × (a ≡ b)
same_trace v w n m lines others a b p q ps qs s t e =
    let head = same_format v w (behind v n lines a) (behind w m others b) (sym (spread v n lines a) ∙ e ∙ spread w m others b) in
    let P : Version → Type 0 = λ x. All (IsWritten x) others → ¬ BeginsWithLine x b
    → behind v n lines a ≡ behind x m others b → (n ≡ m) × (lines ≡ others) × (a ≡ b) in
    let rest = subst P head.0 (same_behind v n m lines others a b p q ps s) qs t head.1 in
    (head.0, rest.0, rest.1, rest.2)

some_line : (v : Version) (l : TraceLine) (rest : List ℕ) → ¬ ([] ≡ trace_line v l ++ rest)
some_line v (Plain s) rest e =
    omega (
      arith,
      ap length (e ∙ line_parts (word_of s) (numbers_of v s) rest),
      length-append (word_of s) (spaced (numbers_of v s) ++ 10 ∷ rest),
      length-append (spaced (numbers_of v s)) (10 ∷ rest),
    )
some_line v (Judged o) rest e = let whole = e ∙ judge_parts v o rest in omega (arith, ap length whole)

pub no_line_in_nothing : (v : Version) → ¬ BeginsWithLine v []
no_line_in_nothing v (l, rest, p, e) = some_line v l rest e

pub traces_determined : TracesAreDetermined
traces_determined bytes v w n m lines others h g =
    let ends : (x : Version) (k : ℕ) (ls : List TraceLine) → trace x k ls ++ [] ≡ trace x k ls = λ x k ls. append-nil (trace x k ls) in
    let all = same_trace v w n m lines others [] [] h.nodes g.nodes h.written g.written (no_line_in_nothing v) (no_line_in_nothing w)
    (ends v n lines ∙ sym h.text ∙ g.text ∙ sym (ends w m others)) in
    (all.0, all.1, all.2)

-- ==== There is at most one reply to a trace.

-- ---- flaws

none_refused : (n : ℕ) (l : TraceLine) (past : List TraceLine) → IsSound n (l ∷ past) → refusal (taken n past) (step_in l) ≡ None
none_refused n l past h = none_where_lawful (taken n past) (step_in l) h.run.0 (omega (arith, h.few, length_steps past))

no_flaw : (n : ℕ) (l : TraceLine) (past : List TraceLine) (f : Flaw) → IsSound n (l ∷ past) → ¬ IsFlaw n past l f
no_flaw n l past (flaws.Refused r) h g = let none = none_refused n l past h in let bad : None ≡ Some r = sym none ∙ g in cc
no_flaw n (Judged o) past flaws.Unjustified h (p, is, none, other) = other (judged_same o p is ∙ h.justified.0)
  where
    judged_same : (o p : Option ℕ) → Judged o ≡ Judged p → p ≡ o
    judged_same o p e = cc
no_flaw n (Plain s) past flaws.Unjustified h (p, is, none, other) = cc

same_flaw : (n : ℕ) (l : TraceLine) (past : List TraceLine) (f g : Flaw) → IsFlaw n past l f → IsFlaw n past l g → f ≡ g
same_flaw n l past (flaws.Refused r) (flaws.Refused q) h g = let both : Some r ≡ Some q = sym h ∙ g in let one : r ≡ q =
    cc in ap (λ x. flaws.Refused x) one
same_flaw n (Judged o) past (flaws.Refused r) flaws.Unjustified h (p, is, none, other) = let bad : Some r ≡ None = sym h ∙ none in cc
same_flaw n (Plain s) past (flaws.Refused r) flaws.Unjustified h (p, is, none, other) = cc
same_flaw n (Judged o) past flaws.Unjustified (flaws.Refused r) (p, is, none, other) g = let bad : Some r ≡ None = sym g ∙ none in cc
same_flaw n (Plain s) past flaws.Unjustified (flaws.Refused r) (p, is, none, other) g = cc
same_flaw n l past flaws.Unjustified flaws.Unjustified h g = refl

pub same_place : (n : ℕ) (later later' : List TraceLine) (l l' : TraceLine) (past past' : List TraceLine) (f f' : Flaw)
    → later ++ l ∷ past ≡ later' ++ l' ∷ past'
    → IsSound n past → IsSound n past' → IsFlaw n past l f → IsFlaw n past' l' f' → (l ≡ l') × (past ≡ past')
same_place n [] [] l l' past past' f f' e h h' g g' = (cc, cc)
same_place n [] (x ∷ later') l l' past past' f f' e h h' g g' =
    let within : past ≡ later' ++ l' ∷ past' = cc in
    absurd (no_flaw n l' past' f' (sound_behind n later' (l' ∷ past') (subst (IsSound n) within h)) g')
same_place n (x ∷ later) [] l l' past past' f f' e h h' g g' =
    let within : later ++ l ∷ past ≡ past' = cc in
    absurd (no_flaw n l past f (sound_behind n later (l ∷ past) (subst (IsSound n) (sym within) h')) g)
same_place n (x ∷ later) (y ∷ later') l l' past past' f f' e h h' g g' = same_place n later later' l l' past past' f f' (cc) h h' g g'

same_flaws : (n : ℕ) (lines : List TraceLine) (k j : ℕ) (f g : Flaw) → HasFlawAt n lines k f → HasFlawAt n lines j g
    → flaw_line k f ≡ flaw_line j g
same_flaws n lines k j f g (later, l, past, e, sound, flaw, at) (later', l', past', e', sound', flaw', at') =
    let same = same_place n later later' l l' past past' f g (sym e ∙ e') sound sound' flaw flaw' in
    let moved : IsFlaw n past l g = subst (λ x. IsFlaw n x l g) (sym same.1) (subst (λ x. IsFlaw n past' x g) (sym same.0) flaw') in
    ap (λ x. flaw_line x f) (at ∙ ap (λ ls. length ls + 3) same.1 ∙ sym at') ∙ ap (λ x. flaw_line j x) (same_flaw n l past f g flaw moved)

pub sound_or_flawed : (n : ℕ) (lines : List TraceLine) (k : ℕ) (f : Flaw) → IsSound n lines → ¬ HasFlawAt n lines k f
sound_or_flawed n lines k f h (later, l, past, e, sound, flaw, at) =
    no_flaw n l past f (sound_behind n later (l ∷ past) (subst (IsSound n) e h)) flaw

-- ---- syntax errors

pub has_nodes : (bytes : List ℕ) (v : Version) (n : ℕ) (lines : List TraceLine) (rest : List ℕ) → IsNodeCount n
    → bytes ≡ trace v n lines ++ rest → ¬ LacksNodes bytes
has_nodes bytes v n lines rest count e (w, (after, is, none)) =
    let head = same_format w v after (behind v n lines rest) (sym is ∙ e ∙ spread v n lines rest) in
    none (n, flat_map (trace_line v) (oldest_first lines) ++ rest, count, head.1)

pub has_format : (bytes : List ℕ) (v : Version) (n : ℕ) (lines : List TraceLine) (rest : List ℕ) → bytes ≡ trace v n lines ++ rest
    → BeginsWithFormat bytes
has_format bytes v n lines rest e = (v, behind v n lines rest, e ∙ spread v n lines rest)

same_break : (bytes : List ℕ) (v w : Version) (n m : ℕ) (lines others : List TraceLine) (a b : List ℕ)
    → BreaksOff bytes v n lines a → BreaksOff bytes w m others b → lines ≡ others
same_break bytes v w n m lines others a b h g =
    (same_trace v w n m lines others a b h.before.nodes g.before.nodes h.before.written g.before.written h.no_line g.no_line (sym h.text
    ∙ g.text)).2

same_audit_fault : (bytes : List ℕ) (k l : ℕ) → HasTraceFaultAt bytes k → HasTraceFaultAt bytes l → k ≡ l
same_audit_fault bytes k l (inl p) (inl q) = p.0 ∙ sym q.0
same_audit_fault bytes k l (inl p) (inr (inl q)) = absurd (p.1 (q.1.0, q.1.1.0, q.1.1.1))
same_audit_fault bytes k l (inl p) (inr (inr (w, m, others, b, g, q))) = absurd (p.1 (has_format bytes w m others b g.text))
same_audit_fault bytes k l (inr (inl p)) (inl q) = absurd (q.1 (p.1.0, p.1.1.0, p.1.1.1))
same_audit_fault bytes k l (inr (inl p)) (inr (inl q)) = p.0 ∙ sym q.0
same_audit_fault bytes k l (inr (inl p)) (inr (inr (w, m, others, b, g, q))) = absurd (has_nodes bytes w m others b g.before.nodes g.text p.1)
same_audit_fault bytes k l (inr (inr (v, n, lines, a, h, p))) (inl q) = absurd (q.1 (has_format bytes v n lines a h.text))
same_audit_fault bytes k l (inr (inr (v, n, lines, a, h, p))) (inr (inl q)) = absurd (has_nodes bytes v n lines a h.before.nodes h.text q.1)
same_audit_fault bytes k l (inr (inr (v, n, lines, a, h, p))) (inr (inr (w, m, others, b, g, q))) =
    p ∙ ap (λ ls. length ls + 3) (same_break bytes v w n m lines others a b h g) ∙ sym q

no_audit_fault : (bytes : List ℕ) (v : Version) (n : ℕ) (lines : List TraceLine) (l : ℕ) → IsTrace bytes v n lines → ¬ HasTraceFaultAt bytes l
no_audit_fault bytes v n lines l h fault =
    let whole : bytes ≡ trace v n lines ++ [] = h.text ∙ sym (append-nil (trace v n lines)) in
    elim fault [
      | inl q ↦ q.1 (has_format bytes v n lines [] whole)
      | inr (inl q) ↦ has_nodes bytes v n lines [] h.nodes whole q.1
      | inr (inr (w, m, others, b, g, q)) ↦
          g.more (sym (same_trace v w n m lines others [] b h.nodes g.before.nodes h.written g.before.written (no_line_in_nothing v)
          g.no_line
          (sym whole ∙ g.text)).3)
    ]

-- ---- replies

same_complaint : (bytes text other : List ℕ) → IsComplaint bytes text → IsComplaint bytes other → text ≡ other
same_complaint bytes text other (inl (k, h, e)) (inl (l, g, f)) =
    e ∙ ap (λ i. line (codes "syntax line " ++ decimal i)) (same_audit_fault bytes k l h g) ∙ sym f
same_complaint bytes text other (inl (k, h, e)) (inr (v, n, lines, j, f, t, g, d)) = absurd (no_audit_fault bytes v n lines k t h)
same_complaint bytes text other (inr (v, n, lines, j, f, t, g, d)) (inl (k, h, e)) = absurd (no_audit_fault bytes v n lines k t h)
same_complaint bytes text other (inr (v, n, lines, k, f, t, h, d)) (inr (w, m, others, j, g, u, there, e)) =
    let all = traces_determined bytes v w n m lines others t u in
    let moved : HasFlawAt n lines j g =
    subst (λ x. HasFlawAt n x j g) (sym all.2) (subst (λ x. HasFlawAt x others j g) (sym all.1) there) in
    d ∙ same_flaws n lines k j f g h moved ∙ sym e

no_complaint : (bytes text : List ℕ) (v : Version) (n : ℕ) (lines : List TraceLine) → IsTrace bytes v n lines → IsSound n lines
    → ¬ IsComplaint bytes text
no_complaint bytes text v n lines t h (inl (k, g, e)) = no_audit_fault bytes v n lines k t g
no_complaint bytes text v n lines t h (inr (w, m, others, k, f, u, g, e)) =
    let all = traces_determined bytes v w n m lines others t u in
    let moved : HasFlawAt n lines k f = subst (λ x. HasFlawAt n x k f) (sym all.2) (subst (λ x. HasFlawAt x others k f) (sym all.1) g) in
    sound_or_flawed n lines k f h moved

pub audits_determined : AuditsAreDetermined
audits_determined bytes Sound text Sound other (v, n, lines, t, h, e) (w, m, others, u, g, f) =
    let all = traces_determined bytes v w n m lines others t u in (
      refl,
      e ∙ ap (λ x. summary x (account n (steps_in lines))) all.0 ∙ ap (λ k. summary w (account k (steps_in lines))) all.1
          ∙ ap (λ ls. summary w (account m (steps_in ls))) all.2 ∙ sym f,
    )
audits_determined bytes Sound text Refused other (v, n, lines, t, h, e) g = absurd (no_complaint bytes other v n lines t h g)
audits_determined bytes Refused text Sound other g (v, n, lines, t, h, e) = absurd (no_complaint bytes text v n lines t h g)
audits_determined bytes Refused text Refused other h g = (refl, same_complaint bytes text other h g)
