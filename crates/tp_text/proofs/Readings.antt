-- A reader follows a text, and reads what it means and nothing else.
pub mod Unique
pub use Unique.*

-- ==== The lines that a tracer finds for the steps of a run, and the trace that they give.

-- ---- reading what was printed

step_of_line : (n : ℕ) (past : List Step) (s : Step) → step_in (line_of n past s) ≡ s
step_of_line n past Judge = refl
step_of_line n past _ = refl

steps_in_lines : (n : ℕ) (ss : List Step) → steps_in (lines_of n ss) ≡ ss
steps_in_lines n [] = refl
steps_in_lines n (s ∷ past) =
    ap (λ x. x ∷ steps_in (lines_of n past)) (step_of_line n past s) ∙ ap (λ l. s ∷ l) (steps_in_lines n past)

justified_line : (n : ℕ) (past known : List Step) (s : Step) → past ≡ known → IsJustified n known (line_of n past s)
justified_line n past known Judge e = ap (λ x. judgement n (present x)) e
justified_line n past known _ e = tt

lines_justified : (n : ℕ) (ss : List Step) → AreJustified n (lines_of n ss)
lines_justified n [] = tt
lines_justified n (s ∷ past) = (justified_line n past (steps_in (lines_of n past)) s (sym (steps_in_lines n past)), lines_justified n past)

pub traces_read_back : TracesAreReadBack
traces_read_back n ss bytes v m lines printed read =
    let same = traces_determined bytes (version_of ss) v n m (lines_of n ss) lines printed read in
    (sym same.1, ap steps_in (sym same.2) ∙ steps_in_lines n ss, subst (AreJustified n) same.2 (lines_justified n ss))

-- ---- the lines match the grammar

-- Each wave but the newest was judged, so twice the number of waves is at most the number of steps and 1.
record AreFewWaves (ss : List Step) : Type 0 where
  most : 2 * waves ss ≤ length ss + 1
  due : IsTrue (not (any is_start ss) || in_wave is_judge ss) → 2 * waves ss ≤ length ss

few_waves : (n : ℕ) (ss : List Step) → AreLawfulWaves n ss → AreFewWaves ss
few_waves n [] h = record { most = omega arith; due = λ e. omega arith }
few_waves n (Start ∷ past) h = record { most = omega (arith, (few_waves n past h.1).due (h.0 refl).1); due = λ e. cc }
few_waves n (Judge ∷ past) h =
    record { most = omega (arith, (few_waves n past h.1).most); due = λ e. omega (arith, (few_waves n past h.1).most) }
few_waves n (s ∷ past) h =
    record { most = omega (arith, (few_waves n past h.1).most); due = λ e. omega (arith, (few_waves n past h.1).due e) }

are_words : (b : Bool) (w : ℕ) → (IsTrue b → AreWords (Some w)) → AreWords (if b then Some w else None)
are_words true w h = h refl
are_words false w h = tt

written_words : (n : ℕ) (past : List Step) → AreLawfulWaves n past → length past < MAX_STEPS → AreWords (judgement n past)
written_words n past h l = are_words (nat_le 2 (waves past) && four_equal n past) (waves past - 1) (λ e.
    let two : 2 ≤ waves past = leb-true 2 (waves past) (and_parts (nat_le 2 (waves past)) (four_equal n past) e).0 in
    (omega (arith, two), omega (arith, l, (few_waves n past h).most)))

written_line : (v : Version) (n : ℕ) (past : List Step) (s : Step) → AreLawfulWaves n (present past) → length past < MAX_STEPS
    → IsSpelled v s
    → IsWritten v (line_of n past s)
written_line v n past Judge h l p = written_words n (present past) h (omega (arith, l, length-present past))
written_line v n past _ h l p = (p, λ e. cc)

written_lines : (v : Version) (n : ℕ) (ss : List Step) → InEach (AreLawfulWaves n) ss → length ss ≤ MAX_STEPS → All (IsSpelled v) ss
    → All (IsWritten v) (lines_of n ss)
written_lines v n [] h l p = All-nil (IsWritten v)
written_lines v n (s ∷ past) h l p =
    All-cons (IsWritten v) (line_of n past s) (lines_of n past)
    (written_line v n past s (h (s ∷ []) past refl) (omega (arith, l)) (All-head (IsSpelled v) s past p))
    (written_lines v n past (λ later rest e. h (s ∷ later) rest (ap (λ x. s ∷ x) e)) (omega (arith, l)) (All-tail (IsSpelled v) s past p))

-- what holds in each generation of a history holds in each without the newest event
each_past : (P : History → Type 0) (e : Event) (h : History) → histories.InEach P (e ∷ h) → histories.InEach P h
each_past P e h each later past is = each (e ∷ later) past (ap (λ x. e ∷ x) is)

past_runs : (n : ℕ) (s : Step) (past : List Step) → AreStepsOfRuns n (s ∷ past) → AreStepsOfRuns n past
past_runs n s past ([], each, is) = cc
past_runs n s past (e ∷ h, each, is) = (h, each_past (IsRun n) e h each, cc)

-- the steps of the waves are lawful in each generation
waves_in_each : (n : ℕ) (ss : List Step) → AreStepsOfRuns n ss → InEach (AreLawfulWaves n) ss
waves_in_each n ss (h, run, is) [] past e =
    subst (λ x. AreLawfulWaves n (present x)) (is ∙ e)
    (subst (AreLawfulWaves n) (steps-present h) (lawful_waves n (present_events h) (run [] h refl)))
waves_in_each n [] runs (s ∷ later) past e = cc
waves_in_each n (x ∷ ss) runs (s ∷ later) past e = waves_in_each n ss (past_runs n x ss runs) later past (cc)

pub is_trace_of : (v : Version) (n : ℕ) (ss : List Step) (text : List ℕ) → IsNodeCount n → AreStepsOfRuns n ss → v ≡ version_of ss
    → CanBeTraced ss → text ≡ trace v n (lines_of n ss) → IsTraceOf n ss text
is_trace_of v n ss text count runs is can e = record {
  nodes = count;
  written = written_lines (version_of ss) n ss (waves_in_each n ss runs) can.0 can.1;
  text = e ∙ ap (λ x. trace x n (lines_of n ss)) is;
}

-- The steps of a core are the steps of runs.
pub core_runs : (n : ℕ) (ss : List Step) → 1 ≤ n → AreRuns n ss → AreStepsOfRuns n ss
core_runs n ss some r =
    let counted = runs_are_counted n ss some r in
    (history_after n ss, generations_law n (history_after n ss) counted.are_runs, counted.steps_are)

-- ---- steps in the order of time

steps_of-get : (h : History) (i : ℕ) (e : Event) → get_or (steps_of h) i e.1 ≡ (get_or h i e).1
steps_of-get [] i e = refl
steps_of-get (x ∷ h) zero e = refl
steps_of-get (x ∷ h) (suc i) e = steps_of-get h i e

-- The events of a history, oldest first, and its steps are at the same places.
pub step_at : (h : History) (k : ℕ) (e : Event) → slice_get (reverse h) k ≡ Some e → slice_get (reverse (steps_of h)) k ≡ Some e.1
step_at h k e at =
    let within : k < length h = omega (arith, slice_get_within (reverse h) k e at, length-reverse h) in
    let there : k < length (steps_of h) = omega (arith, within, length-steps_of h) in
    slice_get_read (reverse (steps_of h)) (length (steps_of h)) k e.1 (sym (length-reverse (steps_of h))) there
    (sym (get_or-reverse (steps_of h) k e.1 there ∙ ap (λ n. get_or (steps_of h) (n - 1 - k) e.1) (length-steps_of h)
    ∙ steps_of-get h (length h - 1 - k) e
    ∙ ap (λ x. x.1) (sym (get_or-reverse h k e within) ∙ get_or_from_slice_get (reverse h) k e e at)))

pub some_event : (h : History) (k : ℕ) → slice_get (reverse h) k ≡ None → k < length (reverse (steps_of h)) → ⊥
some_event h k none within =
    let some = slice_get-get_or (reverse h) k (record { 0 = 0 }, Reopen)
    (omega (arith, within, length-reverse h, length-reverse (steps_of h), length-steps_of h)) in cc

-- the k oldest of the steps, the newest first; `xs` has the oldest first
abbrev pub oldest : ℕ → List Step → List Step
oldest k xs = reverse (take k xs)

pub oldest_next : (k : ℕ) (xs : List Step) (s : Step) → slice_get xs k ≡ Some s → oldest (k + 1) xs ≡ s ∷ oldest k xs
oldest_next k xs s at =
    ap reverse (take_more xs k s (slice_get_within xs k s at)) ∙ reverse-append (take k xs) (get_or xs k s ∷ [])
    ∙ ap (λ x. x ∷ oldest k xs) (get_or_from_slice_get xs k s s at)

-- What holds of steps, and then of those before the newest one, holds of the oldest ones.
before : (P : List Step → Type 0) → ((s : Step) (past : List Step) → P (s ∷ past) → P past) → (later past : List Step)
    → P (later ++ past) → P past
before P past_of [] past p = p
before P past_of (s ∷ later) past p = before P past_of later past (past_of s (later ++ past) p)

at_oldest : (P : List Step → Type 0) → ((s : Step) (past : List Step) → P (s ∷ past) → P past) → (k : ℕ) (xs : List Step)
    → P (reverse xs) → P (oldest k xs)
at_oldest P past_of k xs p =
    before P past_of (reverse (drop k xs)) (oldest k xs)
    (subst P (ap reverse (sym (take-append-drop k xs)) ∙ reverse-append (take k xs) (drop k xs)) p)

pub spelled_there : (v : Version) (xs : List Step) (k : ℕ) (s : Step) → slice_get xs k ≡ Some s → All (IsSpelled v) (reverse xs)
    → IsSpelled v s
spelled_there v xs k s at p =
    All-head (IsSpelled v) s (oldest k xs)
    (subst (All (IsSpelled v)) (oldest_next k xs s at) (at_oldest (All (IsSpelled v)) (All-tail (IsSpelled v)) (k + 1) xs p))

second_false : (a b : Bool) → IsFalse (a || b) → IsFalse b
second_false true b e = cc
second_false false b e = e

-- A reopening is found.
pub second_version : (k : ℕ) (xs : List Step) → slice_get xs k ≡ Some Reopen → versions.Two ≡ version_of (reverse xs)
second_version k xs at =
    elim (cases_Bool (any is_reopen (reverse xs))) [
      | inl some ↦ rw some refl
      | inr none ↦ let last : IsFalse (any is_reopen (Reopen ∷ oldest k xs)) = subst (λ x. IsFalse (any is_reopen x)) (oldest_next k xs Reopen at)
          (at_oldest (λ x. IsFalse (any is_reopen x)) (λ s past e. second_false (is_reopen s) (any is_reopen past) e) (k + 1) xs none) in cc
    ]

none_of_two : (s : Step) (b : Bool) → s ≢ Reopen → IsFalse b → IsFalse (is_reopen s || b)
none_of_two Reopen b other e = absurd (other refl)
none_of_two _ b other e = e

pub next_none : (k : ℕ) (xs : List Step) (s : Step) → slice_get xs k ≡ Some s → s ≢ Reopen → IsFalse (any is_reopen (oldest k xs))
    → IsFalse (any is_reopen (oldest (k + 1) xs))
next_none k xs s at other none = rw (oldest_next k xs s at) (none_of_two s (any is_reopen (oldest k xs)) other none)

-- ---- the next step

has_node : (n : ℕ) (past : History) (i : NodeId) (s : Step) → IsNext n past (i, s) → HasNode n s
has_node n past i (Send j k m g) x = omega (arith, x.known, x.beside)
has_node n past i (Recv j m g) x = omega (arith, x.known, x.beside)
has_node n past i _ x = tt

-- an event that continues the present generation may follow
may_go_on : (n : ℕ) (past : History) (e : Event) → IsRun n (e ∷ past) → length past < MAX_STEPS → MayFollow n (steps_of past) e.1
may_go_on n past e r l = record {
  few = omega (arith, l, length-steps_of past);
  node = has_node n past e.0 e.1 r.0;
  control = r.0.control;
  two_tell = two_tell_law n past r.1;
}

-- and so may a reopening
may_reopen : (n : ℕ) (past : History) (s : Step) → IsTrue (is_reopen s) → IsRun n past → length past < MAX_STEPS
    → MayFollow n (steps_of past) s
may_reopen n past Reopen e r l = record {
  few = omega (arith, l, length-steps_of past);
  node = tt;
  control = λ c. cc;
  two_tell = two_tell_law n past r;
}
may_reopen n past _ e r l = cc

may_follow : (n : ℕ) (past : List Step) (s : Step) → AreStepsOfRuns n (s ∷ past) → length past < MAX_STEPS → MayFollow n (present past) s
may_follow n past s ([], each, is) l = cc
may_follow n past s (e ∷ h, each, is) l =
    let same : steps_of h ≡ past = cc in
    let few : length (present_events h) < MAX_STEPS = omega (arith, l, events.length-present h, length-steps_of h, ap length same) in
    let step : e.1 ≡ s = cc in
    subst (λ x. MayFollow n (present x) s) same (subst (MayFollow n (present (steps_of h))) step
    (subst (λ x. MayFollow n x e.1) (steps-present h)
    (elim (cases_Bool (is_reopen e.1)) [
      | inl reopens ↦ may_reopen n (present_events h) e.1 reopens (each (e ∷ []) h refl) few
      | inr on ↦ may_go_on n (present_events h) e (subst (IsRun n) (events.present-goes_on e h on) (each [] (e ∷ h) refl)) few
    ])))

pub may_follow_next : (n k : ℕ) (xs : List Step) (s : Step) → slice_get xs k ≡ Some s → AreStepsOfRuns n (reverse xs)
    → length xs ≤ MAX_STEPS → MayFollow n (present (oldest k xs)) s
may_follow_next n k xs s at runs few =
    may_follow n (oldest k xs) s (subst (AreStepsOfRuns n) (oldest_next k xs s at) (at_oldest (AreStepsOfRuns n) (past_runs n) (k + 1) xs runs))
    (omega (arith, few, slice_get_within xs k s at, length-reverse (take k xs), length-take-le k xs))

-- one more line is appended
pub traced_next : (v : Version) (n : ℕ) (past : List Step) (s : Step) (l : TraceLine) (old new : List ℕ) → l ≡ line_of n past s
    → old ≡ trace v n (lines_of n past) → new ≡ old ++ trace_line v l → new ≡ trace v n (lines_of n (s ∷ past))
traced_next v n past s l old new is before written =
    written ∙ ap (λ x. old ++ trace_line v x) is ∙ ap (λ x. x ++ trace_line v (line_of n past s)) before

-- ---- counting messages

-- one more at position j
pub one_more : (n j : ℕ) (xs new : List ℕ) (f : ℕ → ℕ) → ((i : ℕ) → i < n → slice_index_or xs i 0 ≡ f i) → j < n → j < length xs
    → new ≡ slice_set xs j (slice_index_or xs j 0 + 1) → (i : ℕ) → i < n → slice_index_or new i 0 ≡ (if j == i then f i + 1 else f i)
one_more n j xs new f each known within is i below = elim (cases_eq j i) [
  | inl same ↦
      rw (eq-eqb j i same) (ap (λ ys. slice_index_or ys i 0) is
      ∙ ap (λ k. slice_index_or (slice_set xs j (slice_index_or xs j 0 + 1)) k 0) (sym same)
      ∙ get_or-set_same xs j (slice_index_or xs j 0 + 1) 0 within ∙ ap (λ m. m + 1) (ap (λ k. slice_index_or xs k 0) same ∙ each i below))
  | inr other ↦
      rw (ne_eqb j i other) (ap (λ ys. slice_index_or ys i 0) is
      ∙ get_or-set_other xs j i (slice_index_or xs j 0 + 1) 0 (λ e. other (sym e)) ∙ each i below)
]

pub few_sent : (n : ℕ) (past : List Step) (t : Tracer) (i : ℕ) → HasFollowed n past t → i < n → length past < MAX_STEPS
    → slice_index_or t.sent i 0 < MAX_STEPS
few_sent n past t i h below l = omega (arith, h.sent i below, count-le (is_send_of i) past, l)

pub few_received : (n : ℕ) (past : List Step) (t : Tracer) (i : ℕ) → HasFollowed n past t → i < n → length past < MAX_STEPS
    → slice_index_or t.received i 0 < MAX_STEPS
few_received n past t i h below l = omega (arith, h.received i below, count-le (is_recv_at i) past, l)

pub sender : (n : ℕ) (past : List Step) (s : Step) (i j : NodeId) (m : MessageId) (g : Generation) → s ≡ Send i j m g
    → MayFollow n past s → i.0 < n
sender n past s i j m g is h = subst (HasNode n) is h.node

pub receiver : (n : ℕ) (past : List Step) (s : Step) (j : NodeId) (m : MessageId) (g : Generation) → s ≡ Recv j m g
    → MayFollow n past s → j.0 < n
receiver n past s j m g is h = subst (HasNode n) is h.node

pub sent_one : (n : ℕ) (past : List Step) (s : Step) (i j : NodeId) (m : MessageId) (g : Generation) (t : Tracer) (new : List ℕ)
    → s ≡ Send i j m g → HasFollowed n (present past) t → MayFollow n (present past) s → i.0 < length t.sent
    → new ≡ slice_set t.sent i.0 (slice_index_or t.sent i.0 0 + 1)
    → HasFollowed n (present (s ∷ past)) (record { wave = t.wave; sent = new; received = t.received; nodes = t.nodes })
sent_one n past s i j m g t new is h may within e =
    subst (λ x. HasFollowed n (present (x ∷ past)) (record { wave = t.wave; sent = new; received = t.received; nodes = t.nodes }))
    (sym is) (record {
      some = h.some;
      nodes = h.nodes;
      over = h.over;
      wave = pool_step n (present past) (Send i j m g) t.wave refl h.wave;
      sent = one_more n i.0 t.sent new (λ k.
          count (is_send_of k) (present past)) h.sent (sender n (present past) s i j m g is may) within e;
      received = h.received;
    })

pub received_one : (n : ℕ) (past : List Step) (s : Step) (j : NodeId) (m : MessageId) (g : Generation) (t : Tracer) (new : List ℕ)
    → s ≡ Recv j m g → HasFollowed n (present past) t → MayFollow n (present past) s → j.0 < length t.received
    → new ≡ slice_set t.received j.0 (slice_index_or t.received j.0 0 + 1)
    → HasFollowed n (present (s ∷ past)) (record { wave = t.wave; sent = t.sent; received = new; nodes = t.nodes })
received_one n past s j m g t new is h may within e =
    subst (λ x. HasFollowed n (present (x ∷ past)) (record { wave = t.wave; sent = t.sent; received = new; nodes = t.nodes })) (sym is)
    (record {
      some = h.some;
      nodes = h.nodes;
      over = h.over;
      wave = pool_step n (present past) (Recv j m g) t.wave refl h.wave;
      sent = h.sent;
      received = one_more n j.0 t.received new (λ k.
          count (is_recv_at k) (present past)) h.received (receiver n (present past) s j m g is may) within e;
    })

-- ---- the steps of the waves

-- a control step that may follow is not refused
pub not_refused : {A : Type 0} (n : ℕ) (past : List Step) (s : Step) (r : Result A Refusal) (P : Type 0) → IsTrue (is_control s)
    → MayFollow n past s
    → result_err r ≡ control_refusal n past s → OnOk r P → P
not_refused n past s (Ok x) P control may exact goes = goes
not_refused n past s (Err e) P control may exact goes = let none = (checks_exact n past s control).1 (may.control control) in cc

pub judged_line : (n : ℕ) (past : List Step) (s : Step) (o : Option ℕ) → s ≡ Judge → o ≡ judgement n (present past)
    → Judged o ≡ line_of n past s
judged_line n past s o is told = ap (λ x. Judged x) told ∙ ap (line_of n past) (sym is)

-- ---- any other step

pub other_line : (n : ℕ) (past : List Step) (s : Step) → s ≢ Judge → Plain s ≡ line_of n past s
other_line n past Judge other = absurd (other refl)
other_line n past _ other = refl

pub other_step : (n : ℕ) (past : List Step) (s : Step) (t : Tracer) → HasFollowed n (present past) t
    → ((i j : NodeId) (m : MessageId) (g : Generation) → s ≢ Send i j m g)
    → ((j : NodeId) (m : MessageId) (g : Generation) → s ≢ Recv j m g)
    → (s ≢ Start) → ((i : NodeId) → s ≢ Down i) → ((i : NodeId) → s ≢ Give i) → ((i : NodeId) → s ≢ Up i) → (s ≢ Judge) → (s ≢ Reopen)
    → HasFollowed n (present (s ∷ past)) t
other_step n past (Send i j m g) t h send recv start down give up judge reopen = absurd (send i j m g refl)
other_step n past (Recv j m g) t h send recv start down give up judge reopen = absurd (recv j m g refl)
other_step n past Start t h send recv start down give up judge reopen = absurd (start refl)
other_step n past (Down i) t h send recv start down give up judge reopen = absurd (down i refl)
other_step n past (Give i) t h send recv start down give up judge reopen = absurd (give i refl)
other_step n past (Up i) t h send recv start down give up judge reopen = absurd (up i refl)
other_step n past Judge t h send recv start down give up judge reopen = absurd (judge refl)
other_step n past Reopen t h send recv start down give up judge reopen = absurd (reopen refl)
other_step n past s t h send recv start down give up judge reopen =
    record {
      some = h.some;
      nodes = h.nodes;
      over = h.over;
      wave = pool_step n (present past) s t.wave refl h.wave;
      sent = h.sent;
      received = h.received;
    }

-- ==== What is read of a trace, from the lines that were taken; and that all results for some bytes are the same.

-- ---- the returned steps

-- the older of some steps, oldest first
older : (newest past core steps : List Step) (k : ℕ) → core ≡ newest ++ past → k ≡ length past → steps ≡ take k (reverse core)
    → past ≡ reverse steps
older newest past core steps k e counted taken =
    let is : steps ≡ reverse past =
    taken ∙ ap (λ c. take k (reverse c)) e ∙ ap (λ c. take k c) (reverse-append newest past)
    ∙ ap (λ j. take j (reverse past ++ reverse newest)) (counted ∙ sym (length-reverse past))
    ∙ take-append_seam (reverse past) (reverse newest) in
    sym (ap reverse is ∙ reverse-reverse past)

all_handed : (n : ℕ) (lines : List TraceLine) (a : Auditor) (steps : List Step) → AreTaken n lines a
    → steps ≡ take a.account.steps (reverse a.core.steps) → steps_in lines ≡ reverse steps
all_handed n lines a steps h e =
    older [] (steps_in lines) a.core.steps steps a.account.steps (ap (λ (x : Accepted). x.steps) h.core)
    (ap (λ (x : Account). x.steps) h.account) e

some_handed : (n : ℕ) (lines : List TraceLine) (a : Auditor) (k : ℕ) (flaw : Flaw) (steps : List Step) (h : AreStopped n lines a k flaw)
    → steps ≡ take a.account.steps (reverse a.core.steps) → steps_in h.past ≡ reverse steps
some_handed n lines a k flaw steps h e =
    older h.newest (steps_in h.past) a.core.steps steps a.account.steps h.core (ap (λ (x : Account). x.steps) h.account) e

-- as many lines as steps
as_many : (lines : List TraceLine) (steps : List Step) → steps_in lines ≡ reverse steps → length steps ≡ length lines
as_many lines steps e = omega (arith, ap length e, length-reverse steps, length_steps lines)

part_handed : (n : ℕ) (lines : List TraceLine) (a : Auditor) (o : Option (ℕ × Flaw)) (steps : List Step) → IsFound n lines a o
    → steps ≡ take a.account.steps (reverse a.core.steps)
    → (past : List TraceLine) × AreSoundPart n lines past × (steps_in past ≡ reverse steps)
part_handed n lines a None steps h e = (lines, inl (refl, h.sound), all_handed n lines a steps h e)
part_handed n lines a (Some f) steps h e = (h.past, inr (f.1, h.up_to), some_handed n lines a f.0 f.1 steps h e)

part_sound : (n : ℕ) (lines past : List TraceLine) → AreSoundPart n lines past → IsSound n past
part_sound n lines past (inl h) = subst (IsSound n) (sym h.0) h.1
part_sound n lines past (inr h) = h.1.3

-- ---- what is read

pub handed_runs : (n : ℕ) (lines : List TraceLine) (a : Auditor) (steps : List Step) → Knows n lines a
    → steps ≡ take a.account.steps (reverse a.core.steps) → AreRuns n (reverse steps)
handed_runs n lines a steps h e =
    let part = part_handed n lines a a.flaw steps h e in
    let sound : IsSound n part.0 = part_sound n lines part.0 part.1 in
    subst (AreRuns n) part.2 sound.run

-- a trace ends after its lines
has_all : (bytes : List ℕ) (v : Version) (n : ℕ) (lines : List TraceLine) → IsTrace bytes v n lines → HasLines bytes v n lines []
has_all bytes v n lines t = record {
  before = record { nodes = t.nodes; written = t.written; text = refl };
  text = t.text ∙ sym (append-nil (trace v n lines));
  no_line = no_line_in_nothing v;
}

has_broken : (bytes : List ℕ) (v : Version) (n : ℕ) (lines : List TraceLine) (rest : List ℕ) → BreaksOff bytes v n lines rest
    → HasLines bytes v n lines rest
has_broken bytes v n lines rest h = record { before = h.before; text = h.text; no_line = h.no_line }

pub flawed_read : (v : Version) (bytes : List ℕ) (n : ℕ) (lines : List TraceLine) (a : Auditor) (steps : List Step)
    → IsTrace bytes v n lines → Knows n lines a → steps ≡ take a.account.steps (reverse a.core.steps)
    → AreStepsBeforeFault bytes n steps
flawed_read v bytes n lines a steps t h e =
    let part = part_handed n lines a a.flaw steps h e in
    (v, lines, [], part.0, has_all bytes v n lines t, part.1, part.2)

pub broken_read : (v : Version) (bytes : List ℕ) (n : ℕ) (lines : List TraceLine) (rest : List ℕ) (a : Auditor) (steps : List Step)
    → BreaksOff bytes v n lines rest → Knows n lines a → steps ≡ take a.account.steps (reverse a.core.steps)
    → AreStepsBeforeFault bytes n steps
broken_read v bytes n lines rest a steps breaks h e =
    let part = part_handed n lines a a.flaw steps h e in
    (v, lines, rest, part.0, has_broken bytes v n lines rest breaks, part.1, part.2)

-- a line was flawed, and the reply reports the first such line
pub flaw_answered : (v : Version) (bytes : List ℕ) (n : ℕ) (lines : List TraceLine) (a : Auditor) (o : Option (ℕ × Flaw))
    (verdict : Verdict) (out : List ℕ)
    → true ≡ is_some o → IsTrace bytes v n lines → IsFound n lines a o
    → MatchOption o ((verdict ≡ Sound) × (out ≡ summary v a.account)) (λ found. (verdict ≡ Refused) × (out ≡ flaw_line found.0 found.1))
    → IsAuditText bytes Refused out
flaw_answered v bytes n lines a None verdict out flawed t h e = cc
flaw_answered v bytes n lines a (Some found) verdict out flawed t h e =
    subst (λ w. IsAuditText bytes w out) e.0 (answer_found v bytes n lines a (Some found) verdict out t h e)

-- ---- which line is reported

flaw_told : (n : ℕ) (lines : List TraceLine) (a : Auditor) (k : ℕ) (flaw : Flaw) (steps : List Step) (out : List ℕ)
    → AreStopped n lines a k flaw
    → steps ≡ take a.account.steps (reverse a.core.steps) → out ≡ flaw_line k flaw → TellsLineBehind steps out
flaw_told n lines a k flaw steps out h e written =
    let many = as_many h.past steps (some_handed n lines a k flaw steps h e) in
    let at : k ≡ length steps + 3 = omega (arith, h.number, many) in
    inr (inl (flaw, written ∙ ap (λ j. flaw_line j flaw) at))

pub whole_told : (v : Version) (n : ℕ) (lines : List TraceLine) (a : Auditor) (o : Option (ℕ × Flaw)) (steps : List Step)
    (verdict : Verdict) (out : List ℕ)
    → true ≡ is_some o → IsFound n lines a o → steps ≡ take a.account.steps (reverse a.core.steps)
    → MatchOption o ((verdict ≡ Sound) × (out ≡ summary v a.account)) (λ found. (verdict ≡ Refused) × (out ≡ flaw_line found.0 found.1))
    → TellsLineBehind steps out
whole_told v n lines a None steps verdict out flawed h e written = cc
whole_told v n lines a (Some f) steps verdict out flawed h e written = flaw_told n lines a f.0 f.1 steps out h e written.1

longer : (later : List TraceLine) (l : TraceLine) (past lines : List TraceLine) → lines ≡ later ++ l ∷ past → length past < length lines
longer later l past lines e = omega (arith, ap length e, length-append later (l ∷ past))

broken_told_by : (n : ℕ) (lines : List TraceLine) (a : Auditor) (o : Option (ℕ × Flaw)) (steps : List Step) (out : List ℕ)
    → IsFound n lines a o
    → steps ≡ take a.account.steps (reverse a.core.steps) → out ≡ syntax_text (length lines + 3) → TellsLineBehind steps out
broken_told_by n lines a None steps out h e written =
    let many = as_many lines steps (all_handed n lines a steps h e) in
    inl (written ∙ ap (λ j. syntax_text (j + 3)) (sym many))
broken_told_by n lines a (Some f) steps out h e written =
    let many = as_many h.past steps (some_handed n lines a f.0 f.1 steps h e) in
    inr (inr (length lines + 3, omega (arith, many, longer h.up_to.0 h.up_to.1 h.past lines h.up_to.2), written))

pub broken_told : (n : ℕ) (lines : List TraceLine) (a : Auditor) (steps : List Step) (out : List ℕ) → Knows n lines a
    → steps ≡ take a.account.steps (reverse a.core.steps) → out ≡ syntax_text (length lines + 3) → TellsLineBehind steps out
broken_told n lines a steps out h e written = broken_told_by n lines a a.flaw steps out h e written

-- ---- all results are the same

same_reversed : (s t : List Step) → reverse s ≡ reverse t → s ≡ t
same_reversed s t e = sym (reverse-reverse s) ∙ ap reverse e ∙ reverse-reverse t

one_sound : (bytes : List ℕ) (n m : ℕ) (s t : List Step) → IsSoundTraceOf bytes n s → IsSoundTraceOf bytes m t → (n ≡ m) × (s ≡ t)
one_sound bytes n m s t (v, lines, trace, sound, e) (w, others, other, there, f) =
    let all = traces_determined bytes v w n m lines others trace other in
    (all.1, same_reversed s t (sym e ∙ ap steps_in all.2 ∙ f))

one_part : (n : ℕ) (lines past others : List TraceLine) → AreSoundPart n lines past → AreSoundPart n lines others → past ≡ others
one_part n lines past others (inl h) (inl g) = h.0 ∙ sym g.0
one_part n lines past others (inl h) (inr (flaw, (later, l, e, sound, is))) =
    absurd (sound_or_flawed n lines (length others + 3) flaw h.1 (later, l, others, e, sound, is, refl))
one_part n lines past others (inr (flaw, (later, l, e, sound, is))) (inl g) =
    absurd (sound_or_flawed n lines (length past + 3) flaw g.1 (later, l, past, e, sound, is, refl))
one_part n lines past others (inr (flaw, (later, l, e, sound, is))) (inr (other, (newer, m, f, there, at))) =
    (same_place n later newer l m past others flaw other (sym e ∙ f) sound there is at).1

one_before : (bytes : List ℕ) (n m : ℕ) (s t : List Step) → AreStepsBeforeFault bytes n s → AreStepsBeforeFault bytes m t
    → (n ≡ m) × (s ≡ t)
one_before bytes n m s t (v, lines, rest, past, has, part, e) (w, others, left, before, have, piece, f) =
    let all = same_trace v w n m lines others rest left has.before.nodes have.before.nodes has.before.written have.before.written
    has.no_line have.no_line (sym has.text ∙ have.text) in
    let moved : AreSoundPart n lines before =
    subst (λ x. AreSoundPart n x before) (sym all.2) (subst (λ x. AreSoundPart x others before) (sym all.1) piece) in
    (all.1, same_reversed s t (sym e ∙ ap steps_in (one_part n lines past before part moved) ∙ f))

not_both : (bytes : List ℕ) (n : ℕ) (s : List Step) (text : List ℕ) → IsSoundTraceOf bytes n s → ¬ IsAuditText bytes Refused text
not_both bytes n s text (v, lines, trace, sound, e) refused =
    let bad : Sound ≡ Refused =
    (audits_determined bytes Sound (summary v (account n (steps_in lines))) Refused text (v, n, lines, trace, sound, refl) refused).0 in
    cc

head_is : (bytes : List ℕ) (n : ℕ) (s : List Step) → AreStepsBeforeFault bytes n s → ¬ LacksHead bytes
head_is bytes n s (v, lines, rest, past, has, part, e) (inl none) = none (has_format bytes v n lines rest has.text)
head_is bytes n s (v, lines, rest, past, has, part, e) (inr none) = has_nodes bytes v n lines rest has.before.nodes has.text none

pub readings_determined : ReadingsAreDetermined
readings_determined bytes (readings.Sound a) (readings.Sound b) h g = one_sound bytes a.nodes b.nodes a.steps.items b.steps.items h g
readings_determined bytes (readings.Sound a) (readings.Flawed b text) h g = absurd (not_both bytes a.nodes a.steps.items text.items h g.0)
readings_determined bytes (readings.Sound a) (readings.NoTrace text) h g = absurd (not_both bytes a.nodes a.steps.items text.items h g.0)
readings_determined bytes (readings.Flawed a text) (readings.Sound b) h g = absurd (not_both bytes b.nodes b.steps.items text.items g h.0)
readings_determined bytes (readings.Flawed a text) (readings.Flawed b other) h g =
    let both = one_before bytes a.nodes b.nodes a.steps.items b.steps.items h.1 g.1 in
    (both.0, both.1, (audits_determined bytes Refused text.items Refused other.items h.0 g.0).1)
readings_determined bytes (readings.Flawed a text) (readings.NoTrace other) h g = absurd (head_is bytes a.nodes a.steps.items h.1 g.1)
readings_determined bytes (readings.NoTrace text) (readings.Sound b) h g = absurd (not_both bytes b.nodes b.steps.items text.items g h.0)
readings_determined bytes (readings.NoTrace text) (readings.Flawed b other) h g = absurd (head_is bytes b.nodes b.steps.items g.1 h.1)
readings_determined bytes (readings.NoTrace text) (readings.NoTrace other) h g =
    (audits_determined bytes Refused text.items Refused other.items h.0 g.0).1
