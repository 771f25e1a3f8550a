-- What a trace means: its steps counted again, and its ends judged.
pub mod Lines
pub use Lines.*

-- ==== The lines of a script that were taken, and the replies to them.

-- one more element at the end
pub All-more : {X : Type 0} (P : X → Type 0) (xs : List X) (x : X) → All P xs → P x → All P (xs ++ x ∷ [])
All-more P [] x h p = All-cons P x [] p (All-nil P)
All-more P (y ∷ xs) x h p = All-cons P y (xs ++ x ∷ []) (All-head P y xs h) (All-more P xs x (All-tail P y xs h) p)

lines_more : (v : Version) (steps : List Step) (s : Step)
    → flat_map (step_line v) (steps ++ s ∷ []) ≡ flat_map (step_line v) steps ++ step_line v s
lines_more v [] s = append-nil (step_line v s)
lines_more v (x ∷ steps) s =
    ap (λ l. step_line v x ++ l) (lines_more v steps s) ∙ sym (append_assoc (step_line v x) (flat_map (step_line v) steps) (step_line v s))

after_more : (a : Accepted) (steps : List Step) (s : Step) → after_all a (steps ++ s ∷ []) ≡ next (after_all a steps) s
after_more a [] s = refl
after_more a (x ∷ steps) s = after_more (next a x) steps s

answers_more : (a : Accepted) (steps : List Step) (s : Step)
    → flat_map answer_line (answers a (steps ++ s ∷ [])) ≡ flat_map answer_line (answers a steps)
    ++ answer_line (answer (after_all a steps) s)
answers_more a [] s = append-nil (answer_line (answer a s))
answers_more a (x ∷ steps) s =
    ap (λ l. answer_line (answer a x) ++ l) (answers_more (next a x) steps s)
    ∙ sym (append_assoc (answer_line (answer a x)) (flat_map answer_line (answers (next a x) steps))
    (answer_line (answer (after_all (next a x) steps) s)))

chosen : (b : Bool) (a : Accepted) (s : Step) → (if b then a else with_step a s).nodes ≡ a.nodes
chosen true a s = refl
chosen false a s = refl

pub nodes_kept : (a : Accepted) (steps : List Step) → (after_all a steps).nodes ≡ a.nodes
nodes_kept a [] = refl
nodes_kept a (s ∷ steps) = nodes_kept (next a s) steps ∙ chosen (is_some (refusal a s)) a s

-- These steps were taken from the front of the text, the core is in the state after them, and this is the number of the
-- next line.
pub record Takes (v : Version) (text : List ℕ) (n : ℕ) (taken : List Step) (rest : List ℕ) (core : Accepted) (out : List ℕ)
    (number : ℕ) : Type 0 where
  pub count : IsNodeCount n
  pub spelled : All (IsSpelled v) taken
  pub text_is : text ≡ script v n taken ++ rest
  pub core_is : core ≡ after_all (fresh n) taken
  pub out_is : out ≡ flat_map answer_line (answers (fresh n) taken)
  pub number_is : number ≡ length taken + nodes_at v + 1
  pub short : number + length rest ≤ length text + 2

pub early : (v : Version) → nodes_at v ≤ 2
early versions.One = lit≤ tt
early versions.Two = lit≤ tt

head_short : (v : Version) → nodes_at v ≤ length (version_lines v) + 1
head_short versions.One = lit≤ tt
head_short versions.Two = lit≤ tt

pub takes_none : (v : Version) (text behind : List ℕ) (n : ℕ) (rest : List ℕ) (core : Accepted) (out : List ℕ) (number : ℕ)
    → text ≡ version_lines v ++ behind → IsNodeCount n × (behind ≡ nodes_line n ++ rest)
    → core ≡ fresh n → out ≡ [] → number ≡ nodes_at v + 1 → Takes v text n [] rest core out number
takes_none v text behind n rest core out number head found c o is =
    let whole : text ≡ version_lines v ++ (nodes_line n ++ rest) = head ∙ ap (λ l. version_lines v ++ l) found.1 in
    record {
      count = found.0;
      spelled = All-nil (IsSpelled v);
      text_is = whole ∙ sym (append_assoc (version_lines v) (nodes_line n) rest)
          ∙ ap (λ l. (version_lines v ++ l) ++ rest) (sym (append-nil (nodes_line n)));
      core_is = c;
      out_is = o;
      number_is = omega (arith, is);
      short = omega (
        arith,
        is,
        head_short v,
        ap length whole,
        length-append (version_lines v) (nodes_line n ++ rest),
        length-append (nodes_line n) rest,
      );
    }

pub step_counts : (v : Version) (s : Step) (behind : List ℕ) → length behind + 1 ≤ length (step_line v s ++ behind)
step_counts v s behind = omega (arith, length-append (spelling v s) (10 ∷ []), length-append (step_line v s) behind)

pub shorter : (v : Version) (s : Step) (rest behind : List ℕ) → rest ≡ step_line v s ++ behind → length behind < length rest
shorter v s rest behind e = omega (arith, ap length e, step_counts v s behind)

-- nothing is left of the text
pub is_over : (rest : List ℕ) → length rest ≡ 0 → rest ≡ []
is_over [] e = refl
is_over (b ∷ rest) e = absurd (omega arith)

pub takes_one : (v : Version) (text : List ℕ) (n : ℕ) (taken : List Step) (rest : List ℕ) (core : Accepted) (out : List ℕ) (number : ℕ)
    (s : Step) (behind : List ℕ) (r : Result Reply Refusal) (core' : Accepted) (out' : List ℕ)
    → Takes v text n taken rest core out number → IsSpelled v s × (rest ≡ step_line v s ++ behind) → r ≡ answer core s → core' ≡ next core s
    → out' ≡ out ++ answer_line r → Takes v text n (taken ++ s ∷ []) behind core' out' (number + 1)
takes_one v text n taken rest core out number s behind r core' out' h found answered after written = record {
  count = h.count;
  spelled = All-more (IsSpelled v) taken s h.spelled found.0;
  text_is =
      h.text_is ∙ ap (λ l. script v n taken ++ l) found.1 ∙ sym (append_assoc (script v n taken) (step_line v s) behind)
      ∙ ap (λ l. l ++ behind) (append_assoc (version_lines v) (nodes_line n ++ flat_map (step_line v) taken) (step_line v s)
      ∙ ap (λ l. version_lines v ++ l) (append_assoc (nodes_line n) (flat_map (step_line v) taken) (step_line v s)
      ∙ ap (λ l. nodes_line n ++ l) (sym (lines_more v taken s))));
  core_is = after ∙ ap (λ a. next a s) h.core_is ∙ sym (after_more (fresh n) taken s);
  out_is =
      written ∙ ap (λ l. l ++ answer_line r) h.out_is
      ∙ ap (λ y. flat_map answer_line (answers (fresh n) taken) ++ answer_line y) (answered ∙ ap (λ a. answer a s) h.core_is)
      ∙ sym (answers_more (fresh n) taken s);
  number_is = omega (arith, h.number_is, length-append taken (s ∷ []));
  short = omega (arith, h.short, ap length found.1, step_counts v s behind);
}

pub takes_all : (v : Version) (text : List ℕ) (n : ℕ) (taken : List Step) (rest : List ℕ) (core : Accepted) (out : List ℕ) (number : ℕ)
    (out' : List ℕ)
    → Takes v text n taken rest core out number → length rest ≡ 0 → out' ≡ out ++ closing core → IsSimText text Sound out'
takes_all v text n taken rest core out number out' h none written =
    let whole : text ≡ script v n taken =
    h.text_is ∙ ap (λ l. script v n taken ++ l) (is_over rest none) ∙ append-nil (script v n taken) in (
      v,
      n,
      taken,
      record { nodes = h.count; spelled = h.spelled; text = whole },
      written ∙ ap (λ l. l ++ closing core) h.out_is ∙ ap (λ a. flat_map answer_line (answers (fresh n) taken) ++ closing a) h.core_is,
    )

pub takes_fault : (v : Version) (text : List ℕ) (n : ℕ) (taken : List Step) (rest : List ℕ) (core : Accepted) (out : List ℕ) (number : ℕ)
    (out' : List ℕ)
    → Takes v text n taken rest core out number → 0 < length rest → ¬ BeginsWithStep v rest
    → out' ≡ line (codes "syntax line " ++ decimal number) → IsSimText text Refused out'
takes_fault v text n taken rest core out number out' h some none written =
    let before : IsScript (script v n taken) v n taken = record { nodes = h.count; spelled = h.spelled; text = refl } in
    let stops : StopsAfter text v n taken rest = record {
      before = before;
      text = h.text_is;
      more = λ e. omega (arith, some, ap length e);
      no_step = none;
    } in
    (number, inr (inr (v, n, taken, rest, stops, h.number_is)), written)

-- there is no line for the number of nodes at its place
pub script_fault : (v : Version) (text behind out : List ℕ) → text ≡ version_lines v ++ behind → (BeginsWithVersion text → v ≡ versions.Two)
    → ¬ BeginsWithNodes behind → out ≡ line (codes "syntax line " ++ decimal (nodes_at v)) → IsSimText text Refused out
script_fault versions.One text behind out e two none written =
    (1, inl (refl, subst (λ l. ¬ BeginsWithNodes l) (sym e) none, λ begins. let bad = two begins in cc), written)
script_fault versions.Two text behind out e two none written = (2, inr (inl (refl, (behind, e, none))), written)

-- ==== A step to which the reply is `ended W` is a judgement, and what is accepted later is added after it.

-- ---- what is accepted later is added

abbrev OnTop : List Step → List Step → Type 0
OnTop old new = (later : List Step) × (new ≡ later ++ old)

one_on_top : (a : Accepted) (s : Step) (b : Bool) → OnTop a.steps (if b then a else with_step a s).steps
one_on_top a s true = ([], refl)
one_on_top a s false = (s ∷ [], refl)

all_on_top : (a : Accepted) (steps : List Step) → OnTop a.steps (after_all a steps).steps
all_on_top a [] = ([], refl)
all_on_top a (s ∷ steps) =
    let one = one_on_top a s (is_some (refusal a s)) in
    let rest = all_on_top (next a s) steps in
    (rest.0 ++ one.0, rest.1 ∙ ap (λ l. rest.0 ++ l) one.1 ∙ sym (append_assoc rest.0 one.0 a.steps))

after-append : (a : Accepted) (before later : List Step) → after_all a (before ++ later) ≡ after_all (after_all a before) later
after-append a [] later = refl
after-append a (s ∷ before) later = after-append (next a s) before later

-- ---- the reply `ended W`

pub record IsJudged (a : Accepted) (s : Step) (w : ℕ) : Type 0 where
  pub accepted : next a s ≡ with_step a s
  pub judge : s ≡ Judge
  pub says : judgement a.nodes (present a.steps) ≡ Some w

judged_over : (o : Option ℕ) (w : ℕ) → judged o ≡ Over w → o ≡ Some w
judged_over (Some v) w e = cc
judged_over None w e = cc

given_over : (b : Bool) (w : ℕ) (r : Reply) → r ≢ Over w → (if b then r else PlainReply) ≢ Over w
given_over true w r other e = other e
given_over false w r other e = cc

only_judge : (n : ℕ) (past : List Step) (s : Step) (w : ℕ) → reply_to n past s ≡ Over w
    → (s ≡ Judge) × (judgement n (present past) ≡ Some w)
only_judge n past (Give i) w e = absurd (given_over (i.0 == 0) w (WaveSums (sums_of n (Give i ∷ present past))) (λ same. cc) e)
only_judge n past Judge w e = (refl, judged_over (judgement n (present past)) w e)
only_judge n past _ w e = cc

is_judged : (a : Accepted) (s : Step) (w : ℕ) (o : Option Refusal) → refusal a s ≡ o → answered a s o ≡ Ok (Over w) → IsJudged a s w
is_judged a s w (Some r) is e = cc
is_judged a s w None is e =
    let reply : reply_to a.nodes a.steps s ≡ Over w = cc in
    let both = only_judge a.nodes a.steps s w reply in
    record { accepted = rw is refl; judge = both.0; says = both.1 }

pub ended_never_early : EndedIsNeverEarly
ended_never_early n before s later w e same =
    let a = after_all (fresh n) before in
    let is = is_judged a s w (refusal a s) refl e in
    let nodes : a.nodes ≡ n = nodes_kept (fresh n) before in
    let top = all_on_top (next a s) later in
    let whole : (after_all (fresh n) (before ++ s ∷ later)).steps ≡ top.0 ++ Judge ∷ a.steps =
    ap (λ (x : Accepted). x.steps) (after-append (fresh n) before (s ∷ later)) ∙ top.1
    ∙ ap (λ (x : Accepted). top.0 ++ x.steps) is.accepted ∙ ap (λ x. top.0 ++ x ∷ a.steps) is.judge in
    let says : judgement n (present a.steps) ≡ Some w = subst (λ m. judgement m (present a.steps) ≡ Some w) nodes is.says in
    let same_there : generation (top.0 ++ Judge ∷ a.steps) ≡ generation (Judge ∷ a.steps) = ap generation (sym whole) ∙ same in
    let steps = (after_all (fresh n) (before ++ s ∷ later)).steps in
    let all : present steps ≡ top.0 ++ Judge ∷ present a.steps =
    ap present whole ∙ present-append top.0 (Judge ∷ a.steps) (same_generation top.0 (Judge ∷ a.steps) same_there) in
    (accepted_never_early (fresh n) (before ++ s ∷ later) refl).1 [] steps refl w top.0 (present a.steps) all says

-- ==== The lines of a trace, taken one by one.

-- ---- one line

pub length_steps : (lines : List TraceLine) → length (steps_in lines) ≡ length lines
length_steps [] = refl
length_steps (l ∷ lines) = omega (arith, length_steps lines)

pub nothing_is_sound : (n : ℕ) → IsSound n []
nothing_is_sound n = record { run = search; few = omega arith; justified = search }

pub sound_more : (n : ℕ) (lines : List TraceLine) (l : TraceLine) → IsSound n lines → refusal (taken n lines) (step_in l) ≡ None
    → IsJustified n (steps_in lines) l → IsSound n (l ∷ lines)
sound_more n lines l h none right =
    let may = lawful_where_none (taken n lines) (step_in l) none in
    record { run = (may.0, h.run); few = omega (arith, may.1, length_steps lines); justified = (right, h.justified) }

pub sound_past : (n : ℕ) (l : TraceLine) (past : List TraceLine) → IsSound n (l ∷ past) → IsSound n past
sound_past n l past h = record { run = h.run.1; few = omega (arith, h.few); justified = h.justified.1 }

pub sound_behind : (n : ℕ) (later past : List TraceLine) → IsSound n (later ++ past) → IsSound n past
sound_behind n [] past h = h
sound_behind n (l ∷ later) past h = sound_behind n later past (sound_past n l (later ++ past) h)

-- a line after a flaw
pub found_more : (n : ℕ) (lines : List TraceLine) (l : TraceLine) (a : Auditor) (o : Option (ℕ × Flaw)) → true ≡ is_some o
    → IsFound n lines a o → IsFound n (l ∷ lines) a o
found_more n lines l a None is h = cc
found_more n lines l a (Some f) is h = record {
  past = h.past;
  up_to = (l ∷ h.up_to.0, h.up_to.1, ap (λ x. l ∷ x) h.up_to.2, h.up_to.3, h.up_to.4);
  number = h.number;
  newest = h.newest;
  core = h.core;
  account = h.account;
}

-- no flaw was found so far
pub none_found : (n : ℕ) (lines : List TraceLine) (a : Auditor) (o : Option (ℕ × Flaw)) → false ≡ is_some o → IsFound n lines a o
    → AreTaken n lines a
none_found n lines a None is h = h
none_found n lines a (Some f) is h = cc

pub found_none : (n : ℕ) (lines : List TraceLine) (a : Auditor) (o : Option (ℕ × Flaw)) → false ≡ is_some o → AreTaken n lines a
    → IsFound n lines a o
found_none n lines a None is h = h
found_none n lines a (Some f) is h = cc

-- an equal reply to an equal step
pub said_as : (old new : Accepted) (s t : Step) (r q : Result Reply Refusal) → s ≡ t → r ≡ q → AcceptsOrRefuses old s r new
    → AcceptsOrRefuses old t q new
said_as old new s t r q e f h = subst (λ x. AcceptsOrRefuses old t x new) f (subst (λ x. AcceptsOrRefuses old x r new) e h)

refused_is : (o : Option Refusal) (asks : Bool) (r : Refusal) → IsRefusedFor o asks r → r ≢ NoMemory → o ≡ Some r
refused_is None asks r h ample = absurd (ample h.0)
refused_is (Some f) asks r h ample = ap (λ x. Some x) (sym h)

-- a line that is refused
pub refused_at : (n : ℕ) (lines : List TraceLine) (l : TraceLine) (a new : Auditor) (k : ℕ) (r : Refusal)
    → AreTaken n lines a → k ≡ length lines + 3 → AcceptsOrRefuses a.core (step_in l) (Err r) new.core → r ≢ NoMemory
    → new.account ≡ a.account
    → AreStopped n (l ∷ lines) new k (flaws.Refused r)
refused_at n lines l a new k r h number said ample same =
    let is : refusal a.core (step_in l) ≡ Some r =
    refused_is (refusal a.core (step_in l)) (asks_memory a.core (step_in l)) r said.0 ample in
    let here : refusal (taken n lines) (step_in l) ≡ Some r = subst (λ (x : Accepted). refusal x (step_in l) ≡ Some r) h.core is in
    record {
      past = lines;
      up_to = ([], l, refl, h.sound, here);
      number = number;
      newest = [];
      core = ap (λ (x : Accepted). x.steps) (said.1 ∙ h.core);
      account = same ∙ h.account;
    }

judged_is : (o p : Option ℕ) → judged o ≡ judged p → o ≡ p
judged_is None None e = refl
judged_is None (Some w) e = cc
judged_is (Some u) None e = cc
judged_is (Some u) (Some w) e = cc

told_right : (n : ℕ) (past : List Step) (l : TraceLine) (reply : Reply) → reply ≡ reply_to n past (step_in l) → Claims l reply
    → IsJustified n past l
told_right n past (Plain s) reply e told = tt
told_right n past (Judged o) reply e told = judged_is o (judgement n (present past)) (sym told ∙ e)

-- a sound line
pub taken_more : (v : Version) (n : ℕ) (lines : List TraceLine) (l : TraceLine) (a new : Auditor) (reply : Reply)
    → AreTaken n lines a → IsWritten v l
    → AcceptsOrRefuses a.core (step_in l) (Ok reply) new.core → Claims l reply
    → ((u : Version) (m : ℕ) (past : List Step) → a.account ≡ account m past → IsWritten u l → IsJustified m past l
    → new.account ≡ account m (step_in l ∷ past)) → AreTaken n (l ∷ lines) new
taken_more v n lines l a new reply h written said told counted =
    let none : refusal (taken n lines) (step_in l) ≡ None = subst (λ (x : Accepted). refusal x (step_in l) ≡ None) h.core said.0 in
    let is : reply ≡ reply_to n (steps_in lines) (step_in l) =
    subst (λ (x : Accepted). reply ≡ reply_to x.nodes x.steps (step_in l)) h.core said.1 in
    let right = told_right n (steps_in lines) l reply is told in
    record {
      sound = sound_more n lines l h.sound none right;
      core = said.2 ∙ ap (λ (x : Accepted). record x { steps = step_in l ∷ x.steps }) h.core;
      account = counted v n (steps_in lines) h.account written right;
    }

-- a judgement line with a wrong claim
pub unjustified_at : (n : ℕ) (lines : List TraceLine) (l : TraceLine) (a new : Auditor) (k : ℕ) (reply : Reply)
    → AreTaken n lines a → k ≡ length lines + 3 → AcceptsOrRefuses a.core (step_in l) (Ok reply) new.core → ¬ Claims l reply
    → new.account ≡ a.account → AreStopped n (l ∷ lines) new k flaws.Unjustified
unjustified_at n lines (Plain s) a new k reply h number said other same = absurd (other tt)
unjustified_at n lines (Judged o) a new k reply h number said other same =
    let none : refusal (taken n lines) steps.Judge ≡ None = subst (λ (x : Accepted). refusal x steps.Judge ≡ None) h.core said.0 in
    let is : reply ≡ judged (judgement n (present (steps_in lines))) =
    subst (λ (x : Accepted). reply ≡ reply_to x.nodes x.steps steps.Judge) h.core said.1 in
    record {
      past = lines;
      up_to = ([], Judged o, refl, h.sound, (o, refl, none, λ e. other (is ∙ ap judged (sym e))));
      number = number;
      newest = steps.Judge ∷ [];
      core = ap (λ (x : Accepted). x.steps) said.2 ∙ ap (λ (x : Accepted). steps.Judge ∷ x.steps) h.core;
      account = same ∙ h.account;
    }

-- ---- all lines

-- These lines were read from the front of the text, and this is the number of the next line.
pub record Reads (v : Version) (text : List ℕ) (n : ℕ) (lines : List TraceLine) (rest : List ℕ) (number : ℕ) : Type 0 where
  pub count : IsNodeCount n
  pub written : All (IsWritten v) lines
  pub text_is : text ≡ trace v n lines ++ rest
  pub number_is : number ≡ length lines + 3
  pub short : number + length rest ≤ length text + 3

pub reads_none : (v : Version) (text behind : List ℕ) (n : ℕ) (rest : List ℕ) → text ≡ format_line v ++ behind
    → IsNodeCount n × (behind ≡ nodes_line n ++ rest) → Reads v text n [] rest 3
reads_none v text behind n rest e found =
    let whole : text ≡ (format_line v ++ nodes_line n) ++ rest =
    e ∙ ap (λ l. format_line v ++ l) found.1 ∙ sym (append_assoc (format_line v) (nodes_line n) rest) in
    record {
      count = found.0;
      written = All-nil (IsWritten v);
      text_is = whole;
      number_is = refl;
      short = omega (arith, ap length whole, length-append (format_line v ++ nodes_line n) rest);
    }

line_counts : (v : Version) (l : TraceLine) (behind : List ℕ) → length behind + 1 ≤ length (trace_line v l ++ behind)
line_counts v (Plain s) behind = step_counts v s behind
line_counts v (Judged o) behind = let e = judge_parts v o behind in omega (arith, ap length e, length-append (words o) (10 ∷ behind))

pub reads_one : (v : Version) (text : List ℕ) (n : ℕ) (lines : List TraceLine) (rest : List ℕ) (number : ℕ) (l : TraceLine)
    (behind : List ℕ)
    → Reads v text n lines rest number → IsWritten v l × (rest ≡ trace_line v l ++ behind) → Reads v text n (l ∷ lines) behind (number + 1)
reads_one v text n lines rest number l behind h found = record {
  count = h.count;
  written = All-cons (IsWritten v) l lines found.0 h.written;
  text_is = h.text_is ∙ ap (λ x. trace v n lines ++ x) found.1 ∙ sym (append_assoc (trace v n lines) (trace_line v l) behind);
  number_is = omega (arith, h.number_is);
  short = omega (arith, h.short, ap length found.1, line_counts v l behind);
}

-- the reply after all lines were taken
abbrev pub IsAnswerOf : Version → Auditor → Option (ℕ × Flaw) → Verdict → List ℕ → Type 0
IsAnswerOf v a None verdict out = (verdict ≡ Sound) × (out ≡ summary v a.account)
IsAnswerOf v a (Some found) verdict out = (verdict ≡ Refused) × (out ≡ flaw_line found.0 found.1)

pub answer_as : (v : Version) (a : Auditor) (o : Option (ℕ × Flaw)) (verdict : Verdict) (out : List ℕ)
    → MatchOption o ((verdict ≡ Sound) × (out ≡ summary v a.account)) (λ found. (verdict ≡ Refused) × (out ≡ flaw_line found.0 found.1))
    → IsAnswerOf v a o verdict out
answer_as v a None verdict out h = h
answer_as v a (Some found) verdict out h = h

-- the reported line is the first that is flawed
has_flaw : (n : ℕ) (lines : List TraceLine) (a : Auditor) (k : ℕ) (flaw : Flaw) → AreStopped n lines a k flaw → HasFlawAt n lines k flaw
has_flaw n lines a k flaw h = (h.up_to.0, h.up_to.1, h.past, h.up_to.2, h.up_to.3, h.up_to.4, h.number)

pub answer_found : (v : Version) (text : List ℕ) (n : ℕ) (lines : List TraceLine) (a : Auditor) (o : Option (ℕ × Flaw))
    (verdict : Verdict) (out : List ℕ)
    → IsTrace text v n lines → IsFound n lines a o → IsAnswerOf v a o verdict out → IsAuditText text verdict out
answer_found v text n lines a None verdict out t h (is, e) =
    subst (λ w. IsAuditText text w out) (sym is) (v, n, lines, t, h.sound, e ∙ ap (summary v) h.account)
answer_found v text n lines a (Some found) verdict out t h (is, e) =
    subst (λ w. IsAuditText text w out) (sym is) (inr (v, n, lines, found.0, found.1, t, has_flaw n lines a found.0 found.1 h, e))

pub broken_answered : (v : Version) (text : List ℕ) (n : ℕ) (lines : List TraceLine) (rest out : List ℕ) → BreaksOff text v n lines rest
    → out ≡ syntax_text (length lines + 3) → IsAuditText text Refused out
broken_answered v text n lines rest out breaks written = inl (length lines + 3, inr (inr (v, n, lines, rest, breaks, refl)), written)

pub fault_format : (text out : List ℕ) → ¬ BeginsWithFormat text → out ≡ syntax_text 1 → IsAuditText text Refused out × LacksHead text
fault_format text out none written = (inl (1, inl (refl, none), written), inl none)

pub fault_nodes : (v : Version) (text behind out : List ℕ) → text ≡ format_line v ++ behind → ¬ BeginsWithNodes behind
    → out ≡ syntax_text 2 → IsAuditText text Refused out × LacksHead text
fault_nodes v text behind out e none written =
    let lacks : LacksNodes text = (v, (behind, e, none)) in
    (inl (2, inr (inl (refl, lacks)), written), inr lacks)

-- ==== What a sound trace says about the end of the pool.

-- ---- the last judgement

-- One of these steps judged that the pool had ended when wave w ended.
abbrev pub LastJudge : List Step → ℕ → ℕ → Type 0
LastJudge ss n w = (later : List Step) × (past : List Step) × (ss ≡ later ++ steps.Judge ∷ past) × (judgement n past ≡ Some w)

one_later : (n w : ℕ) (s : Step) (ss : List Step) → LastJudge ss n w → LastJudge (s ∷ ss) n w
one_later n w s ss (later, past, e, is) = (s ∷ later, past, ap (λ x. s ∷ x) e, is)

last_judge : (n w : ℕ) (ss : List Step) → last_judgement n ss ≡ Some w → LastJudge (present ss) n w
last_judge n w [] e = cc
last_judge n w (steps.Judge ∷ past) e = ([], present past, refl, e)
last_judge n w (steps.Reopen ∷ past) e = cc
last_judge n w (s ∷ past) e = one_later n w s (present past) (last_judge n w past e)

enough : (b f : Bool) (v w : ℕ) → (if b && f then Some v else None) ≡ Some w → (b ≡ true) × (v ≡ w)
enough true true v w e = (refl, cc)
enough true false v w e = cc
enough false f v w e = cc

-- the named wave was followed by another
pub judged_wave : (n w : ℕ) (past : List Step) → judgement n past ≡ Some w → w + 1 ≤ waves past
judged_wave n w past e =
    let both = enough (nat_le 2 (waves past)) (four_equal n past) (waves past - 1) w e in
    let two : 2 ≤ waves past = grind (arith, nat_tests, both.0) in
    omega (arith, both.1)

waves_grow : (later past : List Step) → waves past ≤ waves (later ++ past)
waves_grow [] past = omega arith
waves_grow (s ∷ later) past =
    elim (is_start s) as (λ b. waves past ≤ cond b (waves (later ++ past) + 1) (waves (later ++ past))) [
      | true ↦ omega (arith, waves_grow later past)
      | false ↦ waves_grow later past
    ]

until_past : (w : ℕ) (s : Step) (past : List Step) → w + 1 ≤ waves (s ∷ past) → until w (s ∷ past) ≡ until w past
until_past w s past l = rw (lt-leb (waves (s ∷ past)) w (omega arith))

until_kept : (w : ℕ) (later past : List Step) → w + 1 ≤ waves past → until w (later ++ past) ≡ until w past
until_kept w [] past h = refl
until_kept w (s ∷ later) past h = until_past w s (later ++ past) (omega (arith, h, waves_grow (s ∷ later) past)) ∙ until_kept w later past h

pub ended_over : EndedIsOver
ended_over n lines w h e =
    let ss = present (steps_in lines) in
    let last = last_judge n w (steps_in lines) e in
    let past = last.1 in
    let same : until w ss ≡ until w past =
    ap (until w) (last.2 ∙ sym (append_assoc last.0 (steps.Judge ∷ []) past))
    ∙ until_kept w (last.0 ++ steps.Judge ∷ []) past (judged_wave n w past last.3) in
    subst (λ (p : ℕ). IsOverFrom n p ss) (ap (λ u. length (visit 0 u)) (sym same))
    (never_early n ss (present_run n (steps_in lines) h.run) w last.0 past last.2 last.3)

-- ---- if the last judgement is no end

or_kept : (a b : Bool) → b ≡ true → (a || b) ≡ true
or_kept true b e = refl
or_kept false b e = e

ended_kept : (n : ℕ) (later past : List Step) → is_ended n past ≡ true → is_ended n (later ++ past) ≡ true
ended_kept n [] past e = e
ended_kept n (s ∷ later) past e =
    or_kept (is_judge s && is_some (judgement n (later ++ past))) (is_ended n (later ++ past)) (ended_kept n later past e)

not_none : (o : Option ℕ) (b : Bool) → IsFalse b → ((true && is_some o) || b) ≡ true → o ≢ None
not_none (Some w) b f e = λ none. cc
not_none None true f e = λ none. cc
not_none None false f e = λ none. cc

ended_last : (n : ℕ) (ss : List Step) → AreRuns n ss → is_ended n (present ss) ≡ true → last_judgement n ss ≢ None
ended_last n [] r e = λ none. cc
ended_last n (steps.Judge ∷ past) r e = not_none (judgement n (present past)) (is_ended n (present past)) (r.0.goes_on refl).0.0 e
ended_last n (steps.Reopen ∷ past) r e = λ none. cc
ended_last n (s ∷ past) r e = ended_last n past r.1 e

some_ended : (o : Option ℕ) (b : Bool) (w : ℕ) → o ≡ Some w → ((true && is_some o) || b) ≡ true
some_ended (Some v) b w e = refl
some_ended None b w e = cc

justified_there : (n : ℕ) (later : List TraceLine) (o : Option ℕ) (past : List TraceLine) → AreJustified n (later ++ Judged o ∷ past)
    → o ≡ judgement n (present (steps_in past))
justified_there n [] o past h = h.0
justified_there n (l ∷ later) o past h = justified_there n later o past h.1

steps-append : (later past : List TraceLine) → steps_in (later ++ past) ≡ steps_in later ++ steps_in past
steps-append [] past = refl
steps-append (l ∷ later) past = ap (λ x. step_in l ∷ x) (steps-append later past)

pub not_ended_claims : NotEndedClaimsNoEnd
not_ended_claims n lines h none later w past e =
    let right : Some w ≡ judgement n (present (steps_in past)) =
    justified_there n later (Some w) past (subst (AreJustified n) e h.justified) in
    let there : is_ended n (steps.Judge ∷ present (steps_in past)) ≡ true =
    some_ended (judgement n (present (steps_in past))) (is_ended n (present (steps_in past))) w (sym right) in
    let all : steps_in lines ≡ steps_in later ++ steps.Judge ∷ steps_in past =
    ap steps_in e ∙ steps-append later (Judged (Some w) ∷ past) in
    elim (cases_Bool (any is_reopen (steps_in later))) [
      | inl reopened ↦ reopened
      | inr on ↦
          let now : present (steps_in lines) ≡ steps_in later ++ steps.Judge ∷ present (steps_in past) =
          ap present all ∙ present-append (steps_in later) (steps.Judge ∷ steps_in past) on in
          let ended : is_ended n (present (steps_in lines)) ≡ true =
          ap (is_ended n) now ∙ ended_kept n (steps_in later) (steps.Judge ∷ present (steps_in past)) there in
          absurd (ended_last n (steps_in lines) h.run ended none)
    ]

-- ---- if the pool was reopened

some_judged : (n : ℕ) (past : List Step) (o : Option ℕ) → last_judgement n past ≡ o → o ≢ None → (w : ℕ) × (last_judgement n past ≡ Some w)
some_judged n past None e other = absurd (other refl)
some_judged n past (Some w) e other = (w, e)

pub reopened_over : ReopenedIsOver
reopened_over n lines h later past e =
    let there : IsSound n (Plain steps.Reopen ∷ past) = sound_behind n later (Plain steps.Reopen ∷ past) (subst (IsSound n) e h) in
    let before : IsSound n past = sound_past n (Plain steps.Reopen) past there in
    let judged = some_judged n (steps_in past) (last_judgement n (steps_in past)) refl
    (ended_last n (steps_in past) before.run (there.run.0.reopens refl)) in
    (judged.0, judged.1, ended_over n past judged.0 before judged.1)
