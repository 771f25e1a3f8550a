-- The steps that a core takes: its room, the safety of what it returns, and several steps in one call.
pub use Rattle.gerfmuod.specs.Calls.{Ok, Err, IsFalse, IsTrue, number_of, Refusal, HistoryFull, Step, Judge, present, is_ended, Reply}
pub use Rattle.gerfmuod.specs.Calls.{Accepted, AcceptsOrRefuses, world_of, Settles, is_quiet, InEach, IsNeverEarly, IsKept, is_full, ◌&&◌}
pub use Rattle.gerfmuod.specs.Calls.{if◌then◌else◌, Give, visited_at, Plain, Over, IsOverFrom, settled, unsettled, IsOver, TellsNoEarlyEnd}
pub use Rattle.gerfmuod.specs.Calls.{leaves_nothing, plain, step_result, reply_result}
pub use Rattle.gerfmuod.specs.Calls.{AcceptsInRoom, AcceptsIfAny, StepResult, AreTaken, IsBatch}
pub use Rattle.gerfmuod.specs.Calls.{IsStep, IsStepsCall, step_asked}
pub use Rattle.gerfmuod.specs.{Calls.{CoreState, Open, RawStep, raw_step}, declared.pool.BoundedCore.TheInside.Inside}
pub use Rattle.std.proofs.Common.{ℕ, ◌≡◌, ◌≢◌, ◌+◌, ◌*◌, ◌≤◌, ◌++◌, Bool, true, false, List, ◌∷◌, [], length, Result, Some, refl, sym, ap}
pub use Rattle.std.proofs.{Common.{subst, ◌∙◌, arith, None, inl, inr, Option, ◌<◌, take, drop, set, get_or}, lemmas.Bool.cases_Bool}
pub use Rattle.std.proofs.lemmas.{Bool.{lt-leb, Decides.nat_tests}, List.{length-append, take_more, take_more_set, take-set, drop-set}}
pub use Rattle.std.{proofs.lemmas.List.{drop-set-lt, drop-drop, drop_more, length-set, take_min}, specs.Prelude.not}
pub use Rattle.tp_base.specs.{Checks.{first_refusal, Check}, declared.Refusal.TheVariants.{Ended, NotIdle}}
pub use Rattle.tp_core.{proofs.Lemmas.Keeping.Generations.{never_early_in_each, present-control}, specs.Accepted.{judged, reply_to}}
pub use Rattle.tp_core.specs.{Accepted.{list_length, with_step}, Settled.{settle_room, IsSettled}}
pub use Rattle.tp_text.proofs.Readings.Unique.Traces.{judged_wave, ended_over, not_ended_claims, reopened_over}
pub use Rattle.tp_wave.specs.Sums.{judgement, until, visit, waves}

-- ---- a core keeps room for settling, so settling is never refused for lack of it
settled_now : {old new : Accepted} {w count : ℕ} (s : IsSettled old new w count) → present new.steps ≡ Judge ∷ (s.taken ++ present old.steps)
settled_now {old} s = ap (λ (xs : List Step). present xs) s.steps ∙ present-control (Judge ∷ s.taken) old.steps s.control

judged_now : {old new : Accepted} {w count : ℕ} (s : IsSettled old new w count) → judgement new.nodes (s.taken ++ present old.steps) ≡ Some w
judged_now s = rw s.nodes s.judged

ended_here : (n w : ℕ) (past : List Step) → judgement n past ≡ Some w → IsTrue (is_ended n (Judge ∷ past))
ended_here n w past e = rw e refl

not_ended : (b : Bool) (more : List Check) → first_refusal ((b, Ended) ∷ more) ≡ None → IsFalse b
not_ended true more e = cc
not_ended false more e = refl

list_grows : (r : Bool) (now more before : ℕ) → now ≡ more + before → (if r then now else 0) ≤ more + (if r then before else 0)
list_grows true now more before e = omega (arith, e)
list_grows false now more before e = omega arith

pub kept_after_settling : (p : Inside) (r : Result (ℕ × ℕ) Refusal) (new : Accepted) → IsKept p → Settles p.core r new
    → IsKept (record p { core = new })
kept_after_settling p (Ok answer) new k s =
    let is = s.1 in
    let open' = not_ended (is_ended p.core.nodes (present p.core.steps))
    ((not (is_quiet (world_of p.core)), NotIdle) ∷ settle_room p.core) s.0 in
    let room = k.room open' in
    let long : length new.steps ≡ answer.1 + length p.core.steps =
    rw (is.steps, is.counted) (length-append (Judge ∷ is.taken) p.core.steps) in
    let few = is.few in
    let list : list_length new ≤ answer.1 + list_length p.core =
    rw is.recorded (list_grows p.core.recorded (length new.steps) answer.1 (length p.core.steps) long) in
    record {
      nodes = k.nodes ∙ sym is.nodes;
      some_node = k.some_node;
      few_nodes = k.few_nodes;
      limit = k.limit;
      within = omega (arith, room, list, few);
      room = λ e.
          let ended : IsTrue (is_ended new.nodes (present new.steps)) =
          rw (settled_now is) (ended_here new.nodes answer.0 (is.taken ++ present p.core.steps) (judged_now is)) in
          cc;
      runs = rw (is.nodes, is.steps) is.run;
    }
kept_after_settling p (Err r) new k s = subst (λ (a : Accepted). IsKept (record p { core = a })) (sym s.1) k

-- The steps of a pool are runs, so its termination is never detected too early.
pub kept_never_early : (a : Accepted) (p : Inside) → p.core ≡ a → IsKept p → InEach (IsNeverEarly a.nodes) a.steps
kept_never_early a p is k =
    subst (λ (b : Accepted). InEach (IsNeverEarly b.nodes) b.steps) is (never_early_in_each p.core.nodes p.core.steps k.runs)

-- ---- safety of the results: if a call says that the pool had terminated, it had
-- ---- another wave followed the one that is named, so `Judge` does not move its end
until_judge : (w : ℕ) (past : List Step) → w + 1 ≤ waves past → until w (Judge ∷ past) ≡ until w past
until_judge w past l = rw (lt-leb (waves (Judge ∷ past)) w (omega arith))

over_at_judge : (n w : ℕ) (past : List Step) → IsNeverEarly n (Judge ∷ past) → judgement n past ≡ Some w
    → IsOverFrom n (visited_at w 0 (Judge ∷ past)) (Judge ∷ past)
over_at_judge n w past never e =
    subst (λ (u : List Step). IsOverFrom n (length (visit 0 u)) (Judge ∷ past)) (sym (until_judge w past (judged_wave n w past e)))
    (never w [] past refl e)

-- ---- a step whose result is `Over` was a judgement
reply_over : (reply : Reply) → (reply_result reply).event ≡ 3 → reply ≡ Over (reply_result reply).number
reply_over (Over w) e = refl
reply_over _ e = cc

judgement_over : (o : Option ℕ) (w : ℕ) → judged o ≡ Over w → o ≡ Some w
judgement_over None w e = cc
judgement_over (Some v) w e = cc

judged_over : (n w : ℕ) (past : List Step) (s : Step) → reply_to n past s ≡ Over w → (s ≡ Judge) × (judgement n (present past) ≡ Some w)
judged_over n w past Judge e = (refl, judgement_over (judgement n (present past)) w e)
judged_over n w past (Give i) e = grind (arith, e)
judged_over n w past (s) e = cc

over_after : (old new : Accepted) (s : Step) (w : ℕ) → reply_to old.nodes old.steps s ≡ Over w → new ≡ with_step old s
    → InEach (IsNeverEarly new.nodes) new.steps → IsOver new w
over_after old new s w e n never =
    let j = judged_over old.nodes w old.steps s e in
    let now : new ≡ with_step old Judge = n ∙ rw j.0 refl in
    subst (λ (a : Accepted). InEach (IsNeverEarly a.nodes) a.steps → IsOver a w) (sym now)
    (λ each. over_at_judge old.nodes w (present old.steps) (each [] (Judge ∷ old.steps) refl) j.1) never

-- ---- a step that was taken
full_is_refused : (old : Accepted) (s : Step) (reply : Reply) (new : Accepted) → AcceptsInRoom old s (Ok reply) new → IsFalse (is_full old)
full_is_refused old s reply new a = elim (cases_Bool (is_full old)) [ inl e ↦ let none = (a.full e).0 in cc | inr e ↦ e ]

answered_in_room : (old : Accepted) (s : Step) (reply : Reply) (new : Accepted) → AcceptsInRoom old s (Ok reply) new
    → AcceptsOrRefuses old s (Ok reply) new
answered_in_room old s reply new a = a.taken (full_is_refused old s reply new a)

pub reply_safe : (old new : Accepted) (o : Option Step) (reply : Reply) → AcceptsIfAny old o (Ok reply) new
    → InEach (IsNeverEarly new.nodes) new.steps → TellsNoEarlyEnd ((reply_result reply).event ≡ 3) (reply_result reply).number new
reply_safe old new (Some s) reply a never =
    let there = answered_in_room old s reply new a in
    record {
      ended = λ e. over_after old new s (reply_result reply).number (sym there.1 ∙ reply_over reply e) there.2 never;
      never_early = never;
    }
reply_safe old new None reply a never = let none = a.0 in absurd cc

-- ---- the same for `settle`
unsettled_tells : (r : Refusal) → (unsettled r).refused ≡ 0 → ⊥
unsettled_tells (HistoryFull n) e = cc
unsettled_tells (r) e = cc

pub settled_over : (old new : Accepted) (r : Result (ℕ × ℕ) Refusal) → Settles old r new → InEach (IsNeverEarly new.nodes) new.steps
    → TellsNoEarlyEnd ((settled r).refused ≡ 0) (settled r).wave new
settled_over old new (Ok answer) s never =
    let is = s.1 in
    let now = settled_now is in
    record {
      ended = λ e.
          subst (λ (xs : List Step). IsOverFrom new.nodes (visited_at answer.0 0 xs) xs) (sym now)
          (over_at_judge new.nodes answer.0 _ (subst (IsNeverEarly new.nodes) now (never [] new.steps refl)) (judged_now is));
      never_early = never;
    }
settled_over old new (Err r) s never = record { ended = λ e. absurd (unsettled_tells r e); never_early = never }

-- ---- steps that are taken one after the other, and the buffer with their results
-- ---- a refused step changes nothing
reply_taken : (reply : Reply) → (reply_result reply).refused ≡ 0
reply_taken Plain = refl
reply_taken _ = refl

told_taken : (left : Bool) (reply : Reply) → (if left then plain 0 5 0 else reply_result reply).refused ≡ 0
told_taken true reply = refl
told_taken false reply = reply_taken reply

err_changes_nothing : (old : Accepted) (o : Option Step) (r : Refusal) (new : Accepted) → AcceptsIfAny old o (Err r) new → new ≡ old
err_changes_nothing old None r new a = a.1
err_changes_nothing old (Some s) r new a = elim (cases_Bool (is_full old)) [ inl e ↦ (a.full e).1 | inr e ↦ (a.taken e).1 ]

result_changes_nothing : (old : Accepted) (o : Option Step) (r : Result Reply Refusal) (new : Accepted) → AcceptsIfAny old o r new
    → (step_result o r new).refused ≢ 0 → new ≡ old
result_changes_nothing old o (Ok reply) new a differs = absurd (differs (told_taken (leaves_nothing o new) reply))
result_changes_nothing old o (Err r) new a differs = err_changes_nothing old o r new a

pub refused_same : (e : RawStep) (old : Accepted) (u : StepResult) (new : Accepted) → IsStep e old u new → u.refused ≢ 0 → new ≡ old
refused_same e old u new s differs =
    result_changes_nothing old (step_asked e) s.0.0 new s.0.1 (subst (λ (x : StepResult). x.refused ≢ 0) s.0.2 differs)

-- ---- one step more
one_more : (old mid new : Accepted) (es : List RawStep) (us : List StepResult) (e : RawStep) (u : StepResult) → AreTaken old es us mid
    → IsStep e mid u new → u.refused ≡ 0 → AreTaken old (es ++ e ∷ []) (us ++ u ∷ []) new
one_more old mid new [] [] e u t s taken = (new, subst (λ (a : Accepted). IsStep e a u new) t s, taken, refl)
one_more old mid new (d ∷ es) (v ∷ us) e u t s taken = (t.0, t.1, t.2, one_more t.0 mid new es us e u t.3 s taken)
one_more old mid new [] (v ∷ us) e u t s taken = absurd t
one_more old mid new (d ∷ es) [] e u t s taken = absurd t

-- Of the events, k were taken, and their results are in the first places of the buffer.
pub record AfterSteps (events : List RawStep) (room : List StepResult) (old : Accepted) (k : ℕ) (answers : List StepResult) (now : Accepted)
    : Type 0 where
  pub taken : AreTaken old (take k events) (take k answers) now
  pub rest : drop k answers ≡ drop k room
  pub long : length answers ≡ length room

rest_after : (answers room : List StepResult) (k : ℕ) → drop k answers ≡ drop k room → drop (k + 1) answers ≡ drop (k + 1) room
rest_after answers room k e = sym (drop-drop 1 k answers) ∙ ap (λ (xs : List StepResult). drop 1 xs) e ∙ drop-drop 1 k room

next_event : (e d : RawStep) (later rest : List RawStep) → e ∷ later ≡ d ∷ rest → d ≡ e
next_event e d later rest same = cc

-- the step of the next event, whose result is written
module _ (events : List RawStep) (room : List StepResult) (old : Accepted) (k : ℕ) (answers : List StepResult) (mid : Accepted) (d : RawStep)
    (u : StepResult) (new : Accepted) (below : k < length events) (few : length events ≤ length room)
    (a : AfterSteps events room old k answers mid) (s : IsStep (get_or events k d) mid u new) where
  there : k < length answers
  there = let long = a.long in omega (arith, below, few, long)

  pub after_one : u.refused ≡ 0 → AfterSteps events room old (k + 1) (set answers k u) new
  after_one taken = record {
    taken = rw (take_more events k d below, take_more_set answers k u there)
        (one_more old mid new (take k events) (take k answers) (get_or events k d) u a.taken s taken);
    rest = drop-set-lt (k + 1) answers k u (omega arith) ∙ rest_after answers room k a.rest;
    long = length-set answers k u ∙ a.long;
  }

  pub stops_at : u.refused ≢ 0 → IsBatch events room old k (set answers k u) new
  stops_at refused =
      let same : new ≡ mid = refused_same (get_or events k d) mid u new s refused in
      record {
        within = omega (arith, below);
        taken = rw (take-set answers k u, same) a.taken;
        all = λ e. absurd (omega (arith, below, e));
        refused = λ e later left.
            let is : get_or events k d ≡ e =
            next_event e (get_or events k d) later (drop (k + 1) events) (sym left ∙ drop_more events k d below) in (
              u,
              subst (λ (x : RawStep). IsStep x new u new) is (subst (λ (x : Accepted). IsStep (get_or events k d) x u new) (sym same) s),
              refused,
              drop-set answers k u there ∙ ap (λ (xs : List StepResult). u ∷ xs) (rest_after answers room k a.rest),
            );
      }

-- A call on an open core takes the events that have a place for their result.
pub taken_by_call : (events given : List RawStep) (room : List StepResult) (old new : CoreState) (first : Accepted) (count : ℕ)
    (answers : List StepResult)
    → given ≡ take (length room) events → first ≡ old.core → old.use_is ≡ Open → new.use_is ≡ Open
    → IsBatch given room first count answers new.core → IsStepsCall events room old (count, answers) new
taken_by_call events given room old new first count answers same before was is taken =
    record {
      if_closed = λ e. cc;
      if_busy = λ e. cc;
      if_open = λ e. (
        is,
        subst (λ (xs : List RawStep). IsBatch xs room old.core count answers new.core) same
            (subst (λ (a : Accepted). IsBatch given room a count answers new.core) before taken),
      );
    }
