-- The routes of messages, by their numbers.
use Rattle.std.proofs.Common.{ℕ, zero, suc, ◌+◌, ◌-◌, ◌≡◌, ◌≢◌, ◌<◌, ◌≤◌, ◌==◌, ◌&&◌, ◌||◌, List, [], ◌∷◌, ◌++◌, length, reverse, Bool}
use Rattle.std.proofs.{Common.{true, false, Some, None, length-append, inl, inr, refl, sym, ap, ◌∙◌, ◌%◌, max, arith}, lemmas.Bool.eq-eqb}
use Rattle.std.{proofs.lemmas.{Bool.{ne_eqb, cases_eq, cases_lt}, Grind.reverse_onto, List.length-reverse}, specs.Prelude.slice_get}
use Rattle.std.specs.Prelude.{IsFalse}
use Rattle.tp_base.specs.{History.Recorded, declared.{ids.NodeId.NodeId, step.Step.{Step, TheVariants.Send}}}
use Rattle.tp_board.{proofs.Counting.count_present-le, specs.{Counts.AreCountsOf, EventLogs.IsEventLog, Numbers.is_send, Routes.IsNumbered}}
use Rattle.tp_board.specs.{Routes.{Route, RouteTable, is_route, is_send_between, routes_of}, States.left_of_piece}
use Rattle.tp_board.specs.declared.counts.Counts.{Counts}
use Rattle.tp_wave.specs.{Generations.{present, present_events}, Machine.{steps_of, is_send_numbered, is_send_to}, Steps.{any, count}}
use Rattle.tp_wave.specs.Steps.{is_reopen}

-- one route for each message
pub length-routes_of : (steps : List Step) → length (routes_of steps) ≡ count is_send steps
length-routes_of [] = refl
length-routes_of (Send a b m g ∷ past) = omega (arith, length-routes_of past)
length-routes_of (_ ∷ past) = length-routes_of past

-- no message has a number that is not below the number of messages
pub fresh : (m : ℕ) (steps : List Step) → IsNumbered steps → count is_send steps ≤ m → IsFalse (any (is_send_numbered m) steps)
fresh m [] are late = refl
fresh m (Send a b k g ∷ past) are late = rw (ne_eqb k.0 m (λ e. absurd (omega (arith, e, are.0)))) (fresh m past are.1 (omega arith))
fresh m (_ ∷ past) are late = fresh m past are late

get_before : (xs : List Route) (x : Route) (k : ℕ) → k < length xs → slice_get (xs ++ x ∷ []) k ≡ slice_get xs k
get_before [] x k less = absurd (omega arith)
get_before (y ∷ ys) x zero less = refl
get_before (y ∷ ys) x (suc k) less = get_before ys x k (omega arith)

get_last : (xs : List Route) (x : Route) → slice_get (xs ++ x ∷ []) (length xs) ≡ Some x
get_last [] x = refl
get_last (y ∷ ys) x = get_last ys x

get_past : (xs : List Route) (k : ℕ) → length xs ≤ k → slice_get xs k ≡ None
get_past [] k more = refl
get_past (y ∷ ys) zero more = absurd (omega arith)
get_past (y ∷ ys) (suc k) more = get_past ys k (omega arith)

get_other : (xs : List Route) (x : Route) (k : ℕ) → k ≢ length xs → slice_get (xs ++ x ∷ []) k ≡ slice_get xs k
get_other xs x k other =
    elim (cases_lt k (length xs)) [
      | inl less ↦ get_before xs x k less
      | inr more ↦ get_past (xs ++ x ∷ []) k (omega (arith, length-append xs (x ∷ []))) ∙ sym (get_past xs k more)
    ]

last_test : (x y : Bool) → (x && y) ≡ ((x && (y && true)) || false)
last_test true true = refl
last_test true false = refl
last_test false y = refl

other_test : (x y z : Bool) → ((x && (y && false)) || z) ≡ z
other_test true true z = refl
other_test true false z = refl
other_test false y z = refl

gave_send : (i j m : ℕ) (a b : NodeId) (k : ℕ) (rs : List Route) (past : Bool) → k ≡ length rs
    → is_route i j (slice_get (reverse rs) m) ≡ past
    → is_route i j (slice_get (reverse rs ++ (a, b) ∷ []) m) ≡ (((a.0 == i) && ((b.0 == j) && (k == m))) || past)
gave_send i j m a b k rs past number before =
    elim (cases_eq m k) [
      | inl same ↦
          let at : m ≡ length (reverse rs) = same ∙ number ∙ sym (length-reverse rs) in
          let none : past ≡ false = sym before ∙ ap (is_route i j) (get_past (reverse rs) m (omega arith)) in
          ap (is_route i j) (ap (slice_get (reverse rs ++ (a, b) ∷ [])) at ∙ get_last (reverse rs) (a, b))
          ∙ rw (eq-eqb k m (sym same), none) (last_test _ _)
      | inr other ↦ ap (is_route i j) (get_other (reverse rs) (a, b) m (λ e. other (e ∙ length-reverse rs ∙ sym number))) ∙ before
          ∙ rw (ne_eqb k m (λ e. other (sym e))) (sym (other_test _ _ _))
    ]

-- the table agrees with the history
pub gave_by : (i j m : ℕ) (steps : List Step) → IsNumbered steps
    → is_route i j (slice_get (reverse (routes_of steps)) m) ≡ any (is_send_between i j m) steps
gave_by i j m [] are = refl
gave_by i j m (Send a b k g ∷ past) are =
    ap (λ rs. is_route i j (slice_get rs m)) (reverse_onto (routes_of past) (a, b) [])
    ∙ gave_send i j m a b k.0 (routes_of past) _ (are.0 ∙ sym (length-routes_of past)) (gave_by i j m past are.1)
gave_by i j m (_ ∷ past) are = gave_by i j m past are

-- the table's length is the number of the next message
pub event_log_sends : (history : Recorded) (limit reserved k : ℕ) (counts : Counts) (routes : RouteTable)
    → IsEventLog history limit reserved k counts routes
    → (length routes.routes ≡ count is_send (present (steps_of history.events))) × (length routes.routes ≤ 1048576)
event_log_sends history limit reserved k counts routes event_log =
    let same : length routes.routes ≡ count is_send (present (steps_of history.events)) =
    ap length event_log.routed ∙ length-routes_of (present (steps_of history.events)) in
    (same, omega (arith, event_log.places, event_log.limited, count_present-le is_send history.events))

-- If all are whole pieces, there is at least room for what is left of the last one.
left_least : (n room : ℕ) → (n + room) % 1024 ≡ 0 → left_of_piece n ≤ room
left_least n room whole = omega (arith, whole)

-- Routes without room for this many more are past their piece.
pub past_messages : (history : Recorded) (limit reserved k : ℕ) (counts : Counts) (routes : RouteTable) (more all : ℕ)
    → IsEventLog history limit reserved k counts routes → all ≡ max reserved more → routes.room < all
    → (length routes.routes + routes.room) % 1024 ≡ 0 → left_of_piece (count is_send (present (steps_of history.events))) < more
past_messages history limit reserved k counts routes more all event_log is grows whole =
    let left = left_least (length routes.routes) routes.room whole in
    let short : left_of_piece (length routes.routes) < more = omega (arith, left, is, grows, event_log.routes_room) in
    rw (← (event_log_sends _ _ _ _ _ _ event_log).0) short

-- the log after the next message was sent
pub event_log_send : (old new : Recorded) (limit reserved k : ℕ) (counts now : Counts) (routes kept : RouteTable) (from to : NodeId) (m : ℕ)
    → IsEventLog old limit reserved k counts routes → 0 < reserved
    → m ≡ length routes.routes → new.events ≡ (from, Send from to (record { 0 = m }) (record { 0 = k })) ∷ old.events
    → new.room + 1 ≡ old.room
    → kept.routes ≡ (from, to) ∷ routes.routes → kept.room + 1 ≡ routes.room
    → AreCountsOf ((from, Send from to (record { 0 = m }) (record { 0 = k })) ∷ present_events old.events) now
    → IsEventLog new limit (reserved - 1) k now kept
event_log_send old new limit reserved k counts now routes kept from to m event_log some number events room sent more are =
    record {
      counted = rw events are;
      numbered = rw events (number ∙ (event_log_sends _ _ _ _ _ _ event_log).0, event_log.numbered);
      routed = rw events (sent ∙ ap (λ rs. (from, to) ∷ rs) event_log.routed);
      generation_is = rw events event_log.generation_is;
      places = omega (arith, ap length events, event_log.places);
      limited = event_log.limited;
      room = omega (arith, event_log.room);
      routes_room = omega (arith, event_log.routes_room);
    }

numbered_other : (s : Step) (past : List Step) → IsFalse (is_send s) → IsNumbered past → IsNumbered (s ∷ past)
numbered_other (Send i j m g) past other are = absurd cc
numbered_other _ past other are = are

routes_other : (s : Step) (past : List Step) → IsFalse (is_send s) → routes_of (s ∷ past) ≡ routes_of past
routes_other (Send i j m g) past other = absurd cc
routes_other _ past other = refl

-- the present steps after one more
present-more : (s : Step) (past : List Step) → IsFalse (is_reopen s) → present (s ∷ past) ≡ s ∷ present past
present-more s past on = rw on refl

and_right : (a b : Bool) → (a && b) ≡ true → b ≡ true
and_right true b is = is
and_right false b is = absurd cc

or_right : (a b : Bool) → b ≡ true → (a || b) ≡ true
or_right true b is = refl
or_right false b is = is

or_both : (a b c d : Bool) → (a ≡ true → c ≡ true) → (b ≡ true → d ≡ true) → (a || b) ≡ true → (c || d) ≡ true
or_both true b c d first rest is = rw (first refl) refl
or_both false b c d first rest is = or_right c d (rest is)

between_to : (i j m : ℕ) (s : Step) → is_send_between i j m s ≡ true → is_send_to j m s ≡ true
between_to i j m (Send a b k g) is = and_right (a.0 == i) _ is
between_to i j m _ is = absurd cc

-- what was sent from one node to another was sent to that node
pub any_to : (i j m : ℕ) (past : List Step) → any (is_send_between i j m) past ≡ true → any (is_send_to j m) past ≡ true
any_to i j m [] is = absurd cc
any_to i j m (s ∷ past) is =
    or_both (is_send_between i j m s) (any (is_send_between i j m) past) (is_send_to j m s) (any (is_send_to j m) past)
    (between_to i j m s) (any_to i j m past) is
