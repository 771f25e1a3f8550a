use Rattle.{std.proofs.lemmas.List.length-drop, tp_work.proofs.Lemmas.{sent-few, stages-tell-all, IsFollowed, LivesInEach, sent_in}}
use Rattle.tp_work.proofs.Lemmas.{rules, ◌≡◌, ◌∙◌, ◌+◌, ◌-◌, ◌<◌, ℕ, length, map, refl, sym, ap, subst, arith, take, vec_len, length-map}
use Rattle.tp_work.proofs.Lemmas.{length-reverse, Event, ended_generations, History, oldest, oldest-all, oldest_next, through, ended-before}
use Rattle.tp_work.proofs.lives.follow_all.Goals as goal

pub follow_on-requires-clause-few : goal.follow_on-requires-clause-few
follow_on-requires-clause-few c =
    let h = c.args.history.now.events in
    let within : c.loop-place.place < length h = search rules in
    omega (
      arith,
      c.loop-place.invariant.followed.sent_now,
      sent-few (oldest c.loop-place.place h),
      length-drop (length h - c.loop-place.place) h,
      c.requires.few,
    )

pub follow_on-requires-clause-room : goal.follow_on-requires-clause-room
follow_on-requires-clause-room c =
    λ reopens.
    let h = c.args.history.now.events in
    let past = oldest c.loop-place.place h in
    let event : Event = (c.in-Some.field-0-0, c.in-Some.step) in
    let ended = ended-before h c.loop-place.place event (search rules) (sym c.at.ensures ∙ c.in-Some.is) reopens in
    let long : vec_len c.loop-place.sent ≡ length c.loop-place.sent.items = search rules in
    omega (
      arith,
      long,
      ap length c.loop-place.invariant.followed.sent_before,
      length-reverse (map sent_in (ended_generations past)),
      length-map (ended_generations past) sent_in,
      ended,
      c.loop-place.invariant.room,
      c.requires.room.1,
    )

pub returns-then-not-follow_on-clause-lives : goal.returns-then-not-follow_on-clause-lives
returns-then-not-follow_on-clause-lives c = (
  λ is. cc,
  λ all.
      let h = c.args.history.now.events in
      let event : Event = (c.in-Some.field-0-0, c.in-Some.step) in
      let split = through h c.loop-place.place event (search rules) (sym c.at.ensures ∙ c.in-Some.is) in
      let same = subst (λ (n : ℕ). LivesInEach n h) (sym c.loop-place.auto.stages) all in
      absurd (c.follow_on.ensures.no c.if-not-follow_on.true (take (length h - (c.loop-place.place + 1)) h) (oldest c.loop-place.place h)
      event refl c.loop-place.invariant.followed
      (subst (LivesInEach (length c.loop-place.stages)) split same)),
)

pub loop-place-preserved : goal.loop-place-preserved
loop-place-preserved c =
    let h = c.args.history.now.events in
    let event : Event = (c.in-Some.field-0-0, c.in-Some.step) in
    let next = oldest_next h c.loop-place.place event (search rules) (sym c.at.ensures ∙ c.in-Some.is) in
    record {
      followed =
          subst (λ (past : History). IsFollowed past c.follow_on.new.stages c.follow_on.new.sent.items c.follow_on.new.messages) (sym next)
          (c.follow_on.ensures.followed c.if-not-follow_on.false (oldest c.loop-place.place h) event refl c.loop-place.invariant.followed);
      room = c.follow_on.ensures.room ∙ c.loop-place.invariant.room;
    }

pub returns-clause-lives : goal.returns-clause-lives
returns-clause-lives c =
    let h = c.args.history.now.events in
    let followed =
    subst (λ (past : History). IsFollowed past c.loop-place.stages c.loop-place.sent.items c.loop-place.messages)
    (oldest-all h c.loop-place.place (search rules)) c.loop-place.invariant.followed in
    stages-tell-all h c.loop-place.stages c.loop-place.sent.items c.loop-place.messages (length c.args.stages.now) c.all_over.result
    followed c.loop-place.auto.stages c.all_over.ensures
