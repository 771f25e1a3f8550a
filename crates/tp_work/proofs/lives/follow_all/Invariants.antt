use Rattle.std.specs.Prelude.{◌≡◌, vec_capacity}
use Rattle.tp_work.{proofs.Lemmas.oldest, specs.Lives.IsFollowed}
use Rattle.tp_work.proofs.lives.follow_all.Given as goal

abbrev pub invariant-loop-place : goal.invariant-loop-place
invariant-loop-place l =
    record {
      followed : IsFollowed (oldest l.place l.history.events) l.stages l.sent.items l.messages;
      room : vec_capacity l.sent ≡ vec_capacity l.initial.sent;
    }
