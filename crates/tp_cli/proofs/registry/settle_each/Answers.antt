use Rattle.std.proofs.Common.{rules, arith, ◌≡◌, ◌∙◌, ◌∷◌, ◌<◌, ◌+◌, true, false, List, Result, ap, ap₂, length, slice_set, sym, subst}
use Rattle.std.proofs.lemmas.List.{set-get_or}
use Rattle.tp_cli.proofs.Settling.{AreSettledBelow, all_settled, ends, none_lacks, stays}
use Rattle.tp_cli.proofs.registry.settle_each.Goals.{then-is_waiting+in-Some, then-is_waiting+in_default, else-is_waiting}
use Rattle.tp_cli.specs.{Registry.{Entered, Pools, after, is_waiting}, declared.entry.Standing.Standing}
use Rattle.tp_cli.proofs.registry.settle_each.Goals as goal

pub loop-entry-preserved : goal.loop-entry-preserved
loop-entry-preserved g c =
    let answers = c.iter-answers.result.rest.now in
    let old = c.args.pools.now in
    let pools = c.loop-entry.pools in
    let n = c.loop-entry.entry-index in
    let item = c.entry-item.result in
    let left = c.loop-entry.answers.rest.now in
    let within : n < length pools = omega (arith, c.loop-entry-test.true, c.loop-entry.auto.pools) in
    elim c.if-is_waiting.branch [
      | then-is_waiting+in-Some w ↦
          let a = w.in-Some.answer.now in
          let rest = c.if-is_waiting.answers.rest.now in
          let waits : is_waiting item ≡ true = ap is_waiting c.entry-item.is ∙ sym w.if-is_waiting.ensures in
          let made : c.if-is_waiting.pools ≡ slice_set pools n (after item a) =
          w.pools-is ∙ ap (slice_set pools n)
          (ap₂ (λ (e : Entered) (s : Standing). record e { standing = s }) (c.entry.view_is
          ∙ sym c.entry-item.is) w.after-entry-inside.ensures) in
          subst (λ (ps : Pools). AreSettledBelow answers rest old ps (n + 1)) (sym made)
          (ends answers left rest old pools n item a c.loop-entry.invariant within c.entry-item.is waits (w.in-Some.ensures.steps
          ∙ ap (λ it. a ∷ it.rest.now) (sym w.answers-is)))
      | then-is_waiting+in_default w ↦
          let waits : is_waiting item ≡ true = ap is_waiting c.entry-item.is ∙ sym w.if-is_waiting.ensures in
          absurd (none_lacks answers left old pools n item c.loop-entry.invariant within c.entry-item.is waits
          (ap length c.iter-answers.ensures.rest ∙ c.requires) w.in_default.ensures.steps.0)
      | else-is_waiting w ↦
          let stays_so : is_waiting item ≡ false = ap is_waiting c.entry-item.is ∙ sym w.if-is_waiting.ensures in
          let same : c.if-is_waiting.pools ≡ pools = w.pools-is ∙ set-get_or pools n item in
          let rest : c.if-is_waiting.answers.rest.now ≡ left = ap (λ it. it.rest.now) w.answers-is in
          subst (λ (ps : Pools). AreSettledBelow answers c.if-is_waiting.answers.rest.now old ps (n + 1)) (sym same)
          (subst (λ (r : List (Result g.row.T.Denot g.row.E.Denot)). AreSettledBelow answers r old pools (n + 1)) (sym rest)
          (stays answers left old pools n item c.loop-entry.invariant within c.entry-item.is stays_so))
    ]

pub returns : goal.returns
returns g c =
    all_settled c.args.answers.now c.loop-entry.answers.rest.now c.args.pools.now c.loop-entry.pools c.loop-entry.entry-index
    (search rules) (search rules) c.requires
