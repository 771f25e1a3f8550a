use Rattle.pool_blocks.proofs.{Blocks.after-length, Planned.part_more, Refused.{are_steps, part_fault, part_run}}
use Rattle.pool_blocks.specs.{RunEvents.TakeSteps, Runs.HasRunInParts, Stencils.{AreSteps, after}}
use Rattle.std.proofs.{Common.{◌≡◌, ◌≤◌, ◌-◌, ◌∙◌, ap, arith, inl, length, rules, subst, sym, true}, lemmas.Result.err_from_is_err_and}
use Rattle.pool_blocks.proofs.parts.run_in_parts.Goals as goal

pub run_part-requires-clause-taken : goal.run_part-requires-clause-taken
run_part-requires-clause-taken g c κs within =
    let s = g.S.Stencil in
    let before = c.loop-left.invariant in
    let cells = c.args.cells.items in
    let count : c.len-2.result ≡ length cells = search rules in
    let takes = subst (λ count. TakeSteps count c.args.size c.args.config.nodes c.in-Some.most) count c.in-Some.ensures in
    let taken : s.takes c.args.stencil (length cells) c.args.size ≡ true = search rules in
    let same : length cells ≡ length c.deref.result.now =
    sym (ap length (c.deref.ensures.value ∙ before.made)
    ∙ after-length (s.step c.args.stencil) (c.args.steps - c.loop-left.left) cells
    ((g.met.S.Stencil g.world.𝓛 g.world.𝓜 g.world.𝓡 ((λ s x. x), (λ x. x), (λ x. x), λ x. x)).long c.args.stencil)) in
    subst (λ count. AreSteps (s.takes c.args.stencil) count c.args.size c.min-now.result) same
    (are_steps (s.takes c.args.stencil) (length cells) c.args.size c.args.config.nodes c.in-Some.most c.min-now.result taken takes
    (search rules))

pub loop-left-preserved : goal.loop-left-preserved
loop-left-preserved g c =
    let before = c.loop-left.invariant in
    let count : c.len-2.result ≡ length c.args.cells.items = search rules in
    let takes = subst (λ count. TakeSteps count c.args.size c.args.config.nodes c.in-Some.most) count c.in-Some.ensures in
    let some : 1 ≤ c.min-now.result = omega (arith, takes.all_planned) in
    record {
      few = omega (arith, before.few);
      made = part_more (g.S.Stencil.step c.args.stencil) c.args.steps c.loop-left.left c.min-now.result c.loop-left.made.items
          c.in_ok-made.made.items c.args.cells.items (search rules) before.few before.made (search rules);
      ran = part_run c.args.config.nodes c.args.config.workers (g.S.Stencil.step c.args.stencil) (g.S.Stencil.next c.args.stencil)
          c.args.cells.items c.deref.result.now c.args.size c.args.steps c.loop-left.left c.min-now.result
          ((g.met.S.Stencil g.world.𝓛 g.world.𝓜 g.world.𝓡 ((λ s x. x), (λ x. x), (λ x. x), λ x. x)).long c.args.stencil)
          (c.deref.ensures.value ∙ before.made) before.few (search rules) some c.in_ok-made.ensures.1;
    }

pub returns-in_err-made : goal.returns-in_err-made
returns-in_err-made g c =
    let s = g.S.Stencil in
    let before = c.loop-left.invariant in
    let passed = err_from_is_err_and c.from_residual.result c.from_residual.ensures.1 in
    let why = rw (sym passed.2) at (c.in_err-made.ensures) in
    let count : c.len-2.result ≡ length c.args.cells.items = search rules in
    let takes = subst (λ count. TakeSteps count c.args.size c.args.config.nodes c.in-Some.most) count c.in-Some.ensures in
    let some : 1 ≤ c.min-now.result = omega (arith, takes.all_planned) in
    rw passed.1 (part_fault c.args.config.nodes c.args.config.workers (s.takes c.args.stencil) (s.step c.args.stencil)
    (s.next c.args.stencil) c.args.cells.items c.deref.result.now c.args.size c.args.steps c.loop-left.left c.min-now.result passed.0
    ((g.met.S.Stencil g.world.𝓛 g.world.𝓜 g.world.𝓡 ((λ s x. x), (λ x. x), (λ x. x), λ x. x)).long c.args.stencil) (c.deref.ensures.value
    ∙ before.made) before.few (search rules) some why)

pub loop-left-init : goal.loop-left-init
loop-left-init g c =
    let none : 0 ≡ c.args.steps - c.args.steps = omega arith in
    record {
      few = omega arith;
      made = ap (λ n. after (g.S.Stencil.step c.args.stencil) n c.args.cells.items) none;
      ran = inl (sym none);
    }

pub returns : goal.returns
returns g c =
    let s = g.S.Stencil in
    let last = c.loop-left.invariant in
    let all : c.args.steps - c.loop-left.left ≡ c.args.steps = omega arith in (
      subst (λ n. c.loop-left.made.items ≡ after (s.step c.args.stencil) n c.args.cells.items) all last.made,
      subst (HasRunInParts c.args.config.nodes c.args.config.workers (s.step c.args.stencil) (s.next c.args.stencil) c.args.cells.items
          c.args.size) all last.ran,
    )
