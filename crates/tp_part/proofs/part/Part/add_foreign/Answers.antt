use Rattle.tp_part.proofs.Theorems.{◌∙◌, List, ℕ, ap, arith, length, refl, with_messages, PartState, MayDescribe, subst, sym, messages_more}
use Rattle.tp_part.proofs.Theorems.{messages_back, box_few, holds_back, holds_foreign, back_shown, ok_when}
use Rattle.tp_part.proofs.part.Part.add_foreign.Goals as goal

pub overflow_sub-room : goal.overflow_sub-room
overflow_sub-room c = let m = messages_more c.args.owner c.deref.result.now c.args.inputs.now c.self.inside.outgoing in let n =
    c.len.ensures.count in let k = c.len-2.ensures in omega (arith, box_few c.self.invariant, ap length c.in_ok-add_outgoing.ensures.ok)

pub invariant_of-self-then-is_err : goal.invariant_of-self-then-is_err
invariant_of-self-then-is_err c = holds_back c.self.invariant
    (messages_back c.args.owner c.len-before.result c.deref.result.now c.args.inputs.now c.self.inside.outgoing c.truncate.ensures
    c.in_ok-add_outgoing.ensures.ok c.len-before.ensures.count) c.reserve.ensures.items c.reserve.ensures.capacity

pub returns-then-is_err-clause-err : goal.returns-then-is_err-clause-err
returns-then-is_err-clause-err c = back_shown c.self.inside c.self.view_is
    (messages_back c.args.owner c.len-before.result c.deref.result.now c.args.inputs.now c.self.inside.outgoing c.truncate.ensures
    c.in_ok-add_outgoing.ensures.ok c.len-before.ensures.count) c.reserve.ensures.items

pub invariant_of-self-2 : goal.invariant_of-self-2
invariant_of-self-2 c = let may = subst (λ (s : PartState). MayDescribe c.args.owner c.requires.0 c.args.inputs.now s) (sym c.self.view_is)
    c.requires.1 in let fits = ok_when c.reserve.result c.is_err.result c.is_err.ensures.value c.if-is_err.false c.reserve.ensures.ok in let
    s = ap length c.reserve.ensures.items in let m = messages_more c.args.owner c.deref.result.now c.args.inputs.now c.self.inside.outgoing
    in let e = ap length c.in_ok-add_outgoing.ensures.ok in holds_foreign (holds_back c.self.invariant refl c.reserve.ensures.items
    c.reserve.ensures.capacity) c.args.owner c.args.inputs.now may.few_tasks may.few_inputs (c.in_ok-add_outgoing.ensures.ok ∙ ap (λ (ns :
    List ℕ). with_messages c.args.owner ns c.args.inputs.now c.self.inside.outgoing) c.deref.ensures.value) (let o = c.reserve.new.self.ok.0
    in let q = c.self.inside.outbox.ok.0 in omega (arith, c.len.ensures.count, c.len-2.ensures, box_few c.self.invariant))
