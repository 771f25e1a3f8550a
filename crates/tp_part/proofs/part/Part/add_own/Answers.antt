use Rattle.tp_part.proofs.Theorems.{◌≡◌, ◌-◌, ◌∙◌, ◌++◌, ◌∷◌, [], List, ℕ, ap, arith, length, length-append, own_places, edges_to}
use Rattle.tp_part.proofs.Theorems.{with_spawned, PartState, MayDescribe, subst, sym, spawn_checks, first_refusal, holds_own, only_memory}
use Rattle.tp_part.proofs.Theorems.{spawn_none}
use Rattle.tp_part.proofs.part.Part.add_own.Goals as goal

pub returns-in-Err-clause-exact : goal.returns-in-Err-clause-exact
returns-in-Err-clause-exact c = let ns = c.self.inside.numbers.items in let us = c.args.inputs.now in let may = subst
    (λ (s : PartState). MayDescribe s.number c.args.class c.args.inputs.now s) (sym c.self.view_is) c.requires in only_memory (first_refusal
    (spawn_checks c.self.inside.pool c.args.class c.deref-3.result.now (c.len.result - c.len-before.result))) c.in-Err.refusal
    (spawn_none c.args.class (c.len.result - c.len-before.result) c.len-place.result us c.deref-3.result.now c.add_incoming.new.incoming
    c.self.invariant may.few_classes may.not_started may.few_tasks may.few_inputs may.few (c.deref-3.ensures.value
    ∙ (c.in_ok-sources.ensures ∙ ap (λ (xs : List ℕ). own_places xs us) c.deref.ensures.value)) (c.in_ok-add_incoming.ensures.ok
    ∙ ap (λ (xs : List ℕ). c.self.inside.incoming ++ edges_to c.len-place.result xs us) (c.deref-2.ensures.value ∙ c.reserve.ensures.items))
    (omega (arith, c.len.ensures.count, c.len-before.ensures.count))) c.in-Err.ensures.exact

pub invariant_of-self-2 : goal.invariant_of-self-2
invariant_of-self-2 c = let us = c.args.inputs.now in let may = subst (λ (s : PartState). MayDescribe s.number c.args.class
    c.args.inputs.now s) (sym c.self.view_is) c.requires in let added : c.add_incoming.new.incoming ≡ c.self.inside.incoming ++ edges_to
    c.len-place.result c.self.inside.numbers.items us = c.in_ok-add_incoming.ensures.ok ∙ ap (λ (xs : List ℕ). c.self.inside.incoming
    ++ edges_to c.len-place.result xs us) (c.deref-2.ensures.value ∙ c.reserve.ensures.items) in let long = ap length added ∙ length-append
    c.self.inside.incoming (edges_to c.len-place.result c.self.inside.numbers.items us) in let out : c.len.result - c.len-before.result
    ≡ length (edges_to c.len-place.result c.self.inside.numbers.items us) = omega (arith, c.len.ensures.count, c.len-before.ensures.count)
    in holds_own c.self.invariant c.args.class c.len-place.result us may.not_started may.few_tasks may.few_inputs (c.in_default.ensures.ok.1
    ∙ (ap (λ (xs : List ℕ). with_spawned c.args.class xs (c.len.result - c.len-before.result) c.self.inside.pool) (c.deref-3.ensures.value
    ∙ (c.in_ok-sources.ensures ∙ ap (λ (xs : List ℕ). own_places xs us) c.deref.ensures.value)) ∙ ap (λ (m : ℕ). with_spawned c.args.class
    (own_places c.self.inside.numbers.items us) m c.self.inside.pool) out)) (omega (arith, c.len-place.ensures, c.self.inside.numbers.ok.0))
    added (c.push_reserved.ensures.items ∙ ap (λ (xs : List ℕ). xs ++ c.self.inside.described ∷ []) c.reserve.ensures.items)
