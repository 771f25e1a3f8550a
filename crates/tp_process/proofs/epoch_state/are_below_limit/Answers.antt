-- Two numbers are below a power of two exactly if their bitwise "or" is.
use Rattle.std.proofs.{Common.{◌≡◌, ℕ, ◌&&◌, ltb, sym, ◌∙◌, inl, inr, arith, bit_or}, lemmas.Bool.{cases_lt, lt-ltb, le-ltb, ltb-true}}
use Rattle.std.proofs.lemmas.{Bool.{and_parts, false_from_ne_true}, Nat.{le_or_l, le_or_r, or_lt}}
use Rattle.tp_process.specs.declared.epoch_state.TheConstants.{LIMIT}
use Rattle.tp_process.proofs.epoch_state.are_below_limit.Goals as goal

below : (a b : ℕ) → ltb (bit_or a b) LIMIT ≡ (ltb a LIMIT && ltb b LIMIT)
below a b = elim (cases_lt (bit_or a b) LIMIT) [
  | inl l ↦ rw (lt-ltb a LIMIT (omega (arith, le_or_l a b, l)), lt-ltb b LIMIT (omega (arith, le_or_r a b, l))) (lt-ltb _ _ l)
  | inr m ↦ le-ltb _ _ m ∙ sym (false_from_ne_true _ (λ t.
      let z = and_parts (ltb a LIMIT) (ltb b LIMIT) t in
      absurd (omega (arith, m, or_lt 43 a b (ltb-true a LIMIT z.0) (ltb-true b LIMIT z.1)))))
]

pub returns : goal.returns
returns c = below c.args.first c.args.second
