-- A lawful graph is in order, and one that is in order is lawful with the ways back that are found.
use Rattle.pool_kernels.specs.Plans.{Fills, IsBefore, IsConnected, IsRight, IsSound, LawfulIsSound, SoundIsLawful}
use Rattle.std.proofs.{Common.{◌≡◌, ◌<◌, ◌≤◌, ℕ, inl, inr, refl, sym, ◌∙◌, ⊎_elim, arith}, lemmas.Bool.cases_lt}
use Rattle.tp_base.specs.declared.limits.TheConstants.{MAX_NODES}
use Rattle.tp_graph.specs.Graphs.{FillsSlot, IsFilled, IsLawful, TaskGraph}

-- ---- a lawful graph
-- no two feeds fill a slot
one_feed : (g : TaskGraph) (p k q l t s : ℕ) → IsLawful g → Fills g p k t s → Fills g q l t s → (p ≡ q) × (k ≡ l)
one_feed g p k q l t s law a b =
    let first = law.feeds_fill p k a.task a.turn in
    let second = law.feeds_fill q l b.task b.turn in (
      cc (first.source_is, second.source_is, a.target, a.slot, b.target, b.slot),
      cc (first.turn_is, second.turn_is, a.target, a.slot, b.target, b.slot),
    )

not_before : (p k q l : ℕ) → IsBefore p k q l → p ≡ q → k ≡ l → ⊥
not_before p k q l before e f = ⊎_elim (λ (a : p < q). omega (arith, a, e)) (λ (a : (p ≡ q) × (k < l)). omega (arith, a.1, f)) before

lawful_right : (g : TaskGraph) (p k : ℕ) → IsLawful g → p < g.tasks → k < g.feeds p → IsRight g p k
lawful_right g p k law h q =
    let fill = law.feeds_fill p k h q in
    record {
      goes = record { higher = fill.higher; known = fill.known };
      within = fill.within;
      alone = λ taken.
          let same = one_feed g taken.task taken.turn p k (g.target p k) (g.slot p k) law taken.fills
          (record { task = h; turn = q; target = refl; slot = refl }) in
          not_before taken.task taken.turn p k taken.before same.0 same.1;
    }

lawful_connected : (g : TaskGraph) (t : ℕ) → IsLawful g → t < g.tasks → IsConnected g t
lawful_connected g t law h = record {
  slots = λ s few.
      let fill = law.slots_filled t s h few in
      record {
        task = g.source t s;
        turn = g.turn t s;
        before = inl fill.lower;
        fills = record { task = omega (arith, fill.lower, h); turn = fill.within; target = fill.target_is; slot = fill.slot_is };
      };
  feeds = λ k few. lawful_right g t k law h few;
}

pub lawful_sound : LawfulIsSound
lawful_sound g n law some few = record {
  placed = λ t h. record { inputs = law.few_inputs t h; class = law.few_classes t h; home = law.homes t n h some few };
  connected = λ t h. lawful_connected g t law h;
}

-- ---- a graph that is in order
-- what fills a slot of the graph
record IsFound (g : TaskGraph) (t s p k : ℕ) : Type 0 where
  lower : p < t
  fills : Fills g p k t s

lower_of : (p k t : ℕ) → IsBefore p k t 0 → p < t
lower_of p k t before = ⊎_elim (λ (a : p < t). a) (λ (a : (p ≡ t) × (k < 0)). absurd (omega (arith, a.1))) before

-- the feed that fills a slot; any numbers if the graph does not have the slot
way : (g : TaskGraph) → ((t : ℕ) → t < g.tasks → IsConnected g t) → (t s : ℕ)
    → (p : ℕ) × (k : ℕ) × (t < g.tasks → s < g.arity t → IsFound g t s p k)
way g connected t s =
    ⊎_elim
    (λ (h : t < g.tasks).
    ⊎_elim
    (λ (few : s < g.arity t).
    let fed = (connected t h).slots s few in
    (fed.task, fed.turn, λ q r. record { lower = lower_of fed.task fed.turn t fed.before; fills = fed.fills }))
    (λ (past : g.arity t ≤ s). (0, 0, λ q r. absurd (omega (arith, past, r))))
    (cases_lt s (g.arity t)))
    (λ (past : g.tasks ≤ t). (0, 0, λ q r. absurd (omega (arith, past, q))))
    (cases_lt t g.tasks)

-- two feeds that fill a slot are one, if each is alone
not_first : (g : TaskGraph) (t s p k q l : ℕ) → Fills g p k t s → Fills g q l t s → IsRight g q l → IsBefore p k q l → ⊥
not_first g t s p k q l a b right before = right.alone (record {
  task = p;
  turn = k;
  before = before;
  fills = record { task = a.task; turn = a.turn; target = a.target ∙ sym b.target; slot = a.slot ∙ sym b.slot };
})

same_feed : (g : TaskGraph) (t s p k q l : ℕ) → Fills g p k t s → Fills g q l t s → IsRight g p k → IsRight g q l → (p ≡ q) × (k ≡ l)
same_feed g t s p k q l a b right_p right_q =
    let lower : p < q → ⊥ = λ c. not_first g t s p k q l a b right_q (inl c) in
    let higher : q < p → ⊥ = λ c. not_first g t s q l p k b a right_p (inl c) in
    let task : p ≡ q = omega (arith, lower, higher) in
    let less : k < l → ⊥ = λ c. not_first g t s p k q l a b right_q (inr (task, c)) in
    let more : l < k → ⊥ = λ c. not_first g t s q l p k b a right_p (inr (sym task, c)) in
    (task, omega (arith, less, more))

module _ (g : TaskGraph) (sound : (n : ℕ) → 1 ≤ n → n ≤ MAX_NODES → IsSound g n) where
  connected : (t : ℕ) → t < g.tasks → IsConnected g t
  connected t h = (sound 1 (omega arith) (omega arith)).connected t h

  back : TaskGraph
  back = record g { source = λ t s. (way g connected t s).0; turn = λ t s. (way g connected t s).1 }

  fills : (p k : ℕ) → p < g.tasks → k < g.feeds p → FillsSlot back p k
  unfolding back
  fills p k h few =
      let right = (connected p h).feeds k few in
      let t : ℕ = g.target p k in
      let s : ℕ = g.slot p k in
      let found = (way g connected t s).2 right.goes.known right.within in
      let own = (connected (way g connected t s).0 found.fills.task).feeds (way g connected t s).1 found.fills.turn in
      let same = same_feed g t s (way g connected t s).0 (way g connected t s).1 p k found.fills
      (record { task = h; turn = few; target = refl; slot = refl }) own right in
      record { higher = right.goes.higher; known = right.goes.known; within = right.within; source_is = same.0; turn_is = same.1 }

  filled : (t s : ℕ) → t < g.tasks → s < g.arity t → IsFilled back t s
  unfolding back
  filled t s h few =
      let found = (way g connected t s).2 h few in
      record { lower = found.lower; within = found.fills.turn; target_is = found.fills.target; slot_is = found.fills.slot }

  lawful : IsLawful back
  unfolding back
  lawful = record {
    few_inputs = λ t h. ((sound 1 (omega arith) (omega arith)).placed t h).inputs;
    few_classes = λ t h. ((sound 1 (omega arith) (omega arith)).placed t h).class;
    homes = λ t m h some few. ((sound m some few).placed t h).home;
    feeds_fill = λ p k h few. fills p k h few;
    slots_filled = λ t s h few. filled t s h few;
  }

pub sound_lawful : SoundIsLawful
unfolding back
sound_lawful g sound = (λ t s. (way g (connected g sound) t s).0, λ t s. (way g (connected g sound) t s).1, lawful g sound)
