-- How proofs distinguish the contents of stores.
use Rattle.std.specs.{Coded.{Coded, code_by, coded×, coded_ℕ, coded_list, coded_option}, Ordering.nat_cmp, Prelude.{ℕ, Option, List, refl}}
use Rattle.tp_base.specs.declared.ids.TaskId.{TaskId}
use Rattle.tp_store.specs.{Content.{Task, Content}, contracts.life.Life.the_row, declared.life.Life.Life}
use Rattle.std.specs.FinMap as map

abbrev pub number_code : Coded TaskId
number_code = code_by ℕ coded_ℕ (λ t. t.0) (λ n. record { 0 = n }) (λ _. refl)

module _ {V : Type 0} (code : Coded V) where
  abbrev pub task_code : Coded (Task V)
  task_code =
      code_by
      (Life × (ℕ × (ℕ × List (Option V))))
      (coded× the_row.coded (coded× coded_ℕ (coded× coded_ℕ (coded_list (coded_option code)))))
      (λ x. (x.life, (x.arity, (x.class, x.values))))
      (λ p. record { life = p.0; arity = p.1.0; class = p.1.1.0; values = p.1.1.1 })
      (λ _. refl)

  abbrev pub content_code : Coded (Content V)
  content_code =
      code_by
      (map.FinMap nat_cmp (Task V) × (List (List TaskId) × List (TaskId × V)))
      (coded× (map.code coded_ℕ task_code) (coded× (coded_list (coded_list number_code)) (coded_list (coded× number_code code))))
      (λ c. (c.tasks, (c.ready, c.results)))
      (λ p. record { tasks = p.0; ready = p.1.0; results = p.1.1 })
      (λ _. refl)
