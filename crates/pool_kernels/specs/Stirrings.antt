-- What a task computes from its inputs: numbers below 2 ^ 31, to which the kernel is applied this many times.
use Rattle.pool_kernels.specs.Kernels.{Rule}
use Rattle.std.specs.{Int.{cast_unsigned, w64}, List.sum, Prelude.{◌+◌, ◌*◌, ◌%◌, ℕ, zero, suc, ℤ, pos, List, [], ◌∷◌, map, Option, Some}}
use Rattle.std.specs.Prelude.{None, if◌then◌else◌, nat_lt}
use Rattle.tp_graph.specs.Values.{then_some}

-- one iteration
abbrev pub stirred : ℕ → ℕ
stirred x = (x * (2 * x + 1) + 1013904223) % 2147483648

-- this many iterations
abbrev pub stir : ℕ → ℕ → ℕ
stir zero x = x
stir (suc n) x = stirred (stir n x)

-- what column i computes from the sum of its inputs
abbrev pub made : ℕ → ℕ → ℕ → ℕ
made iterations i total = stir iterations ((total + i + 1) % 2147483648)

-- the number of an input, which is below 2 ^ 31
abbrev pub number_of : List ℤ → Option ℕ
number_of (pos n ∷ []) = if nat_lt n 2147483648 then Some n else None
number_of _ = None

abbrev pub total_of : List (List ℤ) → Option ℕ
total_of [] = Some 0
total_of (a ∷ rest) = then_some (number_of a) (λ n. then_some (total_of rest) (λ m. Some (n + m)))

-- what a task computes, of any row
abbrev pub stir_rule : ℕ → Rule
stir_rule iterations t i values = then_some (total_of values) (λ n. Some (pos (made iterations i n) ∷ []))

-- the checksum of a row of numbers that are 0 or more: their sum mod 2 ^ 31
abbrev pub checksum : List ℤ → ℕ
checksum row = sum (map (cast_unsigned w64) row) % 2147483648
