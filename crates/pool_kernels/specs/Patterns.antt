-- Task Bench's patterns as relations of columns.
use Rattle.pool_kernels.specs.{Ranks.rank, Stirrings.stirred, declared.pattern.Pattern.{Pattern, TheVariants.{Trivial, NoComm, Stencil}}}
use Rattle.pool_kernels.specs.declared.pattern.Pattern.TheVariants.{StencilPeriodic, Dom, Tree, Fft, AllToAll, Nearest, Spread}
use Rattle.pool_kernels.specs.declared.pattern.Pattern.TheVariants.{RandomNearest}
use Rattle.std.specs.{Int.abs_diff, Prelude.{ℕ, Bool, true, false, ◌+◌, ◌-◌, ◌*◌, ◌/◌, ◌%◌, ◌^◌, ◌==◌, ◌||◌, ◌&&◌, nat_le, max}}

-- how many of 2, 4, 8 and so on are at most w, but at least 1
abbrev pub doublings : ℕ → ℕ
doublings w = max (rank (λ k. nat_le (2 ^ (k + 1)) w) w) 1

-- the column k fifths of a row to the right of i, moved by one column from row to row
abbrev pub fifth : ℕ → ℕ → ℕ → ℕ → ℕ → ℕ
fifth w t seed i k = (i + k * w / 5 + (t - 1) + seed) % w

-- one pseudo-random bit from three numbers and a seed
abbrev pub is_drawn : ℕ → ℕ → ℕ → ℕ → Bool
is_drawn t seed j i = (stirred (stirred ((seed + 7919 * t + 104729 * j + 1299709 * i) % 2147483648)) / 1048576 % 2) == 0

-- in rows of w columns, whether column j of the row before feeds column i of row t
abbrev pub relates : Pattern → ℕ → ℕ → ℕ → ℕ → Bool
relates Trivial w t j i = false
relates NoComm w t j i = j == i
relates Stencil w t j i = nat_le (abs_diff j i) 1
relates StencilPeriodic w t j i = nat_le (abs_diff j i) 1 || ((abs_diff j i + 1) == w)
relates Dom w t j i = (j == i) || ((j + 1) == i)
relates Tree w t j i = j == (i / 2)
relates Fft w t j i = (j == i) || (abs_diff j i == (2 ^ ((t - 1) % doublings w)))
relates AllToAll w t j i = true
relates (Nearest radius) w t j i = nat_le (abs_diff j i) radius
relates (Spread seed) w t j i =
    (j == i) || ((j == fifth w t seed i 1) || ((j == fifth w t seed i 2) || ((j == fifth w t seed i 3) || (j == fifth w t seed i 4))))
relates (RandomNearest radius seed) w t j i = (j == i) || (nat_le (abs_diff j i) radius && is_drawn t seed j i)

-- the period of the relation in rows: all rows if it is pseudo-random
abbrev pub period_of : Pattern → ℕ → ℕ → ℕ
period_of Fft w steps = doublings w
period_of (Spread seed) w steps = w
period_of (RandomNearest radius seed) w steps = steps
period_of _ w steps = 1
