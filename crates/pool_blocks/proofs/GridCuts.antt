-- What a grid requires, in its own terms.
use Rattle.pool_blocks.specs.{Grids.{IsGrid, IsNoGrid, are_whole_rows, blocks_of}, Stencils.{AreNoSteps, AreSteps}}
use Rattle.std.proofs.Common.{◌≡◌, ◌≢◌, ◌<◌, ◌≤◌, ◌+◌, ◌*◌, ◌%◌, ◌^◌, ℕ, Bool, true, false, sym, ap, ◌∙◌, ◌⊎◌, ⊎_elim, inl, inr, arith}
use Rattle.std.proofs.{Common.rules, Math.Nat.mul-mod_left, lemmas.{Bool.{and_from, and_parts, cases_lt, eq-eqb, eqb-true}, Nat.mul-le}}
use Rattle.std.specs.Prelude.{◌==◌}

-- if rows and blocks do not fit the cells, the last row is not whole
pub no_row : (width rows count : ℕ) → are_whole_rows width count (rows * width) ≡ false → count % width ≢ 0
no_row width rows count none whole =
    let yes : are_whole_rows width count (rows * width) ≡ true =
    and_from (count % width == 0) (rows * width % width == 0) (eq-eqb (count % width) 0 whole)
    (eq-eqb (rows * width % width) 0 (mul-mod_left rows width)) in
    absurd (cc)

-- a block of no cells has no rows
pub no_rows : (width rows : ℕ) → 1 ≤ width → rows * width ≡ 0 → rows ≡ 0
no_rows width rows some none =
    ⊎_elim
    (λ (t : rows < 1). omega (arith, t))
    (λ (t : 1 ≤ rows). absurd (omega (arith, none, some, mul-le 1 1 rows width t some)))
    (cases_lt rows 1)

pub no_grid : (width rows count steps : ℕ) → 1 ≤ width → AreNoSteps (are_whole_rows width) count (rows * width) steps
    → IsNoGrid count width rows steps
no_grid width rows count steps some (inl none) = inl none
no_grid width rows count steps some (inr (inl empty)) = inr (inr (inl (no_rows width rows some empty)))
no_grid width rows count steps some (inr (inr (inl cut))) = inr (inr (inr (inr (inl (no_row width rows count cut)))))
no_grid width rows count steps some (inr (inr (inr many))) = inr (inr (inr (inr (inr many))))

pub is_grid : (width rows count steps : ℕ) → 1 ≤ width → rows * width < 2 ^ 32
    → AreSteps (are_whole_rows width) count (rows * width) steps → IsGrid count width rows steps
is_grid width rows count steps some small are =
    let parts = and_parts (count % width == 0) (rows * width % width == 0) are.taken in
    record {
      some_cells = are.some_cells;
      some_width = some;
      some_rows =
          ⊎_elim
          (λ (t : rows < 1). let none : rows ≡ 0 = omega (arith, t) in let size : rows * width ≡ 0 * width = ap (λ n. n * width) none in
          absurd (omega (arith, size, are.some_size)))
          (λ (t : 1 ≤ rows). t)
          (cases_lt rows 1);
      small = small;
      whole_rows = eqb-true (count % width) 0 parts.0;
      few_tasks = are.few_tasks;
    }

-- no blocks, no grid
pub no_blocks : (width rows count steps : ℕ) → (width ≡ 0) ⊎ (2 ^ 32 ≤ rows * width) → IsNoGrid count width rows steps
no_blocks width rows count steps (inl none) = inr (inl none)
no_blocks width rows count steps (inr large) = inr (inr (inr (inl large)))
