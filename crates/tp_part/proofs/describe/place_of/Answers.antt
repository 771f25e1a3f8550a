use Rattle.tp_part.proofs.Theorems.{ℕ, Result, Ok, Err, sym, place_found}
use Rattle.tp_part.proofs.describe.place_of.Goals as goal

pub returns-in-Ok : goal.returns-in-Ok
returns-in-Ok c = let r : Result ℕ ℕ = Ok c.in-Ok.place in
    sym (place_found c.args.numbers.now c.args.number r c.requires.ascends c.in-Ok.ensures.position)

pub returns-in-Err : goal.returns-in-Err
returns-in-Err c = let r : Result ℕ ℕ = Err c.in-Err.field-0 in
    sym (place_found c.args.numbers.now c.args.number r c.requires.ascends c.in-Err.ensures.position)
