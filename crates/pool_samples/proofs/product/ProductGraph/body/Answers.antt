use Rattle.pool_samples.proofs.Keeping.{◌≡◌, ◌/◌, ◌%◌, ℕ, ℤ, List, [], ◌∷◌, Some, length, sym, ap, ◌∙◌, arith, rules, take_at, outcome}
use Rattle.pool_samples.{proofs.Keeping.{tile, added, tile_added, one_item}, specs.Products.product_graph}
use Rattle.pool_samples.proofs.product.ProductGraph.body.Goals as goal

-- the result of the rule on one input is the sum of the two lists that the call gets
by_sums : (tiles side seed t : ℕ) (inputs : List (List ℤ)) (input made left right : List ℤ) → inputs ≡ input ∷ []
    → made ≡ tile side seed (t / tiles / tiles) (t / tiles % tiles) (t % tiles) →
    left ≡ input → right ≡ made → outcome (product_graph tiles side seed) t inputs ≡ added left right
unfolding product_graph
by_sums tiles side seed t inputs input made left right one is l r =
    ap (outcome (product_graph tiles side seed) t) one
    ∙ tile_added side seed (t / tiles / tiles) (t / tiles % tiles) (t % tiles) input made is ∙ ap (λ x. added x made) (sym l)
    ∙ ap (added left) (sym r)

pub returns-in_err-add_to-in-len1 : goal.returns-in_err-add_to-in-len1
returns-in_err-add_to-in-len1 c =
    let p = c.args.self.now in
    let one = one_item c.args.inputs.now c.input-item.result (omega arith) c.input-item.is in
    let ruled = by_sums p.tiles p.side p.seed c.args.task.0 c.args.inputs.now c.input-item.result c.in_ok-made.made.items
    c.as_slice.result.now c.deref_mut.result.now one c.in_ok-made.ensures.0 c.as_slice.ensures c.deref_mut.ensures.value in
    let refused = c.in_err-add_to-in-len1.ensures in
    let none = ruled ∙ refused.1 in
    search rules

pub returns-in_ok-from_vec-in-len1 : goal.returns-in_ok-from_vec-in-len1
returns-in_ok-from_vec-in-len1 c =
    let p = c.args.self.now in
    let one = one_item c.args.inputs.now c.input-item.result (omega arith) c.input-item.is in
    let ruled = by_sums p.tiles p.side p.seed c.args.task.0 c.args.inputs.now c.input-item.result c.in_ok-made.made.items
    c.as_slice.result.now c.deref_mut.result.now one c.in_ok-made.ensures.0 c.as_slice.ensures c.deref_mut.ensures.value in
    let kept : length c.add_to.new.sums ≡ c.in_ok-made.made.len = omega arith in
    let whole = take_at c.add_to.new.sums _ c.in_ok-made.made.len kept in
    ruled ∙ c.in_ok-add_to-in-len1.ensures ∙ ap Some (sym (c.in_ok-from_vec-in-len1.ensures.value ∙ whole))
