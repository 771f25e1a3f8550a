-- Each task of a sample pool has a value, and the pools keep all values.
pub mod Spelling
pub use Spelling.*
use Rattle.pool_samples.specs.{Products.product_graph, Trees.reduce_graph, Waves.wavefront_graph}
use Rattle.pool_samples.specs.declared.any.AnyGraph.TheVariants as pool

pub each_valued : (graph : AnyGraph) (t : ℕ) → t < (any_graph graph).tasks → IsSome (value_of (any_graph graph) t)
unfolding product_graph wavefront_graph reduce_graph
each_valued (pool.Product p) t h = product_valued p.tiles p.side p.seed p.in_rules t h
each_valued (pool.Wavefront w) t h = wave_valued w.rows w.columns w.seed w.in_rules t h
each_valued (pool.Reduce r) t h = let few = leaves-few r.leaves r.seed r.in_rules in tree_valued r.leaves r.seed r.in_rules few.0 few.1 t h

pub any_keeps : (graph : AnyGraph) → KeepsAll (any_graph graph)
unfolding product_graph wavefront_graph reduce_graph
any_keeps (pool.Product p) t = refl
any_keeps (pool.Wavefront w) t = refl
any_keeps (pool.Reduce r) t = refl
