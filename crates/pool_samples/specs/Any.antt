-- The graphs of the three sample pools.
use Rattle.pool_samples.specs.{ProductLaws.product_lawful, Products.product_graph, TreeLaws.reduce_lawful, Trees.reduce_graph}
use Rattle.pool_samples.specs.{WaveLaws.wavefront_lawful, Waves.wavefront_graph, declared.any.AnyGraph.AnyGraph}
use Rattle.tp_graph.specs.Graphs.{TaskGraph, IsLawful}
use Rattle.pool_samples.specs.declared.any.AnyGraph.TheVariants as pool

-- the meaning of one of the three pools
abbrev pub any_graph : AnyGraph → TaskGraph
any_graph (pool.Product p) = product_graph p.tiles p.side p.seed
any_graph (pool.Wavefront w) = wavefront_graph w.rows w.columns w.seed
any_graph (pool.Reduce r) = reduce_graph r.leaves r.seed

pub any_lawful : (graph : AnyGraph) → IsLawful (any_graph graph)
any_lawful (pool.Product p) = product_lawful p.tiles p.side p.seed p.in_rules
any_lawful (pool.Wavefront w) = wavefront_lawful w.rows w.columns w.seed w.in_rules
any_lawful (pool.Reduce r) = reduce_lawful r.leaves r.seed r.in_rules
