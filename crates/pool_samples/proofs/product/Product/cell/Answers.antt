use Rattle.pool_samples.proofs.Keeping.{product_cell}
use Rattle.pool_samples.proofs.product.Product.cell.Goals as goal

pub returns : goal.returns
returns c = product_cell c.args.self.now c.args.x c.args.y c.requires.row c.requires.column
