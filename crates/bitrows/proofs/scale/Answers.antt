-- `bitrows::scale` meets its contract. The contract is the code. Assumes nothing.
use native.Mathlib.Omega.{arith}
use Rattle.bitrows.proofs.ScaleLaws.{scale_bounds}
use Rattle.bitrows.proofs.scale.Goals as goal

pub overflow_add-result : goal.overflow_add-result
overflow_add-result c = omega (arith, scale_bounds c.args.w c.requires.0 c.requires.1)
