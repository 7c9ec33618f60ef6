-- `bitrows::row_of` meets its contract: a product and a shift by 16 places divide by the width. Assumes nothing.
use native.Mathlib.Nat.{div-add-mod'}
use native.Mathlib.Omega.{arith}
use mathlib.Core.Path.{sym}
use Rattle.bitrows.proofs.ScaleLaws.{scaled, product_small}
use Rattle.bitrows.proofs.row_of.Goals as goal

pub overflow_mul-result : goal.overflow_mul-result
overflow_mul-result c =
    let h = product_small c.args.w c.args.c c.requires.0 c.requires.1 c.requires.2 in
    let l = rw (sym c.requires.3) at h in
    omega arith

pub returns : goal.returns
returns c = let e = rw (sym c.requires.3) at (scaled c.args.w c.args.c c.requires.0 c.requires.1 c.requires.2) in
    (e, rw e (div-add-mod' c.args.c c.args.w))
