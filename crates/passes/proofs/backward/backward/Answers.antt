-- `passes::backward::backward` meets its contract: steps from the docks back to beat 0. Assumes nothing.
use mathlib.Core.Path.{sym, ◌∙◌}
use Rattle.layers.specs.Step.{Within}
use Rattle.passes.proofs.PassLaws.{leading_swept}
use native.Mathlib.Omega.{arith}
use Rattle.passes.proofs.backward.backward.Goals as goal

pub put_docks-requires : goal.put_docks-requires
put_docks-requires c =
    let p = c.requires in
    (p.grid.0, p.tidy.0, p.grid.2, p.grid.1)

pub propagate-requires : goal.propagate-requires
unfolding Within
propagate-requires c =
    let p = c.requires in
    (c.put_docks.ensures.only.tidy.long, p.tidy.1.long, p.tidy.1.empty, (p.grid.2, omega arith))

pub shape_of-sets : goal.shape_of-sets
shape_of-sets c =
    let p = c.requires in
    let e = c.put_docks.ensures.only.tidy in
    (c.propagate.ensures c.args.g p.grid.0 e p.tidy.1).tidy.long ∙ sym p.tidy.0.long

pub returns : goal.returns
returns c =
    let p = c.requires in
    let e = c.put_docks.ensures in
    leading_swept _ _ _ _ _ _ e.ends (c.propagate.ensures c.args.g p.grid.0 e.only.tidy p.tidy.1)
