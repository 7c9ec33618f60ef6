-- `search::ground::grid_rows` meets its contract: the first rows are filled with one word. Assumes nothing.
use mathlib.Core.Path.{ap, ◌∙◌}
use native.Mathlib.Omega.{arith}
use lib.ListN.{length, replicate}
use Rattle.search.specs.Rows.{grid_rows}
use Rattle.search.proofs.GroundLaws.{filled_front}
use Rattle.search.proofs.RowsFree.{length_grid}
use Rattle.search.proofs.ground.grid_rows.Goals as goal

pub returns : goal.returns
unfolding grid_rows
returns c =
    let made = filled_front (replicate 32 0) _ _ _ c.args.h (omega (arith, c.requires)) (c.fill.ensures.after (λ y e. e)) c.ones-full.ensures in
    (made, ap length made ∙ length_grid c.args.w c.args.h c.requires.1)
