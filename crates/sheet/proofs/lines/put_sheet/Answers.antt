-- `sheet::lines::put_sheet` meets its contract: three blocks, one behind the other.
use Rattle.sheet.proofs.SheetLaws.{sheet_put}
use Rattle.sheet.specs.Text.{sheet_length, wall_at}
use Rattle.sheet.proofs.DockLaws.{carrier_low}
use native.Mathlib.Omega.{arith}
use Rattle.sheet.proofs.lines.put_sheet.Goals as goal

pub put_head-requires : goal.put_head-requires
unfolding sheet_length wall_at
put_head-requires c =
    omega (arith, c.requires, carrier_low c.args.f c.args.f.carriers)

pub put_carriers-requires : goal.put_carriers-requires
unfolding sheet_length wall_at
put_carriers-requires c = record {
  carriers_bound = (c.requires.carriers_bound.0, c.requires.walls_in_bounds.1);
  counts_within = c.requires.carriers_bound.1;
  carriers_in_bounds = omega (arith, c.requires.f_in_bounds);
}

pub returns : goal.returns
returns c =
    sheet_put _ _ _ _ _ _ c.requires.f_in_bounds c.put_head.ensures
    c.put_carriers.ensures c.put_walls.ensures
