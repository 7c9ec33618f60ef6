-- `lister::list` meets its contract: the walk from the fresh state, with as many steps left as the ceiling has.
use native.Mathlib.Omega.{arith}
use Rattle.steps.proofs.PlacedLaws.{placed_grid}
use Rattle.trial.proofs.EntryLaws.{checked_carriers}
use Rattle.lister.proofs.SameLaws.{root_tallied, root_fits}
use Rattle.lister.proofs.EntryLaws.{state_small, root_placed, root_branch}
use Rattle.lister.proofs.list.Goals as goal

pub root-root-requires : goal.root-root-requires
root-root-requires c =
    (omega (arith, c.requires.1), state_small _ c.requires.1)

pub free_rows-free-requires : goal.free_rows-free-requires
free_rows-free-requires c =
    let both = placed_grid (root_placed _ _ c.requires.0 c.requires.1) in
    record { le_width = both.0; walls_in_bounds = both.1 }

pub beside-requires : goal.beside-requires
beside-requires c =
    let n = checked_carriers _ _ c.requires.0 in
    let most = c.most_steps.ensures.0 n.0 n.1 in record {
      branch = (
        root_branch _ _ c.requires.0 c.requires.1 _ _ _ c.root-root.ensures c.free_rows-free.ensures most,
        omega arith,
      );
      p_bound = root_fits _ _ c.requires.0 _ c.root-root.ensures _ most c.requires.1;
    }

pub returns : goal.returns
returns c =
    let n = checked_carriers _ _ c.requires.0 in
    let most = c.most_steps.ensures.0 n.0 n.1 in
    let both = root_tallied _ _ c.requires.0 _ c.root-root.ensures most c.beside.ensures in
    record { counts = both.0; lists = both.1 }
