-- `trial::play::play` meets its contract: the fresh state is written, and the loop plays from there.
use Rattle.steps.specs.Inner.{Workable}
use Rattle.steps.proofs.PlacedLaws.{placed_sized, placed_grid, workable_same}
use Rattle.trial.proofs.EntryLaws.{trial_tells, front_fresh, front_last}
use Rattle.trial.proofs.play.play.Goals as goal

pub write_fresh-requires : goal.write_fresh-requires
write_fresh-requires c =
    placed_sized (trial_tells _ _ _ _ c.requires).placed

pub free_rows-free-requires : goal.free_rows-free-requires
free_rows-free-requires c =
    let both = placed_grid (trial_tells _ _ _ _ c.requires).placed in
    record { le_width = both.0; walls_in_bounds = both.1 }

pub take_all-requires : goal.take_all-requires
take_all-requires c =
    let lent = trial_tells _ _ _ _ c.requires in
    let works : Workable _ _ _ c.args.m.now = record { placed = lent.placed; free = c.free_rows-free.ensures } in
    let works-then = workable_same c.write_fresh.auto.m works in record {
      walls_value = lent.checked;
      workable = works-then;
      m_value = front_fresh _ _ _ c.write_fresh.ensures;
      carriers_in_bounds = lent.wide;
    }

pub returns : goal.returns
returns c =
    let done = c.take_all.ensures in record {
      answers = done.answers;
      stores = front_last _ _ _ c.write_fresh.ensures _ _ done.stores;
      reports = done.reports;
    }
