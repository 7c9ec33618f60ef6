-- `blockers::shut_by` meets its contract: the procedure over the floor's free rows, told as a set.
use native.Mathlib.Omega.{arith}
use mathlib.Core.Path.{◌∙◌, ap}
use Rattle.floor.proofs.LimitsLaws.{check_tells}
use Rattle.blockers.specs.Blockers.{set_of}
use Rattle.blockers.proofs.EntryLaws.{own_searchable, rows_left}
use Rattle.blockers.proofs.shut_by.Goals as goal

pub free_rows-free-requires : goal.free_rows-free-requires
free_rows-free-requires c =
    let tells = check_tells _ _ c.requires.0 in record {
      le_width = (tells.bounds.width.0, tells.bounds.width.1, tells.bounds.height.1);
      walls_in_bounds = tells.lent;
    }

pub leave_out-requires : goal.leave_out-requires
leave_out-requires c =
    own_searchable _ _ c.requires.0 _ _ _ c.requires.1 c.requires.2 c.free_rows-free.ensures

pub set_of-requires : goal.set_of-requires
set_of-requires c =
    let tells = check_tells _ _ c.requires.0 in
    (omega (arith, tells.bounds.carriers.1, c.requires.1), omega (arith, c.requires.2, c.leave_out.auto.views))

pub returns : goal.returns
returns c =
    c.set_of.ensures
    ∙ ap set_of (c.leave_out.ensures ∙ rows_left _ _ c.requires.0 _ _ _ c.free_rows-free.ensures)
