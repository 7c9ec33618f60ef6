-- `blockers::set_for` meets its contract: the first records of the plan are the views of the answers above.
use native.Mathlib.Omega.{arith}
use Rattle.floor.proofs.LimitsLaws.{check_tells}
use Rattle.blockers.proofs.EntryLaws.{own_set}
use Rattle.blockers.proofs.set_for.Goals as goal

pub shut_by-requires : goal.shut_by-requires
shut_by-requires c =
    let few = (check_tells _ _ c.requires.0).bounds.carriers in
    (c.requires.0, c.requires.1, omega (arith, c.requires.1, few, c.requires.2.long))

pub returns : goal.returns
returns c =
    own_set _ _ c.requires.0 c.requires.2 c.requires.1 _ c.shut_by.ensures
