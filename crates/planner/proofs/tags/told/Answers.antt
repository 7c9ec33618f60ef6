-- `planner::tags::told` meets its contract: one record a case.
use Rattle.records.specs.Records.{record_of}
use Rattle.planner.proofs.tags.told.Goals as goal

pub returns-in-Some : goal.returns-in-Some
unfolding record_of
returns-in-Some c = rw c.in-Some.is

pub returns-in-None : goal.returns-in-None
unfolding record_of
returns-in-None c = rw c.in-None.is
