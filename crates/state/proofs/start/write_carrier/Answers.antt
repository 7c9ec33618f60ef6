-- `state::start::write_carrier` meets its contract: two numbers and a record of none are the fresh carrier.
use Rattle.encoding.specs.Places.{planned_place}
use Rattle.state.proofs.FreshLaws.{carrier_is}
use Rattle.state.proofs.start.write_carrier.Goals as goal

pub returns : goal.returns
unfolding planned_place
returns c =
    rw (← carrier_is c.args.i) c.write.ensures
