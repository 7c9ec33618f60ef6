-- `state::start::write_carriers` meets its contract: the loop holds the fresh carriers so far, one behind the other.
use Rattle.laws.proofs.PutLaws.{put_none}
use Rattle.encoding.specs.Encode.{blocks}
use Rattle.state.proofs.start.write_carriers.Goals as goal

pub loop-i-init : goal.loop-i-init
unfolding blocks
loop-i-init c = put_none _ _
