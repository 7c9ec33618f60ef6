-- `meeting::two_places` meets its contract.
use mathlib.Core.Path.{refl}
use Rattle.meeting.specs.Text.{two_places}
use Rattle.meeting.proofs.two_places.Goals as goal

pub returns : goal.returns
unfolding two_places
returns c = refl
