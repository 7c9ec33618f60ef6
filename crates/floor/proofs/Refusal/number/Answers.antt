-- `floor::Refusal::number` meets its contract, reason by reason.
use Rattle.floor.proofs.ReasonLaws.{tag_number}
use Rattle.floor.proofs.Refusal.number.Goals as goal

pub returns : goal.returns
returns c = tag_number c.args.self.reason
