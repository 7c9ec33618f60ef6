use Rattle.records.specs.Records.{resized}
use borrow.Author.Rules.{rules}
use Rattle.records.proofs.clear.Goals as goal

pub returns : goal.returns
unfolding resized
returns c = search rules
