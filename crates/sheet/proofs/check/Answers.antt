-- `sheet::check` meets its contract: what the text says, and then 9.
use Rattle.fields.proofs.ReachedLaws.{checks}
use Rattle.sheet.proofs.ReadLaws.{length_left}
use Rattle.sheet.specs.Read.{read_verdict}
use Rattle.sheet.proofs.check.Goals as goal

pub returns-in_err-f : goal.returns-in_err-f
unfolding read_verdict
returns-in_err-f c = search (checks, c.in_err-f.ensures.answers) depth 7

pub returns : goal.returns
returns c = length_left _ _ _ c.in_ok-f.ensures.answers c.in_ok-f.ensures.returns c.check_length.ensures
