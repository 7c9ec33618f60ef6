-- `meeting::pair_listed` meets its contract: a chain of two checks.
use Rattle.floor.proofs.AnswersLaws.{chain}
use Rattle.meeting.specs.Text.{pair_verdict}
use Rattle.meeting.proofs.pair_listed.Goals as goal

pub returns-in_err-listed : goal.returns-in_err-listed
unfolding pair_verdict
returns-in_err-listed c = search (chain, c.in_err-listed.ensures) depth 7

pub returns : goal.returns
unfolding pair_verdict
returns c = search (chain, c.in_ok-listed.ensures, c.listed.ensures) depth 7
