-- `sheet::read_own` meets its contract: the form, then 3 to 17.
use Rattle.floor.proofs.AnswersLaws.{met_passed}
use Rattle.fields.proofs.ReachedLaws.{says, said_value}
use Rattle.sheet.specs.Read.{sheet_verdict}
use Rattle.sheet.proofs.read_own.Goals as goal

pub returns-in_err-f-clause-answers : goal.returns-in_err-f-clause-answers
unfolding sheet_verdict
returns-in_err-f-clause-answers c = search (says, c.in_err-f.ensures.answers) depth 7

pub places_of-requires : goal.places_of-requires
places_of-requires c = (met_passed (said_value _ c.in_ok-f.ensures.answers), c.in_ok-f.ensures.returns)

pub returns-in_err-places_of-clause-answers : goal.returns-in_err-places_of-clause-answers
unfolding sheet_verdict
returns-in_err-places_of-clause-answers c = search (says, c.in_ok-f.ensures.answers, c.in_err-places_of.ensures) depth 7

pub returns-clause-answers : goal.returns-clause-answers
unfolding sheet_verdict
returns-clause-answers c = search (says, c.in_ok-f.ensures.answers, c.in_ok-places_of.ensures) depth 7
