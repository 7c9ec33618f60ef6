-- `printing::print_read` meets its contract: memory too short is as it was; otherwise the text is put.
use Rattle.floor.specs.Answers.{outcome_by}
use Rattle.floor.proofs.AnswersLaws.{met_passed}
use Rattle.floor.proofs.LimitsLaws.{length_passed}
use Rattle.printing.specs.Put.{FloorPut}
use Rattle.printing.proofs.PrintLaws.{short_met, text_fits}
use Rattle.printing.proofs.print_read.Goals as goal

pub returns-in_err-check_length : goal.returns-in_err-check_length
unfolding FloorPut
returns-in_err-check_length c =
    short_met _ _ _ _ _ (rw c.text_length.ensures at c.in_err-check_length.ensures) c.from_residual.ensures.1

pub put_routes-requires-clause-f_in_bounds : goal.put_routes-requires-clause-f_in_bounds
put_routes-requires-clause-f_in_bounds c =
    length_passed _ _ (met_passed (rw c.text_length.ensures at c.in_ok-check_length.ensures))

pub returns : goal.returns
unfolding outcome_by FloorPut
returns c =
    text_fits _ _ _ _ _ _ _ (length_passed _ _ (met_passed (rw c.text_length.ensures at c.in_ok-check_length.ensures))) c.put_routes.ensures
