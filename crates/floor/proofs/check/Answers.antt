-- `floor::check` meets its contract: a chain of three checks; a passed check 2 gives the bounds that the last requires.
use Rattle.floor.proofs.AnswersLaws.{chain, met_passed}
use Rattle.floor.proofs.LimitsLaws.{length_passed, limits_passed}
use Rattle.floor.specs.Checks.{check_of, lent_of}
use Rattle.floor.proofs.check.Goals as goal

pub returns-in_err-limits : goal.returns-in_err-limits
unfolding check_of lent_of
returns-in_err-limits c = search (chain, c.in_err-limits.ensures) depth 7

pub returns-in_err-check_length : goal.returns-in_err-check_length
unfolding check_of lent_of
returns-in_err-check_length c = search (chain, c.in_ok-limits.ensures, c.in_err-check_length.ensures) depth 7

pub places-requires : goal.places-requires
places-requires c =
    let l = limits_passed _ (met_passed c.in_ok-limits.ensures) in
    let w = length_passed _ _ (met_passed c.in_ok-check_length.ensures) in record {
      width_bound = (l.width.1, l.height.1);
      carriers_bound = l.carriers.1;
      walls_in_bounds = w;
    }

pub returns : goal.returns
unfolding check_of lent_of
returns c = search (chain, c.in_ok-limits.ensures, c.in_ok-check_length.ensures) depth 7
