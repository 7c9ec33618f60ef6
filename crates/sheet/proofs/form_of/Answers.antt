-- `sheet::form_of` meets its contract: a chain of three checks; line 1 in good form is long enough to be read.
use Rattle.floor.proofs.LimitsLaws.{limits_passed}
use Rattle.floor.proofs.AnswersLaws.{met_passed}
use Rattle.laws.proofs.VerdictLaws.{then_both}
use Rattle.fields.proofs.ReachedLaws.{says, reaches}
use Rattle.sheet.proofs.FormLaws.{line_reach}
use Rattle.sheet.specs.Form.{rest_form}
use Rattle.sheet.specs.Read.{form_of}
use native.Mathlib.Omega.{arith}
use Rattle.sheet.proofs.form_of.Goals as goal

pub returns-in_err-line_form-clause-answers : goal.returns-in_err-line_form-clause-answers
unfolding form_of
returns-in_err-line_form-clause-answers c = search (says, c.in_err-line_form.ensures) depth 7

pub head-f-requires : goal.head-f-requires
head-f-requires c = omega (arith, line_reach _ 0 6 (reaches _ _ _ c.in_ok-line_form.ensures).0)

pub returns-in_err-limits-clause-answers : goal.returns-in_err-limits-clause-answers
unfolding form_of
returns-in_err-limits-clause-answers c =
    search (says, c.in_ok-line_form.ensures, rw c.head-f.ensures at c.in_err-limits.ensures) depth 7

pub rest_form-requires : goal.rest_form-requires
rest_form-requires c = let b = limits_passed _ (met_passed c.in_ok-limits.ensures) in (b.carriers.1, b.walls.1)

pub returns-in_err-rest_form-clause-answers : goal.returns-in_err-rest_form-clause-answers
unfolding form_of
returns-in_err-rest_form-clause-answers c =
    search (
      says,
      c.in_ok-line_form.ensures,
      rw c.head-f.ensures at c.in_ok-limits.ensures,
      rw c.head-f.ensures at c.in_err-rest_form.ensures,
    ) depth 7

pub floor-requires : goal.floor-requires
unfolding rest_form
floor-requires c =
    let b = limits_passed _ (met_passed c.in_ok-limits.ensures) in
    let lines = (then_both _ _ (met_passed c.in_ok-rest_form.ensures)).0 in record {
      f_value = c.head-f.ensures;
      width_bound = (b.width.1, b.height.1);
      carriers_bound = (b.carriers.1, lines);
    }

pub returns-clause-answers : goal.returns-clause-answers
unfolding form_of
returns-clause-answers c =
    search (
      says,
      c.in_ok-line_form.ensures,
      rw c.head-f.ensures at c.in_ok-limits.ensures,
      rw c.head-f.ensures at c.in_ok-rest_form.ensures,
    ) depth 7
