-- `sheet::write` meets its contract: a refusal leaves all as it was; a pass puts the sheet in front.
use Rattle.sheet.proofs.ReadLaws.{accepted_counts}
use Rattle.sheet.proofs.SheetLaws.{sheet_front}
use Rattle.floor.proofs.LimitsLaws.{check_tells, length_passed}
use Rattle.sheet.specs.Read.{write_verdict, write_sheet}
use Rattle.floor.proofs.AnswersLaws.{then_next, met_passed, written_next, written_end}
use Rattle.fields.proofs.ReachedLaws.{checks, refuses_first}
use native.Mathlib.Omega.{arith}
use mathlib.Core.Path.{refl, ◌∙◌}
use Rattle.sheet.proofs.write.Goals as goal

pub returns-in_err-check-clause-answers : goal.returns-in_err-check-clause-answers
unfolding write_verdict
returns-in_err-check-clause-answers c = search (checks, c.in_err-check.ensures) depth 7

pub returns-in_err-check-clause-stores : goal.returns-in_err-check-clause-stores
unfolding write_verdict write_sheet
returns-in_err-check-clause-stores c = written_end _ _ (refuses_first _ _ c.in_err-check.ensures) refl

pub returns-in_err-check_length-clause-answers : goal.returns-in_err-check_length-clause-answers
unfolding write_verdict
returns-in_err-check_length-clause-answers c =
    search (checks, c.in_ok-check.ensures, rw c.sheet_length.ensures at c.in_err-check_length.ensures) depth 7

pub returns-in_err-check_length-clause-stores : goal.returns-in_err-check_length-clause-stores
unfolding write_verdict write_sheet
returns-in_err-check_length-clause-stores c =
    written_end _ _ (then_next c.in_ok-check.ensures (rw c.sheet_length.ensures at c.in_err-check_length.ensures)) refl

pub put_sheet-requires : goal.put_sheet-requires
put_sheet-requires c =
    let ok = met_passed c.in_ok-check.ensures in
    let t = check_tells _ _ ok in
    let r = length_passed _ _ (met_passed c.in_ok-check_length.ensures) in record {
      walls_in_bounds = (t.lent, t.bounds.width.0);
      carriers_bound = (t.bounds.carriers.1, accepted_counts _ _ ok);
      f_in_bounds = omega (arith, r, c.sheet_length.ensures);
    }

pub returns : goal.returns
unfolding write_verdict write_sheet
returns c =
    let told = then_next c.in_ok-check.ensures (rw c.sheet_length.ensures at c.in_ok-check_length.ensures) in record {
      answers = told;
      stores = written_next _ told (c.put_sheet.ensures ∙ sheet_front _ _ _);
    }
