-- `sheet::read` meets its contract: a refusal leaves all as it was; a pass hands back the floor and stores its walls.
use Rattle.floor.proofs.AnswersLaws.{met_passed, written_next, written_end}
use Rattle.fields.proofs.ReachedLaws.{says, says_last, says_value, said_refusal, refuses_first}
use Rattle.sheet.proofs.ReadLaws.{read_tells, length_left}
use Rattle.sheet.specs.Read.{read_verdict, read_floor, read_walls}
use Rattle.sheet.proofs.FormLaws.{walls_read}
use Rattle.sheet.proofs.SheetText.{walls_there}
use mathlib.Core.Path.{refl}
use Rattle.floor.specs.declared.Floor.{Floor}
use Rattle.sheet.proofs.read.Goals as goal

pub returns-in_err-f-clause-answers : goal.returns-in_err-f-clause-answers
unfolding read_verdict
returns-in_err-f-clause-answers c = search (says, c.in_err-f.ensures.answers) depth 7

pub returns-in_err-f-clause-stores : goal.returns-in_err-f-clause-stores
unfolding read_verdict read_walls
returns-in_err-f-clause-stores c = written_end _ _ (refuses_first _ _ (said_refusal Floor _ c.in_err-f.ensures.answers)) refl

pub returns-in_err-check_length-clause-answers : goal.returns-in_err-check_length-clause-answers
returns-in_err-check_length-clause-answers c =
    let own = c.in_ok-f.ensures in
    search (says_last, length_left _ _ _ own.answers own.returns c.in_err-check_length.ensures)

pub returns-in_err-check_length-clause-stores : goal.returns-in_err-check_length-clause-stores
unfolding read_walls
returns-in_err-check_length-clause-stores c =
    let own = c.in_ok-f.ensures in
    written_end _ _ (length_left _ _ _ own.answers own.returns c.in_err-check_length.ensures) refl

pub walls-requires : goal.walls-requires
walls-requires c =
    let own = c.in_ok-f.ensures in
    let ok = read_tells _ _ (met_passed (length_left _ _ _ own.answers own.returns c.in_ok-check_length.ensures)) in
    let w = walls_there _ ok.form _ own.returns ok.enough in
    record { width_bound = w.0; carriers_bound = w.1.0; walls_in_bounds = w.1.1 }

pub returns : goal.returns
unfolding read_floor read_walls
returns c =
    let own = c.in_ok-f.ensures in
    let told = length_left _ _ _ own.answers own.returns c.in_ok-check_length.ensures in record {
      answers = says_value _ told;
      returns = written_next _ told own.returns;
      stores = written_next _ told (walls_read _ _ own.returns c.walls.ensures);
    }
