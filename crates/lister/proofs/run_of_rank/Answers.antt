-- `lister::run_of_rank` meets its contract: a refusal leaves all as it was; otherwise the run is found.
use Rattle.floor.proofs.AnswersLaws.{met_passed}
use Rattle.machine.proofs.VerdictLaws.{refuses_on, met_refused}
use Rattle.lister.specs.Entry.{figures_told}
use Rattle.lister.proofs.EntryLaws.{small_refused}
use Rattle.lister.proofs.run_of_rank.Goals as goal

pub returns-in_err-ready : goal.returns-in_err-ready
returns-in_err-ready c =
    let both = small_refused _ _ _ _ (met_refused _ c.in_err-ready.ensures) in record {
      answers = refuses_on figures_told _ _ both.0 c.from_residual.ensures.1;
      reports = both.1;
    }

pub find-requires : goal.find-requires
find-requires c = met_passed c.in_ok-ready.ensures
