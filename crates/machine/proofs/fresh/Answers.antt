-- `machine::fresh` meets its contract: a refusal leaves all as it was; otherwise the fresh state is written.
use Rattle.machine.proofs.VerdictLaws.{place_tells, hands_on}
use Rattle.steps.proofs.PlacedLaws.{placed_sized}
use Rattle.floor.proofs.AnswersLaws.{met_passed, written_next, written_end}
use Rattle.encoding.specs.Calls.{fresh_memory}
use mathlib.Core.Path.{refl}
use Rattle.machine.proofs.fresh.Goals as goal

pub returns-in_err-lent_place : goal.returns-in_err-lent_place
unfolding fresh_memory
returns-in_err-lent_place c = record {
  answers = hands_on _ _ c.in_err-lent_place.ensures c.from_residual.ensures.1;
  stores = written_end _ _ c.in_err-lent_place.ensures refl;
}

pub write_fresh-requires : goal.write_fresh-requires
write_fresh-requires c = placed_sized (place_tells _ _ _ (met_passed c.in_ok-lent_place.ensures))

pub returns : goal.returns
unfolding fresh_memory
returns c = record {
  answers = c.in_ok-lent_place.ensures;
  stores = written_next _ c.in_ok-lent_place.ensures c.write_fresh.ensures;
}
