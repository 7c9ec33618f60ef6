-- `trial::play::advance` meets its contract: the place that the order takes is open, so its step can be taken.
use Rattle.std.proofs.Common.{ap, ◌∙◌, arith}
use Rattle.steps.proofs.PlacedLaws.{placed_sized, rows_serve}
use Rattle.trial.specs.Report.{answer_number}
use Rattle.trial.proofs.StepLaws.{places_most, listed_there}
use Rattle.trial.proofs.ShownLaws.{chosen_opens}
use Rattle.trial.proofs.EntryLaws.{advanced}
use Rattle.trial.proofs.play.advance.Goals as goal

pub invariant_of-now : goal.invariant_of-now
invariant_of-now c = let sized = placed_sized c.requires.workable.placed in record { few = sized.0; whole = sized.1 }

pub step_at-s-requires : goal.step_at-s-requires
step_at-s-requires c =
    ((placed_sized c.requires.workable.placed).0, c.choose-p.ensures.1)

pub number_of-number-requires : goal.number_of-number-requires
number_of-number-requires c = (
  rw c.step_at-s.ensures (listed_there _ _ c.choose-p.ensures.1),
  (placed_sized c.requires.workable.placed).0,
)

pub take-taken-requires : goal.take-taken-requires
take-taken-requires c = record {
  x_value = rw (c.step_at-s.ensures, c.choose-p.ensures.0)
      (chosen_opens _ _ _ _ (rw c.requires.candidates_value.0 at c.requires.candidates_value.1));
  placed = c.requires.workable.placed;
  rows_for = rows_serve _ c.requires.workable.free;
}

pub next-requires : goal.next-requires
next-requires c =
    omega (arith, c.choose-p.ensures.1, places_most _ (placed_sized c.requires.workable.placed).0)

pub returns : goal.returns
returns c =
    advanced _ _ _ _ _ _ _ _ _ _ _ _ _ _ c.choose-p.ensures.0 c.step_at-s.ensures
    c.number_of-number.ensures
    (c.answer_number.ensures ∙ ap answer_number c.take-taken.ensures.answers)
    c.next.ensures c.take-taken.ensures.stores c.write_line.ensures
