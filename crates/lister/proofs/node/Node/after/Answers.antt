-- `lister::node::Node::after` meets its contract: the step at the place is open, so it can be taken; its numbers go behind the others.
use mathlib.Core.Path.{◌∙◌, ap}
use Rattle.steps.proofs.PlacedLaws.{placed_sized, rows_serve}
use Rattle.trial.specs.Report.{answer_number}
use Rattle.trial.proofs.StepLaws.{listed_there}
use Rattle.lister.proofs.NodeLaws.{moved}
use Rattle.lister.proofs.node.Node.after.Goals as goal

pub step_at-x-requires : goal.step_at-x-requires
step_at-x-requires c =
    ((placed_sized c.requires.workable.0.placed).0, c.requires.p_bound.0)

pub number_of-number-requires : goal.number_of-number-requires
number_of-number-requires c =
    (rw c.step_at-x.ensures (listed_there _ _ c.requires.p_bound.0), (placed_sized c.requires.workable.0.placed).0)

pub take-taken-requires : goal.take-taken-requires
take-taken-requires c = record {
  x_value = rw c.step_at-x.ensures c.requires.p_bound.1;
  placed = c.requires.workable.0.placed;
  rows_for = rows_serve _ c.requires.workable.0.free;
}

pub returns : goal.returns
returns c =
    moved _ _ _ _ _ _ _ _ _ c.step_at-x.ensures c.take-taken.ensures.stores c.take-taken.auto.m
    c.number_of-number.ensures
    (c.answer_number.ensures ∙ ap answer_number c.take-taken.ensures.answers)
    c.with_step-trail.ensures.0
