-- `legality::answer` meets its contract: the first test that fails, or what the tag says.
use native.Mathlib.Omega.{arith}
use Rattle.search.specs.Task.{task_of}
use Rattle.legality.proofs.EntryLaws.{verdict_granted, verdict_placed, answer_met, wrong_met}
use Rattle.legality.proofs.answer.Goals as goal

pub bounds-numbers-0 : goal.bounds-numbers-0
bounds-numbers-0 c =
    omega (arith, (verdict_granted _ _ _ _ c.requires).enough)

pub load-cells-requires : goal.load-cells-requires
load-cells-requires c =
    omega (arith, (verdict_granted _ _ _ _ c.requires).enough)

pub record_test-requires : goal.record_test-requires
record_test-requires c =
    verdict_placed _ _ _ _ c.requires

pub kind-requires : goal.kind-requires
kind-requires c =
    (verdict_placed _ _ _ _ c.requires).horizon

pub returns-in-Ok : goal.returns-in-Ok
unfolding task_of
returns-in-Ok c = answer_met _ _ c.load-cells.ensures c.in-Ok.ensures c.kind.ensures

pub returns-in-Err : goal.returns-in-Err
returns-in-Err c = wrong_met _ _ c.load-cells.ensures _ c.in-Err.ensures
