-- `legality::beats::ends` meets its contract.
use Rattle.laws.proofs.VerdictLaws.{demand_refuses, demand_passes}
use Rattle.laws.proofs.CodeTests.{code_holds, code_fails}
use Rattle.route.specs.Route.{cell_at}
use Rattle.legality.specs.Answers.{test_of}
use Rattle.legality.specs.Tests.{dock_test}
use mathlib.Core.Path.{sym}
use Rattle.legality.proofs.beats.ends.Goals as goal

pub returns-then-not-is_dock : goal.returns-then-not-is_dock
unfolding test_of dock_test cell_at
returns-then-not-is_dock c = sym (demand_refuses 6 _ (code_fails c.is_dock.ensures c.if-not-is_dock.true-raw))

pub returns : goal.returns
unfolding test_of dock_test cell_at
returns c = sym (demand_passes 6 _ (code_holds c.is_dock.ensures c.if-not-is_dock.false-raw))
