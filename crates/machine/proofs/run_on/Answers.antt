-- `machine::run_on` meets its contract: the loop, whose tally decides the end.
use Rattle.steps.proofs.PlacedLaws.{placed_sized, placed_grid}
use Rattle.machine.proofs.VerdictLaws.{state_tells, names_are}
use Rattle.machine.proofs.EntryLaws.{run_taken}
use Rattle.laws.specs.Verdict.{value}
use Rattle.reference.specs.Ending.{RunEnding}
use Rattle.reference.specs.Calls.{ran}
use mathlib.Core.Path.{sym, ◌∙◌, ap}
use native.Mathlib.Omega.{arith}
use Rattle.machine.proofs.run_on.Goals as goal

pub free_rows-free-requires : goal.free_rows-free-requires
free_rows-free-requires c =
    let both = placed_grid (state_tells _ _ _ c.requires.state_value) in
    record { le_width = both.0; walls_in_bounds = both.1 }

pub run_all-tally-requires : goal.run_all-tally-requires
run_all-tally-requires c =
    record { placed = state_tells _ _ _ c.requires.state_value; free = c.free_rows-free.ensures }

pub invariant_of-now : goal.invariant_of-now
invariant_of-now c =
    let sized = placed_sized (state_tells _ _ _ c.requires.state_value) in
    record { few = sized.0; whole = omega (arith, c.run_all-tally.auto.m, sized.1) }

pub returns : goal.returns
returns c =
    let made = run_taken _ _ _ c.requires.state_value _ _ _ _ _ (sym c.requires.named_value ∙ names_are _ _ _) c.run_all-tally.ensures in record {
      answers = ap (λ (x : RunEnding). value (ran c.run_all-tally.result.taken x)) c.how_ended.ensures ∙ made.0;
      stores = made.1;
      within = c.run_all-tally.ensures.within;
    }
