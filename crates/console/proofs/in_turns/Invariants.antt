-- Each call so far answered that nothing was moved yet.
use Rattle.std.specs.Prelude.{Err}
use Rattle.console.specs.declared.Stop.TheVariants.{NotYet}
use Rattle.console.specs.Turned.{Turned}
use Rattle.console.proofs.in_turns.Given as goal

abbrev pub invariant-loop : goal.invariant-loop
invariant-loop g l = goal.F-IsAlwaysCallable g l.call × Turned (λ f r h. goal.F-step g f r h) l.initial.call (Err NotYet) l.call
