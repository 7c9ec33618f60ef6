-- Calls in a row of which all but the last answer that nothing was moved yet.
use Rattle.std.specs.Prelude.{ℕ, Result, Err}
use Rattle.console.specs.declared.Stop.{Stop}
use Rattle.console.specs.declared.Stop.TheVariants.{NotYet}

-- What calls lead to, by what one call does.
pub data Turned {F : Type 0} (step : F → Result ℕ Stop → F → Type 0) (f : F) : Result ℕ Stop → F → Type 0 where
  none : Turned step f (Err NotYet) f
  more : {g h : F} {r : Result ℕ Stop} → Turned step f (Err NotYet) g → step g r h → Turned step f r h
