-- Laws of calls in a row.
use Rattle.std.proofs.Common.{◌≡◌}
use Rattle.std.specs.Prelude.{ℕ, Result, Err}
use Rattle.console.specs.declared.Stop.{Stop}
use Rattle.console.specs.declared.Stop.TheVariants.{NotYet}
use Rattle.console.specs.Turned.{Turned}
use Rattle.console.specs.Turned.Turned.{none, more}

-- One more call that moved nothing yet.
pub turned_more : {F : Type 0} {step : F → Result ℕ Stop → F → Type 0} {f g h : F} {r : Result ℕ Stop} {s : Stop}
    → Turned step f (Err NotYet) g → step g r h → r ≡ Err s → s ≡ NotYet → Turned step f (Err NotYet) h
turned_more {step} {g} {h} t call e e' = more t (rw (e, e') at call)

-- What one call does, calls in a row do, where it is so of no call, and behind calls that moved nothing.
pub turned_does : {F : Type 0} {step : F → Result ℕ Stop → F → Type 0} {f h : F} {r : Result ℕ Stop} (P : F → Result ℕ Stop → F → Type 0)
    → Turned step f r h → ((f : F) → P f (Err NotYet) f) → ((f g h : F) (r : Result ℕ Stop) → P f (Err NotYet) g → step g r h → P f r h) → P f r h
turned_does P none zero next = zero _
turned_does P (more before call) zero next = next _ _ _ _ (turned_does P before zero next) call
