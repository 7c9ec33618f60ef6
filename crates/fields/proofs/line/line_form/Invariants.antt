use mathlib.Core.Path.{◌≡◌}
use Prim.Native.Nat.{ℕ, ◌+◌, ◌*◌}
use Rattle.laws.specs.Verdict.{passed, in_turn}
use Rattle.fields.specs.Form.{field_form}
use Rattle.fields.proofs.line.line_form.Given as goal

abbrev pub invariant-loop-i : goal.invariant-loop-i
invariant-loop-i l = in_turn (λ (p : ℕ). field_form l.text (l.at + 5 * p)) l.i ≡ passed
