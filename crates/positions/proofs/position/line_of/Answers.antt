-- `positions::position::line_of` meets its contract: by the number of the refusal.
use borrow.Author.Tests.{ne_eqb}
use mathlib.Core.Path.{◌≡◌, refl}
use native.Mathlib.Omega.{arith}
use Rattle.positions.specs.Position.{line_of_refusal}
use Rattle.positions.proofs.position.line_of.Goals as goal

pub returns-in-1 : goal.returns-in-1
unfolding line_of_refusal
returns-in-1 c =
    let told = c.position_at.ensures in
    (rw c.in-1.is told.line, omega (arith, told.low_line, c.requires))

pub returns-in-2 : goal.returns-in-2
unfolding line_of_refusal
returns-in-2 c = (rw c.in-2.is refl, omega arith)

pub returns-in_default : goal.returns-in_default
unfolding line_of_refusal
returns-in_default c =
    let n = c.args.number in
    let e1 : n ≡ 1 → ⊥ = λ e. omega arith in
    let e2 : n ≡ 2 → ⊥ = λ e. omega arith in
    (rw (ne_eqb n 1 e1, ne_eqb n 2 e2) refl, omega (arith, c.requires))
