-- `positions::position::column_of` meets its contract: by the number of the refusal.
use borrow.Author.Tests.{ne_eqb}
use mathlib.Core.Logic.{inl, inr}
use mathlib.Core.Path.{◌≡◌, refl}
use native.Mathlib.Omega.{arith}
use Rattle.positions.specs.Position.{column_of_refusal}
use Rattle.positions.proofs.position.column_of.Goals as goal

pub returns-in-1 : goal.returns-in-1
unfolding column_of_refusal
returns-in-1 c =
    let told = c.position_at.ensures in
    (rw c.in-1.is told.column, omega (arith, told.low_column, c.requires.0))

pub returns-in-2 : goal.returns-in-2
unfolding column_of_refusal
returns-in-2 c =
    let told = c.field_column.ensures in
    (rw c.in-2.is told.0, told.1)

pub returns-in-4 : goal.returns-in-4
unfolding column_of_refusal
returns-in-4 c =
    elim c.in-4.is [
      | inl e ↦ (rw e refl, omega arith)
      | inr e ↦ (rw e refl, omega arith)
    ]

pub returns-in_default : goal.returns-in_default
unfolding column_of_refusal
returns-in_default c =
    let n = c.args.number in
    let e1 : n ≡ 1 → ⊥ = λ e. omega arith in
    let e2 : n ≡ 2 → ⊥ = λ e. omega arith in
    let e4 : n ≡ 4 → ⊥ = λ e. grind arith in
    let e6 : n ≡ 6 → ⊥ = λ e. grind arith in
    (rw (ne_eqb n 1 e1, ne_eqb n 2 e2, ne_eqb n 4 e4, ne_eqb n 6 e6) refl, omega (arith, c.requires.1))
