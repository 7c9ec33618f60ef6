-- `blockers::leave::heard_digit` meets its contract: one return a case.
use native.Mathlib.Omega.{arith}
use mathlib.Core.Logic.{⊎_elim}
use mathlib.Core.Path.{◌≡◌}
use borrow.Author.Tests.{eq-eqb, ne_eqb}
use Rattle.blockers.specs.Inner.{heard_digit}
use Rattle.blockers.proofs.leave.heard_digit.Goals as goal

pub returns-then-tag-eq2 : goal.returns-then-tag-eq2
unfolding heard_digit
returns-then-tag-eq2 c = (
  ⊎_elim (λ (e : c.args.tag ≡ 1). rw (eq-eqb _ _ e)) (λ (e : (c.args.tag ≡ 1 → ⊥) × (c.args.tag ≡ 2)). rw (ne_eqb _ _ e.0, eq-eqb _ _ e.1))
      c.if-tag-eq2.either,
  omega arith,
)

pub returns-else-tag-eq2 : goal.returns-else-tag-eq2
unfolding heard_digit
returns-else-tag-eq2 c = (rw (ne_eqb _ _ c.if-tag-eq2.false.0, ne_eqb _ _ c.if-tag-eq2.false.1), omega arith)
