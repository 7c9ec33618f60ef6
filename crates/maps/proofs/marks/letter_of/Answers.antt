-- `maps::marks::letter_of` meets its contract: the cells passed that are more than one thing are counted.
use mathlib.Core.Path.{sym, ◌∙◌}
use Rattle.maps.proofs.MarkLaws.{shared_start, shared_there, shared_away, letter_end}
use native.Mathlib.Omega.{arith}
use borrow.Author.Rules.{rules}
use Rattle.maps.proofs.marks.letter_of.Goals as goal
use Rattle.maps.proofs.marks.letter_of.Goals.{then-is_shared, else-is_shared}

pub loop-d-init : goal.loop-d-init
loop-d-init c = (search rules, search rules, shared_start _)

pub loop-d-preserved : goal.loop-d-preserved
loop-d-preserved c =
    let l = c.loop-d.invariant in
    let e = c.is_shared.ensures in
    let less = c.loop-d-test.true in
    elim c.if-is_shared.branch [
      | then-is_shared w ↦ (omega arith, omega (arith, w.shared-is, l.1), w.shared-is ∙ shared_there _ _ _ l.2 (sym e ∙ w.if-is_shared.true))
      | else-is_shared w ↦ (omega arith, omega (arith, w.shared-is, l.1), w.shared-is ∙ shared_away _ _ _ l.2 (sym e ∙ w.if-is_shared.false))
    ]

pub returns : goal.returns
returns c =
    let l = c.loop-d.invariant in
    letter_end _ _ _ _ l.2 l.0 c.loop-d-test.false
