-- `sheet::lines::dock_count` meets its contract: the place of the record, or none.
use mathlib.Core.Path.{◌≡◌, sym}
use native.Mathlib.Omega.{arith}
use borrow.Author.Rules.{rules}
use borrow.Author.Tests.{ltb-false}
use mir.Syntax.{w16}
use mir.Val.{Fits}
use lib.ListN.{get_or, get_or-eq_default}
use Rattle.floor.specs.Checks.{count_of}
use Rattle.sheet.proofs.lines.dock_count.Goals as goal

pub returns-in-Some : goal.returns-in-Some
unfolding count_of
returns-in-Some c =
    let b : Fits w16 (get_or c.args.f.counts c.args.i 0) = search rules in
    let at : c.in-Some.count.now ≡ get_or c.args.f.counts c.args.i 0 = search (rules, c.in-Some.ensures.lookup) in
    (at, omega (arith, b.fits, at))

pub returns-in-None : goal.returns-in-None
unfolding count_of
returns-in-None c =
    (sym (get_or-eq_default c.args.f.counts 0 (ltb-false _ _ (sym c.in-None.ensures.lookup.0))), omega arith)
