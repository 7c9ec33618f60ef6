-- `search::seek` meets its contract. The start or every dock is shut, no dock is reached, or the walk is the best route: one law a case.
-- Assumes nothing.
use mathlib.Core.Path.{sym, ap, ◌∙◌}
use borrow.Author.Tests.{not-true, not-false}
use native.Mathlib.Omega.{arith}
use Rattle.passes.specs.Docks.{held_docks}
use Rattle.route.specs.Route.{route}
use Rattle.passes.proofs.EndsLaws.{holdable}
use Rattle.search.proofs.SeekLaws.{start_shut, docks_shut, never, walk_best}
use native.Mathlib.Omega.{arith}
use Rattle.search.proofs.seek.Goals as goal

pub returns-then-not-member : goal.returns-then-not-member
returns-then-not-member c =
    let p = c.requires in
    let e = sym c.member.ensures ∙ not-true _ c.if-not-member.true-raw in record {
      tidy = p.tidy_2.0;
      best = λ free vs h. sym (start_shut _ _ _ _ _ free vs h p.grid.1 p.grid.0.thin p.grid.3.few e);
    }

pub arrives-requires : goal.arrives-requires
unfolding held_docks
arrives-requires c =
    let p = c.requires in
    (p.grid.0, p.tidy_2.1.long, omega (arith, p.grid.1), rw c.hold_docks-ds.ensures p.grid.3)

pub returns-then-not-arrives : goal.returns-then-not-arrives
returns-then-not-arrives c =
    let p = c.requires in
    let d = c.hold_docks-ds.ensures in
    let e = sym c.arrives.ensures ∙ not-true _ c.if-not-arrives.true-raw in record {
      tidy = p.tidy_2.0;
      best = λ free vs h. sym (docks_shut _ _ _ _ _ free vs h p.grid.1 p.grid.0.thin p.grid.3.few (rw d at e));
    }

pub forward-a-requires : goal.forward-a-requires
unfolding held_docks
forward-a-requires c =
    let p = c.requires in
    let d = c.hold_docks-ds.ensures in record {
      grid = (p.grid.0, p.grid.1, p.grid.2, rw d p.grid.3);
      tidy = (p.tidy_2.0, p.tidy_2.1, rw d (holdable _ _ _ _ p.grid.3.few));
    }

pub returns-then-g-a : goal.returns-then-g-a
returns-then-g-a c =
    let p = c.requires in
    let f = c.forward-a.ensures in
    let l = c.if-g-a.true in
    let r = f.reached c.args.g.horizon (omega arith) (omega arith) in
    let e = sym c.member.ensures ∙ not-false _ c.if-not-member.false-raw in record {
      tidy = r.tidy;
      best = λ free vs h. sym
          (never _ _ _ _ _ free vs h p.grid.1 p.grid.0.thin p.grid.3.few _ _ (omega arith) r e _ (omega arith)
          (rw c.hold_docks-ds.ensures at f.found) l);
    }

pub backward-requires : goal.backward-requires
unfolding held_docks
backward-requires c =
    let p = c.requires in record {
      grid = (p.grid.0, rw c.hold_docks-ds.ensures p.grid.3, omega (arith, p.grid.1, c.if-g-a.false));
      tidy = ((c.forward-a.ensures.reached 0 (omega arith) (omega arith)).tidy, p.tidy_2.1);
    }

pub returns : goal.returns
returns c =
    let p = c.requires in
    let f = c.forward-a.ensures in
    let l = c.if-g-a.false in
    let r = f.reached c.forward-a.result (omega arith) l in
    let e = sym c.member.ensures ∙ not-false _ c.if-not-member.false-raw in
    let d = c.hold_docks-ds.ensures in
    let b = c.backward.ensures in record {
      tidy = b.tidy;
      best = λ free vs h. ap route c.walk.ensures
          ∙ sym (walk_best _ _ _ _ _ free vs h p.grid.1 p.grid.0.thin p.grid.3.few _ _ l r e _ (rw d at f.found) (rw d at b));
    }
