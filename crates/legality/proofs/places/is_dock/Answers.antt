-- `legality::places::is_dock` meets its contract: the library's search of the docks.
use Prim.Native.Nat.{ℕ}
use native.Mathlib.Omega.{arith}
use mathlib.Core.List.{List}
use mathlib.Core.Path.{◌≡◌, sym, ap, ◌∙◌}
use borrow.Author.Rules.{rules}
use lib.ListN.{length}
use lib.Seq.{length-take-le}
use Rattle.floor.proofs.AmongLaws.{among_any}
use Rattle.floor.specs.Checks.{among, count_of, is_dock}
use Rattle.legality.proofs.places.is_dock.Goals as goal
use Rattle.legality.proofs.places.is_dock.Goals.{After-docks_of-docks}

-- A carrier has four places for docks.
four : (c : After-docks_of-docks) → length c.docks_of-docks.result ≡ 4
four c = search rules

pub slice_bounds-docks-end : goal.slice_bounds-docks-end
unfolding count_of
slice_bounds-docks-end c =
    omega (arith, c.requires.i_bound_2, four (goal.at.slice_bounds-docks-end c).After-docks_of-docks)

pub slice_bounds-contains-end : goal.slice_bounds-contains-end
unfolding count_of
slice_bounds-contains-end c =
    sym (length-take-le _ _ (omega (arith, c.requires.i_bound_2, four (goal.at.slice_bounds-contains-end c).After-docks_of-docks)))

pub returns : goal.returns
unfolding is_dock count_of
returns c =
    c.contains.ensures.value
    ∙ among_any _ _ _ (omega (arith, c.requires.i_bound_2, four (goal.at.returns c).After-docks_of-docks))
    ∙ ap (λ (ds : List ℕ). among ds (count_of c.args.f c.args.i) c.args.c) c.docks_of-docks.ensures
