-- `maps::marks::put_dock` meets its contract: by the docks of the carrier.
use mathlib.Core.Path.{sym, ◌∙◌}
use Rattle.maps.specs.Map.{dock_mark}
use Rattle.maps.proofs.MarkLaws.{cond_there, cond_away}
use Rattle.maps.proofs.marks.put_dock.Goals as goal

pub returns-then-is_dock : goal.returns-then-is_dock
unfolding dock_mark
returns-then-is_dock c =
    cond_there _ _ _ _ _ _ (sym c.is_dock.ensures ∙ c.if-is_dock.true) c.put_bytes.ensures

pub returns : goal.returns
unfolding dock_mark
returns c =
    cond_away _ _ _ _ (sym c.is_dock.ensures ∙ c.if-is_dock.false)
