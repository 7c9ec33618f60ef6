-- `records::seen::store_seen` meets its contract: none as the route that stays at the start, any other record as it stands.
use Rattle.records.proofs.SeenLaws.{stored_parked, stored_plain}
use Rattle.floor.specs.Checks.{start_of}
use native.Mathlib.Omega.{arith}
use Rattle.records.proofs.seen.store_seen.Goals as goal

pub returns-then-tag-eq1 : goal.returns-then-tag-eq1
unfolding start_of
returns-then-tag-eq1 c =
    stored_parked _ _ _ _ _ _ c.if-tag-eq1.true c.parked.ensures c.store.ensures

pub returns : goal.returns
returns c =
    stored_plain _ _ _ _ _ _ c.if-tag-eq1.false (omega (arith, c.requires)) c.load.ensures c.store-2.ensures
