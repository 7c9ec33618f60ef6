-- `traces::carriers::put_all` meets its contract: a call of `put` leaves the text in its memory.
use Rattle.traces.proofs.carriers.put_all.Goals as goal

pub loop-place-preserved : goal.loop-place-preserved
loop-place-preserved g c =
    ((λ h. search (h _ _ _ c.put.ensures, c.loop-place.invariant.0 h)), (λ h. search (h _ _ _ c.put.ensures, c.loop-place.invariant.1 h)))
