-- The measures of the cycle of calls {beside, follow}. With three carriers there are six places at most. Where `follow` goes down, a step
-- fewer is left and all six places are before it again; where `beside` goes on, a place fewer is before it. So the measure is 8 for each
-- step left, and one for each place before `beside`.
use Prim.Native.Nat.{◌+◌, ◌*◌, ◌-◌}
use Rattle.lister.proofs.walk.+beside_follow.Given as goal

abbrev pub decreases-beside : goal.decreases-beside
decreases-beside l = 8 * l.left + (6 - l.p)

abbrev pub decreases-follow : goal.decreases-follow
decreases-follow l = 8 * l.left
