-- `layers::step::propagate` meets its contract. The loop's invariant: the stripes are the set of the beat at hand, and that
-- number of steps is done. Assumes nothing.
use Prim.Native.Nat.{◌<◌}
use native.Mathlib.Omega.{arith}
use mathlib.Core.Path.{◌≡◌, sym, ◌∙◌}
use Rattle.layers.proofs.SweptLaws.{within_low, beat_first, beat_next, beat_low, beat_some, stripes_same, swept_none}
use Rattle.layers.proofs.SweptLaws.{swept_step}
use Rattle.layers.proofs.step.propagate.Goals as goal
use Rattle.layers.proofs.step.propagate.Goals.{After-next_beat-t}

-- The beat that a step goes to is in the table.
low : (place : After-next_beat-t) → place.next_beat-t.result < 64
low place =
    let v = place.loop.invariant in
    rw (place.next_beat-t.ensures, v.0, beat_next place.args.back place.args.from place.loop.counter)
    (beat_low _ _ _ _ place.requires.3 (omega (arith, place.loop-test.true)))

pub overflow_mul-from : goal.overflow_mul-from
overflow_mul-from c =
    omega (arith, within_low _ _ _ c.requires.3)

pub load-x-requires : goal.load-x-requires
load-x-requires c =
    omega (arith, within_low _ _ _ c.requires.3, c.requires.0)

pub loop-init : goal.loop-init
loop-init c = (
  beat_first _ _,
  c.requires.0,
  c.load-x.ensures,
  λ g grid tidy ground. swept_none g _ _ _ _ tidy,
)

pub next_beat-t-requires : goal.next_beat-t-requires
next_beat-t-requires c =
    let v = c.loop.invariant in
    let l = c.loop-test.true in
    (rw v.0 (beat_low _ _ _ _ c.requires.3 (omega arith)), λ e. rw v.0 (beat_some _ _ _ _ c.requires.3 l e))

pub overflow_mul-t : goal.overflow_mul-t
overflow_mul-t c =
    omega (arith, low (goal.at.overflow_mul-t c).After-next_beat-t)

pub load-requires : goal.load-requires
load-requires c =
    omega (arith, low (goal.at.load-requires c).After-next_beat-t, c.requires.1)

pub advance-next-requires : goal.advance-next-requires
advance-next-requires c =
    c.requires.2

pub overflow_mul-t-in-loop : goal.overflow_mul-t-in-loop
overflow_mul-t-in-loop c =
    omega (arith, low (goal.at.overflow_mul-t-in-loop c).After-next_beat-t)

pub save-requires : goal.save-requires
save-requires c =
    omega (arith, low (goal.at.save-requires c).After-next_beat-t, c.loop.invariant.1)

pub loop-preserved : goal.loop-preserved
loop-preserved c =
    let v = c.loop.invariant in
    let carried = c.advance-next.ensures _ _ v.2 c.load.ensures in
    let new = c.save.ensures _ carried in (
      c.next_beat-t.ensures ∙ rw v.0 (beat_next _ _ _),
      new.long ∙ v.1,
      carried ∙ stripes_same _ _ (λ j l. sym (new.inside j l)),
      λ g grid tidy ground. swept_step g _ _ _ _ _ _ _ _ _ _ grid ground c.requires.3 c.loop-test.true v.0
          c.next_beat-t.ensures (v.3 g grid tidy ground) new,
    )

pub shape_of-sets : goal.shape_of-sets
shape_of-sets c =
    c.loop.invariant.1 ∙ sym c.requires.0

pub returns : goal.returns
returns c =
    let e : c.loop.counter ≡ c.args.n = omega arith in
    rw e at c.loop.invariant.3
