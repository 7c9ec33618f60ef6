-- `frames::put_beat` meets its contract: nothing above the horizon, otherwise the frame for the plan.
use Rattle.floor.proofs.LimitsLaws.{check_tells}
use Rattle.frames.proofs.FrameLaws.{beat_text_lem, beat_above}
use native.Mathlib.Omega.{arith}
use Rattle.frames.proofs.put_beat.Goals as goal

pub returns-then-f-t : goal.returns-then-f-t
returns-then-f-t c =
    beat_above _ _ _ _ c.if-f-t.true

pub invariant_of-scene : goal.invariant_of-scene
invariant_of-scene c = record { drawable = record { checked = c.requires.0; long = c.plan_own-own.ensures.long } }

pub put_frame-requires : goal.put_frame-requires
put_frame-requires c =
    let b = (check_tells _ _ c.requires.0).bounds in (
      omega (arith, b.horizon.1, c.if-f-t.false),
      omega (arith, c.requires.1),
    )

pub returns : goal.returns
returns c =
    beat_text_lem _ _ c.requires.0 _ _ _ _ _ c.plan_own-own.ensures c.if-f-t.false c.put_frame.ensures
