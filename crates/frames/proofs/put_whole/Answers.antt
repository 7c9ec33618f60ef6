-- `frames::put_whole` meets its contract: the head, and behind it the beats, for the plan.
use Rattle.frames.proofs.FrameLaws.{head_short, draw_put, whole_text}
use Rattle.records.specs.Records.{answer_in}
use native.Mathlib.Omega.{arith}
use Rattle.frames.proofs.put_whole.Goals as goal

pub invariant_of-scene : goal.invariant_of-scene
invariant_of-scene c = record { drawable = record { checked = c.requires.0; long = c.plan_own-own.ensures.long } }

pub put_head-n1-requires : goal.put_head-n1-requires
put_head-n1-requires c =
    omega (arith, c.requires.1)

pub put_beats-requires : goal.put_beats-requires
put_beats-requires c =
    let p = c.put_head-n1 in
    omega (arith, c.requires.1, head_short _ _ c.requires.0 (answer_in c.plan_own-own.result), p.ensures.behind, p.auto)

pub returns : goal.returns
returns c =
    whole_text _ _ c.requires.0 _ _ _ _ c.plan_own-own.ensures
    (draw_put _ _ c.requires.0 _ _ _ _ _ _ c.put_head-n1.ensures c.put_beats.ensures c.requires.1)
