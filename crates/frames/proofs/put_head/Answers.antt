-- `frames::put_head` meets its contract: the map, an empty line and the lines of the carriers.
use borrow.Author.Rules.{rules}
use Rattle.frames.specs.Inner.{Drawable}
use Rattle.floor.proofs.LimitsLaws.{check_tells}
use Rattle.maps.proofs.MapLaws.{map_short}
use Rattle.frames.proofs.FrameLaws.{head_put}
use native.Mathlib.Omega.{arith}
use Rattle.frames.proofs.put_head.Goals as goal

pub put_map-n1-requires : goal.put_map-n1-requires
put_map-n1-requires c =
    let d : Drawable c.args.scene.now.floor c.args.scene.now.walls.now c.args.scene.now.own.now = search rules in
    (d.checked, omega (arith, c.requires))

pub put_bytes-n2-requires : goal.put_bytes-n2-requires
put_bytes-n2-requires c =
    let d : Drawable c.args.scene.now.floor c.args.scene.now.walls.now c.args.scene.now.own.now = search rules in
    let p = c.put_map-n1 in
    omega (arith, c.requires, map_short _ _ d.checked, p.ensures.behind, p.auto)

pub put_arrivals-requires : goal.put_arrivals-requires
put_arrivals-requires c =
    let d : Drawable c.args.scene.now.floor c.args.scene.now.walls.now c.args.scene.now.own.now = search rules in
    let p = c.put_map-n1 in
    let q = c.put_bytes-n2 in
    let b = (check_tells _ _ d.checked).bounds in (
      d.long,
      b.carriers.1,
      b.horizon.1,
      omega (arith, c.requires, map_short _ _ d.checked, p.ensures.behind, p.auto, q.ensures.behind, q.auto),
    )

pub returns : goal.returns
returns c =
    let d : Drawable c.args.scene.now.floor c.args.scene.now.walls.now c.args.scene.now.own.now = search rules in
    head_put _ _ d.checked _ _ _ _ _ _ _ _ c.put_map-n1.ensures c.put_bytes-n2.ensures c.put_arrivals.ensures
    c.requires
