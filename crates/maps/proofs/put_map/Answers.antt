-- `maps::put_map` meets its contract: line 1, the rows and the lines of the letters, one behind the other.
use Rattle.floor.proofs.LimitsLaws.{check_tells}
use Rattle.maps.proofs.MapLaws.{markable, cells_low, head_short, rows_short, map_put}
use native.Mathlib.Omega.{arith}
use Rattle.maps.proofs.put_map.Goals as goal

pub put_head-n1-requires : goal.put_head-n1-requires
put_head-n1-requires c =
    let b = (check_tells _ _ c.requires.0).bounds in
    (omega (arith, b.horizon.1), omega (arith, b.depth.1), omega (arith, c.requires.1))

pub put_rows-n2-requires : goal.put_rows-n2-requires
put_rows-n2-requires c =
    let p = c.put_head-n1 in
    (c.requires.0, omega (arith, c.requires.1, head_short c.args.f, p.ensures.behind))

pub overflow_mul-f : goal.overflow_mul-f
overflow_mul-f c =
    omega (arith, cells_low _ _ c.requires.0)

pub put_letters-requires : goal.put_letters-requires
put_letters-requires c =
    let ok = c.requires.0 in
    let p = c.put_head-n1 in
    let q = c.put_rows-n2 in (
      markable _ _ ok,
      cells_low _ _ ok,
      omega (
        arith,
        c.requires.1,
        head_short c.args.f,
        rows_short _ _ ok,
        p.ensures.behind,
        q.ensures.behind,
      ),
    )

pub returns : goal.returns
returns c =
    map_put _ _ c.requires.0 _ _ _ _ _ _ _ _ c.put_head-n1.ensures c.put_rows-n2.ensures
    c.put_letters.ensures c.requires.1
