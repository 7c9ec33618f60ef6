-- `drawing::put_floor` meets its contract: the bytes passed stand in front of the memory.
use Rattle.drawing.proofs.DrawingLaws.{grid_low, bytes_start, bytes_keep, bytes_more, bytes_end}
use native.Mathlib.Omega.{arith}
use borrow.Author.Rules.{rules}
use Rattle.drawing.proofs.put_floor.Goals as goal

pub overflow_mul-n : goal.overflow_mul-n
overflow_mul-n c =
    omega (arith, grid_low c.args.f.width c.args.f.height c.requires.0 c.requires.1)

pub loop-k-init : goal.loop-k-init
loop-k-init c =
    (search rules, grid_low _ _ c.requires.0 c.requires.1, bytes_start _ _ _ _)

pub bounds-out-k : goal.bounds-out-k
bounds-out-k c =
    let l = c.loop-k.invariant in
    omega (arith, c.requires.3, bytes_keep _ _ _ _ _ c.loop-k.k l.2 (omega (arith, c.requires.3)))

pub loop-k-preserved : goal.loop-k-preserved
loop-k-preserved c =
    let l = c.loop-k.invariant in (
      l.0,
      l.1,
      bytes_more _ _ _ _ _ c.loop-k.k _ l.2 (omega (arith, c.requires.3)) c.byte_at.ensures,
    )

pub shape_of-out : goal.shape_of-out
shape_of-out c =
    let l = c.loop-k.invariant in
    bytes_keep _ _ _ _ _ c.loop-k.k l.2 (omega (arith, c.requires.3))

pub returns : goal.returns
returns c =
    let l = c.loop-k.invariant in record {
      puts = bytes_end _ _ _ _ _ _ _ l.2 (omega arith) c.loop-k-test.false l.0;
      size = l.0;
    }
