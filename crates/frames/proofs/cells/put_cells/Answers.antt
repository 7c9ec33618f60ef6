-- `frames::cells::put_cells` meets its contract: the marks of the cells passed stand in front.
use Rattle.reporting.proofs.LinesLaws.{lines_start, lines_low, lines_keep, lines_more, lines_end}
use Prim.Native.Nat.{ℕ}
use Rattle.maps.specs.Text.{marks_text}
use Rattle.maps.proofs.LinesLaws.{byte_put}
use native.Mathlib.Omega.{arith}
use borrow.Author.Rules.{rules}
use Rattle.frames.proofs.cells.put_cells.Goals as goal

pub loop-c-init : goal.loop-c-init
loop-c-init c =
    (search rules, lines_start _ 1 (λ (d : ℕ). omega arith) _ _)

pub put_bytes-at-requires : goal.put_bytes-at-requires
put_bytes-at-requires c =
    let e = c.loop-c.invariant.1 in
    let long = lines_keep _ 1 (λ (d : ℕ). omega arith) _ _ _ _ _ e (omega (arith, c.requires.1, c.loop-c-test.true)) in
    (omega (arith, long, c.requires.1, c.loop-c-test.true, lines_low _ 1 (λ (d : ℕ). omega arith) _ _ _ _ _ e))

pub loop-c-preserved : goal.loop-c-preserved
loop-c-preserved c = (
  omega (arith, c.loop-c-test.true),
  lines_more _ 1 (λ (d : ℕ). omega arith) _ _ _ _ _ c.loop-c.invariant.1 _ _
      (byte_put c.frame_mark.ensures c.put_bytes-at.ensures)
      (omega (arith, c.requires.1, c.loop-c-test.true)),
)

pub shape_of-out : goal.shape_of-out
shape_of-out c =
    lines_keep _ 1 (λ (d : ℕ). omega arith) _ _ _ _ _ c.loop-c.invariant.1 (omega (arith, c.requires.1, c.loop-c.invariant.0))

pub returns : goal.returns
unfolding marks_text
returns c =
    lines_end _ 1 (λ (d : ℕ). omega arith) _ _ _ _ _ c.loop-c.invariant.1 _ c.loop-c.invariant.0 c.loop-c-test.false
