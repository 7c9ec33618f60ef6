-- `sheet::lines::put_walls` meets its contract: invariant: the lines passed stand one behind the other.
use Rattle.sheet.specs.Text.{sheet_length, wall_at}
use Rattle.sheet.proofs.LineLaws.{lines, even_next, even_keep, wall_length}
use lib.Seq.{length-take-le, get_or-take}
use mathlib.Core.Path.{refl}
use Prim.Native.Nat.{ℕ}
use native.Mathlib.Omega.{arith}
use Rattle.sheet.proofs.lines.put_walls.Goals as goal

pub loop-j-init : goal.loop-j-init
loop-j-init c = search lines

pub put_wall-requires : goal.put_wall-requires
unfolding sheet_length wall_at
put_wall-requires c =
    let base = c.walls_at-base.ensures.0 in
    let few = length-take-le c.args.f.walls c.args.walls.now c.requires.walls_in_bounds.0 in
    let l = c.loop-j-test.true in
    let size = even_keep _ 11 _ (λ (p : ℕ). wall_length _ _) _ _ c.loop-j.j (omega (arith, c.requires, base, l, few))
    c.loop-j.invariant in record {
      width_nonzero = c.requires.walls_in_bounds.1;
      at_in_bounds = omega (arith, c.requires, base, l, size, few);
    }

pub loop-j-preserved : goal.loop-j-preserved
unfolding sheet_length wall_at
loop-j-preserved c =
    let base = c.walls_at-base.ensures.0 in
    let few = length-take-le c.args.f.walls c.args.walls.now c.requires.walls_in_bounds.0 in
    let l = c.loop-j-test.true in
    let wall = get_or-take c.args.f.walls c.args.walls.now c.loop-j.j 0 (omega (arith, l, few)) in
    even_next _ 11 _ (λ (p : ℕ). wall_length _ _) _ _ _ _ _ c.loop-j.invariant (rw wall at c.put_wall.ensures) refl
    (omega (arith, c.requires, base, l, few))
