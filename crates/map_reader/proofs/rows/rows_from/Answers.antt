-- `map_reader::rows::rows_from` meets its contract: the rows passed stand in front.
use Prim.Native.Nat.{◌<◌}
use Rattle.map_reader.proofs.WithinLaws.{rows_start, rows_keeps, rows_more, next_within}
use native.Mathlib.Omega.{arith}
use borrow.Author.Rules.{rules}
use Rattle.map_reader.proofs.rows.rows_from.Goals as goal

pub loop-at-init : goal.loop-at-init
loop-at-init c =
    (search rules, search rules, c.requires.2, omega arith, rows_start _ _ _ _ c.requires.1)

pub read_row-requires : goal.read_row-requires
read_row-requires c =
    let l = c.loop-at.invariant in
    let long = rows_keeps _ _ _ _ c.requires.1 _ _ _ l.4 l.0 c.requires.3 in
    let less : c.loop-at.height < 32 = omega (arith, l.0, c.if-height-eq32.false) in
    (c.requires.1, omega (arith, l.1, long, c.requires.3))

pub loop-at-smaller : goal.loop-at-smaller
loop-at-smaller c = let n = next_within c.in_ok-at.ensures in omega (arith, n.0, n.1)

pub loop-at-preserved : goal.loop-at-preserved
loop-at-preserved c =
    let l = c.loop-at.invariant in
    let less : c.loop-at.height < 32 = omega (arith, l.0, c.if-height-eq32.false) in
    let m = rows_more _ _ _ _ c.requires.1 _ _ _ _ _ _ l.4 l.3 less c.requires.3 c.in_ok-at.ensures in
    (omega arith, omega (arith, l.1, c.requires.1), (next_within c.in_ok-at.ensures).1, m.1, m.0)
