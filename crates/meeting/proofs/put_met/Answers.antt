-- `meeting::put_met` meets its contract: the line, and behind it the drawing in the rest of the memory.
use mathlib.Core.Path.{◌≡◌, refl}
use Rattle.laws.specs.Verdict.{passed}
use Rattle.floor.specs.Checks.{check_of}
use lib.ListN.{length-take, length-drop}
use Rattle.route.specs.ConflictTest.{conflict_told}
use Rattle.reporting.proofs.TextLaws.{both_put}
use Rattle.meeting.proofs.MeetingLaws.{short, found_early, line_ends, conflict_short, met_drawing_short, met_put}
use native.Mathlib.Omega.{arith}
use borrow.Author.Rules.{rules}
use Rattle.meeting.proofs.put_met.Goals as goal

pub put_conflict-n-requires : goal.put_conflict-n-requires
put_conflict-n-requires c =
    (found_early _ _ _ _ c.first_conflict-found.ensures, omega (arith, c.requires))

pub slice_bounds-put_drawing-count : goal.slice_bounds-put_drawing-count
slice_bounds-put_drawing-count c =
    omega (arith, line_ends _ _ _ _ c.put_conflict-n.ensures, c.requires)

pub slice_bounds-put_drawing-start : goal.slice_bounds-put_drawing-start
slice_bounds-put_drawing-start c =
    omega (arith, line_ends _ _ _ _ c.put_conflict-n.ensures, c.requires)

pub put_drawing-requires : goal.put_drawing-requires
put_drawing-requires c =
    let n = line_ends _ _ _ _ c.put_conflict-n.ensures in record {
      early = (found_early _ _ _ _ c.first_conflict-found.ensures, simp (length-take, length-drop) (omega (arith, c.requires)));
    }

pub overflow_add-result : goal.overflow_add-result
overflow_add-result c =
    let n = line_ends _ _ _ _ c.put_conflict-n.ensures in
    let k = c.put_drawing.ensures.size in
    let a : check_of c.args.pair.now.floor c.args.pair.now.walls.now ≡ passed = search rules in
    let low = met_drawing_short _ _ a c.args.pair.now.i c.args.pair.now.j c.args.pair.now.r c.args.pair.now.q
    (conflict_told c.first_conflict-found.result) in
    search rules

pub returns : goal.returns
returns c =
    let p = c.put_conflict-n.ensures in
    let x = conflict_told c.first_conflict-found.result in
    let a : check_of c.args.pair.now.floor c.args.pair.now.walls.now ≡ passed = search rules in
    let low = met_drawing_short _ _ a c.args.pair.now.i c.args.pair.now.j c.args.pair.now.r c.args.pair.now.q x in
    met_put _ _ _ _ _ _ _ _ _ _ (short _ _ a) c.first_conflict-found.ensures
    (both_put _ _ _ _ _ _ _ _ p c.put_drawing.ensures refl
    (omega (arith, conflict_short x, low, c.requires)))
