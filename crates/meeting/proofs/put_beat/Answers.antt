-- `meeting::put_beat` meets its contract: the drawing of an accepted floor has at most 1,056 bytes.
use mathlib.Core.Path.{◌≡◌}
use borrow.Author.Rules.{rules}
use Rattle.laws.specs.Verdict.{passed}
use Rattle.floor.specs.Checks.{check_of}
use Rattle.meeting.specs.Text.{pair_verdict}
use Rattle.route.specs.Route.{cell_at}
use Rattle.drawing.proofs.DrawnLaws.{drawn_low}
use Rattle.meeting.proofs.MeetingLaws.{drawn_put, first_digit_lem, second_digit}
use native.Mathlib.Omega.{arith}
use Rattle.meeting.proofs.put_beat.Goals as goal

pub two_places-places-requires : goal.two_places-places-requires
two_places-places-requires c =
    let a : check_of c.args.pair.now.floor c.args.pair.now.walls.now ≡ passed = search rules in
    let b : pair_verdict c.args.pair.now.floor c.args.pair.now.i c.args.pair.now.j ≡ passed = search rules in
    let x = first_digit_lem _ _ a _ _ b in
    let y = second_digit _ _ a _ _ b in
    (x.0, x.1, y.0, y.1)

pub put_floor-requires : goal.put_floor-requires
put_floor-requires c =
    let a : check_of c.args.pair.now.floor c.args.pair.now.walls.now ≡ passed = search rules in
    let d = drawn_low _ _ a in
    (d.0, d.1, d.2, omega (arith, d.3, c.requires.1))

pub returns : goal.returns
unfolding cell_at
returns c =
    let e = rw c.two_places-places.ensures at c.put_floor.ensures in
    drawn_put _ _ _ _ _ _ e.puts e.size
