-- `meeting::put_line` meets its contract: words, digits and words, one behind the other.
use Rattle.reporting.proofs.WordsLaws.{short_within}
use Rattle.meeting.proofs.MeetingLaws.{line_put}
use native.Mathlib.Omega.{arith}
use Rattle.meeting.proofs.put_line.Goals as goal

pub put_short_decimal-behind-requires : goal.put_short_decimal-behind-requires
put_short_decimal-behind-requires c =
    (c.requires.0, omega (arith, c.requires.1, c.put_bytes-at.ensures.behind, c.put_bytes-at.auto))

pub put_bytes-requires : goal.put_bytes-requires
put_bytes-requires c =
    let d = short_within c.args.n in
    omega (
      arith,
      c.requires.1,
      c.put_bytes-at.ensures.behind,
      c.put_bytes-at.auto,
      c.put_short_decimal-behind.ensures.behind,
      c.put_short_decimal-behind.auto,
    )

pub returns : goal.returns
returns c =
    line_put _ _ _ _ _ _ _ _ _ _ c.put_bytes-at.ensures c.put_short_decimal-behind.ensures
    c.put_bytes.ensures c.requires.1
