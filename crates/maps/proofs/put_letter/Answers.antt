-- `maps::put_letter` meets its contract: by whether the cell is more than one thing.
use mathlib.Core.Path.{sym, ◌∙◌}
use Rattle.maps.proofs.MarkLaws.{marks_short}
use Rattle.maps.proofs.MapLaws.{letter_put, letter_away}
use native.Mathlib.Omega.{arith}
use Rattle.maps.proofs.put_letter.Goals as goal

pub returns-then-not-is_shared : goal.returns-then-not-is_shared
returns-then-not-is_shared c = letter_away _ _ _ _ (sym c.is_shared.ensures ∙ c.if-not-is_shared.true)

pub put_marks-n2-requires : goal.put_marks-n2-requires
put_marks-n2-requires c = (c.requires.0, omega (arith, c.requires.2, c.put_bytes-n1.ensures.behind))

pub put_bytes-requires : goal.put_bytes-requires
put_bytes-requires c =
    omega (
      arith,
      marks_short c.args.f c.args.c c.requires.0.few,
      c.requires.2,
      c.put_bytes-n1.ensures.behind,
      c.put_marks-n2.ensures.behind,
    )

pub returns : goal.returns
returns c =
    letter_put _ _ _ _ _ _ _ _ _ _ c.requires.0.few (sym c.is_shared.ensures ∙ c.if-not-is_shared.false)
    (rw (← c.letter_of.ensures) c.put_bytes-n1.ensures) c.put_marks-n2.ensures c.put_bytes.ensures c.requires.2
