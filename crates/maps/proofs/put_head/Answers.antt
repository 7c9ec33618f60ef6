-- `maps::put_head` meets its contract: five texts, one behind the other.
use Rattle.reporting.proofs.WordsLaws.{short_within}
use Rattle.maps.specs.Map.{horizon_words, depth_words}
use Rattle.maps.proofs.MapLaws.{head_put}
use native.Mathlib.Omega.{arith}
use Rattle.maps.proofs.put_head.Goals as goal

pub put_bytes-n3-requires : goal.put_bytes-n3-requires
put_bytes-n3-requires c = omega (arith, short_within c.args.f.horizon, c.put_bytes-n1.ensures.behind, c.put_short_decimal-n2.ensures.behind)

pub put_short_decimal-n4-requires : goal.put_short_decimal-n4-requires
put_short_decimal-n4-requires c = (
  c.requires.1,
  omega (
    arith,
    short_within c.args.f.horizon,
    c.put_bytes-n1.ensures.behind,
    c.put_short_decimal-n2.ensures.behind,
    c.put_bytes-n3.ensures.behind,
  ),
)

pub put_bytes-requires : goal.put_bytes-requires
put_bytes-requires c =
    omega (
      arith,
      short_within c.args.f.horizon,
      short_within c.args.f.depth,
      c.put_bytes-n1.ensures.behind,
      c.put_short_decimal-n2.ensures.behind,
      c.put_bytes-n3.ensures.behind,
      c.put_short_decimal-n4.ensures.behind,
    )

pub returns : goal.returns
unfolding horizon_words depth_words
returns c =
    head_put _ _ _ _ _ _ _ _ _ _ _ _ _ c.put_bytes-n1.ensures c.put_short_decimal-n2.ensures c.put_bytes-n3.ensures
    c.put_short_decimal-n4.ensures c.put_bytes.ensures c.requires.2
