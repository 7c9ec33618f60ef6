-- `map_reader::build::Cells::is_thing` meets its contract: by the places of the mark.
use Prim.Native.Nat.{ℕ, ◌<◌}
use native.Mathlib.Omega.{arith}
use mathlib.Core.Bool.{Bool}
use mathlib.Core.Path.{◌≡◌}
use borrow.Author.Tests.{ne_eqb}
use lib.Dec.{eqb}
use Rattle.std.specs.Prelude.{Option, Some, None}
use Rattle.std.specs.Option.{option_eq}
use Rattle.map_reader.specs.Marks.{or_none, is_thing}
use Rattle.map_reader.proofs.build.Cells.is_thing.Goals as goal

-- A place that is compared, in the words of the marks.
compared : (o : Option ℕ) (thing n : ℕ) (x : Bool) → thing < 16 → or_none 16 o ≡ n → x ≡ option_eq eqb o (Some thing) → eqb n thing ≡ x
compared (Some k) thing n x l e h = rw (← e, h)
compared None thing n x l e h = rw (← e, h) (ne_eqb 16 thing (λ (z : 16 ≡ thing). omega arith))

pub returns-then-eq : goal.returns-then-eq
unfolding is_thing
returns-then-eq c =
    rw (compared _ _ _ _ c.requires.1 c.thing_of.ensures.stands c.if-eq.ensures)

pub returns-in-Some : goal.returns-in-Some
unfolding is_thing
returns-in-Some c =
    rw (
      compared _ _ _ _ c.requires.1 c.thing_of.ensures.stands c.if-eq.ensures,
      ← c.in-Some.ensures.stands,
      ne_eqb c.in-Some.letter 26 (λ (z : c.in-Some.letter ≡ 26). omega (arith, c.in-Some.ensures.low)),
    )

pub returns-in-None : goal.returns-in-None
unfolding is_thing
returns-in-None c =
    rw (compared _ _ _ _ c.requires.1 c.thing_of.ensures.stands c.if-eq.ensures, ← c.in-None.ensures.stands)
