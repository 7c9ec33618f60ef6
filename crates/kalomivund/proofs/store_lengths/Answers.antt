-- `kalomivund::store_lengths` meets its contract: 9, or the figures in front.
use mathlib.Core.Path.{refl}
use borrow.Author.Tests.{lt-leb, le-leb}
use Rattle.laws.specs.Verdict.{demand, ◌gives◌, when_passed}
use Rattle.floor.specs.Checks.{long_enough}
use Rattle.laws.specs.Memory.{put}
use Rattle.abi.specs.Word.{of_number, map_outcome}
use Rattle.kalomivund.specs.Answers.{figure_list}
use Rattle.kalomivund.proofs.store_lengths.Goals as goal

pub returns-then-out-lt9 : goal.returns-then-out-lt9
unfolding long_enough demand ◌gives◌ when_passed of_number map_outcome
returns-then-out-lt9 c = rw (lt-leb 9 _ c.if-out-lt9.true) (record {
  says = c.too_short.ensures;
  stores = refl;
})

pub returns : goal.returns
unfolding long_enough demand ◌gives◌ when_passed of_number map_outcome figure_list put
returns c =
    rw (le-leb 9 _ c.if-out-lt9.false) (record {
      says = c.done.ensures;
      stores = c.copy.ensures;
    })
