-- `blockers::leave::set_of` meets its contract: the digits of the records passed, from the last one on.
use Prim.Native.Nat.{◌<◌}
use native.Mathlib.Omega.{arith}
use Rattle.blockers.proofs.RecordLaws.{digit_start, digit_again, digit_end, digit_small}
use borrow.Author.Rules.{rules}
use Rattle.blockers.proofs.leave.set_of.Goals as goal
use Rattle.blockers.proofs.leave.set_of.Goals.{At-loop-j}

-- The digits counted are below 256.
small : (at-loop : At-loop-j) → at-loop.loop-j.set < 256
small at-loop =
    digit_small at-loop.args.views.now at-loop.args.k at-loop.loop-j.j at-loop.loop-j.set at-loop.loop-j.invariant.1 at-loop.requires.0

pub loop-j-init : goal.loop-j-init
loop-j-init c =
    (search rules, digit_start c.args.views.now c.args.k)

pub overflow_mul-set : goal.overflow_mul-set
overflow_mul-set c = omega (arith, small (goal.at.overflow_mul-set c).At-loop-j)

pub overflow_add-set : goal.overflow_add-set
overflow_add-set c = omega (arith, small (goal.at.overflow_add-set c).At-loop-j, c.heard_digit.ensures.1)

pub loop-j-preserved : goal.loop-j-preserved
loop-j-preserved c =
    let digit = c.heard_digit.ensures.0 in (
      omega (arith, c.loop-j.invariant.0),
      digit_again c.args.views.now c.args.k c.loop-j.j c.loop-j.set c.loop-j.invariant.1
          c.loop-j-test.true c.loop-j.invariant.0 _ digit,
    )

pub returns : goal.returns
returns c =
    digit_end c.args.views.now c.args.k c.loop-j.j c.loop-j.set c.loop-j.invariant.1
    c.loop-j-test.false
