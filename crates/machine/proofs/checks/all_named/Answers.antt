-- `machine::checks::all_named` meets its contract: the library finds the first number that names no step.
use Rattle.machine.proofs.VerdictLaws.{Names, NamesNot, all_names, first_unnamed}
use Rattle.std.proofs.lemmas.Iterator.{IsFirst-from_position, YieldsList-from_slice}
use Rattle.std.specs.Prelude.{Some, None}
use borrow.Author.Rules.{rules}
use borrow.Author.Tests.{not-true, not-false}
use mathlib.Core.Path.{sym}
use Rattle.floor.specs.Answers.{verdict_of}
use Rattle.machine.proofs.checks.all_named.Goals as goal

pub returns-in-Some : goal.returns-in-Some
unfolding verdict_of
returns-in-Some c =
    sym
    (first_unnamed c.args.f c.args.numbers.now c.in-Some.place
    (IsFirst-from_position _ _ (Some c.in-Some.place) (NamesNot c.args.f c.args.numbers.now) (Names c.args.f c.args.numbers.now) c.in-Some.ensures.ran
    (YieldsList-from_slice c.args.numbers.now c.iter.ensures.rest) (λ x q k. search (rules, not-true)) (λ x q k. search (rules, not-false))))

pub returns-in-None : goal.returns-in-None
unfolding verdict_of
returns-in-None c =
    sym
    (all_names c.args.f c.args.numbers.now
    (IsFirst-from_position _ _ None (NamesNot c.args.f c.args.numbers.now) (Names c.args.f c.args.numbers.now) c.in-None.ensures.ran
    (YieldsList-from_slice c.args.numbers.now c.iter.ensures.rest) (λ x q k. search (rules, not-true)) (λ x q k. search (rules, not-false))))
