-- `legality::beats::record_test` meets its contract: the tag decides which tests are made.
use Rattle.legality.proofs.EntryLaws.{tag_fails, tag_route, tag_blank}
use Rattle.legality.specs.Answers.{test_of}
use mathlib.Core.Path.{refl}
use Rattle.legality.proofs.beats.record_test.Goals as goal

pub returns-then-tag-gt2 : goal.returns-then-tag-gt2
unfolding test_of
returns-then-tag-gt2 c = tag_fails _ _ _ c.if-tag-gt2.true refl

pub returns-then-tag-eq2 : goal.returns-then-tag-eq2
returns-then-tag-eq2 c =
    tag_route _ _ _ c.if-tag-eq2.true c.route_test.ensures

pub returns : goal.returns
returns c =
    tag_blank _ _ _ c.if-tag-gt2.false c.if-tag-eq2.false c.blank.ensures
