-- `trial::choice::choose` meets its contract: the turn modulo the number of open places is one of them.
use Rattle.std.proofs.Common.{refl, ◌∙◌, mod-lt}
use Rattle.trial.specs.Inner.{chosen_in}
use Rattle.trial.proofs.choice.choose.Goals as goal

pub place_at-requires : goal.place_at-requires
place_at-requires c =
    record { i_bound = rw (← c.requires.candidates_value.0) (mod-lt c.turn.result c.requires.candidates_value.1) }

pub returns : goal.returns
unfolding chosen_in
returns c = (
  c.place_at.ensures.0 ∙ rw (← c.requires.candidates_value.0, ← c.turn.ensures) refl,
  c.place_at.ensures.1,
)
