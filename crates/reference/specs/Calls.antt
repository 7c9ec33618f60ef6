-- Lists of calls (document 01, 'What demand 3 compares'): the answer to a call, the state after it, and both for a list of calls.
use Rattle.std.specs.Prelude.{ℕ, List, [], ◌∷◌}
use Rattle.laws.specs.Verdict.{Outcome, refusal, ◌gives◌, ◌then_answers◌, when_passed}
use Rattle.reference.specs.State.{Machine, State}
use Rattle.reference.specs.Take.{after_step, StepAnswer, step_answer}
use Rattle.reference.specs.Run.{run}
use Rattle.reference.specs.Ending.{RunEnding, ending}
use Rattle.reference.specs.Table.{step, no_step, Call, single, run_of, steps_of, lent_enough, verdict}

-- What a call that is not refused tells: a step's answer, or the number taken by a run and how it ended.
pub data CallAnswer : Type 0 where
  stepped : StepAnswer → CallAnswer
  ran : ℕ → RunEnding → CallAnswer

-- The answer to a call: what it tells, or refused with number and place.
abbrev pub Reply : Type 0
Reply = Outcome CallAnswer

-- The answer to a call: if the table turns it away, that refusal.
unfoldable pub reply : Machine → State → Call → Reply
reply M s (single lent (step x)) = verdict M s (single lent (step x)) gives stepped (step_answer M s x)
reply M s (single lent no_step) = lent_enough M lent then_answers refusal 7 0
reply M s (run_of lent xs b) =
    verdict M s (run_of lent xs b) gives ran (run M s (steps_of xs) b).taken (ending M b (run M s (steps_of xs) b))

-- The state after a call that is not refused.
unfoldable pub state_after : Machine → State → Call → State
state_after M s (single lent (step x)) = after_step M s x
state_after M s (single lent no_step) = s
state_after M s (run_of lent xs b) = (run M s (steps_of xs) b).state

-- The state after a call: if the table turns it away, nothing changes.
unfoldable pub after_call : Machine → State → Call → State
after_call M s x = when_passed (verdict M s x) (state_after M s x) s

-- The answers to a list of calls, in order; the first call gets state s, each later one the state as the call before it left it.
unfoldable pub replies : Machine → State → List Call → List Reply
replies M s [] = []
replies M s (x ∷ xs) = reply M s x ∷ replies M (after_call M s x) xs

-- The state after a list of calls.
unfoldable pub after : Machine → State → List Call → State
after M s [] = s
after M s (x ∷ xs) = after M (after_call M s x) xs
