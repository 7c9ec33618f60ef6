-- Laws of a chain of checks with `?`: behind an answer that passed the rest of the chain decides, and the first refusal is the answer of
-- the whole.
use Prim.Native.Nat.{ℕ, ◌+◌, ◌<◌}
use borrow.Author.Rules.{rules}
use mathlib.Core.Path.{◌≡◌, sym, ◌∙◌}
use Rattle.std.specs.Prelude.{Result, Ok, Err, ⊤}
use Rattle.std.specs.Result.{IsErrAnd}
use Rattle.std.proofs.lemmas.Result.{err_from_is_err_and}
use Rattle.floor.specs.declared.Refusal.{Refusal}
use Rattle.laws.specs.Verdict.{Verdict, passed, refused, ◌then◌, in_turn, Outcome, value, ◌gives◌, ◌then_answers◌, when_passed}
use Rattle.floor.specs.Answers.{number_of, verdict_of, outcome_by}
use Rattle.laws.proofs.VerdictLaws.{turn_none, turn_more, turn_stop, turn_end}

-- Behind a check that passed, what the rest answers, the whole answers.
pub then_next : {u : ⊤} {y z z' : Verdict} → verdict_of (Ok u) ≡ z → y ≡ z' → y ≡ (z then z')
unfolding verdict_of ◌then◌
then_next h t = rw (← h) t

-- The refusal that a `?` hands on is the answer of the whole.
pub ends_at : (y : Result ⊤ Refusal) (e : Refusal) {z : Verdict} (z' : Verdict) → verdict_of (Err e) ≡ z → IsErrAnd y (λ d. d ≡ e)
    → verdict_of y ≡ (z then z')
unfolding verdict_of ◌then◌
ends_at y e z' h r = let p = err_from_is_err_and y r in rw (p.1, p.2, ← h)

-- The same where a value is answered behind the checks.
pub gives_next : {A : Type 0} {u : ⊤} {z : Verdict} {o : Outcome A} (v : A) → verdict_of (Ok u) ≡ z → o ≡ value v → o ≡ (z gives v)
unfolding verdict_of ◌gives◌
gives_next v h t = rw (← h) t

pub gives_end : {A B : Type 0} (means : A → B) (y : Result A Refusal) (e : Refusal) {z : Verdict} (v : B) → verdict_of (Err e) ≡ z
    → IsErrAnd y (λ d. d ≡ e) → outcome_by means y ≡ (z gives v)
unfolding verdict_of ◌gives◌ outcome_by
gives_end means y e v h r = let p = err_from_is_err_and y r in rw (p.1, p.2, ← h)

-- The same where an answer that may be refused follows the checks.
pub answers_next : {A : Type 0} {u : ⊤} {z : Verdict} {o o' : Outcome A} → verdict_of (Ok u) ≡ z → o ≡ o' → o ≡ (z then_answers o')
unfolding verdict_of ◌then_answers◌
answers_next h t = rw (← h) t

pub answers_end : {A B : Type 0} (means : A → B) (y : Result A Refusal) (e : Refusal) {z : Verdict} (o : Outcome B)
    → verdict_of (Err e) ≡ z → IsErrAnd y (λ d. d ≡ e) → outcome_by means y ≡ (z then_answers o)
unfolding verdict_of ◌then_answers◌ outcome_by
answers_end means y e o h r = let p = err_from_is_err_and y r in rw (p.1, p.2, ← h)

-- Memory behind the checks: written where they find nothing, as it was where they refuse.
pub written_next : {A : Type 0} {u : ⊤} {z : Verdict} {m new : A} (old : A) → verdict_of (Ok u) ≡ z → m ≡ new → m ≡ when_passed z new old
unfolding verdict_of when_passed
written_next old h t = rw (← h) t

pub written_end : {A : Type 0} (e : Refusal) {z : Verdict} {m old : A} (new : A) → verdict_of (Err e) ≡ z → m ≡ old → m ≡ when_passed z new old
unfolding verdict_of when_passed
written_end e new h t = rw (← h) t

-- A function that is such a chain: each of its answers is `search chain`, at a depth of one more than its checks.
pub ruleset chain = (then_next, ends_at)

-- A check of which a `?` lets the rest follow passes.
pub met_passed : {u : ⊤} {z : Verdict} → verdict_of (Ok u) ≡ z → z ≡ passed
unfolding verdict_of
met_passed h = sym h

-- A check that answers `Ok` passes.
pub passes : {x : Result ⊤ Refusal} {u : ⊤} {y : Verdict} → verdict_of x ≡ y → x ≡ Ok u → y ≡ passed
unfolding verdict_of
passes h e = rw (← h, e)

-- The same of the last check of a chain.
pub passed_is : {x : Result ⊤ Refusal} {u : ⊤} {y : Verdict} → verdict_of x ≡ y → x ≡ Ok u → passed ≡ y
passed_is h e = sym (passes h e)

-- A check that answers a refusal refuses with its number and place.
pub refuses : {y : Result ⊤ Refusal} {z : Verdict} {x : Refusal} → verdict_of y ≡ z → y ≡ Err x → z ≡ refused (number_of x.reason) x.place
unfolding verdict_of
refuses h e = rw (← h, e)

-- A loop over checks that is left by a refusal: the refusal is the answer of all the checks.
pub turn_ends : {y : Result ⊤ Refusal} {x : Refusal} (check : ℕ → Verdict) (i k : ℕ)
    → i < k → in_turn check i ≡ passed → verdict_of y ≡ check i → y ≡ Err x → verdict_of y ≡ in_turn check k
turn_ends {x} check i k l p h e =
    h ∙ refuses h e ∙ sym (turn_stop check i k (number_of x.reason) x.place l p (refuses h e))

-- Past a check that passed.
pub turn_on : {x : Result ⊤ Refusal} {u : ⊤} (check : ℕ → Verdict) (i : ℕ) → in_turn check i ≡ passed → verdict_of x ≡ check i → x ≡ Ok u
    → in_turn check (i + 1) ≡ passed
turn_on check i p h e = turn_more check i p (passes h e)

-- What the answers of such a loop take.
pub ruleset turns = (rules, turn_none, turn_on, turn_ends, turn_end)
