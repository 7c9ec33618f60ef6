-- Laws of a chain of checks that lead from column to column: after an answer that reached a column comes the rest of the chain, and
-- the first refusal is the answer of the whole.
use Prim.Native.Nat.{ℕ, ◌+◌, ◌≤◌, ◌<◌}
use borrow.Author.Rules.{rules}
use mathlib.Core.Path.{◌≡◌, refl, sym}
use Rattle.std.specs.Prelude.{Result, Ok, Err, ⊤}
use Rattle.std.specs.Result.{IsErrAnd}
use Rattle.std.proofs.lemmas.Result.{err_from_is_err_and}
use Rattle.floor.specs.declared.Refusal.{Refusal}
use Rattle.floor.specs.Answers.{number_of, outcome_by, verdict_of}
use Rattle.laws.specs.Verdict.{Verdict, passed, refused, ◌then◌, in_turn, Outcome, ◌gives◌}
use Rattle.laws.proofs.VerdictLaws.{then_passed, demands, turn_none, turn_more, turn_stop, turn_end}
use Rattle.fields.specs.Reached.{column_told, said_by}
use Rattle.floor.proofs.AnswersLaws.{chain, then_next}

-- An answer that reached a column passed, and the column is the one that was aimed at.
pub reaches : (x : ℕ) (z : Verdict) (column : ℕ) → column_told (Ok x) ≡ (z gives column) → (z ≡ passed) × (x ≡ column)
unfolding column_told outcome_by ◌gives◌
reaches x passed column h = (refl, (cc))
reaches x (refused k p) column h = absurd (cc)

-- An answer that is a refusal refuses with its number and place.
pub line_refused : (x : Refusal) (z : Verdict) (column : ℕ) → column_told (Err x) ≡ (z gives column)
    → z ≡ refused (number_of x.reason) x.place
unfolding column_told outcome_by ◌gives◌
line_refused x passed column h = absurd (cc)
line_refused x (refused k p) column h = cc

-- The answer of a function that made its tests one by one: the column that it reached, and a refusal.
pub arrives : {x : Verdict} (column : ℕ) → passed ≡ x → column_told (Ok column) ≡ (x gives column)
unfolding column_told outcome_by ◌gives◌
arrives column h = rw (← h) refl

pub refuses_so : {y : Verdict} (x : Refusal) (column : ℕ) → refused (number_of x.reason) x.place ≡ y → column_told (Err x) ≡ (y gives column)
unfolding column_told outcome_by ◌gives◌
refuses_so x column h = rw (← h) refl

pub malformed_so : {y : Verdict} (x : Refusal) (p column : ℕ) → x.place ≡ p → number_of x.reason ≡ 1 → refused 1 p ≡ y
    → column_told (Err x) ≡ (y gives column)
malformed_so x p column m n h = refuses_so x column (rw (m, n) h)

-- After a check that reached its column the rest is asked: what it answers, the whole answers.
pub goes_on : {o : Outcome ℕ} (n : ℕ) (z z' : Verdict) (column column' : ℕ) → column_told (Ok n) ≡ (z gives column)
    → o ≡ (z' gives column') → o ≡ ((z then z') gives column')
goes_on n z z' column column' h t = rw (then_passed (reaches n z column h).0) t

-- The refusal that a `?` hands on is the answer of the whole, whatever follows.
pub stops_at : (y : Result ℕ Refusal) (x : Refusal) (z z' : Verdict) (column column' : ℕ) → column_told (Err x) ≡ (z gives column)
    → IsErrAnd y (λ d. d ≡ x) → column_told y ≡ ((z then z') gives column')
unfolding ◌then◌
stops_at y x z z' column column' h e =
    let p = err_from_is_err_and y e in
    rw (p.1, p.2, line_refused x z column h) (refuses_so x column' refl)

-- What the answers of such functions take: of one that tests a slot, and of a chain.
pub ruleset slots = (arrives, malformed_so, demands)

pub ruleset way = (goes_on, stops_at)

-- A loop over checks that is left by a refusal: the refusal is the answer, whatever follows the loop.
pub turn_away : (y : Result ℕ Refusal) (x : Refusal) (check : ℕ → Verdict) (z : Verdict) (i k column column' : ℕ)
    → i < k → in_turn check i ≡ passed → column_told (Err x) ≡ (check i gives column) → IsErrAnd y (λ d. d ≡ x)
    → column_told y ≡ ((in_turn check k then z) gives column')
turn_away y x check z i k column column' l p h e =
    let r = line_refused x (check i) column h in
    stops_at y x (in_turn check k) z column column'
    (rw (turn_stop check i k (number_of x.reason) x.place l p r) (rw r at h)) e

-- Past a check that passed.
pub turn_past : (y : ℕ) (check : ℕ → Verdict) (i column : ℕ) → in_turn check i ≡ passed → column_told (Ok y) ≡ (check i gives column)
    → in_turn check (i + 1) ≡ passed
turn_past y check i column p h = turn_more check i p (reaches y _ column h).0

-- After the loop: what the rest answers.
pub turn_rest : {o : Outcome ℕ} (check : ℕ → Verdict) (y : Verdict) (i k column' : ℕ) → i ≤ k → k ≤ i → in_turn check i ≡ passed
    → o ≡ (y gives column') → o ≡ ((in_turn check k then y) gives column')
unfolding ◌then◌
turn_rest check y i k column' l g p h = rw (← turn_end check i k l g p) h

-- What the answers of such a loop take.
pub ruleset turns_along = (rules, turn_none, turn_past, turn_away, turn_rest)

-- The verdict of an answer, as that of a check, which a chain of checks takes.
pub said_value : {A : Type 0} {u : ⊤} {z : Verdict} (x : A) → said_by (Ok x) ≡ z → verdict_of (Ok u) ≡ z
unfolding said_by verdict_of
said_value x h = h

pub said_refusal : (A : Type 0) {z : Verdict} (x : Refusal) → said_by {A = A} (Err x) ≡ z → verdict_of (Err x) ≡ z
unfolding said_by verdict_of
said_refusal A x h = h

pub reached_value : {u : ⊤} {z : Verdict} (x column : ℕ) → column_told (Ok x) ≡ (z gives column) → verdict_of (Ok u) ≡ z
unfolding verdict_of
reached_value {z} x column h = sym (reaches x z column h).0

pub reached_refusal : {z : Verdict} (x : Refusal) (column : ℕ) → column_told (Err x) ≡ (z gives column) → verdict_of (Err x) ≡ z
unfolding verdict_of
reached_refusal {z} x column h = sym (line_refused x z column h)

-- The refusal that a `?` hands on is the verdict of the whole.
pub says_end : {A : Type 0} (y : Result A Refusal) (x : Refusal) {z : Verdict} (z' : Verdict) → verdict_of (Err x) ≡ z → IsErrAnd y (λ d. d ≡ x)
    → said_by y ≡ (z then z')
unfolding said_by verdict_of ◌then◌
says_end y x z' h e = let p = err_from_is_err_and y e in rw (p.1, p.2, ← h)

-- The same of the last check.
pub ends_last : (y : Result ⊤ Refusal) (x : Refusal) {z : Verdict} → verdict_of (Err x) ≡ z → IsErrAnd y (λ d. d ≡ x) → verdict_of y ≡ z
ends_last y x h e = let p = err_from_is_err_and y e in rw (p.1, p.2) h

pub says_last : {A : Type 0} (y : Result A Refusal) (x : Refusal) {z : Verdict} → verdict_of (Err x) ≡ z → IsErrAnd y (λ d. d ≡ x) → said_by y ≡ z
unfolding said_by verdict_of
says_last y x h e = let p = err_from_is_err_and y e in rw (p.1, p.2) h

-- A refusal of the first check is the verdict of the whole.
pub refuses_first : (x : Refusal) {z : Verdict} (z' : Verdict) → verdict_of (Err x) ≡ z → verdict_of (Err x) ≡ (z then z')
unfolding verdict_of ◌then◌
refuses_first x z' h = rw (← h) refl

-- A value behind the last check that passed.
pub says_value : {A : Type 0} {u : ⊤} {z : Verdict} (x : A) → verdict_of (Ok u) ≡ z → said_by (Ok x) ≡ z
unfolding said_by verdict_of
says_value x h = h

-- What a function takes that makes such checks in turn: with an answer of no value, and with a value behind them.
pub ruleset checks = (chain, ends_last, said_value, said_refusal, reached_value, reached_refusal)

pub ruleset says = (then_next, says_end, says_last, says_value, said_value, said_refusal, reached_value, reached_refusal)
