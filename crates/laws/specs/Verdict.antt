-- What a check says, and how checks follow one another (document 01, 'Refused': the first refusal met ends the check).
use Rattle.std.specs.Prelude.{ℕ, suc, zero, ◌+◌, ◌<◌, Bool, true, false, ◌&&◌}

-- A check finds nothing, or refuses with the number and the place of document 01's table.
pub data Verdict : Type 0 where
  passed : Verdict
  refused : ℕ → ℕ → Verdict

infixr 30 ◌then◌
-- The second check is made only where the first finds nothing.
unfoldable pub ◌then◌ : Verdict → Verdict → Verdict
◌then◌ passed x = x
◌then◌ (refused k p) x = refused k p

-- A test that must hold, refused with number k and place p otherwise.
unfoldable pub demand : Bool → ℕ → ℕ → Verdict
demand true k p = passed
demand false k p = refused k p

-- The checks 0 to n − 1 in their order.
unfoldable pub in_turn : (ℕ → Verdict) → ℕ → Verdict
in_turn check zero = passed
in_turn check (suc n) = in_turn check n then check n

-- The tests 0 to n − 1 in their order, test i having the place p + i.
unfoldable pub demand_each : ℕ → ℕ → (ℕ → Bool) → ℕ → Verdict
demand_each k p ok n = in_turn (λ i. demand (ok i) k (p + i)) n

-- The check finds nothing.
unfoldable pub passes : Verdict → Bool
passes passed = true
passes (refused k p) = false

-- What an entry answers: a value, or a refusal with its number and its place.
pub data Outcome (A : Type 0) : Type 0 where
  value : A → Outcome A
  refusal : ℕ → ℕ → Outcome A

infixr 29 ◌gives◌
-- The value where the checks find nothing; otherwise their refusal.
unfoldable pub ◌gives◌ : {A : Type 0} → Verdict → A → Outcome A
◌gives◌ passed x = value x
◌gives◌ (refused k p) x = refusal k p

infixr 29 ◌then_answers◌
-- What is answered where the checks find nothing; otherwise their refusal.
unfoldable pub ◌then_answers◌ : {A : Type 0} → Verdict → Outcome A → Outcome A
◌then_answers◌ passed x = x
◌then_answers◌ (refused k p) x = refusal k p

-- The new value where the checks find nothing; otherwise the old one, as it was.
unfoldable pub when_passed : {A : Type 0} → Verdict → A → A → A
when_passed passed new old = new
when_passed (refused k p) new old = old

-- Each of the first n tests holds.
unfoldable pub each : ℕ → (ℕ → Bool) → Bool
each zero φ = true
each (suc n) φ = each n φ && φ n

-- Each of the first k items is as P says.
abbrev pub All : (ℕ → Type 0) → ℕ → Type 0
All P k = (i : ℕ) → i < k → P i

-- Item i is the first of k that is not as P says.
pub record First (P : ℕ → Type 0) (k i : ℕ) : Type 0 where
  pub listed : i < k
  pub fails : P i → ⊥
  pub before : All P i
