-- Two states that are the same in every part that n carriers have.
use Rattle.std.specs.Prelude.{ℕ, ◌<◌, ◌≡◌}
use Rattle.reference.specs.State.{State}

pub record Alike (n : ℕ) (s z : State) : Type 0 where
  pub same_planned : (i : ℕ) → i < n → s.planned i ≡ z.planned i
  pub same_due : (i : ℕ) → i < n → s.due i ≡ z.due i
  pub same_answer_lem : (i : ℕ) → i < n → s.answer i ≡ z.answer i
  pub same_view : (i j : ℕ) → j < i → i < n → s.view i j ≡ z.view i j
  pub same_channel : (i j : ℕ) → j < i → i < n → s.chan i j ≡ z.chan i j
  pub same_taken : s.taken ≡ z.taken
