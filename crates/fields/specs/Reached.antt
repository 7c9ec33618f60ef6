-- What a reader's answer says in document 01's terms: for each case its number and values.
use Rattle.std.specs.Prelude.{ℕ, ◌+◌, ◌*◌, ◌≤◌, ◌≡◌, Result, Ok, Err}
use Rattle.floor.specs.declared.Refusal.{Refusal}
use Rattle.laws.specs.Verdict.{Verdict, passed, refused, Outcome, ◌gives◌}
use Rattle.floor.specs.Answers.{number_of, outcome_by}

-- The answer to a check that leads to a column: the column where the check finds nothing, and its refusal otherwise.
unfoldable pub column_told : Result ℕ Refusal → Outcome ℕ
column_told = outcome_by (λ c. c)

-- The verdict of an answer, without its value.
unfoldable pub said_by : {A : Type 0} → Result A Refusal → Verdict
said_by (Ok _) = passed
said_by (Err r) = refused (number_of r.reason) r.place

-- What reading a line at a column may answer says that the line has the form given there, and ends where `past` says.
abbrev pub ReadsAs : (ℕ → Result ℕ Refusal → Type 0) → (ℕ → Verdict) → (ℕ → ℕ) → Type 0
ReadsAs answers form past = (at : ℕ) (r : Result ℕ Refusal) → answers at r → column_told r ≡ (form at gives past at)

-- n lines can be read from a column on, one behind the other: no line is longer than some length, and each can be read where it may begin.
pub record Readable (may : ℕ → Type 0) (answers : ℕ → Result ℕ Refusal → Type 0) (at n : ℕ) : Type 0 where
  pub longest : ℕ
  pub near : (c d : ℕ) → answers c (Ok d) → d ≤ c + longest
  pub free : (c : ℕ) → c ≤ at + longest * n → may c
