-- Tables of refusals (document 01, 'Refused'): rows in their order, answers that are refused exactly under them, and lent memory.
use Rattle.std.specs.Prelude.{ℕ, ◌<◌, List, ◌↔◌, ◌≡◌, drop}
use Rattle.laws.specs.Verdict.{Verdict, refused, Outcome, refusal}

-- A table: the condition under which a number with a place is the refusal.
abbrev pub Table : Type 1
Table = ℕ → ℕ → Type 0

-- The table of one row: a number and a place under a condition.
pub data Row (number place : ℕ) (When : Type 0) : ℕ → ℕ → Type 0 where
  row : When → Row number place When number place

-- 9, 0: fewer are lent than are needed.
abbrev pub Short : ℕ → ℕ → Table
Short lent needed = Row 9 0 (lent < needed)

infixr 28 ◌or_else◌
-- The rows of one table, and where none of them holds those of the next.
pub data ◌or_else◌ (R S : Table) (k p : ℕ) : Type 0 where
  earlier : R k p → ◌or_else◌ R S k p
  later : ((k' p' : ℕ) → R k' p' → ⊥) → S k p → ◌or_else◌ R S k p

-- A check refuses exactly under the rows of a table.
abbrev pub Refuses : Verdict → Table → Type 0
Refuses x R = (k p : ℕ) → (x ≡ refused k p) ↔ R k p

-- An answer is a refusal exactly under the rows of a table.
abbrev pub Answers : {A : Type 0} → Outcome A → Table → Type 0
Answers x R = (k p : ℕ) → (x ≡ refusal k p) ↔ R k p

-- Lent memory after a call: with a refusal as it was found, and never written beyond the needed length.
pub record Keeps (R : Table) (needed : ℕ) (old new : List ℕ) : Type 0 where
  pub as_found : (k p : ℕ) → R k p → new ≡ old
  pub beyond : drop needed new ≡ drop needed old
