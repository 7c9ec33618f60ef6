-- What is printed for a refusal: where its text begins.
use Rattle.std.specs.Prelude.{ℕ, List, ◌≡◌, length, take}
use Rattle.io.specs.Counts.{IsPrefixLen}
use Rattle.positions.specs.Position.{line_of_refusal, column_of_refusal, position_text}

-- The first n bytes of a memory are counted, and begin with a text.
pub record BeginsWith (text memory : List ℕ) (n : ℕ) : Type 0 where
  pub counted : IsPrefixLen n memory
  pub front : take (length text) (take n memory) ≡ text

-- What is printed for a refusal begins with the refusal's line and the column of a field.
pub record PositionTold (text : List ℕ) (number place : ℕ) (memory : List ℕ) (n : ℕ) : Type 0 where
  pub field : ℕ
  pub begins : BeginsWith (position_text (line_of_refusal text number place) (column_of_refusal text number place field)) memory n

-- What is printed for a refusal is counted, and unless the sheet ends early it begins with the refusal's position.
pub record Explains (text : List ℕ) (number place : ℕ) (memory : List ℕ) (n : ℕ) : Type 0 where
  pub counted : IsPrefixLen n memory
  pub placed : ((number ≡ 1) × (place ≡ length text) → ⊥) → PositionTold text number place memory n
