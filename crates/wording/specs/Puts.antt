-- A piece put behind a text that grows, or left out.
use Rattle.std.specs.Prelude.{ℕ, ◌+◌, ◌≤◌, ◌<◌, List, ◌≡◌, length}
use Rattle.reporting.specs.Put.{PutAt}

-- A piece is put from a column of a memory on, where there is room for a number of bytes; where there is less, memory and column stay.
pub record PutIfRoom (room : ℕ) (piece old : List ℕ) (at : ℕ) (new : List ℕ) (next : ℕ) : Type 0 where
  pub puts : at + room ≤ length old → PutAt piece old at new next
  pub leaves : length old < at + room → (new ≡ old) × (next ≡ at)
