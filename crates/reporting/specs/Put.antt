-- What the functions put into a buffer. Only contracts cite this file.
use Rattle.std.specs.Prelude.{ℕ, ◌+◌, List, ◌≡◌, length}
use Rattle.laws.specs.Memory.{put}

-- A text stands at a column of a buffer that was old, and next is the column behind it.
pub record PutAt (text old : List ℕ) (at : ℕ) (new : List ℕ) (next : ℕ) : Type 0 where
  pub bytes : new ≡ put old at text
  pub behind : next ≡ at + length text
