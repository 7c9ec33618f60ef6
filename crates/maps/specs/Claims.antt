-- The claims about maps; `proofs/Theorems.antt` inhabits the record.
use Rattle.std.specs.Prelude.{ℕ, ◌+◌, ◌≤◌, ◌≡◌, List}
use Rattle.laws.specs.Verdict.{passed}
use Rattle.floor.specs.declared.Floor.{Floor}
use Rattle.floor.specs.Checks.{check_of}
use Rattle.maps.specs.Map.{shared_below, letter_of}

pub record Claims : Type 0 where
  -- At most 20 cells of an accepted floor are more than one thing.
  pub few_shared : (f : Floor) (ws : List ℕ) → check_of f ws ≡ passed → (n : ℕ) → shared_below f n ≤ 20
  -- Their capital letters count from `A` on without beginning again, so no two cells have the same.
  pub letters_rise : (f : Floor) (ws : List ℕ) → check_of f ws ≡ passed → (c : ℕ) → letter_of f c ≡ 65 + shared_below f c
