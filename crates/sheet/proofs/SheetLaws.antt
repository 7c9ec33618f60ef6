-- The sheet as a block: its length, and its three parts put one behind the other.
use Prim.Native.Nat.{ℕ, ◌+◌, ◌≤◌}
use native.Mathlib.Omega.{arith}
use native.Mathlib.Nat.{zero-add}
use mathlib.Core.Path.{◌≡◌}
use mathlib.Core.List.{List, ◌++◌, append_assoc}
use lib.ListN.{length, get_or, drop, length-append}
use Rattle.floor.specs.declared.Floor.{Floor}
use Rattle.sheet.specs.Text.{head_line, carrier_line, wall_line, carrier_lines, wall_lines, sheet_of, carrier_at, wall_at, sheet_length}
use Rattle.laws.specs.Memory.{put}
use Rattle.laws.proofs.PutLaws.{put_next}
use Rattle.sheet.proofs.LineLaws.{head_length, lines_span}
use Rattle.sheet.proofs.DockLaws.{carriers_behind, walls_behind}

module _ (f : Floor) (ws : List ℕ) where
  abbrev wall : ℕ → List ℕ
  wall j = wall_line f.width (get_or ws j 0)

  pub carriers_span : 31 + length (carrier_lines f) ≡ carrier_at f f.carriers
  unfolding carrier_at
  carriers_span = lines_span (carrier_line f) (carrier_at f) (carriers_behind f) f.carriers

  pub walls_span : carrier_at f f.carriers + length (wall_lines f ws) ≡ sheet_length f
  unfolding wall_at sheet_length
  walls_span = omega (arith, lines_span wall (wall_at f) (walls_behind f ws) f.walls)

  -- A sheet has 31 bytes, 16 a carrier and 10 a dock, 11 a wall.
  pub sheet_length_lem : length (sheet_of f ws) ≡ sheet_length f
  unfolding sheet_of
  sheet_length_lem = rw (length-append, length-append, head_length f) (omega (arith, carriers_span, walls_span))

  -- The three parts of a sheet, put one behind the other.
  pub sheet_put : (m₀ m₁ m₂ m₃ : List ℕ) → sheet_length f ≤ length m₀ → m₁ ≡ put m₀ 0 (head_line f)
      → m₂ ≡ put m₁ 31 (carrier_lines f)
      → m₃ ≡ put m₂ (carrier_at f f.carriers) (wall_lines f ws)
      → m₃ ≡ put m₀ 0 (sheet_of f ws)
  unfolding sheet_of
  sheet_put m₀ m₁ m₂ m₃ l a b c =
      rw (← append_assoc)
      (put_next m₀ m₂ m₃ _ _ 0 (carrier_at f f.carriers)
      (put_next m₀ m₁ m₂ _ _ 0 31 a b (rw (head_length f)) (omega (arith, carriers_span, walls_span, l)))
      c
      (rw (length-append, head_length f) (omega (arith, carriers_span)))
      (omega (arith, walls_span, l)))

  -- A sheet at the front of a memory.
  pub sheet_front : (m : List ℕ) → put m 0 (sheet_of f ws) ≡ sheet_of f ws ++ drop (sheet_length f) m
  unfolding put
  sheet_front m = rw (zero-add, sheet_length_lem)
