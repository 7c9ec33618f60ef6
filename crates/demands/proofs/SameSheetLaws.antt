-- Records that are the same floor have the same sheet, and get the same answers from every entry.
use Prim.Native.Nat.{ℕ, zero, suc, ◌<◌}
use native.Mathlib.Omega.{arith}
use mathlib.Core.List.{List, ◌++◌}
use mathlib.Core.Path.{◌≡◌, refl, ◌∙◌, ap, ap₂}
use lib.ListN.{length, get_or}
use Rattle.laws.specs.Verdict.{All}
use Rattle.floor.specs.declared.Floor.{Floor}
use Rattle.floor.specs.Checks.{count_of, dock_of}
use Rattle.floor.specs.Accepted.{Lent, SameOutline, SameFloor, SameDocks}
use Rattle.floor.proofs.SameLaws.{check_same, same_docks}
use Rattle.floor.proofs.OrderLaws.{order_same}
use Rattle.sheet.specs.Text.{lines_of, head_line, cell_numbers, carrier_line, carrier_lines, wall_line, wall_lines, sheet_of}
use Rattle.sheet.specs.Read.{write_sheet}
use Rattle.sheet.proofs.LinesText.{lines_same}
use Rattle.demands.specs.Demand2.{SameOutcomes, SameAnswers}
use Rattle.demands.proofs.SameFloorLaws.{length_same, write, same_outcomes}

-- The columns and rows of the same cells.
numbers_same : (width : ℕ) (φ ψ : ℕ → ℕ) (n : ℕ) → All (λ (k : ℕ). φ k ≡ ψ k) n → cell_numbers width φ n ≡ cell_numbers width ψ n
unfolding cell_numbers
numbers_same width φ ψ zero a = refl
numbers_same width φ ψ (suc n) a =
    rw (a 0 (omega arith), numbers_same width (λ k. φ (suc k)) (λ k. ψ (suc k)) n (λ k l. a (suc k) (omega arith)))

-- Records that are the same floor have the same sheet.
heads : (f f' : Floor) → SameOutline f f' → head_line f ≡ head_line f'
unfolding head_line
heads f f' same = rw (same.width, same.height, same.horizon, same.depth, same.carriers, same.walls)

module _ (f : Floor) (ws : List ℕ) (f' : Floor) (ws' : List ℕ) (same : SameFloor f ws f' ws') where
  carrier_lines_lem : (i : ℕ) → i < f.carriers → carrier_line f i ≡ carrier_line f' i
  unfolding carrier_line
  carrier_lines_lem i l =
      rw (
        numbers_same f.width (dock_of f i) (dock_of f' i) (count_of f i) (same.docks i l),
        same.outline.starts i l,
        same.outline.counts i l,
        same.outline.width,
      )

  pub sheet_same : sheet_of f ws ≡ sheet_of f' ws'
  unfolding sheet_of
  sheet_same = ap₂ (λ (xs ys : List ℕ). xs ++ ys) (heads f f' same.outline) (ap₂ (λ (xs ys : List ℕ). xs ++ ys) carriers walls)
    where
      carriers : carrier_lines f ≡ carrier_lines f'
      carriers =
          lines_same (carrier_line f) (carrier_line f') f.carriers carrier_lines_lem
          ∙ ap (λ (n : ℕ). lines_of (carrier_line f') n) same.outline.carriers

      walls : wall_lines f ws ≡ wall_lines f' ws'
      walls =
          lines_same (λ j. wall_line f.width (get_or ws j 0)) (λ j. wall_line f'.width (get_or ws' j 0)) f.walls
          (λ j l. rw (same.outline.width, same.cells j l))
          ∙ ap (λ (n : ℕ). lines_of (λ j. wall_line f'.width (get_or ws' j 0)) n) same.outline.walls

  pub same_answers : Lent f ws → Lent f' ws' → SameAnswers f ws f' ws'
  unfolding write_sheet
  same_answers lent lent' =
      let docks = same_docks f ws f' ws' same in
      let checks = check_same f ws f' ws' same lent lent' in
      record {
        outcomes = same_outcomes f ws f' ws' docks same.cells checks;
        sheet = λ old.
            rw (write f ws f' ws' docks same.cells checks (length old), sheet_same, length_same f ws f' ws' docks same.cells);
      }

-- Records that differ in the order of docks get the same answers, but for the sheet.
pub order_outcomes : (f f' : Floor) (ws : List ℕ) → SameDocks f f' → SameOutcomes f ws f' ws
order_outcomes f f' ws same = same_outcomes f ws f' ws same (λ j l. refl) (order_same f f' ws same)
