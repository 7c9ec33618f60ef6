-- A carrier's line: its length, its docks one behind the other, and the columns of lines by the dock counts.
use Prim.Native.Nat.{ℕ, zero, suc, ◌+◌, ◌*◌, ◌/◌, ◌%◌, ◌≤◌, ◌<◌}
use native.Mathlib.Omega.{arith}
use native.Mathlib.Numerals.{add-one}
use mathlib.Core.Path.{◌≡◌, refl, ◌∙◌, ap}
use mathlib.Core.List.{List, [], ◌∷◌, ◌++◌, append_assoc}
use lib.ListN.{length, get_or, set, length-append}
use borrow.Author.Count.{below_more}
use Rattle.laws.specs.Memory.{put}
use Rattle.laws.proofs.PutLaws.{put_next}
use Rattle.floor.specs.declared.Floor.{Floor}
use Rattle.floor.specs.Checks.{start_of, count_of, docks_of, dock_of}
use Rattle.laws.proofs.PartLaws.{part_byte}
use Rattle.fields.specs.Field.{field_of, number_at}
use Rattle.fields.specs.Form.{counted_length}
use Rattle.sheet.specs.Text.{line_of, lines_of, cell_numbers, carrier_line, wall_line, carrier_at, wall_at}
use Rattle.sheet.proofs.LineLaws.{field_length, field_next, newline_next, lines_length, wall_length}
use Rattle.sheet.proofs.LineText.{numbers_from, Small, line_length}
use Rattle.sheet.proofs.LinesText.{lines_none, lines_front}

-- The two fields of a cell.
abbrev pub cell_text : ℕ → ℕ → List ℕ
cell_text width c = field_of (c % width) ++ field_of (c / width)

pub cell_text_length : (width c : ℕ) → length (cell_text width c) ≡ 10
unfolding field_of
cell_text_length width c = refl

pub cells_length : (width : ℕ) (φ : ℕ → ℕ) (n : ℕ) → length (cell_numbers width φ n) ≡ 2 * n
unfolding cell_numbers
cells_length width φ zero = refl
cells_length width φ (suc n) = omega (arith, cells_length width (λ (k : ℕ). φ (suc k)) n)

-- Cells put one behind the other, and a newline, are the line of their numbers.
pub cells_line : (width : ℕ) (φ : ℕ → ℕ) (n : ℕ)
    → lines_of (λ (k : ℕ). cell_text width (φ k)) n ++ (10 ∷ []) ≡ line_of (cell_numbers width φ n)
unfolding cell_numbers line_of
cells_line width φ zero = rw (lines_none (λ (k : ℕ). cell_text width (φ k)))
cells_line width φ (suc n) =
    rw (lines_front (λ (k : ℕ). cell_text width (φ k)) n, append_assoc, append_assoc)
    (ap (λ (xs : List ℕ). field_of (φ 0 % width) ++ (field_of (φ 0 / width) ++ xs)) (cells_line width (λ (k : ℕ). φ (suc k)) n))

-- Numbers in pairs that are the columns and rows of cells.
pub numbers_cells : (text : List ℕ) (width : ℕ) (φ : ℕ → ℕ) (n at : ℕ)
    → ((k : ℕ) → k < n → (number_at text (at + 10 * k) ≡ φ k % width) × (number_at text (at + 10 * k + 5) ≡ φ k / width))
    → numbers_from text at (2 * n) ≡ cell_numbers width φ n
unfolding cell_numbers numbers_from
numbers_cells text width φ zero at h = refl
numbers_cells text width φ (suc n) at h =
    let first = h 0 (omega arith) in
    let z : at + 10 * 0 ≡ at = omega arith in
    let two : 2 * suc n ≡ suc (suc (2 * n)) = omega arith in
    let on : at + 5 + 5 ≡ at + 10 = omega arith in
    let col : number_at text at ≡ φ 0 % width = rw z at first.0 in
    let row : number_at text (at + 5) ≡ φ 0 / width = rw z at first.1 in
    rw (two, col, row, on)
    (ap (λ (xs : List ℕ). φ 0 % width ∷ φ 0 / width ∷ xs)
    (numbers_cells text width (λ (k : ℕ). φ (suc k)) n (at + 10)
    (λ k l. let q : at + 10 * suc k ≡ at + 10 + 10 * k = omega arith in rw q at (h (suc k) (omega arith)))))

-- The same, taken apart.
pub cells_numbers : (text : List ℕ) (width : ℕ) (φ : ℕ → ℕ) (n at : ℕ) → numbers_from text at (2 * n) ≡ cell_numbers width φ n
    → (k : ℕ) → k < n → (number_at text (at + 10 * k) ≡ φ k % width) × (number_at text (at + 10 * k + 5) ≡ φ k / width)
unfolding cell_numbers numbers_from
cells_numbers text width φ zero at h k l = absurd (omega arith)
cells_numbers text width φ (suc n) at h zero l =
    let two : 2 * suc n ≡ suc (suc (2 * n)) = omega arith in
    let z : at + 10 * 0 ≡ at = omega arith in
    let e = rw two at h in
    rw z ((cc), (cc))
cells_numbers text width φ (suc n) at h (suc k) l =
    let two : 2 * suc n ≡ suc (suc (2 * n)) = omega arith in
    let on : at + 5 + 5 ≡ at + 10 = omega arith in
    let e = rw (two, on) at h in
    let q : at + 10 * suc k ≡ at + 10 + 10 * k = omega arith in
    rw q (cells_numbers text width (λ (j : ℕ). φ (suc j)) n (at + 10) (cc) k (omega arith))

-- A carrier's line is as long as its dock count says.
pub carrier_length : (f : Floor) (i : ℕ) → length (carrier_line f i) ≡ counted_length (count_of f i)
unfolding carrier_line counted_length
carrier_length f i =
    line_length _ ∙ omega (arith, cells_length f.width (dock_of f i) (count_of f i))

-- The lines stand one behind the other.
pub carriers_behind : (f : Floor) (i : ℕ) → carrier_at f (suc i) ≡ carrier_at f i + length (carrier_line f i)
unfolding carrier_at
carriers_behind f i = rw (carrier_length f i)

pub walls_behind : (f : Floor) (ws : List ℕ) (j : ℕ) → wall_at f (suc j) ≡ wall_at f j + length (wall_line f.width (get_or ws j 0))
unfolding wall_at
walls_behind f ws j = rw (wall_length f.width (get_or ws j 0)) (omega arith)

pub carrier_next : (f : Floor) (i at count : ℕ) → at ≡ carrier_at f i → count ≡ count_of f i → at + (16 + 10 * count) ≡ carrier_at f (i + 1)
unfolding carrier_at counted_length
carrier_next f i at count e h = rw (add-one, e, h)

pub carrier_end : (f : Floor) (i : ℕ) → carrier_at f (suc i) ≡ carrier_at f i + counted_length (count_of f i)
unfolding carrier_at
carrier_end f i = refl

pub carrier_first : (f : Floor) → 31 ≡ carrier_at f 0
unfolding carrier_at
carrier_first f = refl

-- Dock k of carrier i stands at place 4 i + k.
pub dock_place : (f : Floor) (i k : ℕ) → k < 4 → dock_of f i k ≡ get_or f.docks (4 * i + k) 0
unfolding dock_of docks_of
dock_place f i k l = part_byte f.docks (4 * i) 4 k l

-- A dock put from its place in the record.
pub dock_put : (m m' : List ℕ) (at width : ℕ) {d n : ℕ} → d ≡ n → m' ≡ put m at (cell_text width n) → m' ≡ put m at (cell_text width d)
dock_put m m' at width h p = rw h p

-- A carrier's line as it is put: the start, the dock count, the docks and a newline.
pub carrier_put : (f : Floor) (i : ℕ)
    → (cell_text f.width (start_of f i) ++ field_of (count_of f i))
    ++ (lines_of (λ (k : ℕ). cell_text f.width (dock_of f i k)) (count_of f i) ++ (10 ∷ []))
    ≡ carrier_line f i
unfolding carrier_line line_of
carrier_put f i =
    rw (cells_line f.width (dock_of f i) (count_of f i), append_assoc, append_assoc)

-- A carrier's line is not empty, and n of them take 16 bytes each at least.
pub carrier_some : (f : Floor) (i : ℕ) → 0 < length (carrier_line f i)
unfolding counted_length
carrier_some f i = omega (arith, carrier_length f i)

pub carrier_low : (f : Floor) (i : ℕ) → 31 + 16 * i ≤ carrier_at f i
unfolding carrier_at counted_length
carrier_low f zero = omega arith
carrier_low f (suc i) = omega (arith, carrier_low f i)

-- The numbers of cells are small where each cell's are.
pub cells_small : (width : ℕ) (φ : ℕ → ℕ) (n : ℕ) → ((k : ℕ) → k < n → (φ k % width < 100000) × (φ k / width < 100000))
    → Small (cell_numbers width φ n)
unfolding cell_numbers
cells_small width φ zero h = tt
cells_small width φ (suc n) h =
    let first = h 0 (omega arith) in
    (first.0, (first.1, cells_small width (λ (k : ℕ). φ (suc k)) n (λ k l. h (suc k) (omega arith))))

-- The four stores of a carrier's line, one behind the other.
pub carrier_puts : (f : Floor) (i at : ℕ) (m₀ m₁ m₂ m₃ : List ℕ) → at + counted_length (count_of f i) ≤ length m₀
    → m₁ ≡ put m₀ at (cell_text f.width (start_of f i))
    → m₂ ≡ put m₁ (at + 10) (field_of (count_of f i))
    → m₃ ≡ put m₂ (at + 15) (lines_of (λ (k : ℕ). cell_text f.width (dock_of f i k)) (count_of f i))
    → set m₃ (at + 15 + 10 * count_of f i) 10 ≡ put m₀ at (carrier_line f i)
unfolding counted_length
carrier_puts f i at m₀ m₁ m₂ m₃ l a b c =
    let n = count_of f i in
    let docks = lines_of (λ (k : ℕ). cell_text f.width (dock_of f i k)) n in
    let start = cell_text_length f.width (start_of f i) in
    let long : length docks ≡ 10 * n =
    lines_length (λ (k : ℕ). cell_text f.width (dock_of f i k)) 10 (λ k. cell_text_length f.width (dock_of f i k)) n
    in
    let two = field_next m₀ m₁ m₂ (cell_text f.width (start_of f i)) at (at + 10) n a b (omega (arith, start)) (omega (arith, l)) in
    let size : length (cell_text f.width (start_of f i) ++ field_of n) ≡ 15 =
    length-append (cell_text f.width (start_of f i)) (field_of n) ∙ omega (arith, start, field_length n)
    in
    let three = put_next m₀ m₂ m₃ (cell_text f.width (start_of f i) ++ field_of n) docks at (at + 15) two c (omega (arith, size))
    (omega (arith, long, l)) in
    let front = cell_text f.width (start_of f i) ++ field_of n in
    newline_next m₀ m₃ (front ++ docks) at (at + 15 + 10 * n) three (length_sum front docks 15 (10 * n) at size long) (omega (arith, l))
    ∙ ap (put m₀ at) (append_assoc front docks (10 ∷ []) ∙ carrier_put f i)
  where
    length_sum : (xs ys : List ℕ) (p p' at : ℕ) → length xs ≡ p → length ys ≡ p' → at + length (xs ++ ys) ≡ at + p + p'
    length_sum xs ys p p' at hx hy = rw length-append (omega (arith, hx, hy))

-- The column past a carrier's line lies before the walls' lines.
pub carrier_step : (f : Floor) (i n : ℕ) → i < n → carrier_at f (suc i) ≤ carrier_at f n
unfolding carrier_at
carrier_step f i zero l = absurd (omega arith)
carrier_step f i (suc n) l =
    below_more (λ (j : ℕ). carrier_at f (suc j) ≤ carrier_at f (suc n)) n (λ j b. omega (arith, carrier_step f j n b)) (omega arith) i
    (omega arith)

-- Lines of at most four docks are at most 56 bytes long.
pub carriers_high : (f : Floor) (n : ℕ) → ((i : ℕ) → i < n → count_of f i ≤ 4) → carrier_at f n ≤ 31 + 56 * n
unfolding carrier_at counted_length
carriers_high f zero h = omega arith
carriers_high f (suc n) h = omega (arith, h n (omega arith), carriers_high f n (λ i l. h i (omega arith)))

-- Fewer lines end no later.
pub whole_lines : (f : Floor) (i n : ℕ) → i ≤ n → carrier_at f i ≤ carrier_at f n
unfolding carrier_at
whole_lines f i zero l = let e : i ≡ zero = omega arith in rw e (omega arith)
whole_lines f i (suc n) l =
    below_more (λ (j : ℕ). carrier_at f j ≤ carrier_at f (suc n)) (suc n) (λ j b. omega (arith, whole_lines f j n (omega arith)))
    (omega arith) i (omega arith)
