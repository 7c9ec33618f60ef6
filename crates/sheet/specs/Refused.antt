-- The table of refusals for a sheet, as statements: one constructor a row, with number and place, under exactly document 01's
-- condition. Each holds only where no earlier row does, and each names its first place.
use Rattle.std.specs.Prelude.{ℕ, zero, suc, ◌+◌, ◌*◌, ◌≤◌, ◌<◌, ◌≡◌, List, [], ◌∷◌, ◌++◌, length, get_or}
use Rattle.floor.specs.declared.Floor.{Floor}
use Rattle.floor.specs.Accepted.{FieldWithin, Limited}
use Rattle.laws.specs.Verdict.{First}
use Rattle.floor.specs.Refused.{RefusedWith}
use Rattle.fields.specs.Field.{field_of, number_at}
use Rattle.sheet.specs.Form.{carrier_column, wall_column}
use Rattle.sheet.specs.Values.{head_at, floor_at, walls_at}

-- What must stand at a column: a field, a dock count, a newline, or nothing more.
pub data Slot : Type 0 where
  field count newline finish : ℕ → Slot

-- The five bytes from a column on are the text of a number.
pub record GoodField (text : List ℕ) (at : ℕ) : Type 0 where
  pub value : ℕ
  pub small : value < 100000
  pub bytes : (i : ℕ) → i < 5 → get_or text (at + i) 0 ≡ get_or (field_of value) i 0

-- They are the text of a number of 1 to 4.
pub record GoodCount (text : List ℕ) (at : ℕ) : Type 0 where
  pub good : GoodField text at
  pub least : 1 ≤ good.value
  pub most : good.value ≤ 4

-- A slot is as it must be.
abbrev pub Fine : List ℕ → Slot → Type 0
Fine text (field at) = (at + 5 ≤ length text) × GoodField text at
Fine text (count at) = (at + 5 ≤ length text) × GoodCount text at
Fine text (newline at) = (at < length text) × (get_or text at 0 ≡ 10)
Fine text (finish at) = length text ≤ at

-- A slot is not, with the place of its refusal: the sheet's length if it ends early, else the slot's column.
pub data Broken (text : List ℕ) : Slot → ℕ → Type 0 where
  cut : {at : ℕ} → length text < at + 5 → Broken text (field at) (length text)
  bad : {at : ℕ} → at + 5 ≤ length text → (GoodField text at → ⊥) → Broken text (field at) at
  cut_count : {at : ℕ} → length text < at + 5 → Broken text (count at) (length text)
  bad_count : {at : ℕ} → at + 5 ≤ length text → (GoodCount text at → ⊥) → Broken text (count at) at
  ended : {at : ℕ} → length text ≤ at → Broken text (newline at) (length text)
  wrong : {at : ℕ} → at < length text → (get_or text at 0 ≡ 10 → ⊥) → Broken text (newline at) at
  extra : {at : ℕ} → at < length text → Broken text (finish at) at

-- All slots are fine; the first that is not has place p.
pub data AllFine (text : List ℕ) : List Slot → Type 0 where
  none_left : AllFine text []
  one_more : {x : Slot} {xs : List Slot} → Fine text x → AllFine text xs → AllFine text (x ∷ xs)

pub data FirstBroken (text : List ℕ) : List Slot → ℕ → Type 0 where
  here : {x : Slot} {xs : List Slot} {p : ℕ} → Broken text x p → FirstBroken text (x ∷ xs) p
  later : {x : Slot} {xs : List Slot} {p : ℕ} → Fine text x → FirstBroken text xs p → FirstBroken text (x ∷ xs) p

-- The slots of k fields, of a line, of a carrier's line, of k lines, of line 1 and of what follows it, in their order.
unfoldable pub field_slots : ℕ → ℕ → List Slot
field_slots at zero = []
field_slots at (suc k) = field_slots at k ++ (field (at + 5 * k) ∷ [])

unfoldable pub line_slots : ℕ → ℕ → List Slot
line_slots at k = field_slots at k ++ (newline (at + 5 * k) ∷ [])

unfoldable pub carrier_slots : List ℕ → ℕ → List Slot
carrier_slots text at = field at ∷ field (at + 5) ∷ count (at + 10) ∷ line_slots (at + 15) (2 * number_at text (at + 10))

unfoldable pub lines_slots : (ℕ → List Slot) → ℕ → List Slot
lines_slots line zero = []
lines_slots line (suc k) = lines_slots line k ++ line k

unfoldable pub head_slots : List Slot
head_slots = line_slots 0 6

unfoldable pub rest_slots : List ℕ → Floor → List Slot
rest_slots text f =
    lines_slots (λ i. carrier_slots text (carrier_column text i)) f.carriers
    ++ (lines_slots (λ j. line_slots (wall_column text f.carriers j) 2) f.walls
    ++ (finish (wall_column text f.carriers f.walls) ∷ []))

pub data RefusedSheet (text : List ℕ) : ℕ → ℕ → Type 0 where
  -- 1, byte offset: line 1's form is wrong.
  head_form : {p : ℕ} → FirstBroken text head_slots p → RefusedSheet text 1 p
  -- 2, field: line 1 has a value outside its limits.
  outside_limit : {i : ℕ} → AllFine text head_slots → First (FieldWithin (head_at text)) 6 i → RefusedSheet text 2 (1 + i)
  -- 1, byte offset: the form of the other lines is wrong.
  rest_form_lem : {p : ℕ} → AllFine text head_slots → Limited (head_at text) → FirstBroken text (rest_slots text (head_at text)) p
      → RefusedSheet text 1 p
  -- 3, 4, 5, 6, 17: as for a record, on the floor that the text says.
  floor_row : {k p : ℕ} → AllFine text head_slots → Limited (head_at text) → AllFine text (rest_slots text (head_at text))
      → RefusedWith (floor_at text) (walls_at text) k p → RefusedSheet text k p
