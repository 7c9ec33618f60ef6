-- Reading a sheet and writing one, with their refusals in document 01's order.
use Rattle.std.specs.Prelude.{ℕ, List, ◌++◌, length, drop}
use Rattle.floor.specs.declared.Floor.{Floor}
use Rattle.laws.specs.Verdict.{Verdict, ◌then◌, when_passed}
use Rattle.floor.specs.Checks.{limits_of, places_of, check_of, long_enough}
use Rattle.floor.specs.Fresh.{fresh_floor}
use Rattle.sheet.specs.Text.{sheet_of, sheet_length}
use Rattle.fields.specs.Form.{line_form}
use Rattle.sheet.specs.Form.{rest_form}
use Rattle.sheet.specs.Values.{head_at, floor_at, walls_at}

-- Line 1's form, then 2, then the other lines' form.
unfoldable pub form_of : List ℕ → Verdict
form_of text = line_form text 0 6 then limits_of (head_at text) then rest_form text (head_at text)

-- Then 3, 4, 5, 6, 17.
unfoldable pub sheet_verdict : List ℕ → Verdict
sheet_verdict text = form_of text then places_of (floor_at text) (walls_at text)

-- Then 9, where fewer places are lent for walls than the floor has.
unfoldable pub read_verdict : List ℕ → ℕ → Verdict
read_verdict text lent = sheet_verdict text then long_enough (floor_at text).walls lent

-- The floor that reading hands back; with a refusal it hands back none, and the fresh floor stands here.
unfoldable pub read_floor : List ℕ → ℕ → Floor
read_floor text lent = when_passed (read_verdict text lent) (floor_at text) fresh_floor

-- The lent wall memory after reading: the walls in front, and the rest as it was; all as it was with a refusal.
unfoldable pub read_walls : List ℕ → List ℕ → List ℕ
read_walls text old = when_passed (read_verdict text (length old)) (walls_at text ++ drop (floor_at text).walls old) old

-- Writing: the checks of the record, then 9 where fewer bytes are lent than the sheet has.
unfoldable pub write_verdict : Floor → List ℕ → ℕ → Verdict
write_verdict f ws lent = check_of f ws then long_enough (sheet_length f) lent

-- The lent sheet memory after writing.
unfoldable pub write_sheet : Floor → List ℕ → List ℕ → List ℕ
write_sheet f ws old = when_passed (write_verdict f ws (length old)) (sheet_of f ws ++ drop (sheet_length f) old) old
