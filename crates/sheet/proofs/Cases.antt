-- Document 01's sheet and some damaged ones, computed from the definitions.
use Prim.Native.Nat.{ℕ}
use mathlib.Core.Path.{◌≡◌, refl}
use mathlib.Core.List.{List, [], ◌∷◌, ◌++◌}
use lib.ListN.{set, take}
use Rattle.floor.specs.declared.Floor.{Floor}
use Rattle.laws.specs.Verdict.{Verdict, passed, refused, ◌then◌, demand, in_turn, demand_each, each}
use Rattle.floor.specs.Checks.{within, limits_of, start_of, count_of, docks_of, dock_of, in_grid, docks_in_grid, carrier_in_grid, carriers_of}
use Rattle.floor.specs.Checks.{walls_of, rises, rising_of, among, docks_clear, clear_of_walls, clear_of, unshared, distinct_of, unrepeated}
use Rattle.floor.specs.Checks.{unrepeated_of, places_of}
use Rattle.floor.specs.OneDock.{one_each, with_one_dock}
use Rattle.laws.specs.Memory.{part}
use Rattle.fields.specs.Field.{column, field_of, number, number_at, is_field}
use Rattle.fields.specs.Form.{field_form, newline_form, line_form, count_form, counted_form, counted_length, past_counted, past_pair, column_past}
use Rattle.fields.specs.Form.{lines_form, end_form}
use Rattle.sheet.specs.Text.{line_of, lines_of, head_line, cell_numbers, carrier_line, wall_line, sheet_of, carrier_at, wall_at}
use Rattle.sheet.specs.Form.{carrier_column, wall_column, rest_form}
use Rattle.sheet.specs.Values.{value_at, cell_of, listed, cell_at_column, up_to, start_in, count_in, dock_in, place_in, starts_at, counts_at}
use Rattle.sheet.specs.Values.{docks_at}
use Rattle.sheet.specs.Values.{head_at, floor_at, walls_from, walls_at}
use Rattle.sheet.specs.Read.{form_of, sheet_verdict}

-- The floor of document 01, 'The sheet'; each carrier has one dock.
document_floor : Floor
document_floor =
    with_one_dock (record {
      width = 3;
      height = 2;
      horizon = 4;
      depth = 1;
      carriers = 2;
      walls = 0;
      starts = 0 ∷ 2 ∷ 0 ∷ 0 ∷ 0 ∷ 0 ∷ 0 ∷ 0 ∷ [];
      goals = 2 ∷ 0 ∷ 0 ∷ 0 ∷ 0 ∷ 0 ∷ 0 ∷ 0 ∷ [];
    })

-- Its sheet as the paper prints it, with a count of 1 in each carrier's line; a line of bytes for each line.
unfoldable pub document_sheet : List ℕ
document_sheet =
    32 ∷ 32 ∷ 32 ∷ 32 ∷ 51 ∷ 32 ∷ 32 ∷ 32 ∷ 32 ∷ 50 ∷ 32 ∷ 32 ∷ 32 ∷ 32 ∷ 52 ∷ 32 ∷ 32 ∷ 32 ∷ 32 ∷ 49 ∷ 32 ∷ 32 ∷ 32 ∷ 32 ∷ 50 ∷ 32 ∷ 32
    ∷ 32 ∷ 32 ∷ 48 ∷ 10 ∷
    32 ∷ 32 ∷ 32 ∷ 32 ∷ 48 ∷ 32 ∷ 32 ∷ 32 ∷ 32 ∷ 48 ∷ 32 ∷ 32 ∷ 32 ∷ 32 ∷ 49 ∷ 32 ∷ 32 ∷ 32 ∷ 32 ∷ 50 ∷ 32 ∷ 32 ∷ 32 ∷ 32 ∷ 48 ∷ 10 ∷
    32 ∷ 32 ∷ 32 ∷ 32 ∷ 50 ∷ 32 ∷ 32 ∷ 32 ∷ 32 ∷ 48 ∷ 32 ∷ 32 ∷ 32 ∷ 32 ∷ 49 ∷ 32 ∷ 32 ∷ 32 ∷ 32 ∷ 48 ∷ 32 ∷ 32 ∷ 32 ∷ 32 ∷ 48 ∷ 10 ∷
    []

-- The text of the floor is the sheet that the paper prints.
document_written : sheet_of document_floor [] ≡ document_sheet
unfolding document_floor document_sheet sheet_of head_line line_of lines_of cell_numbers carrier_line wall_line field_of column start_of count_of
    docks_of dock_of part with_one_dock one_each
document_written = refl

-- What reading says of a text, with what it computes by: the form and the values, the checks of line 1, the checks of places.
formed : List ℕ → Verdict
unfolding sheet_verdict form_of line_form lines_form rest_form end_form newline_form field_form count_form counted_form is_field number_at number column
formed text = sheet_verdict text

valued : List ℕ → Verdict
unfolding formed head_at floor_at walls_at walls_from value_at cell_of cell_at_column start_in count_in dock_in place_in starts_at counts_at docks_at up_to
    listed
    carrier_at wall_at carrier_column wall_column column_past past_counted past_pair counted_length
valued text = formed text

placed : List ℕ → Verdict
unfolding valued places_of carriers_of walls_of rising_of clear_of distinct_of unrepeated_of carrier_in_grid in_grid docks_in_grid each start_of count_of
    docks_of dock_of part rises clear_of_walls docks_clear unshared unrepeated among
placed text = valued text

verdict : List ℕ → Verdict
unfolding placed limits_of within demand ◌then◌ in_turn demand_each
verdict text = placed text

-- Carrier 2 with two docks, cells 0 and 1, and with cell 0 twice.
two_docks : ℕ → List ℕ
two_docks col =
    take 71 document_sheet
    ++ (50 ∷ 32 ∷ 32 ∷ 32 ∷ 32 ∷ 48 ∷ 32 ∷ 32 ∷ 32 ∷ 32 ∷ 48 ∷ 32 ∷ 32 ∷ 32 ∷ 32 ∷ col ∷ 32 ∷ 32 ∷ 32 ∷ 32 ∷ 48 ∷ 10 ∷ [])

-- The sheet is read; nothing at all is refused at 0; cut inside its third field, with its length; a byte too many, at 83; a leading
-- zero in the first field; carriers 0; carrier 2 with carrier 1's start; dock counts 0 and 5 at the count's first column; a count cut
-- short, with the length; two docks; a dock twice.
cases : List Verdict
cases =
    verdict document_sheet
    ∷ verdict []
    ∷ verdict (take 12 document_sheet)
    ∷ verdict (document_sheet ++ (32 ∷ []))
    ∷ verdict (set document_sheet 3 48)
    ∷ verdict (set document_sheet 24 48)
    ∷ verdict (set document_sheet 61 48)
    ∷ verdict (set document_sheet 45 48)
    ∷ verdict (set document_sheet 45 53)
    ∷ verdict (take 44 document_sheet)
    ∷ verdict (two_docks 49)
    ∷ verdict (two_docks 48)
    ∷ []

cases_hold : cases
    ≡ passed ∷ refused 1 0 ∷ refused 1 12 ∷ refused 1 83 ∷ refused 1 0 ∷ refused 2 5 ∷ refused 6 2 ∷ refused 1 41 ∷ refused 1 41
    ∷ refused 1 44 ∷ passed ∷ refused 17 2 ∷ []
unfolding cases verdict document_sheet two_docks
cases_hold = refl
