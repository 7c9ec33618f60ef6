-- Cases of the conflict test computed from its definition: same cell, change of places, following, two at one beat, at the last beat and
-- past it, and numbers that are no cells of a grid.
use Prim.Native.Nat.{ℕ}
use mathlib.Core.List.{List, [], ◌∷◌}
use mathlib.Core.Path.{◌≡◌, refl}
use Rattle.route.specs.Route.{cell_at}
use Rattle.route.specs.FirstConflict.{same_cell, change_of_places, following, free, dated}
use Rattle.route.specs.ConflictTest.{changes, enters, follows, is_conflict, kinds, first_kind, or_next, first_below, first_conflict}

-- Three cells in a row.
abbrev three : ℕ → ℕ → ℕ → List ℕ
three a b c = a ∷ b ∷ c ∷ []

-- The first follows the second, and the second the first: dated by the beat before the entry.
first_follows : first_conflict 2 (three 0 0 1) (three 1 1 2) ≡ dated 1 following
unfolding cell_at changes enters follows is_conflict kinds first_kind or_next first_below first_conflict
first_follows = refl

second_follows : first_conflict 2 (three 1 2 3) (three 0 1 2) ≡ dated 0 following
unfolding cell_at changes enters follows is_conflict kinds first_kind or_next first_below first_conflict
second_follows = refl

-- A following that begins at the last beat does not count.
follows_past_the_last : first_conflict 1 (three 0 0 1) (three 1 1 2) ≡ free
unfolding cell_at changes enters follows is_conflict kinds first_kind or_next first_below first_conflict
follows_past_the_last = refl

-- A cell that is left one beat and entered the next is no following.
a_beat_between : first_conflict 3 (0 ∷ 0 ∷ 1 ∷ 2 ∷ []) (1 ∷ 2 ∷ 3 ∷ 3 ∷ []) ≡ free
unfolding cell_at changes enters follows is_conflict kinds first_kind or_next first_below first_conflict
a_beat_between = refl

-- Entering the cell of one that stays is one cell, a beat later.
entered_one_that_stays : first_conflict 2 (three 0 1 1) (three 1 1 1) ≡ dated 1 same_cell
unfolding cell_at changes enters follows is_conflict kinds first_kind or_next first_below first_conflict
entered_one_that_stays = refl

-- Both come to cell 1 at beat 1.
same_cell_lem : first_conflict 2 (three 0 1 2) (three 2 1 0) ≡ dated 1 same_cell
unfolding cell_at changes enters follows is_conflict kinds first_kind or_next first_below first_conflict
same_cell_lem = refl

-- They change places between beats 1 and 2, which is dated by beat 1.
change_of_places_lem : first_conflict 2 (three 0 1 2) (three 3 2 1) ≡ dated 1 change_of_places
unfolding cell_at changes enters follows is_conflict kinds first_kind or_next first_below first_conflict
change_of_places_lem = refl

-- Both stay in cell 5, which is both kinds at beat 0: same cell comes first.
both_at_once : first_conflict 2 (three 5 5 0) (three 5 5 1) ≡ dated 0 same_cell
unfolding cell_at changes enters follows is_conflict kinds first_kind or_next first_below first_conflict
both_at_once = refl

-- A change of places at beat 0 comes before a cell that both are in at beat 2.
earlier_beat : first_conflict 2 (three 0 1 9) (three 1 0 9) ≡ dated 0 change_of_places
unfolding cell_at changes enters follows is_conflict kinds first_kind or_next first_below first_conflict
earlier_beat = refl

-- One cell at the last beat counts; one past it, and a change of places that begins at it, do not.
last_beat : first_conflict 2 (three 0 1 7) (three 3 4 7) ≡ dated 2 same_cell
unfolding cell_at changes enters follows is_conflict kinds first_kind or_next first_below first_conflict
last_beat = refl

past_the_last : first_conflict 1 (three 0 1 7) (three 3 4 7) ≡ free
unfolding cell_at changes enters follows is_conflict kinds first_kind or_next first_below first_conflict
past_the_last = refl

change_past_the_last : first_conflict 1 (three 0 1 2) (three 3 2 1) ≡ free
unfolding cell_at changes enters follows is_conflict kinds first_kind or_next first_below first_conflict
change_past_the_last = refl

-- Jumps and numbers outside every grid are compared like others.
jumps : first_conflict 1 (three 0 65535 0) (three 65535 0 1) ≡ dated 0 change_of_places
unfolding cell_at changes enters follows is_conflict kinds first_kind or_next first_below first_conflict
jumps = refl
