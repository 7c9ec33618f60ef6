-- The marks of a cell at a beat, by the tests that the code makes on the answers in a memory.
use Prim.Native.Nat.{ℕ, ◌+◌, ◌*◌, ◌≤◌}
use native.Mathlib.Omega.{arith}
use mathlib.Core.Bool.{true, false, cond}
use mathlib.Core.Logic.{⊎_elim}
use mathlib.Core.Path.{◌≡◌, sym, ◌∙◌}
use mathlib.Core.List.{List, [], ◌∷◌}
use borrow.Author.Tests.{eq-eqb, ne_eqb}
use lib.Dec.{eqb}
use lib.ListN.{length, get_or}
use Rattle.laws.specs.Memory.{part}
use Rattle.laws.proofs.PartLaws.{part_byte}
use Rattle.laws.proofs.Tests.{true_or_false}
use Rattle.floor.specs.declared.Floor.{Floor}
use Rattle.floor.specs.Checks.{start_of, among}
use Rattle.route.specs.Route.{cell_at, Answer, none, route}
use Rattle.records.specs.Records.{view_of, record_at, view_at, shown, answer_in}
use Rattle.reporting.specs.Put.{PutAt}
use Rattle.maps.specs.Text.{one_of}
use Rattle.maps.specs.Map.{start_marks, dock_marks}
use Rattle.maps.proofs.MarkLaws.{cond_there, cond_away, cond_short}
use Rattle.frames.specs.Text.{still_mark, present_of}

-- The answer in a record by its tag.
tag_none : (tag : ℕ) (cells : List ℕ) → eqb tag 2 ≡ false → shown (view_of tag cells) ≡ none
unfolding view_of shown
tag_none tag cells e =
    ⊎_elim (λ (h : eqb tag 1 ≡ true). rw (e, view_of, h)) (λ (h : eqb tag 1 ≡ false). rw (e, view_of, h)) (true_or_false (eqb tag 1))

tag_route : (tag : ℕ) (cells : List ℕ) → eqb tag 2 ≡ true → shown (view_of tag cells) ≡ route cells
unfolding view_of shown
tag_route tag cells e = rw (e, view_of)

pub answer_none : (m : List ℕ) (i : ℕ) → (get_or m (65 * i) 0 ≡ 2 → ⊥) → answer_in m i ≡ none
unfolding answer_in view_at record_at
answer_none m i h = tag_none _ _ (ne_eqb _ 2 h)

pub answer_route : (m : List ℕ) (i : ℕ) → get_or m (65 * i) 0 ≡ 2 → answer_in m i ≡ route (part m (65 * i + 1) 64)
unfolding answer_in view_at record_at
answer_route m i h = tag_route _ _ (eq-eqb _ 2 h)

-- What a carrier puts into a cell: without a route, with its route there, and with its route elsewhere.
module _ (f : Floor) (m : List ℕ) (t c i : ℕ) (old : List ℕ) (at : ℕ) where
  pub stranded_put : (new : List ℕ) (n : ℕ) → (get_or m (65 * i) 0 ≡ 2 → ⊥) → PutAt (present_of f 0 c i none) old at new n →
      PutAt (present_of f t c i (answer_in m i)) old at new n
  unfolding present_of
  stranded_put new n h p = rw (answer_none m i h) p

  cell_then : t ≤ 63 → cell_at (part m (65 * i + 1) 64) t ≡ get_or m (65 * i + 1 + t) 0
  unfolding cell_at
  cell_then l = part_byte m (65 * i + 1) 64 t (omega arith)

  pub there_put : (new : List ℕ) (n : ℕ) → get_or m (65 * i) 0 ≡ 2 → t ≤ 63 → get_or m (65 * i + 1 + t) 0 ≡ c →
      PutAt ((49 + i) ∷ []) old at new n → PutAt (present_of f t c i (answer_in m i)) old at new n
  unfolding present_of
  there_put new n h l e p = rw (answer_route m i h) (cond_there _ _ _ _ _ _ (eq-eqb _ c (cell_then l ∙ e)) p)

  pub away_put : get_or m (65 * i) 0 ≡ 2 → t ≤ 63 → (get_or m (65 * i + 1 + t) 0 ≡ c → ⊥) →
      PutAt (present_of f t c i (answer_in m i)) old at old at
  unfolding present_of
  away_put h l e = rw (answer_route m i h) (cond_away _ _ _ _ (ne_eqb _ c (λ z. e (sym (cell_then l) ∙ z))))

present_short : (f : Floor) (t c i : ℕ) (x : Answer) → length (present_of f t c i x) ≤ 1
unfolding present_of
present_short f t c i none = cond_short (eqb (start_of f i) c) ((65 + i) ∷ []) 1 (omega arith)
present_short f t c i (route r) = cond_short (eqb (cell_at r t) c) ((49 + i) ∷ []) 1 (omega arith)

pub presents_short : (f : Floor) (xs : ℕ → Answer) (t c i : ℕ) → length (present_of f t c i (xs i)) ≤ 1
presents_short f xs t c i = present_short f t c i (xs i)

-- What a cell shows where no carrier is.
module _ (f : Floor) (ws : List ℕ) (c : ℕ) where
  pub still_wall : among ws f.walls c ≡ true → 35 ≡ still_mark f ws c
  unfolding still_mark
  still_wall e = rw e

  pub still_else : (k : ℕ) → among ws f.walls c ≡ false →
      one_of (dock_marks f c) (cond (eqb (length (start_marks f c)) 0) 46 45) 43 ≡ k → k ≡ still_mark f ws c
  unfolding still_mark
  still_else k e h = rw e (sym h)
