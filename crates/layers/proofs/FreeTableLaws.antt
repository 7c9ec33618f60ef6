-- The free table of a search: the free cells at each beat without those of the views.
use Prim.Native.Nat.{ℕ, zero, suc, ◌+◌, ◌*◌, ◌/◌, ◌%◌, ◌≤◌, ◌<◌}
use native.Mathlib.Omega.{arith}
use native.Mathlib.Numerals.{add-one}
use mathlib.Core.Bool.{Bool, true, false, ◌&&◌, and-true, and_comm, and_assoc}
use mathlib.Core.List.{List}
use mathlib.Core.Logic.{◌↔◌}
use mathlib.Core.Path.{◌≡◌, refl, sym, ap₂, ◌∙◌, ap}
use borrow.Author.Tests.{ltb-true}
use lib.Dec.{eqb, ltb}
use lib.ListN.{get_or}
use Rattle.records.proofs.ViewsLaws.{every_more}
use Rattle.layers.proofs.FreeLaws.{free_shown, free_tidy}
use Rattle.route.specs.Route.{View}
use Rattle.route.specs.Moves.{vacant, every}
use Rattle.laws.proofs.Tests.{and_both, and_fst, and_snd, same_test, below_same, inside_same}
use Rattle.bitrows.specs.Rows.{has, Clean}
use Rattle.bitrows.proofs.RowsLaws.{place_row}
use Rattle.layers.specs.declared.SearchGrid.{SearchGrid}
use Rattle.records.specs.Records.{records, view_at, view_cell, Away}
use Rattle.layers.specs.Table.{in_set, word_of}
use Rattle.layers.specs.FreeTable.{FreeBeats, TakenBeats, stands_at, IsFreeTable}
use Rattle.records.proofs.CellLaws.{vacant_cell}

-- What can be stood on among no views is what is free.
free_stands : (g : SearchGrid) (free m table : List ℕ) (t c : ℕ) → 1 ≤ g.width → g.cells ≤ 32 * g.width →
    ((row : ℕ) → row < 32 → get_or table (word_of t row) 0 ≡ get_or free row 0) → in_set g table t c ≡ stands_at g 0 free m t c
unfolding in_set stands_at records every has
free_stands g free m table t c thin low same =
    below_same c g.cells (has table (word_of t (c / g.width)) (c % g.width)) (has free (c / g.width) (c % g.width))
    (λ l. rw (same (c / g.width) (place_row g.width c thin (omega arith))))
    ∙ sym (and-true (ltb c g.cells && has free (c / g.width) (c % g.width)))

-- The free cells at every beat are the free table of no views.
pub free_table_none : (g : SearchGrid) (free m table : List ℕ) (n : ℕ) → 1 ≤ g.width → g.cells ≤ 32 * g.width → g.horizon < n → n ≤ 64 →
    FreeBeats free n table → Clean g.width g.cells free → IsFreeTable g 0 free m table
free_table_none g free m table n thin low late few beats clean = record {
  tidy = free_tidy free table n g beats few clean;
  agrees = λ t c h. free_stands g free m table t c thin low (λ row l. free_shown free table n t row beats (omega arith) l);
}

-- What can be stood on among one more view.
stands_more : (g : SearchGrid) (free m : List ℕ) (j t c : ℕ) → stands_at g (suc j) free m t c ≡
    (stands_at g j free m t c && vacant g.horizon t c (view_at m j))
unfolding stands_at
stands_more g free m j t c =
    ap (λ (x : Bool). here && x) (every_more φ m j ∙ and_comm (φ (view_at m j)) (every φ (records m j)))
    ∙ sym (and_assoc here (every φ (records m j)) (φ (view_at m j)))
  where
    φ : View → Bool
    φ = vacant g.horizon t c

    here : Bool
    here = ltb c g.cells && has free (c / g.width) (c % g.width)

-- What is in a set is a cell of the grid.
set_cell : (g : SearchGrid) (sets : List ℕ) (t c : ℕ) → in_set g sets t c ≡ true → c < g.cells
unfolding in_set
set_cell g sets t c e = ltb-true c g.cells (and_fst (ltb c g.cells) _ e)

-- The free table of one more view.
pub free_table_more : (g : SearchGrid) (free m table after : List ℕ) (j : ℕ) → g.width ≤ 32 → g.cells ≤ 32 * g.width → g.horizon ≤ 63 →
    TakenBeats g m j (g.horizon + 1) table after → IsFreeTable g j free m table → IsFreeTable g (j + 1) free m after
free_table_more g free m table after j narrow low short gone old = record { tidy = gone.tidy; agrees = agrees }
  where
    agrees : (t c : ℕ) → t ≤ g.horizon → in_set g after t c ≡ stands_at g (j + 1) free m t c
    agrees t c h = rw (add-one, stands_more g free m j t c, ← old.agrees t c h) (same_test _ _ says back)
      where
        vacancy : c < g.cells → (vacant g.horizon t c (view_at m j) ≡ true) ↔ Away m j (suc g.horizon) t c
        vacancy l = vacant_cell m j g.horizon t c short h (omega arith)

        says : in_set g after t c ≡ true → (in_set g table t c && vacant g.horizon t c (view_at m j)) ≡ true
        says e =
            let p = (gone.taken t c h).0 e in
            and_both p.0 ((vacancy (set_cell g table t c p.0)).1 (λ u l. p.1 u (omega arith)))

        back : (in_set g table t c && vacant g.horizon t c (view_at m j)) ≡ true → in_set g after t c ≡ true
        back e =
            let there = and_fst (in_set g table t c) _ e in
            (gone.taken t c h).1
            (there, λ u l. (vacancy (set_cell g table t c there)).0 (and_snd (in_set g table t c) _ e) u (omega arith))

-- A view's cell depends on its record alone.
cell_same : (m m' : List ℕ) (j t : ℕ) → ((i : ℕ) → i < 65 * j + 65 → get_or m i 0 ≡ get_or m' i 0) → t < 64 → view_cell m j t ≡ view_cell m' j t
unfolding view_cell
cell_same m m' j t same h =
    ap₂ (λ (tag cell : ℕ). elim (eqb tag 2) [ true ↦ cell | false ↦ 65535 ]) (same (65 * j) (omega arith))
    (same (65 * j + 1 + t) (omega arith))

-- A cell is vacant among the first k views as their records say.
vacant_same : (m m' : List ℕ) (k H t c : ℕ) → ((i : ℕ) → i < 65 * k → get_or m i 0 ≡ get_or m' i 0) → H ≤ 63 → t ≤ H → c < 65535 →
    every (vacant H t c) (records m k) ≡ every (vacant H t c) (records m' k)
unfolding every records
vacant_same m m' zero H t c same short h l = refl
vacant_same m m' (suc k) H t c same short h l =
    every_more (vacant H t c) m k
    ∙ rw (here, vacant_same m m' k H t c (λ i u. same i (omega arith)) short h l) (sym (every_more (vacant H t c) m' k))
  where
    cell : (u : ℕ) → u < suc H → view_cell m k u ≡ view_cell m' k u
    cell u b = cell_same m m' k u (λ i v. same i (omega arith)) (omega arith)

    here : vacant H t c (view_at m k) ≡ vacant H t c (view_at m' k)
    here =
        same_test _ _
        (λ e. (vacant_cell m' k H t c short h l).1
        (λ u b up down p. (vacant_cell m k H t c short h l).0 e u b up down (p ∙ sym (cell u b))))
        (λ e. (vacant_cell m k H t c short h l).1 (λ u b up down p. (vacant_cell m' k H t c short h l).0 e u b up down (p ∙ cell u b)))

-- What can be stood on depends on the views' records alone.
stands_same : (g : SearchGrid) (free m m' : List ℕ) (k t c : ℕ) → g.width ≤ 32 → g.cells ≤ 32 * g.width →
    ((i : ℕ) → i < 65 * k → get_or m i 0 ≡ get_or m' i 0) → g.horizon ≤ 63 → t ≤ g.horizon →
    stands_at g k free m t c ≡ stands_at g k free m' t c
unfolding stands_at
stands_same g free m m' k t c narrow low same short h =
    inside_same c g.cells (has free (c / g.width) (c % g.width)) _ _
    (λ l. vacant_same m m' k g.horizon t c same short h (omega arith))

-- The free table among the first k views is the same in any memory with the same records of them.
pub free_table_same : (g : SearchGrid) (free m m' table : List ℕ) (k : ℕ) → g.width ≤ 32 → g.cells ≤ 32 * g.width → g.horizon ≤ 63 →
    ((i : ℕ) → i < 65 * k → get_or m i 0 ≡ get_or m' i 0) → IsFreeTable g k free m table → IsFreeTable g k free m' table
free_table_same g free m m' table k narrow low short same old = record {
  tidy = old.tidy;
  agrees = λ t c h. old.agrees t c h ∙ stands_same g free m m' k t c narrow low same short h;
}
