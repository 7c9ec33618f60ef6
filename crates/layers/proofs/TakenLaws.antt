-- A cell taken out of a table at the beats of a range, and the cells of a view, each at its beat and those beside it.
use Prim.Native.Nat.{ℕ, ◌+◌, ◌*◌, ◌-◌, ◌/◌, ◌%◌, ◌≤◌, ◌<◌}
use native.Mathlib.Omega.{arith}
use native.Mathlib.Nat.{div-add-mod', eq-or-lt_of_le}
use mathlib.Core.Bool.{true, ◌&&◌, not, and-true, and_assoc}
use mathlib.Core.List.{List}
use mathlib.Core.Logic.{⊎_elim, ◌↔◌}
use mathlib.Core.Path.{◌≡◌, refl, sym, ◌∙◌}
use borrow.Author.Tests.{eqb-true, eq-eqb, ne_eqb, ltb-true}
use lib.Dec.{eqb, ltb}
use lib.ListN.{get_or}
use lib.Seq.{get_or-set_other}
use Rattle.laws.proofs.Tests.{and_both, and_fst, and_snd, not_is_true, not_refutes, lt_or_le, eq_or_ne}
use Rattle.laws.proofs.Tests.{eqbs_say, eqbs_hold, same_test, below_same}
use Rattle.bitrows.specs.Rows.{has, dropped}
use Rattle.bitrows.proofs.RowsLaws.{place_row, has_dropped, length_dropped}
use Rattle.layers.specs.declared.SearchGrid.{SearchGrid}
use Rattle.layers.specs.declared.Place.{Place}
use Rattle.records.specs.Records.{view_cell, Away}
use Rattle.layers.specs.Table.{Grid, PlaceOf, in_set, Tidy, word_of}
use Rattle.layers.proofs.WordLaws.{word_low, word_beat, word_same}
use Rattle.layers.specs.FreeTable.{TakenCell, Parked, TakenBeats}

module _ (g : SearchGrid) (table : List ℕ) (a x : ℕ) (thin : 1 ≤ g.width) (low : g.cells ≤ 32 * g.width) (tidy : Tidy g table)
    (here : a < 64) (cell : x < g.cells) where
  -- The table without cell x at beat a.
  abbrev less : List ℕ
  less = dropped table (word_of a (x / g.width)) (x % g.width)

  -- The row of a cell.
  row_of : (c : ℕ) → c < g.cells → c / g.width < 32
  row_of c l = place_row g.width c thin (omega arith)

  -- The word of cell x.
  word_in : word_of a (x / g.width) < 2048
  word_in = word_low a (x / g.width) here (row_of x cell)

  less_has : (i column : ℕ) → has less i column ≡ (has table i column && not (eqb i (word_of a (x / g.width)) && eqb column (x % g.width)))
  less_has i column = has_dropped table (word_of a (x / g.width)) (x % g.width) i column (omega (arith, tidy.long, word_in))

  -- It has no digit more.
  less_fewer : (i column : ℕ) → has less i column ≡ true → has table i column ≡ true
  less_fewer i column e =
      and_fst (has table i column) (not (eqb i (word_of a (x / g.width)) && eqb column (x % g.width))) (sym (less_has i column) ∙ e)

  -- It is as long, its last word is empty, and it is tidy.
  less_empty : get_or less 2048 0 ≡ 0
  unfolding dropped
  less_empty = get_or-set_other table (word_of a (x / g.width)) 2048 _ 0 (λ e. omega (arith, e, word_in)) ∙ tidy.empty

  less_tidy : Tidy g less
  less_tidy = record {
    long = length_dropped table (word_of a (x / g.width)) (x % g.width) ∙ tidy.long;
    thin = λ i column e. tidy.thin i column (less_fewer i column e);
    rows = λ t row column h e. tidy.rows t row column h (less_fewer (word_of t row) column e);
    empty = less_empty;
  }

  -- Two cells have one place exactly if they are one.
  same_place : (c : ℕ) → c < g.cells →
      (eqb (word_of a (c / g.width)) (word_of a (x / g.width)) && eqb (c % g.width) (x % g.width)) ≡ eqb c x
  same_place c l = same_test _ _ says back
    where
      says : (eqb (word_of a (c / g.width)) (word_of a (x / g.width)) && eqb (c % g.width) (x % g.width)) ≡ true → eqb c x ≡ true
      says e =
          let p = eqbs_say (word_of a (c / g.width)) (word_of a (x / g.width)) (c % g.width) (x % g.width) e in
          let q : c / g.width ≡ x / g.width = word_same a a (c / g.width) (x / g.width) (row_of c l) (row_of x cell) p.0 in
          eq-eqb c x (sym (div-add-mod' c g.width) ∙ rw (q, p.1) (div-add-mod' x g.width))

      back : eqb c x ≡ true →
          (eqb (word_of a (c / g.width)) (word_of a (x / g.width)) && eqb (c % g.width) (x % g.width)) ≡ true
      back e = let p : c ≡ x = eqb-true c x e in rw p (eqbs_hold (word_of a (x / g.width)) (word_of a (x / g.width))
          (x % g.width) (x % g.width) (refl, refl))

  -- At its beat the cell is gone.
  less_here : (c : ℕ) → in_set g less a c ≡ (in_set g table a c && not (eqb c x))
  unfolding in_set
  less_here c =
      below_same c g.cells (has less i column) (has table i column && not (eqb c x)) (λ l. less_has i column ∙ rw (same_place c l))
      ∙ sym (and_assoc (ltb c g.cells) (has table i column) (not (eqb c x)))
    where
      i : ℕ
      i = word_of a (c / g.width)

      column : ℕ
      column = c % g.width

  -- At another beat nothing is.
  less_there : (t c : ℕ) → (t ≡ a → ⊥) → in_set g less t c ≡ in_set g table t c
  unfolding in_set
  less_there t c n = below_same c g.cells (has less i column) (has table i column) same
    where
      i : ℕ
      i = word_of t (c / g.width)

      column : ℕ
      column = c % g.width

      same : c < g.cells → has less i column ≡ has table i column
      same l =
          less_has i column
          ∙ rw
          (ne_eqb i (word_of a (x / g.width))
          (λ e. n (word_beat t a (c / g.width) (x / g.width) (row_of c l) (row_of x cell) e)))
          (and-true (has table i column))

  -- A cell of it is one of the table's, and not x at beat a.
  less_member : (t c : ℕ) → (in_set g less t c ≡ true) ↔ ((in_set g table t c ≡ true) × (t ≡ a → c ≡ x → ⊥))
  less_member t c = ⊎_elim at_beat elsewhere (eq_or_ne t a)
    where
      at_beat : t ≡ a → (in_set g less t c ≡ true) ↔ ((in_set g table t c ≡ true) × (t ≡ a → c ≡ x → ⊥))
      at_beat e = (says, λ p. rw e (less_here c ∙ and_both (rw e at p.0) (not_is_true (eqb c x) (λ k. p.1 e (eqb-true c x k)))))
        where
          says : in_set g less t c ≡ true → (in_set g table t c ≡ true) × (t ≡ a → c ≡ x → ⊥)
          says h =
              let both = sym (less_here c) ∙ (rw e at h) in (
                rw e (and_fst (in_set g table a c) (not (eqb c x)) both),
                λ _ k. not_refutes (eqb c x) (and_snd (in_set g table a c) (not (eqb c x)) both) (eq-eqb c x k),
              )

      elsewhere : (t ≡ a → ⊥) → (in_set g less t c ≡ true) ↔ ((in_set g table t c ≡ true) × (t ≡ a → c ≡ x → ⊥))
      elsewhere n = (λ h. (sym (less_there t c n) ∙ h, λ e. absurd (n e)), λ p. less_there t c n ∙ p.0)

-- A cell taken out at no beat; a number that is no cell taken out; one beat more.
pub cell_none : (g : SearchGrid) (table : List ℕ) (a x : ℕ) → Tidy g table → TakenCell g a a x table table
cell_none g table a x tidy = record { tidy = tidy; taken = λ t c. (λ e. (e, λ l u. absurd (omega arith)), λ p. p.0) }

pub cell_outside : (g : SearchGrid) (table : List ℕ) (a b x : ℕ) → Tidy g table → g.cells ≤ x → TakenCell g a b x table table
unfolding in_set
cell_outside g table a b x tidy l = record { tidy = tidy; taken = λ t c. (λ e. (e, λ _ _ k. other t c e k), λ p. p.0) }
  where
    other : (t c : ℕ) → in_set g table t c ≡ true → c ≡ x → ⊥
    other t c e k =
        absurd (omega (arith, k, ltb-true c g.cells (and_fst (ltb c g.cells) (has table (word_of t (c / g.width)) (c % g.width)) e)))

pub cell_more : (g : SearchGrid) (table then after : List ℕ) (a t x i : ℕ) (p : Place) → Grid g → x < g.cells → a ≤ t → t < 64 →
    PlaceOf g x p → i ≡ word_of t p.row → TakenCell g a t x table then → after ≡ dropped then i p.column →
    TakenCell g a (t + 1) x table after
cell_more g table then after a t x i p grid cell from here place e old h =
    rw (h, e, place.row, place.column)
    (record { tidy = less_tidy g then t x grid.thin grid.low old.tidy here cell; taken = λ u c. (says u c, back u c) })
  where
    new : List ℕ
    new = less g then t x grid.thin grid.low old.tidy here cell

    member : (u c : ℕ) → (in_set g new u c ≡ true) ↔ ((in_set g then u c ≡ true) × (u ≡ t → c ≡ x → ⊥))
    member u c = less_member g then t x grid.thin grid.low old.tidy here cell u c

    says : (u c : ℕ) → in_set g new u c ≡ true → (in_set g table u c ≡ true) × (a ≤ u → u < t + 1 → c ≡ x → ⊥)
    says u c k =
        let v = (member u c).0 k in
        let w = (old.taken u c).0 v.0 in (
          w.0,
          λ l b z. ⊎_elim (λ (y : u ≡ t). v.1 y z) (λ (y : u < t). w.1 l y z) (eq-or-lt_of_le (omega arith)),
        )

    back : (u c : ℕ) → (in_set g table u c ≡ true) × (a ≤ u → u < t + 1 → c ≡ x → ⊥) → in_set g new u c ≡ true
    back u c k =
        (member u c).1 ((old.taken u c).1 (k.0, λ l b. k.1 l (omega arith)), λ y. k.1 (omega arith) (omega arith))

-- No beat of a view taken out.
pub taken_none : (g : SearchGrid) (m table : List ℕ) (j : ℕ) → Tidy g table → TakenBeats g m j 0 table table
taken_none g m table j tidy = record { tidy = tidy; taken = λ t c h. (λ e. (e, λ u l. absurd (omega arith)), λ p. p.0) }

-- One beat more of it.
pub taken_more : (g : SearchGrid) (m table then after : List ℕ) (j n b x : ℕ) → TakenBeats g m j n table then → b ≡ n - 1 →
    x ≡ view_cell m j n → TakenCell g b (n + 2) x then after → TakenBeats g m j (n + 1) table after
taken_more g m table then after j n b x old f e new = record { tidy = new.tidy; taken = λ t c h. (says t c h, back t c h) }
  where
    says : (t c : ℕ) → t ≤ g.horizon → in_set g after t c ≡ true → (in_set g table t c ≡ true) × Away m j (n + 1) t c
    says t c h k =
        let last = (new.taken t c).0 k in
        let before = (old.taken t c h).0 last.0 in (
          before.0,
          λ u l up down p. ⊎_elim (λ (v : u ≡ n). last.1 (omega arith) (omega arith) ((rw v at p) ∙ sym e))
              (λ (v : u < n). before.1 u v up down p) (eq-or-lt_of_le (omega arith)),
        )

    back : (t c : ℕ) → t ≤ g.horizon → (in_set g table t c ≡ true) × Away m j (n + 1) t c → in_set g after t c ≡ true
    back t c h p =
        let before = (old.taken t c h).1 (p.0, λ u l. p.1 u (omega arith)) in
        (new.taken t c).1 (before, λ up down k. p.1 n (omega arith) (omega arith) (omega arith) (k ∙ e))

-- All beats of a view that keeps its cell from beat a on.
pub taken_parked : (g : SearchGrid) (m table then after : List ℕ) (j a b x : ℕ) → Parked m j a g.horizon →
    TakenBeats g m j a table then → b ≡ a - 1 → x ≡ view_cell m j g.horizon → TakenCell g b (g.horizon + 1) x then after →
    TakenBeats g m j (g.horizon + 1) table after
taken_parked g m table then after j a b x parked old f e new = record { tidy = new.tidy; taken = λ t c h. (says t c h, back t c h) }
  where
    says : (t c : ℕ) → t ≤ g.horizon → in_set g after t c ≡ true → (in_set g table t c ≡ true) × Away m j (g.horizon + 1) t c
    says t c h k =
        let last = (new.taken t c).0 k in
        let before = (old.taken t c h).0 last.0 in (
          before.0,
          λ u l up down p. ⊎_elim (λ (v : u < a). before.1 u v up down p)
              (λ (v : a ≤ u). last.1 (omega arith) (omega arith) (p ∙ parked.keeps u v (omega arith) ∙ sym e)) (lt_or_le u a),
        )

    back : (t c : ℕ) → t ≤ g.horizon → (in_set g table t c ≡ true) × Away m j (g.horizon + 1) t c → in_set g after t c ≡ true
    back t c h p =
        let before = (old.taken t c h).1 (p.0, λ u l. p.1 u (omega (arith, parked.upto))) in
        (new.taken t c).1 (
          before,
          λ up down k. ⊎_elim
              (λ (v : t < a). p.1 a (omega (arith, parked.upto)) (omega arith) (omega arith)
              (k ∙ e ∙ sym (parked.keeps a (omega arith) parked.upto)))
              (λ (v : a ≤ t). p.1 t (omega arith) (omega arith) (omega arith) (k ∙ e ∙ sym (parked.keeps t v h))) (lt_or_le t a),
        )
