-- The set of the docks that can be held, one dock after the other.
use Prim.Native.Nat.{ℕ, suc, ◌+◌, ◌≤◌, ◌<◌}
use native.Mathlib.Omega.{arith}
use native.Mathlib.Numerals.{add-one}
use mathlib.Core.Bool.{Bool, true, false, ◌||◌}
use mathlib.Core.List.{List}
use mathlib.Core.Logic.{⊎_elim}
use mathlib.Core.Path.{◌≡◌, refl, sym, ◌∙◌}
use borrow.Author.Tests.{leb-true, le-leb, lt-leb, eq-eqb, eqb-true}
use lib.Dec.{eqb}
use lib.ListN.{get_or, replicate, length-replicate}
use Rattle.bitrows.specs.Rows.{filled}
use Rattle.bitrows.proofs.FillLaws.{filled_in}
use Rattle.laws.proofs.Tests.{and_both, and_fst, and_snd, or_cases, or_inl, or_inr, same_test, not_true_is_false}
use Rattle.layers.specs.declared.SearchGrid.{SearchGrid}
use Rattle.layers.specs.Table.{in_set, Tidy}
use Rattle.layers.specs.Step.{ChangedAt, Empty, Joined}
use Rattle.passes.specs.declared.docks.Docks.{Docks}
use Rattle.passes.specs.Docks.{hold_of, held_docks, any_of, held_at, Holdable, arrivable_at, endable_at, EndsAt}
use Rattle.passes.proofs.HoldLaws.{held_says, held_least}

-- The docks with their beats, after the last.
pub held_made : (g : SearchGrid) (table : List ℕ) (n : ℕ) (cells holds : List ℕ) (d : ℕ) → d ≤ n → n ≤ d →
    holds ≡ filled (replicate 4 0) (λ j. hold_of g table (get_or cells j 0)) d →
    ◌≡◌ {A = Docks} (record { count = n; cells = cells; holds = holds }) (held_docks g table n cells)
unfolding held_docks
held_made g table n cells holds d a b e = let same : d ≡ n = omega arith in rw (e, same)

module _ (g : SearchGrid) (table : List ℕ) (count : ℕ) (cells : List ℕ) (few : count ≤ 4) where
  -- The beat from which dock d can be held.
  hold_at : (d : ℕ) → d < count → get_or (held_docks g table count cells).holds d 0 ≡ hold_of g table (get_or cells d 0)
  unfolding held_docks
  hold_at d h =
      filled_in (replicate 4 0) (λ j. hold_of g table (get_or cells j 0)) count d (omega (arith, length-replicate {A = ℕ} 4 0)) h

  -- It can be held from beat t on exactly if it is in the free table from then on.
  pub held_free : (t d : ℕ) → d < count → held_at (held_docks g table count cells) t d ≡ true → (u : ℕ) → t ≤ u → u ≤ g.horizon →
      in_set g table u (get_or cells d 0) ≡ true
  unfolding held_at hold_of
  held_free t d h e u l b =
      held_says (λ t'. in_set g table t' (get_or cells d 0)) t (g.horizon + 1) (omega (arith, hold_at d h, leb-true _ t e)) u l (omega arith)

  pub free_held : (t d : ℕ) → d < count → ((u : ℕ) → t ≤ u → u ≤ g.horizon → in_set g table u (get_or cells d 0) ≡ true) →
      held_at (held_docks g table count cells) t d ≡ true
  unfolding held_at hold_of
  free_held t d h f =
      le-leb _ t
      (omega (arith, hold_at d h, held_least (λ t'. in_set g table t' (get_or cells d 0)) t (g.horizon + 1) (λ u l b. f u l (omega arith))))

  pub holdable : Holdable g table (held_docks g table count cells)
  unfolding held_docks
  holdable t d h e l = held_free t d h e t (omega arith) l

-- What a test of the beat says of dock d.
pub held_yes : (ds : Docks) (t d : ℕ) → get_or ds.holds d 0 ≤ t → held_at ds t d ≡ true
unfolding held_at
held_yes ds t d h = le-leb (get_or ds.holds d 0) t h

pub held_no : (ds : Docks) (t d : ℕ) → suc t ≤ get_or ds.holds d 0 → held_at ds t d ≡ false
unfolding held_at
held_no ds t d h = lt-leb (get_or ds.holds d 0) t h

-- What it says that dock d is an arrival at beat t, and that cell c is dock d, which can be held from then on.
pub arrivable_says : (g : SearchGrid) (sets : List ℕ) (ds : Docks) (t d : ℕ) → arrivable_at g sets ds t d ≡ true →
    (held_at ds t d ≡ true) × (in_set g sets t (get_or ds.cells d 0) ≡ true)
unfolding arrivable_at
arrivable_says g sets ds t d e = (and_fst (held_at ds t d) _ e, and_snd (held_at ds t d) _ e)

pub arrivable_holds : (g : SearchGrid) (sets : List ℕ) (ds : Docks) (t d : ℕ) → held_at ds t d ≡ true →
    in_set g sets t (get_or ds.cells d 0) ≡ true → arrivable_at g sets ds t d ≡ true
unfolding arrivable_at
arrivable_holds g sets ds t d h i = and_both h i

pub endable_says : (ds : Docks) (t c d : ℕ) → endable_at ds t c d ≡ true → (held_at ds t d ≡ true) × (c ≡ get_or ds.cells d 0)
unfolding endable_at
endable_says ds t c d e =
    (and_fst (held_at ds t d) _ e, eqb-true c (get_or ds.cells d 0) (and_snd (held_at ds t d) (eqb c (get_or ds.cells d 0)) e))

pub endable_holds : (ds : Docks) (t c d : ℕ) → held_at ds t d ≡ true → c ≡ get_or ds.cells d 0 → endable_at ds t c d ≡ true
unfolding endable_at
endable_holds ds t c d h e = and_both h (eq-eqb c (get_or ds.cells d 0) e)

-- The set of no dock; of one more that can be held; of one more that cannot.
pub ends_none : (g : SearchGrid) (sets : List ℕ) (ds : Docks) (t : ℕ) → Empty g sets t → EndsAt g sets ds t 0
unfolding any_of
ends_none g sets ds t none c = not_true_is_false (in_set g sets t c) (none c)

module _ (g : SearchGrid) (sets after : List ℕ) (ds : Docks) (t d : ℕ) (ends : EndsAt g sets ds t d) where
  pub ends_more : get_or ds.holds d 0 ≤ t → Joined g sets t (get_or ds.cells d 0) after → EndsAt g after ds t (d + 1)
  unfolding any_of endable_at
  ends_more h joined c = rw (add-one, held_yes ds t d h) (same_test (in_set g after t c) (any_of (endable_at ds t c) d || eqb c dock) to from)
    where
      dock : ℕ
      dock = get_or ds.cells d 0

      to : in_set g after t c ≡ true → (any_of (endable_at ds t c) d || eqb c dock) ≡ true
      to e =
          ⊎_elim (λ (x : in_set g sets t c ≡ true). or_inl (any_of (endable_at ds t c) d) (eqb c dock) (sym (ends c) ∙ x))
          (λ (x : c ≡ dock). or_inr (any_of (endable_at ds t c) d) (eqb c dock) (eq-eqb c dock x)) (joined.says c e)

      from : (any_of (endable_at ds t c) d || eqb c dock) ≡ true → in_set g after t c ≡ true
      from e =
          ⊎_elim (λ (x : any_of (endable_at ds t c) d ≡ true). joined.kept c (ends c ∙ x))
          (λ (x : eqb c dock ≡ true). rw (eqb-true c dock x) joined.holds) (or_cases (any_of (endable_at ds t c) d) (eqb c dock) e)

pub ends_same : (g : SearchGrid) (sets : List ℕ) (ds : Docks) (t d : ℕ) → suc t ≤ get_or ds.holds d 0 → EndsAt g sets ds t d →
    EndsAt g sets ds t (d + 1)
unfolding any_of endable_at
ends_same g sets ds t d h ends c = ends c ∙ rw (add-one, held_no ds t d h) (or_false (any_of (endable_at ds t c) d))
  where
    or_false : (x : Bool) → x ≡ (x || false)
    or_false true = refl
    or_false false = refl

-- The set of one beat changed twice.
pub changed_twice : {g : SearchGrid} {sets then after : List ℕ} {t : ℕ} → ChangedAt g sets t then → ChangedAt g then t after →
    ChangedAt g sets t after
changed_twice a b = record { tidy = b.tidy; other = λ u d n. b.other u d n ∙ a.other u d n }

pub changed_none : {g : SearchGrid} {sets : List ℕ} {t : ℕ} → Tidy g sets → ChangedAt g sets t sets
changed_none tidy = record { tidy = tidy; other = λ u d n. refl }

-- The set of all docks, after the last.
pub ends_end : (g : SearchGrid) (sets : List ℕ) (ds : Docks) (t n d : ℕ) → d ≤ n → n ≤ d → EndsAt g sets ds t d → EndsAt g sets ds t n
ends_end g sets ds t n d a b ends = let same : d ≡ n = omega arith in rw same at ends
