-- Records that differ in the order of docks get the same verdict: what is asked of every dock is asked of the cells that are docks, and
-- as many different cells in as many places leave no place for one of them twice.
use Prim.Native.Nat.{ℕ, zero, suc, ◌-◌, ◌≤◌, ◌<◌}
use native.Mathlib.Omega.{arith}
use mathlib.Core.Path.{◌≡◌, refl, sym, ◌∙◌, ap}
use mathlib.Core.Bool.{Bool, true, cond, not}
use mathlib.Core.Logic.{⊎_elim}
use mathlib.Core.List.{List}
use lib.ListN.{get_or}
use lib.Dec.{ltb, eqb}
use borrow.Author.Tests.{lt-ltb, le-ltb, eq-eqb, ne_eqb}
use Rattle.laws.specs.Verdict.{All, each}
use Rattle.laws.proofs.Tests.{lt_or_le, eq_or_ne, same_test}
use Rattle.floor.specs.declared.Floor.{Floor}
use Rattle.floor.specs.Checks.{among, count_of, docks_of, dock_of, is_dock, start_of, in_grid, docks_in_grid, carrier_in_grid}
use Rattle.floor.specs.Checks.{docks_clear, clear_of_walls, unshared, unrepeated, limits_of, lent_of, carriers_of, walls_of}
use Rattle.floor.specs.Checks.{rising_of, clear_of, distinct_of, unrepeated_of, places_of, check_of}
use Rattle.floor.specs.Accepted.{Absent, Unrepeated, SameOutline, SameFloor, SameDocks}
use Rattle.floor.proofs.AmongLaws.{among_place}
use Rattle.laws.proofs.HoldLaws.{each_decides, each_holds}
use Rattle.floor.proofs.SameLaws.{demands_same, limits_same, places_same}
use Rattle.floor.proofs.DockLaws.{dock_is, dock_at}
use Rattle.floor.proofs.CheckMeans.{unrepeated_means}

-- The numbers other than y, moved together.
squeeze : ℕ → ℕ → ℕ
squeeze y x = cond (ltb x y) x (x - 1)

-- What is known of it: below y a number stays, above y it is one less.
squeeze_says : {C : Type 0} (y x : ℕ) → (x ≡ y → ⊥) → (x < y → squeeze y x ≡ x → C) → (y < x → squeeze y x ≡ x - 1 → C) → C
unfolding squeeze
squeeze_says y x n low high =
    ⊎_elim (λ (l : x < y). low l (rw (lt-ltb x y l) refl)) (λ (l : y ≤ x). high (omega arith) (rw (le-ltb x y l) refl)) (lt_or_le x y)

squeeze_apart : (z x y : ℕ) → (x ≡ z → ⊥) → (y ≡ z → ⊥) → squeeze z x ≡ squeeze z y → x ≡ y
squeeze_apart z x y n k e =
    squeeze_says z x n
    (λ a p. squeeze_says z y k (λ b q. omega arith) (λ b q. omega arith))
    (λ a p. squeeze_says z y k (λ b q. omega arith) (λ b q. omega arith))

squeeze_low : (y x k : ℕ) → (x ≡ y → ⊥) → x < suc k → y < suc k → squeeze y x < k
squeeze_low y x k n l h = squeeze_says y x n (λ a p. omega arith) (λ a p. omega arith)

-- n different numbers below p: n is at most p.
pigeons : (n p : ℕ) (at : (a : ℕ) → a < n → ℕ) → ((a : ℕ) (l : a < n) → at a l < p)
    → ((a b : ℕ) (l : a < n) (k : b < n) → a < b → at a l ≡ at b k → ⊥) → n ≤ p
pigeons zero p at low apart = omega arith
pigeons (suc n) zero at low apart = absurd (omega (arith, low n (omega arith)))
pigeons (suc n) (suc p) at low apart =
    let last : n < suc n = omega arith in
    let up : (a : ℕ) → a < n → a < suc n = λ a l. omega arith in
    let other : (a : ℕ) (l : a < n) → at a (up a l) ≡ at n last → ⊥ = λ a l. apart a n (up a l) last l in
    let fewer =
    pigeons n p (λ a l. squeeze (at n last) (at a (up a l)))
    (λ a l. squeeze_low (at n last) (at a (up a l)) p (other a l) (low a (up a l)) (low n last))
    (λ a b l k h e.
    apart a b (up a l) (up b k) h (squeeze_apart (at n last) (at a (up a l)) (at b (up b k)) (other a l) (other b k) e)) in
    omega arith

-- j where a number is k, and the number itself otherwise.
instead : ℕ → ℕ → ℕ → ℕ
instead j k x = cond (eqb x k) j x

module _ (ys : List ℕ) (j k : ℕ) (below : j < k) (twice : get_or ys j 0 ≡ get_or ys k 0) (x : ℕ) where
  instead_other : instead j k x ≡ k → ⊥
  unfolding instead
  instead_other =
      ⊎_elim
      (λ (e : x ≡ k). rw (eq-eqb x k e) (λ (q : j ≡ k). omega arith))
      (λ (n : x ≡ k → ⊥). rw (ne_eqb x k n) n)
      (eq_or_ne x k)

  instead_low : (p : ℕ) → x < p → k < p → instead j k x < p
  unfolding instead
  instead_low p l h =
      ⊎_elim
      (λ (e : x ≡ k). rw (eq-eqb x k e) (omega arith))
      (λ (n : x ≡ k → ⊥). rw (ne_eqb x k n) l)
      (eq_or_ne x k)

  instead_same : get_or ys (instead j k x) 0 ≡ get_or ys x 0
  unfolding instead
  instead_same =
      ⊎_elim
      (λ (e : x ≡ k). rw (eq-eqb x k e, e) twice)
      (λ (n : x ≡ k → ⊥). rw (ne_eqb x k n) refl)
      (eq_or_ne x k)

-- Where n different numbers all stand in n places, no place has the number of an earlier one.
apart_too : (xs ys : List ℕ) (n : ℕ) → All (λ (k : ℕ). among ys n (get_or xs k 0) ≡ true) n
    → All (λ (k : ℕ). Absent xs k (get_or xs k 0)) n → All (λ (k : ℕ). Absent ys k (get_or ys k 0)) n
apart_too xs ys zero inside apart k l j h e = absurd (omega arith)
apart_too xs ys (suc n) inside apart k l j h e =
    let place : (a : ℕ) → a < suc n → ℕ = λ a b. (among_place ys (get_or xs a 0) (suc n) (inside a b)).0 in
    let low : (a : ℕ) (b : a < suc n) → place a b < suc n = λ a b. (among_place ys (get_or xs a 0) (suc n) (inside a b)).1 in
    let here : (a : ℕ) (b : a < suc n) → get_or ys (place a b) 0 ≡ get_or xs a 0 =
    λ a b. (among_place ys (get_or xs a 0) (suc n) (inside a b)).2 in
    let at : (a : ℕ) → a < suc n → ℕ = λ a b. instead j k (place a b) in
    let few =
    pigeons (suc n) n (λ a b. squeeze k (at a b))
    (λ a b. squeeze_low k (at a b) n (instead_other ys j k h e (place a b)) (instead_low ys j k h e (place a b) (suc n) (low a b) l) l)
    (λ a c b d q s.
    let same : at a b ≡ at c d =
    squeeze_apart k (at a b) (at c d) (instead_other ys j k h e (place a b)) (instead_other ys j k h e (place c d)) s in
    apart c d a q
    (sym (here a b) ∙ sym (instead_same ys j k h e (place a b)) ∙ ap (λ (x : ℕ). get_or ys x 0) same ∙ instead_same ys j k h e (place c d)
    ∙ here c d)) in
    omega arith

module _ (f f' : Floor) (i : ℕ) where
  -- What holds at every dock of f holds at every dock of f', where these are docks of f.
  every_dock : (φ : ℕ → Bool) → ((c : ℕ) → is_dock f' i c ≡ true → is_dock f i c ≡ true)
      → each (count_of f i) (λ k. φ (dock_of f i k)) ≡ true → each (count_of f' i) (λ k. φ (dock_of f' i k)) ≡ true
  every_dock φ sub h =
      (each_decides (λ k. φ (dock_of f' i k)) (λ (k : ℕ). φ (dock_of f' i k) ≡ true) (λ k. (λ e. e, λ e. e)) (count_of f' i)).1 (λ k l.
      let d = dock_at f i (dock_of f' i k) (sub (dock_of f' i k) (dock_is f' i k l)) in
      rw d.2 at (each_holds (count_of f i) (λ j. φ (dock_of f i j)) h d.0 d.1))

  -- Where f has no dock twice and all of its docks are among as many of f', neither has f'.
  unrepeated_too : count_of f i ≡ count_of f' i → ((c : ℕ) → is_dock f i c ≡ true → is_dock f' i c ≡ true) → Unrepeated f i → Unrepeated f' i
  unfolding dock_of is_dock
  unrepeated_too n sub u =
      apart_too (docks_of f i) (docks_of f' i) (count_of f' i)
      (λ k l. sub (dock_of f i k) (dock_is f i k (rw n l)))
      (λ k l. u k (rw n l))

-- So for floors with the same docks.
module _ (f f' : Floor) (i : ℕ) (counts : count_of f i ≡ count_of f' i) (same : (c : ℕ) → is_dock f i c ≡ is_dock f' i c) where
  every_either : (φ : ℕ → Bool) → each (count_of f i) (λ k. φ (dock_of f i k)) ≡ each (count_of f' i) (λ k. φ (dock_of f' i k))
  every_either φ =
      same_test _ _ (every_dock f f' i φ (λ c h. same c ∙ h)) (every_dock f' f i φ (λ c h. sym (same c) ∙ h))

  unrepeated_either : unrepeated f i ≡ unrepeated f' i
  unrepeated_either =
      same_test _ _
      (λ h. (unrepeated_means f' i).1 (unrepeated_too f f' i counts (λ c q. sym (same c) ∙ q) ((unrepeated_means f i).0 h)))
      (λ h. (unrepeated_means f i).1 (unrepeated_too f' f i (sym counts) (λ c q. same c ∙ q) ((unrepeated_means f' i).0 h)))

-- The record f' with the docks of f.
docks_from : Floor → Floor → Floor
docks_from f f' =
    record {
      width = f'.width;
      height = f'.height;
      horizon = f'.horizon;
      depth = f'.depth;
      carriers = f'.carriers;
      walls = f'.walls;
      starts = f'.starts;
      counts = f.counts;
      docks = f.docks;
    }

module _ (f f' : Floor) (ws : List ℕ) (same : SameDocks f f') where
  -- It is the floor f.
  from_same : SameFloor f ws (docks_from f f') ws
  unfolding docks_from start_of count_of docks_of dock_of
  from_same = record { outline = from_outline; docks = λ i l k h. refl; cells = λ j l. refl }
    where
      from_outline : SameOutline f (docks_from f f')
      from_outline =
          record {
            width = same.outline.width;
            height = same.outline.height;
            horizon = same.outline.horizon;
            depth = same.outline.depth;
            carriers = same.outline.carriers;
            walls = same.outline.walls;
            starts = same.outline.starts;
            counts = λ i l. refl;
          }

  from_counts : (i : ℕ) → i < f'.carriers → count_of (docks_from f f') i ≡ count_of f' i
  unfolding docks_from count_of
  from_counts i l = same.outline.counts i (rw same.outline.carriers l)

  from_docks : (i : ℕ) → i < f'.carriers → (c : ℕ) → is_dock (docks_from f f') i c ≡ is_dock f' i c
  unfolding docks_from is_dock docks_of count_of
  from_docks i l c = same.docks i (rw same.outline.carriers l) c

  -- It gets the verdict of f'.
  from_places : places_of (docks_from f f') ws ≡ places_of f' ws
  unfolding docks_from places_of carriers_of walls_of rising_of clear_of distinct_of unrepeated_of in_grid start_of carrier_in_grid docks_in_grid
      clear_of_walls docks_clear unshared
  from_places =
      let f'' = docks_from f f' in
      let three : carriers_of f'' ≡ carriers_of f' =
      demands_same 3 (carrier_in_grid f'') (carrier_in_grid f') refl refl
      (λ i l. rw (every_either f'' f' i (from_counts i l) (from_docks i l) (in_grid f'), from_counts i l) refl) in
      let five : clear_of f'' ws ≡ clear_of f' ws =
      demands_same 5 (clear_of_walls f'' ws) (clear_of_walls f' ws) refl refl
      (λ i l. rw (every_either f'' f' i (from_counts i l) (from_docks i l) (λ c. not (among ws f'.walls c))) refl) in
      let seventeen : unrepeated_of f'' ≡ unrepeated_of f' =
      demands_same 17 (unrepeated f'') (unrepeated f') refl refl (λ i l. unrepeated_either f'' f' i (from_counts i l) (from_docks i l)) in
      rw (three, five, seventeen) refl

  pub order_same : check_of f ws ≡ check_of f' ws
  unfolding check_of lent_of docks_from limits_of
  order_same =
      let f'' = docks_from f f' in
      rw (places_same f ws f'' ws from_same, from_places, limits_same from_same.outline, same.outline.walls) refl
