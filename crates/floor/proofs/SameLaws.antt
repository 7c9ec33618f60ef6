-- Records that are the same floor get the same verdict.
use Prim.Native.Nat.{ℕ, zero, suc, ◌+◌, ◌<◌}
use native.Mathlib.Omega.{arith}
use mathlib.Core.Path.{◌≡◌, refl, ◌∙◌, ap}
use mathlib.Core.Bool.{Bool, not}
use mathlib.Core.List.{List}
use borrow.Author.Tests.{le-leb}
use lib.ListN.{get_or}
use Rattle.floor.specs.declared.Floor.{Floor}
use Rattle.laws.specs.Verdict.{in_turn, demand_each, All, each}
use Rattle.floor.specs.Checks.{start_of, count_of, docks_of, dock_of, is_dock, limits_of, lent_of, long_enough, in_grid, docks_in_grid}
use Rattle.floor.specs.Checks.{carrier_in_grid, rises, among, docks_clear, clear_of_walls, unshared, unrepeated}
use Rattle.floor.specs.Checks.{carriers_of, walls_of, rising_of, clear_of, distinct_of, unrepeated_of, places_of, check_of}
use Rattle.floor.specs.Accepted.{Lent, SameOutline, SameFloor, SameDocks}
use Rattle.laws.proofs.HoldLaws.{each_same}

-- Tests that agree at each item make the same check.
pub demands_same : (k : ℕ) {p p' : ℕ} (ok ok' : ℕ → Bool) {n n' : ℕ} → p ≡ p' → n ≡ n' → All (λ (i : ℕ). ok i ≡ ok' i) n
    → demand_each k p ok n ≡ demand_each k p' ok' n'
unfolding demand_each in_turn
demands_same k {p} ok ok' {n} e s a = rw (← e, ← s) (go n a)
  where
    go : (n : ℕ) → All (λ (i : ℕ). ok i ≡ ok' i) n → demand_each k p ok n ≡ demand_each k p ok' n
    go zero a = refl
    go (suc n) a = rw (go n (λ i l. a i (omega arith)), a n (omega arith))

-- A number is looked for among the same numbers.
pub among_same : (xs ys : List ℕ) (k c : ℕ) → All (λ (i : ℕ). get_or xs i 0 ≡ get_or ys i 0) k → among xs k c ≡ among ys k c
unfolding among
among_same xs ys zero c a = refl
among_same xs ys (suc k) c a = rw (among_same xs ys k c (λ i l. a i (omega arith)), a k (omega arith))

rises_same : (ws ws' : List ℕ) (k j : ℕ) → j < k → All (λ (i : ℕ). get_or ws i 0 ≡ get_or ws' i 0) k → rises ws j ≡ rises ws' j
unfolding rises
rises_same ws ws' k zero l a = refl
rises_same ws ws' k (suc j) l a = rw (a j (omega arith), a (suc j) l)

pub outline_same : (f : Floor) → SameOutline f f
outline_same f =
    record {
      width = refl;
      height = refl;
      horizon = refl;
      depth = refl;
      carriers = refl;
      walls = refl;
      starts = λ i l. refl;
      counts = λ i l. refl;
    }

-- A record with two lists of walls that agree up to its count of walls is the same floor.
pub walls_agree : (f : Floor) (ws ws' : List ℕ) → All (λ (j : ℕ). get_or ws j 0 ≡ get_or ws' j 0) f.walls → SameFloor f ws f ws'
walls_agree f ws ws' a = record { outline = outline_same f; docks = λ i l k h. refl; cells = a }

-- Records that agree in their outline have the same grid and the same limits, and the walls are the same items, behind the carriers.
module _ {f f' : Floor} (same : SameOutline f f') where
  in_grid_same : (c : ℕ) → in_grid f c ≡ in_grid f' c
  unfolding in_grid
  in_grid_same c = rw (same.width, same.height)

  items : f.carriers + 1 ≡ f'.carriers + 1
  items = rw same.carriers

  pub limits_same : limits_of f ≡ limits_of f'
  unfolding limits_of
  limits_same = rw (same.width, same.height, same.horizon, same.depth, same.carriers, same.walls)

module _ (f : Floor) (ws : List ℕ) (f' : Floor) (ws' : List ℕ) (same : SameFloor f ws f' ws') where
  -- A test of every dock of a carrier, where the two tests agree at each cell.
  docks_same : (i : ℕ) → i < f.carriers → (φ ψ : ℕ → Bool) → ((c : ℕ) → φ c ≡ ψ c)
      → each (count_of f i) (λ k. φ (dock_of f i k)) ≡ each (count_of f' i) (λ k. ψ (dock_of f' i k))
  docks_same i l φ ψ e =
      each_same (count_of f i) (λ k. φ (dock_of f i k)) (λ k. ψ (dock_of f' i k)) (λ k h. rw (same.docks i l k h) (e (dock_of f' i k)))
      ∙ ap (λ (n : ℕ). each n (λ k. ψ (dock_of f' i k))) (same.outline.counts i l)

  carriers_same : carriers_of f ≡ carriers_of f'
  unfolding carriers_of carrier_in_grid docks_in_grid
  carriers_same =
      demands_same _ _ _ refl same.outline.carriers
      (λ i l. rw (
        docks_same i l (in_grid f) (in_grid f') (in_grid_same same.outline),
        same.outline.counts i l,
        same.outline.starts i l,
        in_grid_same same.outline (start_of f' i),
      ))

  walls_same : walls_of f ws ≡ walls_of f' ws'
  unfolding walls_of
  walls_same =
      demands_same _ _ _ (items same.outline) same.outline.walls
      (λ j l. rw (same.cells j l, in_grid_same same.outline (get_or ws' j 0)))

  rising_same : rising_of f ws ≡ rising_of f' ws'
  unfolding rising_of
  rising_same = demands_same _ _ _ (items same.outline) same.outline.walls (λ j l. rises_same ws ws' f.walls j l same.cells)

  wall_same : (c : ℕ) → among ws f.walls c ≡ among ws' f'.walls c
  wall_same c = among_same ws ws' f.walls c same.cells ∙ ap (λ (k : ℕ). among ws' k c) same.outline.walls

  clear_same : clear_of f ws ≡ clear_of f' ws'
  unfolding clear_of clear_of_walls docks_clear
  clear_same =
      demands_same _ _ _ refl same.outline.carriers (λ i l.
      rw (
        docks_same i l (λ c. not (among ws f.walls c)) (λ c. not (among ws' f'.walls c)) (λ c. ap not (wall_same c)),
        same.outline.starts i l,
        wall_same (start_of f' i),
      ))

  earlier_starts : (i : ℕ) → i < f.carriers → All (λ (p : ℕ). get_or f.starts p 0 ≡ get_or f'.starts p 0) i
  unfolding start_of
  earlier_starts i l e h = same.outline.starts e (omega arith)

  earlier_docks : (i : ℕ) → i < f.carriers → All (λ (k : ℕ). get_or (docks_of f i) k 0 ≡ get_or (docks_of f' i) k 0) (count_of f i)
  unfolding dock_of
  earlier_docks i l = same.docks i l

  -- The same cells are docks, so that only the order of docks may differ.
  pub is_dock_same : (i c : ℕ) → i < f.carriers → is_dock f i c ≡ is_dock f' i c
  unfolding is_dock
  is_dock_same i c l =
      among_same (docks_of f i) (docks_of f' i) (count_of f i) c (earlier_docks i l)
      ∙ ap (λ (k : ℕ). among (docks_of f' i) k c) (same.outline.counts i l)

  pub same_docks : SameDocks f f'
  same_docks = record { outline = same.outline; docks = λ i l c. is_dock_same i c l }

  distinct_same : distinct_of f ≡ distinct_of f'
  unfolding distinct_of unshared
  distinct_same =
      demands_same _ _ _ refl same.outline.carriers (λ i l.
      rw (same.outline.starts i l, among_same f.starts f'.starts i (start_of f' i) (earlier_starts i l)))

  unrepeated_same : unrepeated_of f ≡ unrepeated_of f'
  unfolding unrepeated_of unrepeated
  unrepeated_same =
      demands_same _ _ _ refl same.outline.carriers (λ i l.
      each_same (count_of f i) (λ k. not (among (docks_of f i) k (dock_of f i k))) (λ k. not (among (docks_of f' i) k (dock_of f' i k)))
      (λ k h. rw (
        same.docks i l k h,
        among_same (docks_of f i) (docks_of f' i) k (dock_of f' i k) (λ k' q. earlier_docks i l k' (omega arith)),
      ))
      ∙ ap (λ (n : ℕ). each n (λ k. not (among (docks_of f' i) k (dock_of f' i k)))) (same.outline.counts i l))

  pub places_same : places_of f ws ≡ places_of f' ws'
  unfolding places_of
  places_same = rw (carriers_same, walls_same, rising_same, clear_same, distinct_same, unrepeated_same)

  pub check_same : Lent f ws → Lent f' ws' → check_of f ws ≡ check_of f' ws'
  unfolding check_of lent_of long_enough
  check_same l n = rw (limits_same same.outline, le-leb _ _ l, le-leb _ _ n, places_same)
