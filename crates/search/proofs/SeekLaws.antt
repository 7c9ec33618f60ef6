-- The passes over a free table in the theory of sets: by it what the search answers is the best route.
use Prim.Native.Nat.{ℕ, zero, suc, ◌+◌, ◌≤◌, ◌<◌}
use native.Mathlib.Omega.{arith}
use native.Mathlib.Numerals.{add-one}
use native.Mathlib.Nat.{eq-or-lt_of_le}
use mathlib.Core.Bool.{Bool, true, false}
use mathlib.Core.List.{List}
use mathlib.Core.Logic.{⊎_elim}
use mathlib.Core.Path.{◌≡◌, refl, sym, ◌∙◌}
use lib.ListN.{get_or, replicate, length-replicate}
use Rattle.laws.proofs.Lists.{zeros_at}
use Rattle.laws.proofs.Tests.{and_both, and_fst, and_snd, false_fails, not_true_is_false}
use Rattle.floor.specs.Checks.{among}
use Rattle.floor.proofs.AmongLaws.{among_found, among_place}
use Rattle.route.specs.Route.{cell_at, none, route, Task, View}
use Rattle.route.specs.Moves.{near, standable, allowed, start_clear}
use Rattle.route.specs.Search.{Rule, best}
use Rattle.route.proofs.Sets.{Sets, Reached as Came, Leading as Leads, Forward, Ending, Reaches, Backward, Greedy}
use Rattle.route.proofs.SetsBest.{Found, found_best, not_found_best, start_taken_best, docks_shut_best}
use Rattle.bitrows.specs.Rows.{filled}
use Rattle.bitrows.proofs.FillLaws.{length_filled, filled_in, filled_out}
use Rattle.layers.specs.declared.SearchGrid.{SearchGrid}
use Rattle.layers.specs.Table.{in_set}
use Rattle.layers.specs.Step.{Beside, Spread}
use Rattle.layers.proofs.MemberLaws.{near_same, near_turn}
use Rattle.passes.specs.declared.docks.Docks.{Docks}
use Rattle.passes.specs.Docks.{held_docks, held_at, arrivable_at, arrivable, endable_at}
use Rattle.passes.specs.Passes.{ForwardReachable, BackwardReachable, Earliest}
use Rattle.passes.specs.Walk.{next_of, path_of}
use Rattle.passes.proofs.AnyLaws.{Passing, any_says, any_holds}
use Rattle.passes.proofs.EndsLaws.{held_free, free_held, arrivable_says, arrivable_holds, endable_says, endable_holds}
use Rattle.passes.proofs.NearCells.{first_best}
use Rattle.passes.proofs.NextLaws.{path_next as walk_next, path_stays as walk-stays}
use Rattle.search.specs.Seek.{task_in, Agrees}

module _ (g : SearchGrid) (table : List ℕ) (start count : ℕ) (cells : List ℕ) (free : ℕ → Bool) (vs : List View)
    (agrees : Agrees g table (task_in g start (among cells count) free) vs) (short : g.horizon ≤ 63) (thin : 1 ≤ g.width) (few : count ≤ 4)
  where
    abbrev task : Task
    task = task_in g start (among cells count) free

    abbrev ok : Rule
    ok = allowed task vs

    -- The docks with the beats from which they can be held.
    abbrev ds : Docks
    ds = held_docks g table count cells

    -- A move is allowed exactly if it is near and leads into the free table.
    move_near : (t c d : ℕ) → ok t c d ≡ true → near g.width c d ≡ true
    unfolding allowed
    move_near t c d e = and_fst (near g.width c d) (standable task vs (suc t) d) e

    move_free : (t c d : ℕ) → t < g.horizon → ok t c d ≡ true → in_set g table (suc t) d ≡ true
    unfolding allowed
    move_free t c d h e = agrees (suc t) d h ∙ and_snd (near g.width c d) (standable task vs (suc t) d) e

    move : (t c d : ℕ) → t < g.horizon → near g.width c d ≡ true → in_set g table (suc t) d ≡ true → ok t c d ≡ true
    unfolding allowed
    move t c d h n i = and_both n (sym (agrees (suc t) d h) ∙ i)

    -- The start cannot be stood on.
    pub start_shut : in_set g table 0 start ≡ false → best (task_in g start (among cells count) free) vs ≡ none
    unfolding start_clear
    start_shut e = start_taken_best task vs short (sym (agrees 0 start (omega arith)) ∙ e)

    -- No dock is in the free table at the horizon.
    pub docks_shut : arrivable g table ds g.horizon ≡ false → best (task_in g start (among cells count) free) vs ≡ none
    unfolding arrivable held_docks
    docks_shut e = docks_shut_best task vs short (λ c h. sym (agrees g.horizon c (omega arith)) ∙ shut c (among_place cells c count h))
      where
        shut : (c : ℕ) → (d : ℕ) × (d < count) × (get_or cells d 0 ≡ c) → in_set g table g.horizon c ≡ false
        shut c (d, l, q) =
            not_true_is_false (in_set g table g.horizon c) (λ i.
            let here : in_set g table g.horizon (get_or cells d 0) ≡ true = rw q i in
            false_fails e (any_holds (arrivable_at g table ds g.horizon) count d l
            (arrivable_holds g table ds g.horizon d
            (free_held g table count cells few g.horizon d l (λ u a b. let same : u ≡ g.horizon = omega arith in rw same here)) here)))

    -- A dock of those that can be held from beat t on is an ending in the free table, and the other way round.
    end_dock : (t c : ℕ) → t ≤ g.horizon → Passing (endable_at ds t c) count → Ending ok (among cells count) g.horizon t c
        × (in_set g table t c ≡ true)
    unfolding held_docks
    end_dock t c h p = (ending, stays t (omega arith) h)
      where
        told : (held_at ds t p.which ≡ true) × (c ≡ get_or cells p.which 0)
        told = endable_says ds t c p.which p.passes

        stays : (u : ℕ) → t ≤ u → u ≤ g.horizon → in_set g table u c ≡ true
        stays u l b = rw told.1 (held_free g table count cells few t p.which p.below told.0 u l b)

        ending : Ending ok (among cells count) g.horizon t c
        ending =
            record {
              docks = among_found cells c p.which count p.below (sym told.1);
              holds = λ u l b. move u c c b (near_same g.width c) (stays (suc u) (omega arith) b);
            }

    dock_end : (t c : ℕ) → Ending ok (among cells count) g.horizon t c → in_set g table t c ≡ true → Passing (endable_at ds t c) count
    unfolding held_docks
    dock_end t c e i = at (among_place cells c count e.docks)
      where
        stays : (u : ℕ) → t ≤ u → u ≤ g.horizon → in_set g table u c ≡ true
        stays zero l b = let same : t ≡ 0 = omega arith in rw same at i
        stays (suc u) l b =
            ⊎_elim (λ (q : t ≡ suc u). rw q at i) (λ (q : t < suc u). move_free u c c b (e.holds u (omega arith) b)) (eq-or-lt_of_le l)

        at : (d : ℕ) × (d < count) × (get_or cells d 0 ≡ c) → Passing (endable_at ds t c) count
        at (d, l, q) =
            record {
              which = d;
              below = l;
              passes = endable_holds ds t c d (free_held g table count cells few t d l (λ u a b. rw q (stays u a b))) (sym q);
            }

    module _ (n : ℕ) (sets : List ℕ) (early : n ≤ g.horizon) (reached : ForwardReachable g table start n sets)
        (clear : in_set g table 0 start ≡ true) where
      F : Sets
      F = in_set g sets

      next : (t : ℕ) → t < n → Spread g table sets t (suc t)
      next t h = rw add-one at (reached.spreads t h)

      -- The sets are those that the start reaches.
      forward : Forward ok start n F
      unfolding F
      forward =
          record {
            begins = λ c. (reached.begins.says c, λ (e : c ≡ start). rw e reached.begins.holds);
            spreads = λ t d h. (
              λ e. came t d h ((next t h).says d e),
              λ (c, i, m). (next t h).holds d (move_free t c d (omega arith) m)
                  (c, i, move_near t c d m),
            );
          }
        where
          came : (t d : ℕ) → t < n → (in_set g table (suc t) d ≡ true) × Beside g sets t d → Came ok F t d
          came t d h (r, (c, i, m)) = (c, i, move t c d (omega arith) m r)

      -- What is reached is in the free table.
      forward_free : (t c : ℕ) → t ≤ n → in_set g sets t c ≡ true → in_set g table t c ≡ true
      forward_free zero c h e = rw (reached.begins.says c e) clear
      forward_free (suc t) c h e = ((next t h).says c e).0

      -- A beat is an arrival exactly if the search finds it to be one.
      arrives : (t : ℕ) → t ≤ g.horizon → arrivable g sets ds t ≡ true → Reaches ok (among cells count) g.horizon F t
      unfolding F arrivable held_docks
      arrives t h e =
          let p : Passing (arrivable_at g sets ds t) count = any_says (arrivable_at g sets ds t) count e in
          let told = arrivable_says g sets ds t p.which p.passes in
          let d = get_or cells p.which 0 in
          let end : Passing (endable_at ds t d) count =
          record { which = p.which; below = p.below; passes = endable_holds ds t d p.which told.0 refl } in
          record { where_to = d; reached = told.1; ending = (end_dock t d h end).0 }

      found_arrival : (t : ℕ) → t ≤ n → Reaches ok (among cells count) g.horizon F t → arrivable g sets ds t ≡ true
      unfolding F arrivable held_docks
      found_arrival t h r =
          let p = dock_end t r.where_to r.ending (forward_free t r.where_to h r.reached) in
          let told = endable_says ds t r.where_to p.which p.passes in
          any_holds (arrivable_at g sets ds t) count p.which p.below
          (arrivable_holds g sets ds t p.which told.0 (rw told.1 at r.reached))

      -- No beat through the horizon is an arrival.
      pub never : (a : ℕ) → g.horizon ≤ n → Earliest (arrivable g sets (held_docks g table count cells)) (g.horizon + 1) a →
          g.horizon < a → best (task_in g start (among cells count) free) vs ≡ none
      never a q e h =
          not_found_best task vs short F
          (record {
            forward = record { begins = forward.begins; spreads = λ t d l. forward.spreads t d (omega arith) };
            never = λ b l r. e.none_before b (omega arith) (found_arrival b (omega arith) r);
          })

      module _ (after : List ℕ) (earliest : Earliest (arrivable g sets (held_docks g table count cells)) (g.horizon + 1) n)
          (leading : BackwardReachable g table (held_docks g table count cells) n 0 after) where
        B : Sets
        B = in_set g after

        φ : ℕ → ℕ
        φ t = path_of g after start n t

        reaches : Reaches ok (among cells count) g.horizon F n
        reaches = arrives n early (earliest.passes (omega arith))

        back : (t : ℕ) → t < n → Spread g table after (suc t) t
        back t h = rw add-one at (leading.spreads t (omega arith) h)

        -- The set of beat n is the docks that can be held from then on.
        ends : (c : ℕ) → in_set g after n c ≡ true → Ending ok (among cells count) g.horizon n c × (in_set g table n c ≡ true)
        unfolding held_docks
        ends c e = end_dock n c early (any_says (endable_at ds n c) count (sym (leading.ends c) ∙ e))

        begins : (c : ℕ) → in_set g sets n c ≡ true → Ending ok (among cells count) g.horizon n c → in_set g after n c ≡ true
        unfolding held_docks
        begins c i e =
            let p = dock_end n c e (forward_free n c (omega arith) i) in
            leading.ends c ∙ any_holds (endable_at ds n c) count p.which p.below p.passes

        -- What leads to a dock is in the free table.
        back_free : (t d : ℕ) → t ≤ n → in_set g after t d ≡ true → in_set g table t d ≡ true
        back_free t d h e =
            ⊎_elim (λ (q : t ≡ n). rw q (ends d (rw q at e)).1) (λ (l : t < n). ((back t l).says d e).0) (eq-or-lt_of_le h)

        backward : Backward ok (among cells count) g.horizon n F B
        unfolding F B
        backward =
            record {
              ends = λ c e. (ends c e).0;
              begins = begins;
              leads = λ t c h e. leads t c h ((back t h).says c e).1;
              holds = λ t c h e (d, m, i). (back t h).holds c (forward_free t c (omega arith) e)
                  (d, i, near_turn g.width c d (move_near t c d m));
            }
          where
            leads : (t c : ℕ) → t < n → Beside g after (suc t) c → Leads ok B t c
            leads t c h (d, i, m) = (d, move t c d (omega arith) (near_turn g.width d c m) (back_free (suc t) d h i), i)

        -- The walk takes the smallest cell that leads on, and stays once it has arrived.
        path_next : (t : ℕ) → t < n → φ (suc t) ≡ next_of g after (suc t) (φ t)
        unfolding φ
        path_next t h = rw add-one at (sym (walk_next g after start n t h))

        path_stays : (t : ℕ) → n ≤ t → φ (suc t) ≡ φ t
        unfolding φ
        path_stays t h = rw add-one at (walk-stays g after start n t h)

        path_takes : (t d : ℕ) → t < n → ok t (φ t) d ≡ true → in_set g after (suc t) d ≡ true →
            (ok t (φ t) (φ (suc t)) ≡ true) × (in_set g after (suc t) (φ (suc t)) ≡ true) × (φ (suc t) ≤ d)
        unfolding next_of
        path_takes t d h m i =
            let best = first_best g.width (φ t) thin (in_set g after (suc t)) d i (move_near t (φ t) d m) in
            rw (path_next t h) (move t (φ t) _ (omega arith) best.0 (back_free (suc t) _ h best.1), best.1, best.2)

        r : List ℕ
        r = filled (replicate 64 0) φ (g.horizon + 1)

        cell_path : (t : ℕ) → t ≤ g.horizon → cell_at r t ≡ φ t
        unfolding cell_at r
        cell_path t h =
            filled_in (replicate 64 0) φ (g.horizon + 1) t (omega (arith, length-replicate {A = ℕ} 64 0)) (omega arith)

        path_first : φ 0 ≡ start
        unfolding φ path_of
        path_first = refl

        greedy : Greedy ok start g.horizon n B (cell_at r)
        unfolding B
        greedy =
            record {
              begins = cell_path 0 (omega arith) ∙ path_first;
              takes = λ t d h. rw (cell_path t (omega arith), cell_path (suc t) (omega arith)) (path_takes t d h);
              stays = λ t h l. cell_path (suc t) l ∙ path_stays t h ∙ sym (cell_path t (omega arith));
            }

        found : Found task vs F B n r
        unfolding start_clear cell_at r
        found =
            record {
              clear = sym (agrees 0 start (omega arith)) ∙ clear;
              forward = forward;
              least = record {
                within = early;
                reaches = reaches;
                none_before = λ b l q. earliest.none_before b l (found_arrival b (omega arith) q);
              };
              backward = backward;
              greedy = greedy;
              long = length_filled (replicate 64 0) φ (g.horizon + 1) ∙ length-replicate {A = ℕ} 64 0;
              blank = λ t h. filled_out (replicate 64 0) φ (g.horizon + 1) t (omega arith) ∙ zeros_at 64 t;
            }

        -- The walk is the best route.
        pub walk_best : best (task_in g start (among cells count) free) vs
            ≡ route (filled (replicate 64 0) (path_of g after start n) (g.horizon + 1))
        unfolding r φ
        walk_best = found_best task vs short F B n r found
