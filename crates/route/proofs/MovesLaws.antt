-- What the rule of moves says. Everything else uses these laws and not the rule's definition.
use Prim.Native.Nat.{ℕ, suc, ◌-◌, ◌<◌}
use native.Mathlib.Omega.{arith}
use mathlib.Core.Bool.{Bool, true, ◌&&◌, not}
use mathlib.Core.List.Memᴰ
use mathlib.Core.List.{List, [], ◌∷◌, Memᴰ}
use mathlib.Core.Logic.{◌⊎◌, ⊎_elim}
use mathlib.Core.Path.{◌≡◌, refl}
use lib.Dec.{ltb, eqb}
use borrow.Author.Tests.{ltb-true, lt-ltb, eqb-true, eq-eqb}
use Rattle.route.specs.Route.{cell_at, none, route, View, unheard, heard, Task, SharesSide}
use Rattle.route.specs.Moves.{near, vacant, every, standable, allowed, start_clear}
use Rattle.laws.proofs.Tests.{and_both, and_fst, and_snd, not_is_true, not_refutes}
use Rattle.route.proofs.NearLaws.{near_says, near_holds}

-- What it says that cell d is not q's at beat t, nor at a beat beside it within 0 to H.
pub record Vacant (H t d : ℕ) (q : List ℕ) : Type 0 where
  pub now : d ≡ cell_at q t → ⊥
  pub next : t < H → d ≡ cell_at q (suc t) → ⊥
  pub past : (u : ℕ) → t ≡ suc u → d ≡ cell_at q u → ⊥

-- What it says that cell d may be stood on at beat t.
pub record Standable (task : Task) (vs : List View) (t d : ℕ) : Type 0 where
  pub inside : d < task.cells
  pub off_wall : task.free d ≡ true
  pub clear : (q : List ℕ) → Memᴰ (heard (route q)) vs → Vacant task.horizon t d q

-- What it says that a move from c at beat t to d at beat t + 1 is allowed.
pub record Allowed (task : Task) (vs : List View) (t c d : ℕ) : Type 0 where
  pub beside : (d ≡ c) ⊎ SharesSide task.width c d
  pub stands : Standable task vs (suc t) d

pub every_says : (φ : View → Bool) (vs : List View) (v : View) → every φ vs ≡ true → Memᴰ v vs → φ v ≡ true
unfolding every
every_says φ [] v e m = absurd (Memᴰ.not-nil m)
every_says φ (x ∷ vs) v e m =
    ⊎_elim
    (λ (q : v ≡ x). rw q (and_fst (φ x) (every φ vs) e))
    (λ (h : Memᴰ v vs). every_says φ vs v (and_snd (φ x) (every φ vs) e) h)
    (Memᴰ.cases_cons m)

pub every_holds : (φ : View → Bool) (vs : List View) → ((v : View) → Memᴰ v vs → φ v ≡ true) → every φ vs ≡ true
unfolding every
every_holds φ [] h = refl
every_holds φ (x ∷ vs) h = and_both (h x (Memᴰ.head refl)) (every_holds φ vs (λ v m. h v (Memᴰ.tail m)))

module _ (H t d : ℕ) where
  -- The three tests of a heard route.
  pub route_vacant : (q : List ℕ) → vacant H t d (heard (route q)) ≡ true → Vacant H t d q
  unfolding vacant
  route_vacant q e =
      record {
        now = λ h. not_refutes now (and_fst (not now) (not next) two) (eq-eqb d (cell_at q t) h);
        next = λ l h. not_refutes next (and_snd (not now) (not next) two) (and_both (lt-ltb t H l) (eq-eqb d (cell_at q (suc t)) h));
        past = λ u s h. not_refutes past (and_snd (not now && not next) (not past) e) (before u s h);
      }
    where
      now : Bool
      now = eqb d (cell_at q t)

      next : Bool
      next = ltb t H && eqb d (cell_at q (suc t))

      past : Bool
      past = ltb 0 t && eqb d (cell_at q (t - 1))

      two : (not now && not next) ≡ true
      two = and_fst (not now && not next) (not past) e

      before : (u : ℕ) → t ≡ suc u → d ≡ cell_at q u → past ≡ true
      before u s h = let one : t - 1 ≡ u = omega arith in and_both (lt-ltb 0 t (omega arith)) (eq-eqb d (cell_at q (t - 1)) (rw one h))

  pub vacant_route : (q : List ℕ) → Vacant H t d q → vacant H t d (heard (route q)) ≡ true
  unfolding vacant
  vacant_route q v =
      and_both
      (and_both (not_is_true _ (λ e. v.now (eqb-true d (cell_at q t) e)))
      (not_is_true _ (λ e. v.next (ltb-true t H (and_fst _ _ e)) (eqb-true d (cell_at q (suc t)) (and_snd (ltb t H) _ e)))))
      (not_is_true _ (λ e. v.past (t - 1) (some e) (eqb-true d (cell_at q (t - 1)) (and_snd (ltb 0 t) _ e))))
    where
      some : (ltb 0 t && eqb d (cell_at q (t - 1))) ≡ true → t ≡ suc (t - 1)
      some e = omega (arith, ltb-true 0 t (and_fst (ltb 0 t) _ e))

  pub vacant_says : (vs : List View) → every (vacant H t d) vs ≡ true → (q : List ℕ) → Memᴰ (heard (route q)) vs → Vacant H t d q
  vacant_says vs e q m = route_vacant q (every_says (vacant H t d) vs (heard (route q)) e m)

  pub vacant_holds : (vs : List View) → ((q : List ℕ) → Memᴰ (heard (route q)) vs → Vacant H t d q) → every (vacant H t d) vs ≡ true
  unfolding vacant
  vacant_holds vs h = every_holds (vacant H t d) vs one
    where
      one : (v : View) → Memᴰ v vs → vacant H t d v ≡ true
      one unheard m = refl
      one (heard none) m = refl
      one (heard (route q)) m = vacant_route q (h q m)

module _ (task : Task) (vs : List View) where
  pub standable_says : (t d : ℕ) → standable task vs t d ≡ true → Standable task vs t d
  unfolding standable
  standable_says t d e =
      record {
        inside = ltb-true d task.cells (and_fst (ltb d task.cells) (task.free d) grid);
        off_wall = and_snd (ltb d task.cells) (task.free d) grid;
        clear = vacant_says task.horizon t d vs (and_snd (ltb d task.cells && task.free d) _ e);
      }
    where
      grid : (ltb d task.cells && task.free d) ≡ true
      grid = and_fst (ltb d task.cells && task.free d) (every (vacant task.horizon t d) vs) e

  pub standable_holds : (t d : ℕ) → Standable task vs t d → standable task vs t d ≡ true
  unfolding standable
  standable_holds t d h =
      and_both (and_both (lt-ltb d task.cells h.inside) h.off_wall) (vacant_holds task.horizon t d vs h.clear)

  pub allowed_says : (t c d : ℕ) → allowed task vs t c d ≡ true → Allowed task vs t c d
  unfolding allowed
  allowed_says t c d e =
      record {
        beside = near_says task.width c d (and_fst (near task.width c d) (standable task vs (suc t) d) e);
        stands = standable_says (suc t) d (and_snd (near task.width c d) (standable task vs (suc t) d) e);
      }

  pub allowed_holds : (t c d : ℕ) → Allowed task vs t c d → allowed task vs t c d ≡ true
  unfolding allowed
  allowed_holds t c d h = and_both (near_holds task.width c d h.beside) (standable_holds (suc t) d h.stands)

  pub start_clear_says : start_clear task vs ≡ true → Standable task vs 0 task.start
  unfolding start_clear
  start_clear_says e = standable_says 0 task.start e

  pub start_clear_holds : Standable task vs 0 task.start → start_clear task vs ≡ true
  unfolding start_clear
  start_clear_holds h = standable_holds 0 task.start h
