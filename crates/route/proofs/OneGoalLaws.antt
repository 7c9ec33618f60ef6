-- With one dock, `Best` says what document 01 says with that cell as goal: a route ends there exactly if it ends at the dock, and its last
-- cell is the goal, so that both arrivals are one.
use Prim.Native.Nat.{ℕ}
use native.Mathlib.Omega.{arith}
use mathlib.Core.List.{List}
use mathlib.Core.Logic.{◌↔◌}
use mathlib.Core.Path.{◌≡◌, sym, ◌∙◌}
use lib.Dec.{eqb}
use borrow.Author.Tests.{eqb-true, eq-eqb}
use Rattle.route.specs.Route.{cell_at, Answer, none, route, View, Task}
use Rattle.route.specs.Best.{HeldFrom, Arrives, Admissible, Best}
use Rattle.route.specs.Arrival.{arrival_of}
use Rattle.route.specs.OneGoal.{HeldAt, ArrivesAt, AdmissibleTo, BestTo}
use Rattle.route.proofs.ArrivalLaws.{arrival_arrives, arrives_arrival}

module _ {d H : ℕ} {r : List ℕ} (there : cell_at r H ≡ d) where
  held_to : {a : ℕ} → HeldFrom H r a → HeldAt d H r a
  held_to h = record { within = h.within; held = λ t l b. h.held t l b ∙ there }

  held_back : {a : ℕ} → HeldAt d H r a → HeldFrom H r a
  held_back h = record { within = h.within; held = λ t l b. h.held t l b ∙ sym there }

  arrives_to : {a : ℕ} → Arrives H r a → ArrivesAt d H r a
  arrives_to h = record { stays = held_to h.stays; least = λ b k. h.least b (held_back k) }

  arrives_back : {a : ℕ} → ArrivesAt d H r a → Arrives H r a
  arrives_back h = record { stays = held_back h.stays; least = λ b k. h.least b (held_to k) }

arrives_there : {d H : ℕ} {r : List ℕ} {a : ℕ} → ArrivesAt d H r a → cell_at r H ≡ d
arrives_there {d} {H} h = h.stays.held H h.stays.within (omega arith)

pub one_arrival : (d H : ℕ) (r : List ℕ) (a : ℕ) → ArrivesAt d H r a ↔ ((a ≡ arrival_of r H) × (cell_at r H ≡ d))
one_arrival d H r a = (
  λ h. (arrives_arrival r H a (arrives_back (arrives_there h) h), arrives_there h),
  λ h. rw h.0 (arrives_to h.1 (arrival_arrives r H)),
)

module _ (task : Task) (d : ℕ) (vs : List View) (one : (c : ℕ) → task.dock c ≡ eqb c d) where
  ends_at : {q : List ℕ} → Admissible task vs q → cell_at q task.horizon ≡ d
  ends_at {q} adm = eqb-true (cell_at q task.horizon) d (sym (one (cell_at q task.horizon)) ∙ adm.is_route.ends)

  to : {q : List ℕ} → Admissible task vs q → AdmissibleTo d task vs q
  to adm =
      record {
        is_route = record {
          long = adm.is_route.long;
          begins = adm.is_route.begins;
          ends = ends_at adm;
          moves = adm.is_route.moves;
          inside = adm.is_route.inside;
          off_walls = adm.is_route.off_walls;
          blank = adm.is_route.blank;
        };
        clear = adm.clear;
      }

  back : {q : List ℕ} → AdmissibleTo d task vs q → Admissible task vs q
  back {q} adm =
      record {
        is_route = record {
          long = adm.is_route.long;
          begins = adm.is_route.begins;
          ends = one (cell_at q task.horizon) ∙ eq-eqb (cell_at q task.horizon) d adm.is_route.ends;
          moves = adm.is_route.moves;
          inside = adm.is_route.inside;
          off_walls = adm.is_route.off_walls;
          blank = adm.is_route.blank;
        };
        clear = adm.clear;
      }

  best_to : (x : Answer) → Best task vs x → BestTo d task vs x
  unfolding Best BestTo
  best_to none h = λ q adm. h q (back adm)
  best_to (route r) h =
      record {
        admissible = to h.admissible;
        earliest =
            λ q a b adm x y. h.earliest q a b (back adm) (arrives_back (ends_at h.admissible) x)
            (arrives_back adm.is_route.ends y);
        first =
            λ q a adm x y. h.first q a (back adm) (arrives_back (ends_at h.admissible) x) (arrives_back adm.is_route.ends y);
      }

  best_back : (x : Answer) → BestTo d task vs x → Best task vs x
  unfolding Best BestTo
  best_back none h = λ q adm. h q (to adm)
  best_back (route r) h =
      record {
        admissible = back h.admissible;
        earliest =
            λ q a b adm x y. h.earliest q a b (to adm) (arrives_to h.admissible.is_route.ends x) (arrives_to (ends_at adm) y);
        first = λ q a adm x y. h.first q a (to adm) (arrives_to h.admissible.is_route.ends x) (arrives_to (ends_at adm) y);
      }

  pub one_dock : (x : Answer) → Best task vs x ↔ BestTo d task vs x
  one_dock x = (best_to x, best_back x)
