-- Steps as numbers, and which steps are there and open: a law a case of the code.
use Prim.Native.Nat.{ℕ, suc, ◌+◌, ◌-◌, ◌/◌, ◌%◌, ◌≤◌, ◌<◌}
use native.Mathlib.Omega.{arith}
use native.Mathlib.Numerals.{add-one}
use mathlib.Core.Bool.{Bool, true, false, ◌&&◌, not, and-false}
use mathlib.Core.List.{List}
use mathlib.Core.Path.{◌≡◌, refl, sym, ap}
use lib.Dec.{leb, ltb, eqb}
use lib.ListN.{get_or}
use borrow.Author.Tests.{le-leb, lt-leb, lt-ltb, le-ltb, ltb-true, eq-eqb, ne_eqb}
use borrow.Author.Rules.{rules}
use Rattle.laws.specs.Verdict.{passed, refused, ◌then◌, demand, demand_each, passes, each}
use Rattle.laws.proofs.Tests.{and_both, and_fst, and_snd, or_inl}
use Rattle.laws.proofs.VerdictLaws.{then_both, then_passed, demand_holds, demand_passes, demand_refuses, tests_go_on, tests_stop, each_end}
use Rattle.laws.proofs.EachLaws.{all_passes}
use Rattle.floor.specs.declared.Floor.{Floor}
use Rattle.floor.specs.Checks.{within}
use Rattle.laws.proofs.HoldLaws.{each_same}
use Rattle.reference.specs.Step.{Step, plan, deliver, is_there}
use Rattle.reference.specs.Table.{Asked, step, no_step, is_named}
use Rattle.encoding.specs.Places.{due_place, channel_place}
use Rattle.encoding.specs.Numbers.{delivery_of, asked_by}
use Rattle.encoding.specs.Calls.{machine_of}
use Rattle.encoding.specs.InnerSteps.{capacity_in, waits_in, open_in, shut_in, silent_in}
use Rattle.encoding.specs.InnerCalls.{single_verdict_in}
use Rattle.std.specs.Prelude.{Option, Some, None, is_none}
use Rattle.steps.specs.Inner.{bare, capacity_at, FullSought, plan_shut, delivery_shut, sender_shut}

module _ (x : ℕ) where
  pub low_none : x < 101 → no_step ≡ asked_by x
  unfolding asked_by within
  low_none l = rw (lt-leb 101 x l, lt-leb 210 x (omega arith)) refl

  pub plan_is : 101 ≤ x → x ≤ 109 → step (plan (x - 101)) ≡ asked_by x
  unfolding asked_by within
  plan_is l h = rw (le-leb 101 x l, le-leb x 109 h) refl

  pub middle_none : 101 ≤ x → 109 < x → x < 210 → no_step ≡ asked_by x
  unfolding asked_by within
  middle_none l h k = rw (le-leb 101 x l, lt-leb x 109 h, lt-leb 210 x k) refl

  pub high_none : 101 ≤ x → 109 < x → 210 ≤ x → 299 < x → no_step ≡ asked_by x
  unfolding asked_by within
  high_none l h k o = rw (le-leb 101 x l, lt-leb x 109 h, le-leb 210 x k, lt-leb x 299 o) refl

  pub ten_none : 101 ≤ x → 109 < x → 210 ≤ x → x ≤ 299 → x % 10 < 1 → no_step ≡ asked_by x
  unfolding asked_by within delivery_of
  ten_none l h k o z = rw (le-leb 101 x l, lt-leb x 109 h, le-leb 210 x k, le-leb x 299 o, lt-leb 1 (x % 10) z) refl

  pub deliver_is : 101 ≤ x → 109 < x → 210 ≤ x → x ≤ 299 → 1 ≤ x % 10 → step (deliver ((x - 200) / 10 - 1) (x % 10 - 1)) ≡ asked_by x
  unfolding asked_by within delivery_of
  deliver_is l h k o z = rw (le-leb 101 x l, lt-leb x 109 h, le-leb 210 x k, le-leb x 299 o, le-leb 1 (x % 10) z) refl

-- A law a case of the number.
pub ruleset step_cases = (low_none, plan_is, middle_none, high_none, ten_none, deliver_is)

module _ (f : Floor) (ws : List ℕ) where
  -- Whatever the walls are, the same steps are there and wait for the same.
  pub there_of : (x : Step) → is_there (bare f) x ≡ is_there (machine_of f ws) x
  unfolding is_there bare machine_of
  there_of (plan i) = refl
  there_of (deliver j i) = refl

  pub named_of : (y : Asked) → is_named (bare f) y ≡ is_named (machine_of f ws) y
  unfolding is_named
  named_of (step x) = there_of x
  named_of no_step = refl

  module _ (m : List ℕ) where
    waits_of : (x : Step) → waits_in (bare f) m x ≡ waits_in (machine_of f ws) m x
    unfolding waits_in capacity_in bare machine_of
    waits_of (plan i) = refl
    waits_of (deliver j i) = refl

    pub single_of : (y : Asked) → single_verdict_in (bare f) m y ≡ single_verdict_in (machine_of f ws) m y
    unfolding single_verdict_in
    single_of (step x) = rw (there_of x, waits_of x) refl
    single_of no_step = refl

    pub open_of : (x : Step) → open_in (bare f) m x ≡ open_in (machine_of f ws) m x
    unfolding open_in
    open_of x = rw (there_of x, waits_of x) refl

    pub silent_of : silent_in (bare f) m ≡ silent_in (machine_of f ws) m
    unfolding silent_in shut_in open_in is_there waits_in capacity_in bare machine_of
    silent_of = refl

-- A step that is there has its carriers there.
module _ (f : Floor) where
  pub plan_there : (i : ℕ) → is_there (bare f) (plan i) ≡ true → i < f.carriers
  unfolding is_there bare machine_of
  plan_there i e = ltb-true i f.carriers e

  pub deliver_there : (j i : ℕ) → is_there (bare f) (deliver j i) ≡ true → (j < i) × (i < f.carriers)
  unfolding is_there bare machine_of
  deliver_there j i e =
      (ltb-true j i (and_fst (ltb j i) (ltb i f.carriers) e), ltb-true i f.carriers (and_snd (ltb j i) (ltb i f.carriers) e))

  pub plan_named : (i : ℕ) → i < f.carriers → is_there (bare f) (plan i) ≡ true
  unfolding is_there bare machine_of
  plan_named i l = lt-ltb i f.carriers l

  pub delivery_named : (j i : ℕ) → j < i → i < f.carriers → is_there (bare f) (deliver j i) ≡ true
  unfolding is_there bare machine_of
  delivery_named j i a l = and_both (lt-ltb j i a) (lt-ltb i f.carriers l)

-- A single test passes if it holds.
pub demand_test : (x : Bool) (k p : ℕ) → passes (demand x k p) ≡ x
unfolding passes demand
demand_test true k p = refl
demand_test false k p = refl

-- A step that is open is there.
module _ (f : Floor) (m : List ℕ) where
  pub open_there : (x : Step) → open_in (bare f) m x ≡ true → is_there (bare f) x ≡ true
  unfolding open_in
  open_there x e = and_fst (is_there (bare f) x) (passes (waits_in (bare f) m x)) e

  -- What passes the checks of a single step is open.
  pub ready_open : (x : Step) → single_verdict_in (bare f) m (step x) ≡ passed → open_in (bare f) m x ≡ true
  unfolding single_verdict_in open_in passes
  ready_open x e =
      let v = then_both _ _ e in
      and_both (demand_holds (is_there (bare f) x) 7 0 v.0) (rw v.1)

  -- What is not there is not open.
  pub plan_absent : (i : ℕ) → f.carriers ≤ i → false ≡ open_in (bare f) m (plan i)
  unfolding open_in is_there bare machine_of
  plan_absent i l = rw (le-ltb i f.carriers l) refl

  pub upward_absent : (j i : ℕ) → i ≤ j → false ≡ open_in (bare f) m (deliver j i)
  unfolding open_in is_there
  upward_absent j i l = rw (le-ltb j i l) refl

  pub receiver_absent : (j i : ℕ) → f.carriers ≤ i → false ≡ open_in (bare f) m (deliver j i)
  unfolding open_in is_there bare machine_of
  receiver_absent j i l = rw (le-ltb i f.carriers l, and-false (ltb j i)) refl

  -- What a plan waits for: 8 where it is not due; otherwise what the search for a full channel has found.
  pub plan_early : (i : ℕ) → (get_or m (due_place i) 0 ≡ 1 → ⊥) → refused 8 0 ≡ waits_in (bare f) m (plan i)
  unfolding waits_in demand ◌then◌
  plan_early i h = rw (ne_eqb _ 1 h) refl

  plan_due : (i : ℕ) → get_or m (due_place i) 0 ≡ 1 →
      demand_each 13 1 (capacity_at f.carriers f.depth m i) f.carriers ≡ waits_in (bare f) m (plan i)
  unfolding waits_in capacity_in capacity_at bare machine_of
  plan_due i h = sym (then_passed (demand_passes 8 0 (eq-eqb _ 1 h)))

  -- Whether a plan is open: it is there, due, and no channel is full.
  pub plan_is_open : (i : ℕ) (full : Option ℕ) → i < f.carriers → get_or m (due_place i) 0 ≡ 1
      → FullSought (demand_each 13 1 (capacity_at f.carriers f.depth m i) f.carriers) f.carriers full → is_none full ≡ open_in (bare f) m (plan i)
  unfolding open_in passes
  plan_is_open i None l h e = rw (plan_named f i l, sym (plan_due i h), e) refl
  plan_is_open i (Some k) l h e = rw (plan_named f i l, sym (plan_due i h), e.1) refl

  pub plan_not_due : (i : ℕ) → i < f.carriers → (get_or m (due_place i) 0 ≡ 1 → ⊥) → false ≡ open_in (bare f) m (plan i)
  unfolding open_in passes
  plan_not_due i l h = rw (plan_named f i l, sym (plan_early i h)) refl

  -- What a delivery waits for.
  pub delivery_waits : (j i : ℕ) →
      demand (not (eqb (get_or m (channel_place f.carriers i j) 0) 0)) 12 (1 + i) ≡ waits_in (bare f) m (deliver j i)
  unfolding waits_in bare machine_of
  delivery_waits j i = refl

  pub delivery_is_open : (j i : ℕ) → j < i → i < f.carriers
      → not (eqb (get_or m (channel_place f.carriers i j) 0) 0) ≡ open_in (bare f) m (deliver j i)
  unfolding open_in
  delivery_is_open j i a l =
      rw (delivery_named f j i a l, sym (delivery_waits j i)) (sym (demand_test _ 12 (1 + i)))

-- The search for the first full channel from i: no carrier up to i has one; one more that has capacity; the first that has none; the end.
pub capacity_start : (n depth : ℕ) (m : List ℕ) (i : ℕ) → demand_each 13 1 (capacity_at n depth m i) (i + 1) ≡ passed
unfolding capacity_at
capacity_start n depth m i =
    all_passes 13 1 _ (λ k. capacity_at n depth m i k ≡ true) (λ k. (λ h. h, λ h. h)) (i + 1)
    (λ k l. or_inl (leb k i) _ (le-leb k i (omega arith)))

pub capacity_stop : {x : Bool} (ok : ℕ → Bool) (k n : ℕ) → demand_each 13 1 ok k ≡ passed → x ≡ ok k → not x ≡ true → k < n →
    FullSought (demand_each 13 1 ok n) n (Some k)
capacity_stop ok k n h e s l = (l, sym (tests_stop 13 1 ok k n h e s l))

pub capacity_end : (ok : ℕ → Bool) (k n : ℕ) → demand_each 13 1 ok k ≡ passed → k ≤ n → n ≤ k →
    FullSought (demand_each 13 1 ok n) n None
capacity_end ok k n h a b = sym (each_end 13 1 ok k n a b h)

pub ruleset full_search = (capacity_start, tests_go_on, capacity_stop, capacity_end, rules)

-- Silence as the code tests it: the plans, then the deliveries of each sender.
pub silent_is : (f : Floor) (m : List ℕ) →
    (each f.carriers (plan_shut f m) && each f.carriers (sender_shut f m)) ≡ silent_in (bare f) m
unfolding silent_in plan_shut sender_shut delivery_shut bare machine_of
silent_is f m =
    ap (λ (x : Bool). each f.carriers (plan_shut f m) && x)
    (each_same f.carriers (sender_shut f m) (λ j. each (f.carriers - suc j) (λ d. shut_in (bare f) m (deliver j (suc j + d))))
    (λ j l.
    rw add-one
    (each_same (f.carriers - suc j) (delivery_shut f m j) (λ d. shut_in (bare f) m (deliver j (suc j + d)))
    (λ d k. rw add-one refl))))

-- A law a case of the code that tests whether a plan, or a delivery, is open.
pub ruleset plan_cases = (plan_absent, plan_not_due, plan_is_open, rules)

pub ruleset delivery_cases = (upward_absent, receiver_absent, delivery_is_open, rules)
