-- Laws of what the two steps change: each part of the state after a plan and after a delivery.
use Prim.Native.Nat.{ℕ, ◌≤◌, ◌<◌}
use mathlib.Core.Bool.{Bool, true, false, ◌&&◌}
use mathlib.Core.List.{List, [], ◌∷◌, ◌++◌}
use mathlib.Core.Path.{◌≡◌, refl, ap}
use lib.Dec.{eqb}
use borrow.Author.Tests.{eqb-true, eq-eqb, ne_eqb, lt-ltb, le-ltb, not-false}
use Rattle.route.specs.Route.{Answer, none, route}
use Rattle.laws.proofs.Tests.{and_both, and_fst, and_snd, true_false_absurd}
use Rattle.reference.specs.State.{State}
use Rattle.reference.specs.Step.{same_cells, same_answer}
use Rattle.reference.specs.Take.{is_news, send, plan_as, oldest, newer, deliver_to}
use Rattle.reference.proofs.RangeLaws.{UpdatedAt, update_at, PairAt, pair_at}

pub same_cells_lem : (q r : List ℕ) → same_cells q r ≡ true → q ≡ r
unfolding same_cells
same_cells_lem [] [] e = refl
same_cells_lem [] (d ∷ r) e = true_false_absurd e refl
same_cells_lem (c ∷ q) [] e = true_false_absurd e refl
same_cells_lem (c ∷ q) (d ∷ r) e =
    rw (eqb-true c d (and_fst (eqb c d) (same_cells q r) e), same_cells_lem q r (and_snd (eqb c d) (same_cells q r) e))

pub cells_same : (r : List ℕ) → same_cells r r ≡ true
unfolding same_cells
cells_same [] = refl
cells_same (c ∷ r) = and_both (eq-eqb c c refl) (cells_same r)

same_answer_lem : (x y : Answer) → same_answer x y ≡ true → x ≡ y
unfolding same_answer
same_answer_lem none none e = refl
same_answer_lem none (route r) e = true_false_absurd e refl
same_answer_lem (route q) none e = true_false_absurd e refl
same_answer_lem (route q) (route r) e = ap route (same_cells_lem q r e)

module _ (s : State) (i : ℕ) (x : Answer) where
  -- An answer that is no news: the carrier has planned, and this was its answer.
  pub no_news : is_news s i x ≡ false → (s.planned i ≡ true) × (s.answer i ≡ x)
  unfolding is_news
  no_news e =
      let planned = s.planned i in
      let same = same_answer (s.answer i) x in
      let both = not-false (planned && same) e in
      (and_fst planned same both, same_answer_lem (s.answer i) x (and_snd planned same both))

  plan_sends : is_news s i x ≡ true → (plan_as s i x).chan ≡ send s.chan i x
  unfolding plan_as
  plan_sends e = rw (e, plan_as)

  pub plan_keeps : is_news s i x ≡ false → (plan_as s i x).chan ≡ s.chan
  unfolding plan_as
  plan_keeps e = rw (e, plan_as)

  -- The channel from i to a carrier below it gets the news.
  pub sent_below_lem : is_news s i x ≡ true → (k : ℕ) → i < k → (plan_as s i x).chan k i ≡ s.chan k i ++ (x ∷ [])
  unfolding send
  sent_below_lem e k l = rw (plan_sends e) (rw (eq-eqb i i refl, lt-ltb i k l, send) refl)

  -- Other channels stay as they are: those of other senders, and those to carriers that are not below i.
  pub chan_other : (k j : ℕ) → (j ≡ i → ⊥) → (plan_as s i x).chan k j ≡ s.chan k j
  unfolding send
  chan_other k j h = go (is_news s i x) refl
    where
      go : (y : Bool) → is_news s i x ≡ y → (plan_as s i x).chan k j ≡ s.chan k j
      go true e = rw (plan_sends e) (rw (ne_eqb j i h, send) refl)
      go false e = rw (plan_keeps e)

  pub chan_above : (k j : ℕ) → k ≤ i → (plan_as s i x).chan k j ≡ s.chan k j
  unfolding send
  chan_above k j h = go (is_news s i x) (eqb j i) refl refl
    where
      go : (y z : Bool) → is_news s i x ≡ y → eqb j i ≡ z → (plan_as s i x).chan k j ≡ s.chan k j
      go true true e f = rw (plan_sends e) (rw (f, le-ltb i k h, send) refl)
      go true false e f = rw (plan_sends e) (rw (f, send) refl)
      go false z e f = rw (plan_keeps e)

  -- Carrier i has planned, is no longer due and has this answer; the others are as they were.
  pub plan_planned : UpdatedAt s.planned i true (plan_as s i x).planned
  unfolding plan_as
  plan_planned = update_at s.planned i true

  pub plan_clears : UpdatedAt s.due i false (plan_as s i x).due
  unfolding plan_as
  plan_clears = update_at s.due i false

  pub plan_answer : UpdatedAt s.answer i x (plan_as s i x).answer
  unfolding plan_as
  plan_answer = update_at s.answer i x

  -- A plan changes no view.
  pub plan_view : (plan_as s i x).view ≡ s.view
  unfolding plan_as
  plan_view = refl

-- A delivery changes one channel and one view, and makes its receiver due.
module _ (s : State) (j i : ℕ) where
  pub deliver_due : UpdatedAt s.due i true (deliver_to s j i).due
  unfolding deliver_to
  deliver_due = update_at s.due i true

  pub deliver_planned : (deliver_to s j i).planned ≡ s.planned
  unfolding deliver_to
  deliver_planned = refl

  pub deliver_answer : (deliver_to s j i).answer ≡ s.answer
  unfolding deliver_to
  deliver_answer = refl

  pub deliver_chan : PairAt s.chan i j (newer (s.chan i j)) (deliver_to s j i).chan
  unfolding deliver_to
  deliver_chan = pair_at s.chan i j (newer (s.chan i j))

  pub deliver_view : PairAt s.view i j (oldest (s.view i j) (s.chan i j)) (deliver_to s j i).view
  unfolding deliver_to
  deliver_view = pair_at s.view i j (oldest (s.view i j) (s.chan i j))
