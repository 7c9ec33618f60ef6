-- Records copied, compared and put on channels.
use Prim.Native.Nat.{ℕ, zero, suc, ◌+◌, ◌-◌, ◌*◌, ◌≤◌, ◌<◌}
use native.Mathlib.Omega.{arith}
use native.Mathlib.Numerals.{add-one}
use mathlib.Core.Bool.{Bool, false}
use mathlib.Core.Path.{◌≡◌, refl, sym, ◌∙◌, ap}
use mathlib.Core.List.{List, [], ◌∷◌}
use lib.Dec.{eqb}
use lib.ListN.{length, get_or, set}
use borrow.Author.Tests.{eq-eqb, ne_eqb, lt-ltb, le-ltb}
use Rattle.laws.specs.Memory.{put, part}
use Rattle.laws.proofs.PutLaws.{put_one}
use Rattle.records.specs.Records.{resized, moved}
use Rattle.records.proofs.LoadLaws.{part_first}
use Rattle.reference.specs.Step.{same_cells}
use Rattle.std.specs.Prelude.{nat_eq}
use Rattle.std.specs.List.{between}
use Rattle.std.specs.Cmp.Lexicographic.{pointwise}
use borrow.Author.Rules.{rules}
use Rattle.encoding.specs.Places.{channel_place}
use Rattle.encoding.specs.InnerSteps.{shifted, pushed, pushed_below, sent_to}

-- Two lists of cells are the same where the library says so.
same_is : (q r : List ℕ) → pointwise nat_eq q r ≡ same_cells q r
unfolding same_cells
same_is [] [] = refl
same_is [] (d ∷ r) = refl
same_is (c ∷ q) [] = refl
same_is (c ∷ q) (d ∷ r) = rw (same_is q r) refl

-- A record in a memory is one that is given: its tag is, and its cells.
module _ (m cells : List ℕ) (at tag : ℕ) where
  pub record_other : at < length m → (get_or m at 0 ≡ tag → ⊥) → false ≡ same_cells (part m at 65) (tag ∷ cells)
  unfolding same_cells
  record_other l h = rw (sym (part_first m at 64 l), ne_eqb (get_or m at 0) tag h) refl

  pub record_tagged : {x : Bool} → at < length m → get_or m at 0 ≡ tag → x ≡ pointwise nat_eq (between (at + 1) (at + 65) m) cells
      → x ≡ same_cells (part m at 65) (tag ∷ cells)
  unfolding same_cells part
  record_tagged l h e =
      let n : at + 65 - (at + 1) ≡ 64 = omega arith in
      let k = e ∙ same_is (between (at + 1) (at + 65) m) cells in
      rw (sym (part_first m at 64 l), eq-eqb (get_or m at 0) tag h) (rw n at k)

pub ruleset records_compared = (record_other, record_tagged, rules)

-- A channel at place c with so many records moved up by one place.
unfoldable pub moved_up : List ℕ → ℕ → ℕ → List ℕ
moved_up m c zero = m
moved_up m c (suc k) = moved (moved_up m c k) (c + 1 + 65 * (k + 1)) (c + 1 + 65 * k)

module _ (m : List ℕ) (c : ℕ) where
  pub moved_none : (k : ℕ) → k ≡ 0 → m ≡ moved_up m c k
  unfolding moved_up
  moved_none k e = rw e refl

  pub moved_more : (m' m'' : List ℕ) (p from to : ℕ) → 1 ≤ p → m' ≡ moved_up m c (p - 1) → from ≡ c + 1 + 65 * p → to ≡ c + 1 + 65 * (p - 1)
      → m'' ≡ moved m' from to → m'' ≡ moved_up m c (p + 1 - 1)
  unfolding moved_up
  moved_more m' m'' p from to l e f t h =
      let n : p + 1 - 1 ≡ suc (p - 1) = omega arith in
      let q : c + 1 + 65 * p ≡ c + 1 + 65 * (p - 1 + 1) = omega arith in
      rw n (h ∙ rw (e, f, t, q) refl)

  pub shifted_is : (m' m'' : List ℕ) (k at : ℕ) → m' ≡ moved_up m c k → k ≡ 3 → at ≡ c + 1 + 65 * 3 → m'' ≡ put m' at (resized 65 [])
      → m'' ≡ shifted m c
  unfolding shifted moved_up
  shifted_is m' m'' k at e three a h =
      let first : c + 1 + 0 ≡ c + 1 = omega arith in
      let second : c + 1 + 65 ≡ c + 66 = omega arith in
      let third : c + 1 + 130 ≡ c + 131 = omega arith in
      let fourth : c + 1 + 195 ≡ c + 196 = omega arith in
      h ∙ rw (e, three, a, first, second, third, fourth) refl

module _ (m rec : List ℕ) (p : ℕ) where
  pub push_stores : (m' : List ℕ) (at : ℕ) → p < length m' → get_or m p 0 < 4 → at ≡ p + 1 + 65 * get_or m p 0 → m' ≡ put m at rec →
      set m' p (get_or m p 0 + 1) ≡ pushed m p rec
  unfolding pushed
  push_stores m' at l h place e = rw (lt-ltb (get_or m p 0) 4 h) (put_one m' p (get_or m p 0 + 1) l ∙ rw (e, place) refl)

  pub push_full : 4 ≤ get_or m p 0 → m ≡ pushed m p rec
  unfolding pushed
  push_full h = rw (le-ltb (get_or m p 0) 4 h) refl

module _ (n i : ℕ) (rec m : List ℕ) where
  above_keeps : (k : ℕ) → k ≤ i → m ≡ pushed_below n i rec m k
  unfolding pushed_below
  above_keeps k l = rw (le-ltb i k l) refl

  -- The carriers from i on are not below it.
  pub none_sent : (k : ℕ) → k ≤ i + 1 → m ≡ sent_to n i rec m k
  unfolding sent_to
  none_sent zero l = refl
  none_sent (suc k) l = above_keeps k (omega arith) ∙ ap (λ (m' : List ℕ). pushed_below n i rec m' k) (none_sent k (omega arith))

  pub send_more : (m' m'' : List ℕ) (k : ℕ) → i + 1 ≤ k → m' ≡ sent_to n i rec m k → m'' ≡ pushed m' (channel_place n k i) rec
      → m'' ≡ sent_to n i rec m (k + 1)
  unfolding sent_to pushed_below
  send_more m' m'' k l e g = rw (add-one, sym e, lt-ltb i k (omega arith)) g
