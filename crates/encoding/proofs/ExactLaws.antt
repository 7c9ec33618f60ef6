-- A memory that is long enough is valid exactly if its front is the encoding of a state within the ranges; and how long that is.
use Prim.Native.Nat.{ℕ, zero, suc, ◌*◌, ◌≤◌}
use native.Mathlib.Omega.{arith}
use mathlib.Core.Bool.{true, false, ◌&&◌}
use mathlib.Core.List.{List, ◌++◌}
use mathlib.Core.Logic.{◌↔◌}
use mathlib.Core.Path.{◌≡◌, refl, sym, ◌∙◌, ap}
use lib.ListN.{length, replicate, take, drop, take-append-drop}
use Rattle.laws.proofs.Lists.{zeros_at}
use Rattle.floor.specs.declared.Floor.{Floor}
use Rattle.floor.specs.Checks.{within}
use Rattle.laws.proofs.Tests.{and_fst, and_snd, not_true_is_false, true_false_absurd}
use Rattle.reference.specs.State.{State, fresh}
use Rattle.laws.specs.Verdict.{each}
use Rattle.reference.proofs.ThroughLaws.{fresh_throughout}
use Rattle.laws.proofs.HoldLaws.{each_holds}
use Rattle.encoding.specs.Places.{pairs_before, planned_place, due_place, answer_place, state_size}
use Rattle.encoding.specs.Encode.{encode}
use Rattle.encoding.specs.Decode.{decode}
use Rattle.encoding.specs.Valid.{record_valid, carrier_valid, pair_valid, count_valid, valid}
use Rattle.encoding.specs.Ranges.{Sound, WithinRanges}
use Rattle.encoding.proofs.ValidLaws.{fits_valid, valid_fits}

-- A memory whose front is the encoding of a state within the ranges is valid.
front_valid : (f : Floor) (m : List ℕ) (s : State) → f.depth ≤ 4 → f.horizon ≤ 63 → WithinRanges f s
    → take (state_size f.carriers) m ≡ encode f.carriers s → valid f m ≡ true
front_valid f m s d h k e =
    let n = state_size f.carriers in
    let whole : encode f.carriers s ++ drop n m ≡ m = ap (λ (xs : List ℕ). xs ++ drop n m) (sym e) ∙ take-append-drop n m in
    rw whole at (fits_valid f s (drop n m) d h k)

pub valid_exactly : (f : Floor) (m : List ℕ) → f.depth ≤ 4 → f.horizon ≤ 63 → state_size f.carriers ≤ length m
    → (valid f m ≡ true) ↔ ((s : State) × (WithinRanges f s) × (take (state_size f.carriers) m ≡ encode f.carriers s))
valid_exactly f m d h l = (
  λ e. let r = valid_fits f m d h l e in (decode f.carriers m, r.0, sym r.1),
  λ q. front_valid f m q.0 d h q.1 q.2,
)

-- The fresh state is within the ranges.
pub fresh_fits : (f : Floor) → WithinRanges f fresh
unfolding Sound fresh
fresh_fits f =
    record {
      counted = omega arith;
      channels = λ i j a b. omega arith;
      parts = fresh_throughout f.carriers (Sound f) tt;
    }

pub fresh_valid : (f : Floor) (rest : List ℕ) → f.depth ≤ 4 → f.horizon ≤ 63 → valid f (encode f.carriers fresh ++ rest) ≡ true
fresh_valid f rest d h = fits_valid f fresh rest d h (fresh_fits f)

zeros_fail : (f : Floor) (k : ℕ) → carrier_valid f (replicate k 0) 0 ≡ false
unfolding carrier_valid record_valid within
zeros_fail f k = rw (zeros_at k (planned_place 0), zeros_at k (due_place 0), zeros_at k (answer_place 0))

pub zeros_refused : (f : Floor) (k : ℕ) → 1 ≤ f.carriers → valid f (replicate k 0) ≡ false
unfolding valid
zeros_refused f k l =
    let m : List ℕ = replicate k 0 in
    let carriers = each f.carriers (carrier_valid f m) in
    let rest = each f.carriers (λ i. each i (pair_valid f m i)) in
    not_true_is_false (valid f m)
    (λ e.
    true_false_absurd
    (each_holds f.carriers (carrier_valid f m) (and_fst carriers rest (and_snd (count_valid m) (carriers && rest) e)) 0 l)
    (zeros_fail f k))

-- More carriers have more pairs.
pub pairs_grow : (k n : ℕ) → n ≤ k → pairs_before n ≤ pairs_before k
unfolding pairs_before
pairs_grow zero zero l = omega arith
pairs_grow zero (suc n) l = absurd (omega arith)
pairs_grow (suc k) zero l = omega arith
pairs_grow (suc k) (suc n) l = omega (arith, pairs_grow k n (omega arith))

-- The size for eight carriers.
pub size_most : state_size 8 ≡ 9666
unfolding state_size pairs_before
size_most = refl

pub size_small : (f : Floor) → f.carriers ≤ 8 → 2 * state_size f.carriers ≤ 65536
unfolding state_size pairs_before
size_small f l = omega (arith, pairs_grow 8 f.carriers l)
