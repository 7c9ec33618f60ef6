-- Tests made in turn: two of them, or those of all the numbers below a bound.
use Prim.Native.Nat.{ℕ, ◌<◌}
use native.Mathlib.Omega.{arith}
use mathlib.Core.Bool.{Bool, true, false, ◌&&◌}
use mathlib.Core.Path.{◌≡◌, sym, ◌∙◌, subst}
use Rattle.laws.specs.Verdict.{each}
use Rattle.laws.proofs.HoldLaws.{each_true, hold_stop}
use native.Mathlib.Nat.{zero-add}
use mathlib.Core.List.{List}
use lib.ListN.{length}
use denote.Param.Members.{Mut}
use Rattle.std.specs.Prelude.{Option, MatchOption}
use Rattle.std.specs.Bool.{MatchBool}
use Rattle.std.specs.Fn.{Called}
use Rattle.std.specs.Iterator.{YieldsThen}
use Rattle.std.specs.List.{range_with_len, FoldsTo, HoldsAt, AllWithin}
use Rattle.std.specs.declared.ops.Range.{Range}
use Rattle.std.proofs.iter.Yields.{nat_range_steps}
use Rattle.std.proofs.lemmas.Iterator.{cases_from_all, YieldsList-from_range}
use Rattle.std.proofs.lemmas.List.FromFn.{length-range_with_len, get_or-range_with_len}

-- Two tests in turn: the first holds, and the second decides.
pub and_next : {x : Bool} (y z : Bool) → y ≡ true → x ≡ z → x ≡ y && z
and_next y z e h = rw e h

-- Two calls whose answers are tested in turn.
pub first_said : {x y : Bool} (y' : Bool) {z : Bool} → (y && y') ≡ z → x ≡ y → x ≡ false → x ≡ z
first_said y' w e h = let f = sym e ∙ h in rw (← w, f) h

pub second_said : {x x' y y' z : Bool} → (y && y') ≡ z → x ≡ y → x ≡ true → x' ≡ y' → x' ≡ z
second_said w e h e' = let f = sym e ∙ h in rw (← w, f) e'

-- What `all` over the numbers below n answers, where the closure answers test φ and changes nothing.
all_said : (n : ℕ) (φ : ℕ → Bool) (r : Bool)
    → MatchBool r (AllWithin (λ x. φ x ≡ true) (range_with_len 0 n) 0 (length (range_with_len 0 n)))
    ((k : ℕ) × (k < length (range_with_len 0 n)) × HoldsAt (λ x. φ x ≡ false) (range_with_len 0 n) k) → r ≡ each n φ
all_said n φ true h =
    sym
    (each_true n φ
    (λ i l.
    subst (λ x. φ x ≡ true) (get_or-range_with_len 0 n i 0 l ∙ zero-add i)
    (h i 0 (omega arith) (omega (arith, length-range_with_len 0 n)))))
all_said n φ false (k, l, h) =
    let b : k < n = omega (arith, length-range_with_len 0 n) in
    hold_stop φ k n b (subst (λ x. φ x ≡ false) (get_or-range_with_len 0 n k 0 b ∙ zero-add k) (h 0))

pub all_each : {F : Type 0} {g : Mut F (ℕ × Unit {0}) Bool} (n : ℕ) (φ : ℕ → Bool) {s u : Range ℕ} {f : F} {r : Bool}
    → s ≡ record { start = 0; end = n }
    → (xs : List ℕ) × (o : Option ℕ) × (j : F) × YieldsThen nat_range_steps s xs o u × FoldsTo (λ p x q. Called g p (x, tt) true q) f xs j
    × MatchOption o (r ≡ true) (λ x. (r ≡ false) × ((h : F) × Called g j (x, tt) false h))
    → ((x : ℕ) (b : Bool) (q : F) → Called g f (x, tt) b q → (q ≡ f) × (b ≡ φ x)) → r ≡ each n φ
all_each n φ {s} {u} {f} {r} e ran call =
    all_said n φ r
    (cases_from_all u f r (λ x. φ x ≡ true) (λ x. φ x ≡ false) ran (YieldsList-from_range 0 n n e (omega arith))
    (λ x q k. let p = call x true q k in (p.0, sym p.1)) (λ x q k. sym (call x false q k).1))
