-- Loops over the places of the ranking: how many so far are open, and which open place has i others before it.
use Rattle.std.proofs.Common.{◌≡◌, ℕ, suc, ◌+◌, ◌<◌, ◌≤◌, Bool, true, false, length, get_or, sym, ap, ◌∙◌, add-one, arith}
use Rattle.orders.specs.Orders.{passing}
use Rattle.orders.proofs.PassingLaws.{count_none, count_yes, count_no, passing_at}

-- After p of k places, `found` of them passed.
pub record PassingCounted (test : ℕ → Bool) (k p found : ℕ) : Type 0 where
  pub within : p ≤ k
  pub few : found ≤ p
  pub number : found ≡ length (passing test p)

module _ (test : ℕ → Bool) (k : ℕ) where
  pub counted_start : PassingCounted test k 0 0
  counted_start = record { within = omega arith; few = omega arith; number = sym (count_none test) }

  pub counted_yes : (p found : ℕ) → PassingCounted test k p found → p < k → test p ≡ true → PassingCounted test k (p + 1) (found + 1)
  counted_yes p found r l e =
      record {
        within = omega arith;
        few = omega (arith, r.few);
        number = rw (add-one, add-one) (ap suc r.number ∙ sym (count_yes test p e));
      }

  pub counted_no : (p found : ℕ) → PassingCounted test k p found → p < k → test p ≡ false → PassingCounted test k (p + 1) found
  counted_no p found r l e =
      record { within = omega arith; few = omega (arith, r.few); number = rw add-one (r.number ∙ sym (count_no test p e)) }

  pub counted_end : (p found : ℕ) → PassingCounted test k p found → k ≤ p → (found ≡ length (passing test k)) × (found ≤ k)
  counted_end p found r l =
      let same : p ≡ k = omega (arith, r.within) in (r.number ∙ ap (λ (p : ℕ). length (passing test p)) same, omega (arith, r.few))

  -- The open place that has as many before it as were found.
  pub found_at : (p found : ℕ) → PassingCounted test k p found → p < k → test p ≡ true → (p ≡ get_or (passing test k) found 0) × (p < k)
  found_at p found r l e = (rw r.number (sym (passing_at test k p l e).1), l)

  -- There is one, so the loop does not end without it.
  pub found_none : {A : Type 0} (i p found : ℕ) → i < length (passing test k) → PassingCounted test k p found → found ≤ i → k ≤ p → A
  found_none i p found l r h e = absurd (omega (arith, (counted_end p found r e).0))
