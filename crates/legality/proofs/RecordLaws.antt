-- What a record's tag and its blank numbers say of its 65 numbers.
use Prim.Native.Nat.{ℕ, zero, suc, ◌+◌, ◌≤◌, ◌<◌}
use native.Mathlib.Omega.{arith}
use mathlib.Core.List.{List, ◌∷◌}
use mathlib.Core.Logic.{◌⊎◌, inl, inr, ⊎_elim}
use mathlib.Core.Path.{◌≡◌, refl, sym, ◌∙◌, ap}
use lib.ListN.{length, get_or, replicate, length-replicate}
use Rattle.laws.specs.Memory.{part}
use Rattle.laws.specs.Verdict.{passed}
use Rattle.laws.proofs.Tests.{eq_or_ne, lt_or_le}
use Rattle.laws.proofs.Lists.{zeros_at}
use Rattle.laws.proofs.PartLaws.{part_byte, part_is}
use Rattle.laws.proofs.VerdictLaws.{refused_not_passed}
use Rattle.route.specs.Route.{cell_at, Task}
use Rattle.legality.specs.Tests.{blank_test, route_test, record_test}
use Rattle.legality.specs.Entry.{RecordAnswer, a_route, a_none, not_heard, wrong, record_kind}
use Rattle.legality.proofs.EntryLaws.{tag_fails, tag_route, tag_blank, kind_route, kind_none, kind_unheard}

-- The tests that were made, by the tag.
module _ (task : Task) (tag : ℕ) (r : List ℕ) (ok : record_test task tag r ≡ passed) where
  pub route_tested : tag ≡ 2 → route_test task r ≡ passed
  route_tested e = tag_route task tag r e refl ∙ ok

  pub tag_low : tag ≤ 2
  tag_low =
      ⊎_elim (λ (l : 2 < tag). absurd (refused_not_passed (tag_fails task tag r l refl ∙ ok))) (λ (l : tag ≤ 2). l) (lt_or_le 2 tag)

  pub blank_tested : (tag ≡ 2 → ⊥) → blank_test 0 r ≡ passed
  blank_tested n = tag_blank task tag r tag_low n refl ∙ ok

-- A number for each kind of answer, and the arrival of a route.
unfoldable pub case_of : RecordAnswer → ℕ
case_of (a_route a) = 0
case_of a_none = 1
case_of not_heard = 2
case_of (wrong k t) = 3

unfoldable arrival_in : RecordAnswer → ℕ
arrival_in (a_route a) = a
arrival_in a_none = 0
arrival_in not_heard = 0
arrival_in (wrong k t) = 0

-- The tag of a record by what it is.
module _ (tag a : ℕ) where
  -- Two kinds that are told of one tag are one.
  same_case : {x y : RecordAnswer} → x ≡ record_kind tag a → record_kind tag a ≡ y → case_of x ≡ case_of y
  same_case e h = ap case_of (e ∙ h)

  other_tag : (tag ≡ 2 → ⊥) → (b : ℕ) → record_kind tag a ≡ a_route b → ⊥
  unfolding case_of
  other_tag n b e =
      ⊎_elim (λ (h : tag ≡ 1). let z : ◌≡◌ {A = ℕ} 1 0 = same_case (kind_none tag a h) e in omega arith)
      (λ (h : tag ≡ 1 → ⊥). let z : ◌≡◌ {A = ℕ} 2 0 = same_case (kind_unheard tag a n h) e in omega arith) (eq_or_ne tag 1)

  pub route_tag : (b : ℕ) → record_kind tag a ≡ a_route b → (tag ≡ 2) × (a ≡ b)
  unfolding arrival_in
  route_tag b e =
      ⊎_elim (λ (h : tag ≡ 2). (h, ap arrival_in (kind_route tag a h ∙ e))) (λ (h : tag ≡ 2 → ⊥). absurd (other_tag h b e)) (eq_or_ne tag 2)

  pub none_tag : record_kind tag a ≡ a_none → tag ≡ 1
  unfolding case_of
  none_tag e = ⊎_elim (λ (h : tag ≡ 1). h) (λ (h : tag ≡ 1 → ⊥). absurd (by_two h (eq_or_ne tag 2))) (eq_or_ne tag 1)
    where
      by_two : (tag ≡ 1 → ⊥) → (tag ≡ 2) ⊎ (tag ≡ 2 → ⊥) → ⊥
      by_two h (inl k) = let z : ◌≡◌ {A = ℕ} 0 1 = same_case (kind_route tag a k) e in omega arith
      by_two h (inr k) = let z : ◌≡◌ {A = ℕ} 2 1 = same_case (kind_unheard tag a k h) e in omega arith

  pub unheard_tag : tag ≤ 2 → record_kind tag a ≡ not_heard → tag ≡ 0
  unfolding case_of
  unheard_tag l e =
      let two : tag ≡ 2 → ⊥ = λ h. let z : ◌≡◌ {A = ℕ} 0 2 = same_case (kind_route tag a h) e in omega arith in
      let one : tag ≡ 1 → ⊥ = λ h. let z : ◌≡◌ {A = ℕ} 1 2 = same_case (kind_none tag a h) e in omega arith in
      omega arith

-- A tag with 64 zeros behind it, as a record.
module _ (m : List ℕ) (lent : 65 ≤ length m) (tag : ℕ) where
  pub blank_record : get_or m 0 0 ≡ tag → ((t : ℕ) → 0 ≤ t → cell_at (part m 1 64) t ≡ 0) → part m 0 65 ≡ tag ∷ replicate 64 0
  unfolding cell_at
  blank_record e h = part_is m 0 65 _ lent (ap suc (length-replicate {A = ℕ} 64 0)) each
    where
      each : (k : ℕ) → k < 65 → get_or m (0 + k) 0 ≡ get_or (tag ∷ replicate 64 0) k 0
      each zero l = e
      each (suc k) l =
          let same : 0 + suc k ≡ 1 + k = omega arith in
          ap (λ (n : ℕ). get_or m n 0) same
          ∙ sym (part_byte m 1 64 k (omega arith))
          ∙ h k (omega arith)
          ∙ sym (zeros_at 64 k)

  pub record_blank : part m 0 65 ≡ tag ∷ replicate 64 0 → (get_or m 0 0 ≡ tag) × ((t : ℕ) → t < 64 → cell_at (part m 1 64) t ≡ 0)
  unfolding cell_at
  record_blank e = (
    sym (part_byte m 0 65 0 (omega arith)) ∙ ap (λ (xs : List ℕ). get_or xs 0 0) e,
    λ t l.
        let same : 1 + t ≡ 0 + suc t = omega arith in
        part_byte m 1 64 t l
        ∙ ap (λ (n : ℕ). get_or m n 0) same
        ∙ sym (part_byte m 0 65 (suc t) (omega arith))
        ∙ ap (λ (xs : List ℕ). get_or xs (suc t) 0) e
        ∙ zeros_at 64 t,
  )
