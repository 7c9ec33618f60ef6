-- The memory of a state shows which steps are open, and whether the machine is silent.
use Prim.Native.Nat.{ℕ, suc, ◌+◌, ◌-◌, ◌≤◌, ◌<◌}
use native.Mathlib.Omega.{arith}
use mathlib.Core.Bool.{Bool, true, false, ◌&&◌, ◌||◌, not}
use mathlib.Core.List.{List, [], ◌∷◌, ◌++◌}
use mathlib.Core.Logic.{⊎_elim}
use mathlib.Core.Path.{◌≡◌, refl, sym, ◌∙◌, ap, ap₂}
use lib.Dec.{leb, ltb, eqb}
use lib.ListN.{length}
use borrow.Author.Tests.{ltb-true, le-leb, ne_eqb}
use Rattle.route.specs.Route.{Answer}
use Rattle.laws.specs.Verdict.{passes, each}
use Rattle.laws.proofs.Tests.{and_fst, and_snd, and_same, lt_or_le}
use Rattle.laws.proofs.VerdictLaws.{demand_same}
use Rattle.reference.specs.State.{Machine, State}
use Rattle.reference.specs.Step.{Step, plan, deliver, is_there, has_capacity, is_empty, waits_for, is_open}
use Rattle.reference.specs.Ranking.{is_silent}
use Rattle.laws.proofs.HoldLaws.{each_same}
use Rattle.reference.proofs.RankingLaws.{is_shut, silent_tests}
use Rattle.encoding.specs.Encode.{flag, encode}
use Rattle.encoding.specs.InnerSteps.{capacity_in, waits_in, open_in, shut_in, silent_in}
use Rattle.encoding.proofs.ReadLaws.{read_due, read_length}

-- A flag is 1 where it is set.
pub flag_set : (x : Bool) → eqb (flag x) 1 ≡ x
unfolding flag
flag_set true = refl
flag_set false = refl

-- A list has length 0 where it is empty.
empty_length : (xs : List Answer) → eqb (length xs) 0 ≡ is_empty xs
unfolding is_empty
empty_length [] = refl
empty_length (x ∷ xs) = ne_eqb (length (x ∷ xs)) 0 (λ e. omega arith)

module _ (M : Machine) (s : State) (rest : List ℕ) where
  -- The number of carriers, and the memory of the state.
  abbrev n : ℕ
  n = M.carriers

  abbrev m : List ℕ
  m = encode n s ++ rest

  capacity_same : (i k : ℕ) → k < n → capacity_in M m i k ≡ has_capacity M s i k
  unfolding capacity_in has_capacity
  capacity_same i k l =
      ⊎_elim
      (λ (h : i < k). ap (λ (x : ℕ). leb k i || ltb x M.depth) (read_length n s rest k i h l))
      (λ (h : k ≤ i). rw (le-leb k i h))
      (lt_or_le i k)

  -- A step that is there waits for the same.
  pub waits_same : (x : Step) → is_there M x ≡ true → waits_in M m x ≡ waits_for M s x
  unfolding waits_in waits_for is_there
  waits_same (plan i) e =
      let l : i < n = ltb-true i n e in
      rw (read_due n s rest i l, flag_set (s.due i), demand_same 13 1 (capacity_in M m i) (has_capacity M s i) n (capacity_same i))
  waits_same (deliver j i) e =
      let a : j < i = ltb-true j i (and_fst (ltb j i) (ltb i n) e) in
      let b : i < n = ltb-true i n (and_snd (ltb j i) (ltb i n) e) in
      rw (read_length n s rest i j a b, empty_length (s.chan i j))

  -- The same steps are open.
  pub open_same : (x : Step) → open_in M m x ≡ is_open M s x
  unfolding open_in is_open
  open_same x = and_same (is_there M x) (passes (waits_in M m x)) (passes (waits_for M s x)) (λ e. ap passes (waits_same x e))

  -- Both are silent, or neither is.
  pub silent_same : silent_in M m ≡ is_silent M s
  unfolding silent_in shut_in is_shut
  silent_same =
      ap₂ ◌&&◌
      (each_same n (λ i. shut_in M m (plan i)) (λ i. is_shut M s (plan i)) (λ i l. ap not (open_same (plan i))))
      (each_same n
      (λ j. each (n - suc j) (λ d. shut_in M m (deliver j (suc j + d))))
      (λ j. each (n - suc j) (λ d. is_shut M s (deliver j (suc j + d))))
      (λ j l.
      each_same (n - suc j)
      (λ d. shut_in M m (deliver j (suc j + d))) (λ d. is_shut M s (deliver j (suc j + d)))
      (λ d h. ap not (open_same (deliver j (suc j + d))))))
      ∙ sym (silent_tests M s)
