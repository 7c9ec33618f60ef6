-- One more step counted in memory is one more step counted.
use Prim.Native.Nat.{ℕ, ◌+◌, ◌/◌, ◌%◌, ◌≤◌, ◌<◌}
use native.Mathlib.Omega.{arith}
use mathlib.Core.List.{List, [], ◌∷◌, ◌++◌}
use mathlib.Core.Logic.{⊎_elim}
use mathlib.Core.Path.{◌≡◌, refl, sym, ◌∙◌, ap}
use borrow.Author.Tests.{lt-ltb, le-ltb}
use Rattle.laws.proofs.Tests.{lt_or_le}
use Rattle.laws.specs.Memory.{put}
use Rattle.reference.specs.State.{State, tick}
use Rattle.encoding.specs.Encode.{count_block, encode}
use Rattle.encoding.specs.InnerSteps.{ticked}
use Rattle.encoding.proofs.WindowLaws.{Window, window_whole, window_behind, window_inside, window_put}
use Rattle.encoding.proofs.StateLaws.{with_taken, count_window}
use Rattle.encoding.proofs.ReadLaws.{read_thousands, read_rest}

-- The rest of the count alone, and thousands and rest together.
rest_window : (t u : ℕ) → u / 1000 ≡ t / 1000 → Window 1 (count_block t) (count_block u) (t % 1000 ∷ []) (u % 1000 ∷ [])
unfolding count_block
rest_window t u e = rw e (window_behind (t / 1000 ∷ []) 1 1 refl refl (window_whole (t % 1000 ∷ []) (u % 1000 ∷ [])))

module _ (n : ℕ) (s : State) (rest : List ℕ) where
  -- The rest put anew, and the whole count put anew.
  put_rest : (u : ℕ) → u / 1000 ≡ s.taken / 1000 → put (encode n s ++ rest) 1 (u % 1000 ∷ []) ≡ encode n (with_taken s u) ++ rest
  put_rest u e = window_put refl (window_inside 1 refl (count_window n s rest u) (rest_window s.taken u e))

  put_count : (u : ℕ) → put (encode n s ++ rest) 0 (u / 1000 ∷ (u % 1000 ∷ [])) ≡ encode n (with_taken s u) ++ rest
  unfolding count_block
  put_count u = window_put refl (count_window n s rest u)

  taken_again : encode n (with_taken s s.taken) ++ rest ≡ encode n s ++ rest
  unfolding with_taken
  taken_again = refl

  pub ticked_same : s.taken ≤ 999999 → ticked (encode n s ++ rest) ≡ encode n (with_taken s (tick s.taken)) ++ rest
  unfolding ticked tick
  ticked_same l =
      ⊎_elim
      (λ (a : s.taken % 1000 < 999).
      let e : s.taken % 1000 + 1 ≡ tick s.taken % 1000 = unfold tick in omega arith in
      rw (read_rest n s rest, lt-ltb (s.taken % 1000) 999 a, e) (put_rest (tick s.taken) (unfold tick in omega arith)))
      (λ (a : 999 ≤ s.taken % 1000).
      ⊎_elim
      (λ (b : s.taken / 1000 < 999).
      let e : s.taken / 1000 + 1 ≡ tick s.taken / 1000 = unfold tick in omega arith in
      let z : 0 ≡ tick s.taken % 1000 = unfold tick in omega arith in
      rw (read_rest n s rest, read_thousands n s rest, le-ltb (s.taken % 1000) 999 a, lt-ltb (s.taken / 1000) 999 b, e)
      (ap (λ (x : ℕ). put (encode n s ++ rest) 0 (tick s.taken / 1000 ∷ (x ∷ []))) z ∙ put_count (tick s.taken)))
      (λ (b : 999 ≤ s.taken / 1000).
      let e : tick s.taken ≡ s.taken = unfold tick in omega arith in
      rw (read_rest n s rest, read_thousands n s rest, le-ltb (s.taken % 1000) 999 a, le-ltb (s.taken / 1000) 999 b, e)
      (sym taken_again))
      (lt_or_le (s.taken / 1000) 999))
      (lt_or_le (s.taken % 1000) 999)
