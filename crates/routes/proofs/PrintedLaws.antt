-- A memory of 2,659 bytes holds every printed text: no text is refused there, and what is printed stands in front.
use Prim.Native.Nat.{ℕ, ◌≤◌}
use native.Mathlib.Omega.{arith}
use mathlib.Core.Path.{◌≡◌, ◌∙◌}
use mathlib.Core.List.{List}
use borrow.Author.Tests.{le-leb}
use lib.ListN.{length, take}
use Rattle.io.specs.Counts.{IsPrefixLen}
use Rattle.laws.specs.Memory.{put}
use Rattle.laws.proofs.PutLaws.{put_front}
use Rattle.console.proofs.WithinLaws.{counts_within}
use Rattle.std.specs.Prelude.{Result, Ok, Err}
use Rattle.std.specs.Result.{result_unwrap_or}
use Rattle.laws.specs.Verdict.{value, refusal}
use Rattle.floor.specs.declared.Refusal.{Refusal}
use Rattle.floor.specs.Answers.{number_of, outcome_by}
use Rattle.printing.specs.Print.{printed_outcome, routes_of, needed_for, routes_outcome, routes_memory}
use Rattle.printing.proofs.Theorems.{theorems}

-- An answer that is a number of bytes.
printed_length : (y : Result ℕ Refusal) (n : ℕ) → printed_outcome y ≡ value n → result_unwrap_or y 0 ≡ n
unfolding outcome_by
printed_length (Ok k) n e = let h : value k ≡ value n = e in cc
printed_length (Err x) n e =
    let h : refusal (number_of x.reason) x.place ≡ value n = e in
    let z : ◌≡◌ {A = ℕ} 0 1 = cc in
    absurd (omega arith)

module _ (text old new : List ℕ) (y : Result ℕ Refusal) (enough : 2659 ≤ length old) (says : printed_outcome y ≡ routes_outcome text (length old))
    (stores : new ≡ routes_memory text old) where
  printed_put : new ≡ put old 0 (routes_of text)
  unfolding routes_memory
  printed_put =
      let fits : needed_for text ≤ length old = omega (arith, (theorems.routes_within text).1) in
      stores ∙ rw (le-leb _ _ fits)

  -- What is printed is counted in front.
  pub counted : (n : ℕ) → n ≡ result_unwrap_or y 0 → IsPrefixLen n new × (take n new ≡ routes_of text)
  counted n e =
      let within = theorems.routes_within text in
      let size = printed_length y _ (says ∙ theorems.always_written text (length old) enough) in
      let f = put_front old new (routes_of text) n printed_put (e ∙ size) (omega arith) in
      (counts_within _ _ f.0, f.1)
