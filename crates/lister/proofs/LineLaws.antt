-- Lines of runs in a memory: a run written as its line.
use Prim.Native.Nat.{ℕ, suc, ◌+◌, ◌*◌, ◌-◌, ◌/◌, ◌≤◌, ◌<◌}
use native.Mathlib.Omega.{arith}
use mathlib.Core.List.{List, [], ◌∷◌, ◌++◌, append_assoc}
use mathlib.Core.Path.{◌≡◌, refl, sym, ◌∙◌, ap}
use lib.ListN.{length, take, set, length-set, length-take}
use lib.Seq.{take-suc-set}
use borrow.Author.Tests.{le-leb, lt-leb, lt-ltb, le-ltb}
use Rattle.laws.specs.Memory.{put}
use Rattle.laws.proofs.PutLaws.{put_one, put_next}
use Rattle.lister.specs.Lines.{line_written}

-- Two numbers more behind 2 k of them.
pub two_more : (trail : List ℕ) (k number answer : ℕ) → length trail ≡ 22 → k < 11 →
    take (2 * (k + 1)) (set (set trail (2 * k) number) (2 * k + 1) answer) ≡ take (2 * k) trail ++ (number ∷ (answer ∷ []))
two_more trail k number answer long l =
    let here : 2 * (k + 1) ≡ suc (suc (2 * k)) = omega arith in
    let next : 2 * k + 1 ≡ suc (2 * k) = omega arith in
    rw (here, next)
    (take-suc-set (set trail (2 * k) number) (suc (2 * k)) answer (omega (arith, length-set trail (2 * k) number))
    ∙ ap (λ (xs : List ℕ). xs ++ (answer ∷ [])) (take-suc-set trail (2 * k) number (omega arith))
    ∙ append_assoc (take (2 * k) trail) (number ∷ []) (answer ∷ []))

-- Line i of n numbers' lines is within them.
pub line_fits : (i n : ℕ) → i < n / 23 → 23 * i + 23 ≤ n
line_fits i n l = omega arith

module _ (first rank steps : ℕ) (numbers lines : List ℕ) where
  pub written_before : rank < first → lines ≡ line_written first rank steps numbers lines
  unfolding line_written
  written_before l = rw (lt-leb first rank l) refl

  pub written_behind : first ≤ rank → length lines / 23 ≤ rank - first → lines ≡ line_written first rank steps numbers lines
  unfolding line_written
  written_behind l h = rw (le-leb first rank l, le-ltb (rank - first) (length lines / 23) h) refl

  pub written_there : first ≤ rank → rank - first < length lines / 23 →
      line_written first rank steps numbers lines ≡ put lines (23 * (rank - first)) (steps ∷ numbers)
  unfolding line_written
  written_there l h = rw (le-leb first rank l, lt-ltb (rank - first) (length lines / 23) h) refl

-- The number of steps, and then the numbers of the run, are its line.
pub written_line : (first rank steps : ℕ) (trail lines lines' : List ℕ) → first ≤ rank → rank - first < length lines / 23 → steps ≤ 11 →
    lines' ≡ put (set lines (23 * (rank - first)) steps) (23 * (rank - first) + 1) (take (2 * steps) trail) →
    lines' ≡ line_written first rank steps (take (2 * steps) trail) lines
written_line first rank steps trail lines lines' l h few e =
    let fits = line_fits (rank - first) (length lines) h in
    let short = length-take (2 * steps) trail in
    put_next lines (set lines (23 * (rank - first)) steps) lines' (steps ∷ []) (take (2 * steps) trail) (23 * (rank - first))
    (23 * (rank - first) + 1) (put_one lines (23 * (rank - first)) steps (omega (arith, fits))) e refl (omega (arith, fits, short))
    ∙ sym (written_there first rank steps (take (2 * steps) trail) lines l h)
