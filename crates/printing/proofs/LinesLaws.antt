-- Lines one behind the other: where each stands, and how long they are.
use Prim.Native.Nat.{ℕ, zero, suc, ◌+◌, ◌*◌, ◌≤◌, ◌<◌}
use native.Mathlib.Omega.{arith}
use borrow.Author.Count.{below_more}
use mathlib.Core.Path.{◌≡◌, refl, sym, ◌∙◌, ap}
use mathlib.Core.List.{List, [], ◌∷◌, ◌++◌, append_assoc, append-nil}
use lib.ListN.{length, take, drop, length-append, length-take}
use lib.Seq.{take_at, drop_at}
use Rattle.floor.specs.declared.Floor.{Floor}
use Rattle.route.specs.Route.{Answer, none, route}
use Rattle.route.specs.Arrival.{arrival_of}
use Rattle.sheet.specs.Text.{lines_of}
use Rattle.planner.specs.Plan.{failing_of}
use Rattle.planner.specs.Claims.{answer_at}
use Rattle.printing.specs.Text.{answer_line, first_line, routes_text}
use Rattle.sheet.proofs.LineText.{line_length}
use Rattle.printing.proofs.PutLaws.{none_length, first_length}

module _ (line : ℕ → List ℕ) where
  -- The lines before line k, line k, and what follows it.
  record SplitAtLine (n k : ℕ) : Type 0 where
    rest : List ℕ
    is : lines_of line n ≡ lines_of line k ++ (line k ++ rest)

  apart_more : (n k : ℕ) → SplitAtLine n k → SplitAtLine (suc n) k
  unfolding lines_of
  apart_more n k a =
      record {
        rest = a.rest ++ line n;
        is = ap (λ (xs : List ℕ). xs ++ line n) a.is
            ∙ append_assoc (lines_of line k) (line k ++ a.rest) (line n)
            ∙ ap (λ (xs : List ℕ). lines_of line k ++ xs) (append_assoc (line k) a.rest (line n));
      }

  apart_last : (n : ℕ) → SplitAtLine (suc n) n
  unfolding lines_of
  apart_last n = record { rest = []; is = ap (λ (xs : List ℕ). lines_of line n ++ xs) (sym (append-nil (line n))) }

  apart : (n k : ℕ) → k < n → SplitAtLine n k
  apart zero k l = absurd (omega arith)
  apart (suc n) k l = below_more (SplitAtLine (suc n)) n (λ i h. apart_more n i (apart n i h)) (apart_last n) k (omega arith)

  -- Line k stands behind a head and the lines before it.
  pub line_at : (head : List ℕ) (n k : ℕ) → k < n
      → take (length (line k)) (drop (length head + length (lines_of line k)) (head ++ lines_of line n)) ≡ line k
  line_at head n k l =
      let a = apart n k l in
      let pre = head ++ lines_of line k in
      let whole : head ++ lines_of line n ≡ pre ++ (line k ++ a.rest) =
      ap (λ (xs : List ℕ). head ++ xs) a.is ∙ sym (append_assoc head (lines_of line k) (line k ++ a.rest))
      in
      ap (λ (xs : List ℕ). take (length (line k)) (drop (length head + length (lines_of line k)) xs)) whole
      ∙ ap (take (length (line k))) (drop_at pre (line k ++ a.rest) _ (length-append head (lines_of line k)))
      ∙ take_at (line k) a.rest (length (line k)) refl

  -- Lines of at most w bytes.
  pub lines_within : (w n : ℕ) → ((i : ℕ) → length (line i) ≤ w) → length (lines_of line n) ≤ n * w
  unfolding lines_of
  lines_within w zero h = omega arith
  lines_within w (suc n) h = omega (arith, length-append (lines_of line n) (line n), lines_within w n h, h n)

-- A carrier's line has at most 331 bytes.
answer_within : (f : Floor) (i : ℕ) (x : Answer) → f.horizon ≤ 63 → length (answer_line f i x) ≤ 331
unfolding answer_line
answer_within f i none h = omega (arith, none_length (i + 1))
answer_within f i (route r) h =
    omega (
      arith,
      line_length ((i + 1) ∷ arrival_of r f.horizon ∷ take (f.horizon + 1) r),
      length-take (f.horizon + 1) r,
    )

pub text_within : (f : Floor) (xs : List Answer) → f.horizon ≤ 63 → length (routes_text f xs) ≤ 11 + f.carriers * 331
unfolding routes_text
text_within f xs h =
    let line : ℕ → List ℕ = λ i. answer_line f i (answer_at xs i) in
    omega (
      arith,
      length-append (first_line f (failing_of xs)) (lines_of line f.carriers),
      first_length f (failing_of xs),
      lines_within line 331 f.carriers (λ i. answer_within f i (answer_at xs i) h),
    )
