-- The numbers of a report: two a line, one line behind the other.
use Rattle.std.proofs.Common.{◌≡◌, ℕ, ◌*◌, List, [], ◌∷◌, ◌++◌, length, refl, ap, arith}
use Rattle.orders.specs.Trial.{Entry}
use Rattle.trial.specs.Report.{number_of, answer_number, report_numbers}

pub numbers_length : (xs : List Entry) → length (report_numbers xs) ≡ 2 * length xs
unfolding report_numbers
numbers_length [] = refl
numbers_length (x ∷ xs) = omega (arith, numbers_length xs)

pub numbers_more : (xs : List Entry) (x : Entry) →
    report_numbers (xs ++ (x ∷ [])) ≡ report_numbers xs ++ (number_of x.taken ∷ (answer_number x.answer ∷ []))
unfolding report_numbers
numbers_more [] x = refl
numbers_more (y ∷ xs) x = ap (λ (xs : List ℕ). number_of y.taken ∷ (answer_number y.answer ∷ xs)) (numbers_more xs x)
