-- Record k of a stored plan is the record of answer k.
use Prim.Native.Nat.{ℕ, zero, suc, ◌+◌, ◌*◌, ◌<◌}
use native.Mathlib.Omega.{arith}
use mathlib.Core.Path.{◌≡◌, refl, ◌∙◌, ap}
use mathlib.Core.List.{List, [], ◌∷◌, ◌++◌, append_assoc}
use lib.ListN.{length, take, drop, length-append}
use lib.Seq.{take_at, drop_at}
use Rattle.laws.specs.Memory.{put}
use Rattle.route.specs.Route.{Answer}
use Rattle.records.specs.Records.{record_of, records_of, stored}
use Rattle.planner.specs.Claims.{answer_at}
use Rattle.planner.proofs.FailingLaws.{AllWhole}

record_at_lem : (xs : List Answer) (pre rest : List ℕ) (n k : ℕ) → length pre ≡ n → AllWhole xs → k < length xs
    → take 65 (drop (n + 65 * k) (pre ++ (records_of xs ++ rest))) ≡ record_of (answer_at xs k)
unfolding records_of answer_at
record_at_lem [] pre rest n k s a l = absurd (omega arith)
record_at_lem (x ∷ xs) pre rest n zero s a l =
    let place : n + 65 * 0 ≡ n = omega arith in
    rw place
    (ap (take 65) (drop_at pre ((record_of x ++ records_of xs) ++ rest) n s)
    ∙ ap (take 65) (append_assoc (record_of x) (records_of xs) rest)
    ∙ take_at (record_of x) (records_of xs ++ rest) 65 a.0)
record_at_lem (x ∷ xs) pre rest n (suc k) s a l =
    let place : n + 65 * suc k ≡ (n + 65) + 65 * k = omega arith in
    let size : length (pre ++ record_of x) ≡ n + 65 = length-append pre (record_of x) ∙ omega (arith, a.0) in
    rw (place, append_assoc (record_of x) (records_of xs) rest, ← append_assoc pre (record_of x) (records_of xs ++ rest))
    (record_at_lem xs (pre ++ record_of x) rest (n + 65) k size a.1 (omega arith))

pub record_stored : (xs : List Answer) (old : List ℕ) (k : ℕ) → AllWhole xs → k < length xs
    → take 65 (drop (65 * k) (stored xs old)) ≡ record_of (answer_at xs k)
unfolding stored put
record_stored xs old k a l =
    let place : 65 * k ≡ 0 + 65 * k = omega arith in
    ap (λ (n : ℕ). take 65 (drop n (records_of xs ++ drop (0 + length (records_of xs)) old))) place
    ∙ record_at_lem xs [] (drop (0 + length (records_of xs)) old) 0 k refl a l
