-- The first record without a route is the failing carrier's.
use Prim.Native.Nat.{ℕ, zero, suc, ◌+◌, ◌*◌}
use native.Mathlib.Omega.{arith}
use native.Mathlib.Numerals.{add-one}
use mathlib.Core.Path.{◌≡◌, refl, sym, ◌∙◌, ap}
use mathlib.Core.List.{List, [], ◌∷◌, ◌++◌, append_assoc}
use borrow.Author.Tests.{eq-eqb, ne_eqb}
use lib.ListN.{length, get_or, length-append, replicate}
use lib.Seq.{get_or_at}
use Rattle.route.specs.Route.{Answer, none, route, View}
use Rattle.route.specs.Sequential.{sequential}
use Rattle.planner.specs.Plan.{failing_from, failing_of}
use Rattle.planner.specs.Records.{first_from}
use Rattle.records.specs.Records.{record_of, records_of}
use Rattle.records.proofs.RecordLaws.{Whole}

-- All records are whole.
abbrev pub AllWhole : List Answer → Type 0
AllWhole [] = Unit {0}
AllWhole (x ∷ xs) = Whole x × AllWhole xs

whole_snoc : (xs : List Answer) (x : Answer) → AllWhole xs → Whole x → AllWhole (xs ++ (x ∷ []))
whole_snoc [] x a w = (w, tt)
whole_snoc (y ∷ xs) x a w = (a.0, whole_snoc xs x a.1 w)

pub plan_whole : (respond : ℕ → List View → Answer) → ((k : ℕ) (vs : List View) → Whole (respond k vs)) → (k : ℕ)
    → AllWhole (sequential respond k)
unfolding sequential
plan_whole respond w zero = tt
plan_whole respond w (suc k) = whole_snoc (sequential respond k) _ (plan_whole respond w k) (w k _)

-- As many answers as carriers.
pub plan_count : (respond : ℕ → List View → Answer) (k : ℕ) → length (sequential respond k) ≡ k
unfolding sequential
plan_count respond zero = refl
plan_count respond (suc k) = length-append (sequential respond k) _ ∙ omega (arith, plan_count respond k)

-- The tag of a record.
pub tag_none : (pre rest : List ℕ) (n : ℕ) → length pre ≡ n → get_or (pre ++ (record_of none ++ rest)) n 0 ≡ 1
unfolding record_of
tag_none pre rest n s = get_or_at pre 1 (replicate 64 0 ++ rest) 0 n s

pub tag_route : (pre r rest : List ℕ) (n : ℕ) → length pre ≡ n → get_or (pre ++ (record_of (route r) ++ rest)) n 0 ≡ 2
unfolding record_of
tag_route pre r rest n s = get_or_at pre 2 (r ++ rest) 0 n s

-- The first record of several, taken apart.
pub front : (x : Answer) (xs : List Answer) (m pre rest : List ℕ) → m ≡ pre ++ (records_of (x ∷ xs) ++ rest)
    → m ≡ pre ++ (record_of x ++ (records_of xs ++ rest))
unfolding records_of
front x xs m pre rest e = e ∙ ap (λ (xs : List ℕ). pre ++ xs) (append_assoc (record_of x) (records_of xs) rest)

first_records : (xs : List Answer) (m pre rest : List ℕ) (i : ℕ) → m ≡ pre ++ (records_of xs ++ rest) → length pre ≡ 65 * i → AllWhole xs
    → first_from m i (length xs) ≡ failing_from (i + 1) xs
unfolding first_from failing_from
first_records [] m pre rest i e s a = refl
first_records (none ∷ xs) m pre rest i e s a =
    let tag : get_or m (65 * i) 0 ≡ 1 =
    ap (λ (xs : List ℕ). get_or xs (65 * i) 0) (front none xs m pre rest e) ∙ tag_none pre (records_of xs ++ rest) (65 * i) s
    in
    rw (ne_eqb (get_or m (65 * i) 0) 2 (λ q. omega arith))
first_records (route r ∷ xs) m pre rest i e s a =
    let tag : get_or m (65 * i) 0 ≡ 2 =
    ap (λ (xs : List ℕ). get_or xs (65 * i) 0) (front (route r) xs m pre rest e) ∙ tag_route pre r (records_of xs ++ rest) (65 * i) s
    in
    let behind : m ≡ (pre ++ record_of (route r)) ++ (records_of xs ++ rest) =
    front (route r) xs m pre rest e ∙ sym (append_assoc pre (record_of (route r)) (records_of xs ++ rest))
    in
    let size : length (pre ++ record_of (route r)) ≡ 65 * (i + 1) = length-append pre (record_of (route r)) ∙ omega (arith, a.0) in
    rw (eq-eqb (get_or m (65 * i) 0) 2 tag)
    (first_records xs m (pre ++ record_of (route r)) rest (i + 1) behind size a.1 ∙ ap (λ (k : ℕ). failing_from k xs) (add-one (i + 1)))

-- The failing carrier of a plan that stands in front of a memory.
pub first_failing : (xs : List Answer) (m rest : List ℕ) (n : ℕ) → m ≡ records_of xs ++ rest → length xs ≡ n → AllWhole xs
    → first_from m 0 n ≡ failing_of xs
unfolding failing_of
first_failing xs m rest n e s a = rw (← s) (first_records xs m [] rest 0 e refl a)
