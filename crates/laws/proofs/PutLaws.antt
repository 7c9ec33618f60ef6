-- Laws of a block in a memory: its length, and blocks put one behind the other.
use Prim.Native.Nat.{ℕ, ◌+◌, ◌-◌, ◌≤◌, ◌<◌}
use native.Mathlib.Omega.{arith}
use native.Mathlib.Nat.{add-zero, zero-add}
use native.Mathlib.Numerals.{add-one, add-two, add-three, add-four}
use mathlib.Core.Path.{◌≡◌, sym, ◌∙◌, ap, ap₂}
use mathlib.Core.List.{List, [], ◌∷◌, ◌++◌, append_assoc}
use lib.ListN.{length, take, drop, get_or, set, length-append, length-take, length-drop, take-append-drop}
use lib.Seq.{take-suc, take_all, set_split, take_at, drop_at, length-take-le, drop-append-add, drop-drop, sets-eq}
use Rattle.laws.specs.Memory.{put}

-- An empty block changes nothing.
pub put_none : (m : List ℕ) (at : ℕ) → m ≡ put m at []
unfolding put
put_none m at = rw add-zero (sym (take-append-drop at m))

pub put_length : (m xs : List ℕ) (at : ℕ) → at + length xs ≤ length m → length (put m at xs) ≡ length m
unfolding put
put_length m xs at l = rw (length-append, length-append, length-take, length-drop) (omega arith)

-- A block put in front of a memory that is long enough stands there.
pub put_front : (m m' xs : List ℕ) (n : ℕ) → m' ≡ put m 0 xs → n ≡ length xs → length xs ≤ length m → (n ≤ length m') × (take n m' ≡ xs)
unfolding put
put_front m m' xs n e s l = (omega (arith, ap length e, put_length m xs 0 (omega arith)), rw e (take_at xs _ n (sym s)))

-- A block behind a block.
put_put : (m xs ys : List ℕ) (at : ℕ) → at + length xs + length ys ≤ length m → put (put m at xs) (at + length xs) ys ≡ put m at (xs ++ ys)
unfolding put
put_put m xs ys at l =
    let n = at + length xs in
    let front = take at m ++ xs in
    let rest = drop n m in
    let whole : take at m ++ (xs ++ rest) ≡ front ++ rest = sym (append_assoc (take at m) xs rest) in
    let size : length front ≡ n = length-append (take at m) xs ∙ omega (arith, length-take-le at m (omega arith)) in
    let first : take n (take at m ++ (xs ++ rest)) ≡ front = ap (take n) whole ∙ take_at front rest n size in
    let last : drop (n + length ys) (take at m ++ (xs ++ rest)) ≡ drop (n + length ys) m =
    sym (drop-drop (length ys) n (take at m ++ (xs ++ rest)))
    ∙ ap (drop (length ys)) (ap (drop n) whole ∙ drop_at front rest n size)
    ∙ drop-drop (length ys) n m
    in
    let sizes : at + length (xs ++ ys) ≡ n + length ys = rw length-append (omega arith) in
    ap₂ (λ (xs zs : List ℕ). xs ++ (ys ++ zs)) first last
    ∙ append_assoc (take at m) xs (ys ++ drop (n + length ys) m)
    ∙ ap (λ (xs : List ℕ). take at m ++ xs) (sym (append_assoc xs ys (drop (n + length ys) m)))
    ∙ ap (λ (k : ℕ). take at m ++ ((xs ++ ys) ++ drop k m)) (sym sizes)

-- One more block, behind those that are there.
pub put_next : (m m' m'' xs ys : List ℕ) (at n : ℕ) → m' ≡ put m at xs → m'' ≡ put m' n ys → at + length xs ≡ n → n + length ys ≤ length m
    → m'' ≡ put m at (xs ++ ys)
put_next m m' m'' xs ys at n e f s l =
    f ∙ rw (e, ← s) (put_put m xs ys at (omega arith))

-- A block in front of a memory leaves what lies behind it.
pub front_beyond : (old xs : List ℕ) (needed : ℕ) → length xs ≤ needed → drop needed (xs ++ drop (length xs) old) ≡ drop needed old
front_beyond old xs needed l =
    let d = needed - length xs in
    let e : needed ≡ length xs + d = omega arith in
    rw e (drop-append-add xs (drop (length xs) old) d ∙ drop-drop d (length xs) old)

pub put_beyond : (old xs : List ℕ) (needed : ℕ) → length xs ≤ needed → drop needed (put old 0 xs) ≡ drop needed old
unfolding put
put_beyond old xs needed l = rw zero-add (front_beyond old xs needed l)

-- One element stored.
pub put_one : (m : List ℕ) (at x : ℕ) → at < length m → set m at x ≡ put m at (x ∷ [])
unfolding put
put_one m at x l = rw add-one (set_split m at x l)

-- Five elements stored one after the other.
pub put_five : (m : List ℕ) (at x₁ x₂ x₃ x₄ x₅ : ℕ) → at + 5 ≤ length m
    → set (set (set (set (set m at x₁) (at + 1) x₂) (at + 2) x₃) (at + 3) x₄) (at + 4) x₅ ≡ put m at (x₁ ∷ x₂ ∷ x₃ ∷ x₄ ∷ x₅ ∷ [])
unfolding put
put_five m at x₁ x₂ x₃ x₄ x₅ l =
    rw (add-one, add-two, add-three, add-four, ← append_assoc) (sets-eq (x₁ ∷ x₂ ∷ x₃ ∷ x₄ ∷ x₅ ∷ []) m at l)

-- A loop that stores a list element by element: before the first, one more, its length, and after the last.
pub copy_start : (m xs : List ℕ) (at : ℕ) → m ≡ put m at (take 0 xs)
copy_start m xs at = put_none m at

pub copy_more : (m m' xs : List ℕ) (at i : ℕ) → m' ≡ put m at (take i xs) → i < length xs → at + length xs ≤ length m
    → set m' (at + i) (get_or xs i 0) ≡ put m at (take (i + 1) xs)
copy_more m m' xs at i e l s =
    let size : length (take i xs) ≡ i = length-take-le i xs (omega arith) in
    let long : length m' ≡ length m = ap length e ∙ put_length m (take i xs) at (omega arith) in
    rw (add-one, take-suc xs i 0)
    (put_next m m' (set m' (at + i) (get_or xs i 0)) (take i xs) (get_or xs i 0 ∷ []) at (at + i) e
    (put_one m' (at + i) (get_or xs i 0) (omega arith)) (rw size) (rw add-one (omega arith)))

pub copy_keeps : (m m' xs : List ℕ) (at i : ℕ) → m' ≡ put m at (take i xs) → i ≤ length xs → at + length xs ≤ length m
    → length m' ≡ length m
copy_keeps m m' xs at i e l s =
    ap length e ∙ put_length m (take i xs) at (omega (arith, length-take-le i xs l))

pub copy_end : (m m' xs : List ℕ) (at i : ℕ) → m' ≡ put m at (take i xs) → length xs ≤ i → m' ≡ put m at xs
copy_end m m' xs at i e l = e ∙ ap (put m at) (take_all i xs l)
