-- Laws of parts that were moved one behind the other.
use Rattle.std.proofs.Common.{◌≡◌, ℕ, ◌+◌, ◌-◌, ◌≤◌, List, ◌++◌, length, take, drop, sym, ap, ◌∙◌, le_refl, drop_at, length-take-le}
use Rattle.std.proofs.lemmas.Slice.{take-put_mid_below}
use borrow.Rule.Slice.PartMut.{put_mid, post_of}
use lib.Seq.{take-add, take-take, take-append-le}

-- The front of a text and the next bytes of what is behind it are a longer front.
pub front_longer : (n more : ℕ) (xs : List ℕ) → more ≤ length xs - n → take n xs ++ take more (take (length xs - n) (drop n xs)) ≡ take (n + more) xs
front_longer n more xs fits = ap (λ l. take n xs ++ l) (take-take more (length xs - n) (drop n xs) fits) ∙ sym (take-add n more xs)

-- A part put into a memory behind its front leaves that front.
pub front_left : (n k : ℕ) (xs ys : List ℕ) → n ≤ length xs → take n (put_mid n k xs ys) ≡ take n xs
front_left n k xs ys within = take-put_mid_below _ _ _ _ _ (le_refl n) within

-- The front of a memory and the first bytes of a part that was put behind it are the longer front.
pub front_filled : (n k more : ℕ) (xs ys : List ℕ) → n ≤ length xs → more ≤ length ys → take n xs ++ take more ys ≡ take (n + more) (put_mid n k xs ys)
front_filled n k more xs ys within fits =
    let all = put_mid n k xs ys in
    let after = post_of n k xs in
    let behind : take more (drop n all) ≡ take more ys =
    ap (take more) (drop_at (take n xs) (ys ++ after) n (length-take-le n xs within)) ∙ take-append-le more ys after fits in
    ap (λ l. l ++ take more ys) (sym (front_left n k xs ys within)) ∙ ap (λ l. take n all ++ l) (sym behind) ∙ sym (take-add n more all)
