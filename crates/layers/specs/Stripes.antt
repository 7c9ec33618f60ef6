-- The set of one beat as eight stripes of four rows. Rows 8 apart stand side by side, so that the rows above and below those of a stripe
-- are those of the stripes beside it; only at the first and the last stripe they are one place further on.
use Rattle.std.specs.Prelude.{ℕ, ◌+◌, ◌-◌, true, false, List, [], ◌∷◌, ltb, eqb, get_or}
use Rattle.bitrows.specs.Rows.{successor_row}

-- Four words from word i on.
unfoldable pub four : (ℕ → ℕ) → ℕ → List ℕ
four words i = words i ∷ words (i + 1) ∷ words (i + 2) ∷ words (i + 3) ∷ []

-- 32 words as eight stripes.
unfoldable pub stripes_of : (ℕ → ℕ) → List (List ℕ)
stripes_of words =
    four words 0 ∷ four words 4 ∷ four words 8 ∷ four words 12 ∷ four words 16 ∷ four words 20 ∷ four words 24 ∷ four words 28 ∷ []

-- What a step brings to lane i of a mask.
unfoldable pub lane_of : List ℕ → List ℕ → List ℕ → List ℕ → ℕ → ℕ
lane_of over here under mask i = successor_row (get_or over i 0) (get_or here i 0) (get_or under i 0) (get_or mask i 0)

-- The four lanes.
unfoldable pub lanes_of : List ℕ → List ℕ → List ℕ → List ℕ → List ℕ
lanes_of over here under mask = four (lane_of over here under mask) 0

-- The word of the row above that of word i, 32 above the first row.
unfoldable pub over_slot : ℕ → ℕ
over_slot i = elim (ltb i 4) [ true ↦ elim (eqb i 0) [ true ↦ 32 | false ↦ i + 27 ] | false ↦ i - 4 ]

-- The word of the row below that of word i, 32 below the last row.
unfoldable pub under_slot : ℕ → ℕ
under_slot i = elim (ltb i 28) [ true ↦ i + 4 | false ↦ elim (eqb i 31) [ true ↦ 32 | false ↦ i - 27 ] ]

-- Word i of 32, else the empty word.
unfoldable pub word_at : (ℕ → ℕ) → ℕ → ℕ
word_at words i = elim (ltb i 32) [ true ↦ words i | false ↦ 0 ]

-- What a step of the words brings to word i of the masks.
unfoldable pub step_word : (ℕ → ℕ) → (ℕ → ℕ) → ℕ → ℕ
step_word words masks i = successor_row (word_at words (over_slot i)) (words i) (word_at words (under_slot i)) (masks i)
