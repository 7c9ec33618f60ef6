-- Laws of what is told of a refusal.
use Prim.Native.Nat.{ℕ, ◌≤◌}
use native.Mathlib.Omega.{arith}
use mathlib.Core.List.{List, ◌++◌}
use mathlib.Core.Path.{◌≡◌, refl, ◌∙◌, ap}
use lib.ListN.{length, take}
use lib.Seq.{take_at}
use Rattle.laws.specs.Verdict.{passed, refused}
use Rattle.laws.proofs.PutLaws.{put_front}
use Rattle.sheet.specs.Read.{sheet_verdict}
use Rattle.reporting.specs.Put.{PutAt}
use Rattle.reporting.proofs.ReportLaws.{put_behind}
use Rattle.wording.proofs.DecimalLaws.{counts_within}
use Rattle.reasons.specs.Told.{BeginsWith, Explains}

-- A text with another behind it begins a memory.
pub begins_put : (text rest old mid new : List ℕ) (at n : ℕ) → PutAt text old 0 mid at → PutAt rest mid at new n → n ≤ length old
    → BeginsWith text new n
begins_put text rest old mid new at n p q l =
    let both = put_behind p q l in
    let f = put_front old new (text ++ rest) n both.bytes (omega (arith, both.behind)) (omega (arith, both.behind)) in
    record { counted = counts_within n new f.0; front = ap (take (length text)) f.1 ∙ take_at text rest (length text) refl }

-- What is told of the refusal of a sheet is told of each, since there is one.
pub one_refusal : (text memory : List ℕ) (n k p : ℕ) → sheet_verdict text ≡ refused k p → Explains text k p memory n
    → (j p' : ℕ) → sheet_verdict text ≡ refused j p' → Explains text j p' memory n
one_refusal text memory n k p e t j p' f =
    let number : k ≡ j = cc in
    let place : p ≡ p' = cc in
    rw (← number, ← place) t

pub no_refusal : (text memory : List ℕ) (n : ℕ) → sheet_verdict text ≡ passed → (j p : ℕ) → sheet_verdict text ≡ refused j p
    → Explains text j p memory n
no_refusal text memory n e j p f = absurd (let z : ◌≡◌ {A = ℕ} 0 1 = cc in omega arith)
