-- `passes::walk::walk` meets its contract: since beat a the cell is the same. Assumes nothing.
use Prim.Native.Nat.{ℕ, ◌+◌, ◌-◌}
use native.Mathlib.Omega.{arith}
use mathlib.Core.List.{List}
use mathlib.Core.Path.{◌≡◌, ap, ◌∙◌}
use borrow.Author.Rules.{rules}
use lib.ListN.{length, take, drop, get_or, length-replicate, length-drop}
use lib.Seq.{length-take-le}
use Rattle.bitrows.proofs.FillLaws.{length_filled, filled_in}
use Rattle.passes.proofs.FilledLaws.{filled_on}
use Rattle.passes.proofs.NextLaws.{path_last}
use Rattle.passes.proofs.walk.walk.Goals as goal

pub along-r-requires : goal.along-r-requires
along-r-requires c =
    let p = c.requires in
    (p.0, p.1, omega (arith, p.2, p.3), p.4)

pub bounds-r-a : goal.bounds-r-a
bounds-r-a c =
    omega (arith, c.requires.2, c.requires.3)

pub returns : goal.returns
returns c =
    let made = c.along-r.ensures in
    let n = c.args.g.horizon + 1 - c.args.a in
    let long : length c.along-r.result ≡ 64 = ap length made ∙ length_filled _ _ _ ∙ length-replicate {A = ℕ} 64 0 in
    let size : length (take n (drop c.args.a c.along-r.result)) ≡ n =
    length-take-le n (drop c.args.a c.along-r.result) (omega (arith, long, length-drop c.args.a c.along-r.result, c.requires.3)) in
    let last = ap (λ (r : List ℕ). get_or r c.args.a 0) made
    ∙ filled_in _ _ _ _ (omega (arith, length-replicate {A = ℕ} 64 0, c.requires.2, c.requires.3)) (omega arith) in
    filled_on _ _ _ _ _ _ (omega (arith, c.requires.2)) (omega (arith, length-replicate {A = ℕ} 64 0, c.requires.3)) made
    (path_last _ _ _ _) (rw (size, last) at (c.fill.ensures.after (search rules)))
