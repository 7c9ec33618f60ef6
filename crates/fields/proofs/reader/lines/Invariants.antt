use Prim.Native.Nat.{ℕ, ◌+◌, ◌*◌, ◌≤◌}
use Rattle.std.specs.Prelude.{Ok}
use Rattle.laws.specs.Verdict.{Verdict}
use Rattle.fields.specs.Reached.{ReadsAs}
use Rattle.fields.proofs.ReaderLaws.{Along}
use Rattle.fields.proofs.reader.lines.Given as goal

abbrev pub invariant-loop-i : goal.invariant-loop-i
invariant-loop-i g l = record {
  low : (longest : ℕ) → ((c d : ℕ) → goal.F-post g l.line c (Ok d) → d ≤ c + longest) → l.column ≤ l.at + longest * l.i;
  along : (form : ℕ → Verdict) (past : ℕ → ℕ) → ReadsAs (goal.F-post g l.line) form past → Along form past l.at l.n l.i l.column;
}
