-- `fields::reader::counted_lines` meets its contract: no counted line is longer than 56 bytes.
use Prim.Native.Nat.{◌≤◌}
use native.Mathlib.Omega.{arith}
use mathlib.Core.Path.{◌≡◌}
use borrow.Author.Rules.{rules}
use Rattle.std.specs.Prelude.{Ok}
use Rattle.laws.specs.Verdict.{◌gives◌}
use Rattle.fields.specs.Form.{counted_form, past_counted}
use Rattle.fields.specs.Reached.{column_told}
use Rattle.fields.proofs.ColumnLaws.{counted_near}
use Rattle.fields.proofs.reader.counted_lines.Goals as goal

pub lines-requires : goal.lines-requires
lines-requires c = record {
  longest = 56;
  near = λ b d p.
      let e : column_told (Ok d) ≡ (counted_form c.args.text.now b gives past_counted c.args.text.now b) = search rules in
      counted_near _ _ _ e;
  free = λ b l. let low : b ≤ 64000 = omega (arith, l, c.requires) in search rules;
}
