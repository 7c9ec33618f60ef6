-- `fields::reader::pair_lines` meets its contract: a line of two fields is 11 bytes long.
use Prim.Native.Nat.{◌≤◌}
use native.Mathlib.Omega.{arith}
use mathlib.Core.Path.{◌≡◌}
use borrow.Author.Rules.{rules}
use Rattle.std.specs.Prelude.{Ok}
use Rattle.laws.specs.Verdict.{◌gives◌}
use Rattle.fields.specs.Form.{line_form, past_pair}
use Rattle.fields.specs.Reached.{column_told}
use Rattle.fields.proofs.ColumnLaws.{pair_near}
use Rattle.fields.proofs.reader.pair_lines.Goals as goal

pub lines-requires : goal.lines-requires
lines-requires c = record {
  longest = 11;
  near = λ b d p.
      let e : column_told (Ok d) ≡ (line_form c.args.text.now b 2 gives past_pair b) = search rules in
      pair_near _ _ _ e;
  free = λ b l. let low : b ≤ 65000 = omega (arith, l, c.requires) in search rules;
}
