-- `desk::arguments::all_digits` meets its contract: `all` over the bytes tests each.
use Rattle.std.proofs.Common.{◌≡◌, rules, tests, true, false}
use Rattle.std.proofs.lemmas.Iterator.{YieldsList-from_slice, cases_from_all}
use Rattle.desk.specs.Arguments.{is_digit}
use Rattle.desk.proofs.ArgumentLaws.{digits_told}
use Rattle.desk.proofs.arguments.all_digits.Goals as goal

pub returns : goal.returns
unfolding is_digit
returns c =
    digits_told c.args.text.now _
    (cases_from_all _ _ c.all.result (λ b. is_digit b ≡ true) (λ b. is_digit b ≡ false) c.all.ensures.ran (YieldsList-from_slice c.args.text.now cc)
    (λ x q k. search (rules, tests)) (λ x q k. search (rules, tests)))
