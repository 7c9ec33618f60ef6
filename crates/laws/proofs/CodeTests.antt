-- Tests that the code makes one by one, each with its own `return`: what the answers of such a function take.
use mathlib.Core.Path.{◌≡◌, sym, ◌∙◌, ap}
use mathlib.Core.Bool.{Bool, true, false, ◌&&◌, not}
use borrow.Author.Tests.{not-true, not-false, le-leb, lt-leb, lt-ltb, le-ltb, eq-eqb, ne_eqb}

-- Where x is what a call answers of y: a test of x, one of its opposite, and one of the opposite of y.
module _ {x y : Bool} (e : x ≡ y) where
  pub code_says : {z : Bool} → x ≡ z → y ≡ z
  code_says h = sym e ∙ h

  pub code_holds : not x ≡ false → y ≡ true
  code_holds n = sym e ∙ not-false x n

  pub code_fails : not x ≡ true → y ≡ false
  code_fails n = sym e ∙ not-true x n

  pub not_fails : x ≡ true → not y ≡ false
  not_fails h = ap not (code_says h)

  pub not_holds : x ≡ false → not y ≡ true
  not_holds h = ap not (code_says h)

  pub not_last : not x ≡ not y
  not_last = ap not e

pub ruleset says = (code_says, code_holds, code_fails, not_fails, not_holds, not_last)

-- Of two tests, the first that fails ends the chain; behind one that holds the second decides.
pub and_ends : {x : Bool} (y : Bool) → x ≡ false → false ≡ (x && y)
and_ends y h = rw h

pub and_on : {x y z : Bool} → x ≡ true → z ≡ y → z ≡ (x && y)
and_on h e = rw h e

-- The last test is the answer.
pub is_true : {x : Bool} → x ≡ true → true ≡ x
is_true h = sym h

pub is_false : {x : Bool} → x ≡ false → false ≡ x
is_false h = sym h

pub ruleset decides = (and_ends, and_on, is_true, is_false, le-leb, lt-leb, lt-ltb, le-ltb, eq-eqb, ne_eqb, says)
