-- `trial::generator::wrapping_product` meets its contract: the product fits 64 bits, and its remainder 32.
use Rattle.std.proofs.Common.{mod-lt, rules}
use Rattle.trial.proofs.GeneratorLaws.{product_fits}
use Rattle.trial.proofs.generator.wrapping_product.Goals as goal

pub overflow_mul-result : goal.overflow_mul-result
overflow_mul-result c = search (rules, product_fits)

pub overflow_cast-result-3 : goal.overflow_cast-result-3
overflow_cast-result-3 c = search (rules, mod-lt)
