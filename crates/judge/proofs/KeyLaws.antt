-- The derived order on keys is the order of rows.
use mathlib.Core.Path.{◌≡◌}
use Rattle.std.proofs.Common.{rules}
use Rattle.std.specs.Ordering.{partial_lt}
use Rattle.model.specs.WellFormed.{lower, before}
use Rattle.judge.specs.declared.Key.{Key}
use Rattle.judge.specs.contracts.KeyPartialOrd as KeyOrder
use Rattle.judge.specs.Judged.{key_before}

pub key_less : (a b : Key) → partial_lt KeyOrder.TheImpl.partial_cmp-value.it a b ≡ key_before a b
unfolding key_before before lower
key_less a b = search rules
