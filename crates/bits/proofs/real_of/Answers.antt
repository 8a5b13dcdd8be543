-- `bits::real_of` meets its contract.
use Rattle.bits.proofs.Patterns.{above-infinity, not-above-infinity, none_here, number-here}
use Rattle.bits.proofs.real_of.Goals as goal

pub returns-then-n-gt-INFINITE : goal.returns-then-n-gt-INFINITE
returns-then-n-gt-INFINITE c = none_here _ (above-infinity _ c.if-n-gt-INFINITE.true)

pub returns-else-n-gt-INFINITE : goal.returns-else-n-gt-INFINITE
returns-else-n-gt-INFINITE c = number-here _ (not-above-infinity _ c.if-n-gt-INFINITE.false)

pub float_from_bits-result : goal.float_from_bits-result
float_from_bits-result c = rw (not-above-infinity _ c.if-n-gt-INFINITE.false) tt
