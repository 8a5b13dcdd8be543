-- `entry::check_state` meets its contract: 21, and else 19, and else fine.
use mathlib.Core.Path.{sym, ◌∙◌}
use Rattle.iosa.proofs.Settling.Range.{range-exactly}
use Rattle.layout.proofs.RowsOfRange.{well-formed}
use Rattle.reach.proofs.Along.{limit-faultless, below-fault}
use Rattle.entry.proofs.Begins.{says-21, says-19, says-begins}
use Rattle.entry.proofs.check_state.Goals as goal

pub returns-then-not-in_range : goal.returns-then-not-in_range
returns-then-not-in_range c = says-21 _ _ _ c.refused.ensures (sym c.in_range.ensures ∙ c.if-not-in_range.true)

pub unreached-i-requires : goal.unreached-i-requires
unreached-i-requires c = record { image = c.requires; within = (range-exactly _ _).0 (sym c.in_range.ensures ∙ c.if-not-in_range.false) }

pub returns-then-i-lt-COMPONENTS : goal.returns-then-i-lt-COMPONENTS
returns-then-i-lt-COMPONENTS c = let w = (range-exactly _ _).0 (sym c.in_range.ensures ∙ c.if-not-in_range.false) in
    let f = below-fault _ (well-formed _ c.requires).components _ _ c.unreached-i.ensures c.if-i-lt-COMPONENTS.true in
    says-19 _ _ _ _ c.refused-then-i-lt-COMPONENTS.ensures w f

pub returns : goal.returns
returns c = let w = (range-exactly _ _).0 (sym c.in_range.ensures ∙ c.if-not-in_range.false) in
    says-begins _ _ w (limit-faultless _ (well-formed _ c.requires).components _ _ c.unreached-i.ensures c.if-i-lt-COMPONENTS.false)
