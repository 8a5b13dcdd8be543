-- `active::is_unstable` meets its contract: a row of the range has an urgent output, or none has.
use mathlib.Core.Path.{ap, ◌∙◌}
use native.Mathlib.Omega.{arith}
use Rattle.rows.specs.Ranges.{found_of, by_set}
use Rattle.rows.proofs.Ready.{word-ready, first-ready, next-ready, range-ready, range-actions}
use Rattle.active.proofs.Stability.{unstable-found}
use Rattle.active.proofs.is_unstable.Goals as goal

pub first_of-lo-requires : goal.first_of-lo-requires
first_of-lo-requires c = first-ready _ c.requires.0 _ c.requires.1 _ c.requires.2

pub overflow_add-s : goal.overflow_add-s
overflow_add-s c = omega (arith, (next-ready _ c.requires.0 _ c.requires.1 _ c.requires.2).2)

pub first_of-hi-requires : goal.first_of-hi-requires
first_of-hi-requires c = next-ready _ c.requires.0 _ c.requires.1 _ c.requires.2

pub block_word-set-requires : goal.block_word-set-requires
block_word-set-requires c = word-ready _ c.requires.0 _ c.requires.1 _ (omega arith)

pub find_in-requires : goal.find_in-requires
find_in-requires c = let r = range-ready _ c.requires.0 _ c.requires.1 _ c.requires.2 _ _ c.first_of-lo.ensures c.first_of-hi.ensures in
    (r.0, r.1, range-actions _ c.requires.0 _ c.requires.1 _ c.requires.2 _ _ c.first_of-lo.ensures c.first_of-hi.ensures)

pub returns : goal.returns
returns c = let e = c.find_in.ensures ∙ ap (λ w. found_of (by_set c.args.t.now w c.first_of-lo.result c.first_of-hi.result)) c.block_word-set.ensures in
    unstable-found _ c.requires.0 _ c.requires.1 _ c.requires.2 _ _ c.first_of-lo.ensures c.first_of-hi.ensures _ e c.is_some.ensures
