-- `lacking::lacking_at`: of the range of a state.
use mathlib.Core.Path.{◌∙◌, ap, ap₂}
use native.Mathlib.Omega.{arith}
use native.Mathlib.Numerals.{add-one}
use Rattle.layout.specs.Layout.{first_of}
use Rattle.rows.proofs.Ready.{first-ready, next-ready, range-ready, row-ready}
use Rattle.lacking.specs.Walk.{lack_in, lack_of}
use Rattle.lacking.proofs.lacking_at.Goals as goal

pub first_of-lo-requires : goal.first_of-lo-requires
first_of-lo-requires c = first-ready _ c.requires.0 _ c.requires.1 _ c.requires.2

pub overflow_add-s : goal.overflow_add-s
overflow_add-s c = omega (arith, (next-ready _ c.requires.0 _ c.requires.1 _ c.requires.2).2)

pub first_of-hi-requires : goal.first_of-hi-requires
first_of-hi-requires c = next-ready _ c.requires.0 _ c.requires.1 _ c.requires.2

pub lacking_in-requires : goal.lacking_in-requires
lacking_in-requires c = let el = c.first_of-lo.ensures in
    let eh = c.first_of-hi.ensures in
    let r = range-ready _ c.requires.0 _ c.requires.1 _ c.requires.2 _ _ el eh in
    (r.0, (first-ready _ c.requires.0 _ c.requires.1 _ c.requires.2).1, r.1, λ k p q. (row-ready _ c.requires.0 _ c.requires.1 _ c.requires.2 _ _ el eh k p q).action)

pub returns : goal.returns
unfolding lack_of
returns c = let t = c.args.t.now in
    c.lacking_in.ensures ∙ ap₂ (lack_in t c.args.i) c.first_of-lo.ensures
    (c.first_of-hi.ensures ∙ ap (first_of t c.args.i) (add-one c.args.s))
