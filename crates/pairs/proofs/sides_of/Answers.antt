-- `pairs::sides_of` meets its contract.
use mathlib.Core.Path.{sym, ap, ap₂, ◌∙◌}
use native.Mathlib.Omega.{arith}
use Rattle.laws.specs.Sets.{◌∪◌}
use Rattle.layout.specs.Image.{comp_of}
use Rattle.rows.proofs.Ready.{word-ready}
use Rattle.pairs.specs.Clashes.{left_of, right_of}
use Rattle.pairs.proofs.sides_of.Goals as goal

pub block_word-ins-requires : goal.block_word-ins-requires
block_word-ins-requires c = word-ready _ c.requires.0 _ c.requires.1 _ (omega arith)

pub block_word-outs-requires : goal.block_word-outs-requires
block_word-outs-requires c = word-ready _ c.requires.0 _ c.requires.1 _ (omega arith)

pub block_word-uins-requires : goal.block_word-uins-requires
block_word-uins-requires c = word-ready _ c.requires.0 _ c.requires.1 _ (omega arith)

pub block_word-uouts-requires : goal.block_word-uouts-requires
block_word-uouts-requires c = word-ready _ c.requires.0 _ c.requires.1 _ (omega arith)

pub block_word-clocks-requires : goal.block_word-clocks-requires
block_word-clocks-requires c = word-ready _ c.requires.0 _ c.requires.1 _ (omega arith)

pub returns-in-Outputs : goal.returns-in-Outputs
unfolding left_of right_of comp_of
returns-in-Outputs c = let d = comp_of c.args.t.now c.args.i in
    let k = sym c.in-Outputs.is in
    let e = ap₂ ◌∪◌ c.block_word-outs.ensures c.block_word-uouts.ensures in
    (e ∙ ap (λ k. left_of k d) k, e ∙ ap (λ k. right_of k d) k)

pub returns-in-Clocks : goal.returns-in-Clocks
unfolding left_of right_of comp_of
returns-in-Clocks c = let d = comp_of c.args.t.now c.args.i in
    let k = sym c.in-Clocks.is in
    let e = c.block_word-clocks.ensures in
    (e ∙ ap (λ k. left_of k d) k, e ∙ ap (λ k. right_of k d) k)

pub returns-in-Urgency : goal.returns-in-Urgency
unfolding left_of right_of comp_of
returns-in-Urgency c = let d = comp_of c.args.t.now c.args.i in
    let k = sym c.in-Urgency.is in (
      ap₂ ◌∪◌ c.block_word-uins.ensures c.block_word-uouts.ensures ∙ ap (λ k. left_of k d) k,
      ap₂ ◌∪◌ c.block_word-ins.ensures c.block_word-outs.ensures ∙ ap (λ k. right_of k d) k,
    )
