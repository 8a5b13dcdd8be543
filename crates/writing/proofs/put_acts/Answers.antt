-- `writing::put_acts` meets its contract: the lines that are put, and those of the actions that are left, make the whole.
use mathlib.Core.Path.{◌∙◌, ap₂}
use native.Mathlib.Omega.{arith}
use Rattle.print.proofs.LaidLaws.{left-all, left_as, left-room, left-next, left-none}
use Rattle.laws.specs.Sets.{◌∪◌}
use Rattle.laws.proofs.TabLaws.{spread-next, spread-done}
use Rattle.answer.specs.Limits.{max_actions}
use Rattle.model.specs.Text.{act_part}
use Rattle.layout.specs.Image.{comp_of}
use Rattle.measure.specs.Measure.{act_lines}
use Rattle.writing.proofs.put_acts.Goals as goal

pub loop-a-init : goal.loop-a-init
unfolding act_lines comp_of
loop-a-init c =
    let heard = c.union-heard.ensures ∙ ap₂ (λ p q. p ∪ q) c.block_word.ensures c.block_word-2.ensures in
    let said = c.union-said.ensures ∙ ap₂ (λ p q. p ∪ q) c.block_word-3.ensures c.block_word-4.ensures in
    (omega arith, c.union-acts.ensures ∙ ap₂ (λ p q. p ∪ q) heard said, left-all _ _ _ c.requires.2)

pub put_act-next-requires : goal.put_act-next-requires
put_act-next-requires c =
    let k = comp_of c.args.t.now c.args.i in
    let l = c.loop-a in
    let line = left_as l.invariant.2 _ _ (spread-next (act_part k) l.a max_actions c.loop-a-test.true) in
    (c.requires.0, c.requires.1, l.invariant.1, c.loop-a-test.true, left-room line)

pub loop-a-smaller : goal.loop-a-smaller
loop-a-smaller c =
    omega arith

pub loop-a-preserved : goal.loop-a-preserved
loop-a-preserved c =
    let k = comp_of c.args.t.now c.args.i in
    let l = c.loop-a in
    let line = left_as l.invariant.2 _ _ (spread-next (act_part k) l.a max_actions c.loop-a-test.true) in
    (omega arith, l.invariant.1, left-next line c.put_act-next.ensures)

pub returns : goal.returns
returns c =
    let l = c.loop-a in
    left-none l.invariant.2 (spread-done (act_part (comp_of c.args.t.now c.args.i)) l.a max_actions c.loop-a-test.false)
