-- `fields::word` meets its contract. The loop's invariant: what is left of the word, here, is the whole word where the scan began.
use mathlib.Core.Path.{sym, ◌∙◌}
use native.Mathlib.Omega.{arith}
use Rattle.fields.proofs.ScanLaws.{word-done, word-short, word-other, word_on}
use Rattle.fields.proofs.word.Goals as goal
use Rattle.fields.proofs.word.Goals.{then-text-at-via-then-text-at, then-text-at-via-else-text-at+then-b-text}

pub returns-then-text-at : goal.returns-then-text-at
returns-then-text-at c = let w = c.args.w.now in
    let t = c.args.text.now in
    let l = c.loop-b in
    elim c.then-text-at.branch [
      | then-text-at-via-then-text-at u ↦ sym (word-short w t l.b-index l.at c.loop-b-test.true u.if-text-at.true) ∙ l.invariant.1
      | then-text-at-via-else-text-at+then-b-text u ↦ sym (word-other w t l.b-index l.at c.loop-b-test.true u.if-text-at.false u.if-b-text.true) ∙ l.invariant.1
    ]

pub loop-b-preserved : goal.loop-b-preserved
loop-b-preserved c = let l = c.loop-b in
    (omega arith, sym (word_on c.args.w.now c.args.text.now l.b-index l.at c.loop-b-test.true c.if-text-at.false c.if-b-text.false) ∙ l.invariant.1)

pub returns : goal.returns
returns c = let l = c.loop-b in
    sym (word-done c.args.w.now c.args.text.now l.b-index l.at c.loop-b-test.false) ∙ l.invariant.1
