-- `columns::resets_out` meets its contract.
use mathlib.Core.Path.{◌∙◌}
use Rattle.columns.proofs.OutLaws.{out-dash, out-other, out-past}
use Rattle.columns.proofs.resets_out.Goals as goal

pub returns-then-text-at : goal.returns-then-text-at
returns-then-text-at c = let a = c.args in
    out-past a.set a.text.now a.at c.if-text-at.true

pub returns-then-text-at-eq-DASH : goal.returns-then-text-at-eq-DASH
returns-then-text-at-eq-DASH c = let a = c.args in
    out-dash a.set a.text.now a.at c.if-text-at.false c.if-text-at-eq-DASH.true

pub returns : goal.returns
returns c = let a = c.args in
    c.numbers_out.ensures ∙ out-other a.set a.text.now a.at c.if-text-at.false c.if-text-at-eq-DASH.false
