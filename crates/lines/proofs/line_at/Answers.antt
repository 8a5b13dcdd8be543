-- `lines::line_at` meets its contract.
use mathlib.Core.Path.{sym, ◌∙◌, ap}
use lib.ListN.{drop}
use Rattle.model.specs.Reading.{stops}
use Rattle.fields.specs.Fields.{past}
use Rattle.fields.specs.Resets.{valued}
use Rattle.lines.specs.Lines.{line_of}
use Rattle.lines.proofs.LineLaws.{entry-comp, entry-act, entry-clk, entry_row, entry-none}
use Rattle.lines.proofs.line_at.Goals as goal

-- Where a word is not there, the line that it would start is none.
pub returns-in-Ok : goal.returns-in-Ok
returns-in-Ok c = let t = c.args.text.now in
    c.comp_line.ensures
    ∙ sym (ap (valued line_of) (entry-comp (drop c.args.c.at t) (sym c.word.ensures ∙ ap (past t) c.in-Ok.is)))

pub returns-in-Ok-word : goal.returns-in-Ok-word
returns-in-Ok-word c = let t = c.args.text.now in
    c.act_line.ensures
    ∙ sym (ap (valued line_of) (entry-act (drop c.args.c.at t)
    (sym c.word.ensures ∙ ap (past t) c.in_default.is)
    (sym c.word-2.ensures ∙ ap (past t) c.in-Ok-word.is)))

pub returns-in-Ok-word-2 : goal.returns-in-Ok-word-2
returns-in-Ok-word-2 c = let t = c.args.text.now in
    c.clk_line.ensures
    ∙ sym (ap (valued line_of) (entry-clk (drop c.args.c.at t)
    (sym c.word.ensures ∙ ap (past t) c.in_default.is)
    (sym c.word-2.ensures ∙ ap (past t) c.in_default-word.is)
    (sym c.word-3.ensures ∙ ap (past t) c.in-Ok-word-2.is)))

pub returns-in-Ok-word-3 : goal.returns-in-Ok-word-3
returns-in-Ok-word-3 c = let t = c.args.text.now in
    c.row_line.ensures
    ∙ sym (ap (valued line_of) (entry_row (drop c.args.c.at t)
    (sym c.word.ensures ∙ ap (past t) c.in_default.is)
    (sym c.word-2.ensures ∙ ap (past t) c.in_default-word.is)
    (sym c.word-3.ensures ∙ ap (past t) c.in_default-word-2.is)
    (sym c.word-4.ensures ∙ ap (past t) c.in-Ok-word-3.is)))

pub returns : goal.returns
returns c = let t = c.args.text.now in
    ap (λ l. stops l) c.no_word.ensures
    ∙ sym (ap (valued line_of) (entry-none (drop c.args.c.at t)
    (sym c.word.ensures ∙ ap (past t) c.in_default.is)
    (sym c.word-2.ensures ∙ ap (past t) c.in_default-word.is)
    (sym c.word-3.ensures ∙ ap (past t) c.in_default-word-2.is)
    (sym c.word-4.ensures ∙ ap (past t) c.in_default-word-3.is)))
