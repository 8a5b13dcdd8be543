-- `text::read` meets its contract.
use mathlib.Core.Path.{refl, sym, ◌∙◌, ap, subst}
use native.Mathlib.Omega.{arith}
use Rattle.answer.specs.Told.{says_checked}
use Rattle.laws.proofs.Exits.{handed-on}
use Rattle.reading.specs.Read.{ReadCall}
use Rattle.text.proofs.ReadLaws.{no_text, good-text, no_room, taken_in_lem}
use Rattle.text.proofs.read.Goals as goal

pub returns : goal.returns
returns c = let a = c.args in
    let b = c.build.ensures in
    taken_in_lem a.text.now a.table.now b.0 b.1 _ (omega (arith, c.if-table-lt-WORDS.false)) b.2

pub returns-then-table-lt-WORDS : goal.returns-then-table-lt-WORDS
returns-then-table-lt-WORDS c = let a = c.args in
    let g = good-text a.text.now a.table.now (sym (ap says_checked c.in_ok-check_text.was) ∙ c.check_text.ensures) in
    no_room a.text.now a.table.now g.0 g.1 _ refl (omega (arith, c.if-table-lt-WORDS.true))

pub build-requires : goal.build-requires
build-requires c = let a = c.args in
    (c.if-table-lt-WORDS.false, good-text a.text.now a.table.now (sym (ap says_checked c.in_ok-check_text.was) ∙ c.check_text.ensures))

pub returns-in_err-check_text : goal.returns-in_err-check_text
returns-in_err-check_text c = let a = c.args in
    let e = handed-on _ c.from_residual.ensures.1 in
    subst (λ r. ReadCall a.text.now a.table.now a.table.now r) (sym e) (no_text a.text.now a.table.now _ (sym
    (ap says_checked c.in_err-check_text.was) ∙ c.check_text.ensures))
