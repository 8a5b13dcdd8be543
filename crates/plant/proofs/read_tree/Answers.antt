-- `plant::read_tree` meets its contract.
use mathlib.Core.Path.{refl, sym, ◌∙◌, ap, subst}
use Rattle.answer.specs.Told.{says_checked}
use Rattle.laws.proofs.Exits.{handed-on}
use Rattle.plant.specs.ReadTreeCall.{ReadTreeCall}
use Rattle.plant.proofs.TreeLaws.{no-tree, good-lines, too_large, no_room, planted}
use Rattle.plant.proofs.read_tree.Goals as goal

pub fits-requires : goal.fits-requires
fits-requires c = let a = c.args in
    good-lines a.text.now a.table.now (sym (ap says_checked c.in_ok-check_well_formed.was) ∙ c.check_well_formed.ensures)

pub returns-then-not-fits : goal.returns-then-not-fits
returns-then-not-fits c = let a = c.args in
    let v = c.fits.ensures in
    too_large a.text.now a.table.now (sym (ap says_checked c.in_ok-check_well_formed.was) ∙ c.check_well_formed.ensures) _ v.1 (sym v.0 ∙ c.if-not-fits.true)

pub returns-then-table-lt-WORDS : goal.returns-then-table-lt-WORDS
returns-then-table-lt-WORDS c = let a = c.args in
    let v = c.fits.ensures in
    no_room a.text.now a.table.now (sym (ap says_checked c.in_ok-check_well_formed.was) ∙ c.check_well_formed.ensures) _ v.1 (sym v.0 ∙ c.if-not-fits.false) _ refl c.if-table-lt-WORDS.true

pub put_image-requires : goal.put_image-requires
put_image-requires c = let a = c.args in
    (good-lines a.text.now a.table.now (sym (ap says_checked c.in_ok-check_well_formed.was) ∙ c.check_well_formed.ensures), sym c.fits.ensures.0 ∙ c.if-not-fits.false, c.if-table-lt-WORDS.false)

pub returns-in_err-check_well_formed : goal.returns-in_err-check_well_formed
returns-in_err-check_well_formed c = let a = c.args in
    subst (λ r. ReadTreeCall a.text.now a.table.now a.table.now r) (sym (handed-on _ c.from_residual.ensures.1))
    (no-tree a.text.now a.table.now _ (sym (ap says_checked c.in_err-check_well_formed.was) ∙ c.check_well_formed.ensures))

pub returns : goal.returns
returns c = let a = c.args in
    let v = c.fits.ensures in
    planted a.text.now a.table.now (sym (ap says_checked c.in_ok-check_well_formed.was) ∙ c.check_well_formed.ensures) _ v.1 (sym v.0 ∙ c.if-not-fits.false) _ c.if-table-lt-WORDS.false c.put_image.ensures
