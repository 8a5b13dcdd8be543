-- `namecheck::check_named` meets its contract.
use mathlib.Core.Path.{◌≡◌, sym, ◌∙◌, ap, subst}
use mathlib.Core.List.{List}
use Prim.Native.Nat.{ℕ, ◌≤◌}
use lib.ListN.{length}
use Rattle.answer.specs.declared.Place.TheVariants.{Spot}
use Rattle.fields.specs.Fields.{past}
use Rattle.named.specs.ReadNamed.{begun, read_named}
use Rattle.namelaws.specs.Sheets.{onward, Refuses}
use Rattle.namelaws.proofs.OldLaws.{long-refused, empty-refused, form-refused, form-read}
use Rattle.namecheck.specs.NameCheck.{ChecksAs}
use Rattle.namecheck.proofs.check_named.Goals as goal
use Rattle.namecheck.proofs.check_named.Goals.{In-Ok}

-- ---- the `form` line is there
abbrev text_at : In-Ok → List ℕ
text_at c = c.args.text.now

form : (c : In-Ok) → (read_named (text_at c) ≡ onward (text_at c) begun 7 2) × (7 ≤ length (text_at c))
form c =
    let e = sym c.word.ensures ∙ ap (past (text_at c)) c.in-Ok.is in
    form-read (text_at c) c.if-text-gt-BYTES.false c.if-text-eq0.false _ e

pub returns-then-text-gt-BYTES : goal.returns-then-text-gt-BYTES
returns-then-text-gt-BYTES c = long-refused c.args.text.now c.if-text-gt-BYTES.true

pub returns-then-text-eq0 : goal.returns-then-text-eq0
returns-then-text-eq0 c = empty-refused c.args.text.now c.if-text-eq0.true

pub behind_form-requires : goal.behind_form-requires
behind_form-requires c = ((form (goal.at.behind_form-requires c).In-Ok).1, c.requires.0, c.requires.1, c.if-text-gt-BYTES.false)

pub returns-in-Ok : goal.returns-in-Ok
returns-in-Ok c = subst (λ o. ChecksAs (text_at (goal.at.returns-in-Ok c).In-Ok) o c.behind_form.new.places c.behind_form.result) (sym (form (goal.at.returns-in-Ok c).In-Ok).0) c.behind_form.ensures

pub returns-in-Err : goal.returns-in-Err
returns-in-Err c = let t = c.args.text.now in
    let e = sym c.word.ensures ∙ ap (past t) c.in-Err.is in
    subst (λ k. Refuses (read_named t) (record { number = 2; place = Spot 1 k })) (sym c.column_at-column.ensures)
    (form-refused t c.if-text-gt-BYTES.false c.if-text-eq0.false _ e)
