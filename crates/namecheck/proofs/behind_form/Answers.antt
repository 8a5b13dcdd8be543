-- `namecheck::behind_form` meets its contract.
use mathlib.Core.Path.{sym, ◌∙◌, ap, subst}
use mathlib.Core.List.{List}
use Prim.Native.Nat.{ℕ}
use Rattle.answer.specs.Told.{says_checked}
use Rattle.namelaws.specs.Sheets.{sheet_of, with_sheet, onward, SheetIs}
use Rattle.namelaws.proofs.OldLaws.{refuses-of, fine_of}
use Rattle.namesheet.specs.Sheets.{Sheets}
use Rattle.laws.proofs.Exits.{handed-on}
use Rattle.named.specs.ReadNamed.{begun}
use Rattle.namecheck.specs.NameCheck.{ChecksAs}
use Rattle.namecheck.proofs.Bodies.{good-text}
use Rattle.namecheck.proofs.behind_form.Goals as goal
use Rattle.namecheck.proofs.behind_form.Goals.{In_ok-end}

-- ---- behind the `name` lines
abbrev text_at : In_ok-end → List ℕ
text_at c = c.args.text.now

abbrev places_at : In_ok-end → List ℕ
places_at c = c.read_names.new.places

abbrev place_at : In_ok-end → ℕ
place_at c = c.in_ok-end.end.at

abbrev number_at : In_ok-end → ℕ
number_at c = c.in_ok-end.end.line

sheet : (c : In_ok-end) → SheetIs (text_at c) 7 (places_at c) (place_at c) (number_at c)
sheet c = subst (Sheets (text_at c) 7 (places_at c)) c.in_ok-end.was c.read_names.ensures

pub check_body-requires : goal.check_body-requires
check_body-requires c = (sheet c, c.requires.3)

pub returns : goal.returns
returns c = let o = onward (text_at (goal.at.returns c).In_ok-end) (with_sheet (sheet_of (text_at (goal.at.returns c).In_ok-end) (places_at
    (goal.at.returns c).In_ok-end))) (place_at (goal.at.returns c).In_ok-end) (number_at (goal.at.returns c).In_ok-end) in
    let f = fine_of o (sym (ap says_checked c.in_ok-check_body.was) ∙ c.check_body.ensures) in
    good-text (text_at (goal.at.returns c).In_ok-end) (places_at (goal.at.returns c).In_ok-end) (place_at (goal.at.returns c).In_ok-end) (number_at
    (goal.at.returns c).In_ok-end) f.0 (sheet (goal.at.returns c).In_ok-end) c.requires.3 f.1

pub returns-in_err-check_body : goal.returns-in_err-check_body
returns-in_err-check_body c = let t = text_at (goal.at.returns-in_err-check_body c).In_ok-end in
    let o = onward t (with_sheet (sheet_of t (places_at (goal.at.returns-in_err-check_body c).In_ok-end))) (place_at
    (goal.at.returns-in_err-check_body c).In_ok-end) (number_at (goal.at.returns-in_err-check_body c).In_ok-end) in
    let r = refuses-of o _ (sym (ap says_checked c.in_err-check_body.was) ∙ c.check_body.ensures) in
    subst (ChecksAs t (onward t begun 7 2) (places_at (goal.at.returns-in_err-check_body c).In_ok-end)) (sym
    (handed-on _ c.from_residual-in_err-check_body.ensures.1))
    (record { tells = r.tells; says = r.says; same = sym (sheet (goal.at.returns-in_err-check_body c).In_ok-end).same ∙ r.same })

pub returns-in_err-end : goal.returns-in_err-end
returns-in_err-end c = let t = c.args.text.now in
    subst (ChecksAs t (onward t begun 7 2) c.read_names.new.places) (sym (handed-on _ c.from_residual.ensures.1))
    (subst (Sheets t 7 c.read_names.new.places) c.in_err-end.was c.read_names.ensures)
