-- `names::to_names` meets its contract.
use mathlib.Core.Path.{sym, ◌∙◌, ap, subst}
use mathlib.Core.List.{List}
use Prim.Native.Nat.{ℕ}
use native.Mathlib.Omega.{arith}
use Rattle.laws.proofs.Exits.{handed-on}
use Rattle.answer.specs.Told.{says_checked}
use Rattle.named.specs.Converted.{to_names, Converts}
use Rattle.naminglaws.specs.Naming.{new_text}
use Rattle.naminglaws.proofs.NewText.{Names, names-good, names-refused}
use Rattle.names.proofs.ConvertLaws.{is-refused, no_room, too_long, written}
use Rattle.names.proofs.to_names.Goals as goal
use Rattle.names.proofs.to_names.Goals.{After-new_length-s, Else-new-s, In_ok-check_text}

abbrev text_at : In_ok-check_text → List ℕ
text_at c = c.args.text.now

abbrev old_at : In_ok-check_text → List ℕ
old_at c = c.args.new.now

good : (c : In_ok-check_text) → Names (text_at c)
good c = names-good (text_at c) (sym (ap says_checked c.in_ok-check_text.was) ∙ c.check_text.ensures)

abbrev roomy : Else-new-s → After-new_length-s
roomy c = (goal.at.Else-new-s c).After-new_length-s

pub new_length-s-requires : goal.new_length-s-requires
new_length-s-requires c = (good c).short

pub returns-then-new-s : goal.returns-then-new-s
returns-then-new-s c = let n = c.new_length-s in
    no_room (to_names (text_at (goal.at.returns-then-new-s c).In_ok-check_text)) (new_text (text_at (goal.at.returns-then-new-s c).In_ok-check_text)) (old_at (goal.at.returns-then-new-s c).In_ok-check_text) (good (goal.at.returns-then-new-s c).In_ok-check_text).answer n.result.length n.ensures.1 c.if-new-s.true

pub returns-then-s-gt-BYTES : goal.returns-then-s-gt-BYTES
returns-then-s-gt-BYTES c = let d = roomy (goal.at.returns-then-s-gt-BYTES c).Else-new-s in
    let k = (goal.at.After-new_length-s d).In_ok-check_text in
    let n = d.new_length-s in
    too_long (to_names (text_at k)) (new_text (text_at k)) (old_at k) (good k).answer n.result.length n.ensures.1 c.if-new-s.false c.if-s-gt-BYTES.true

pub write_new-requires : goal.write_new-requires
write_new-requires c = let n = (roomy (goal.at.write_new-requires c).Else-new-s).new_length-s in
    (n.ensures.0, omega (arith, n.ensures.1, c.if-new-s.false))

pub returns : goal.returns
returns c = let d = roomy (goal.at.returns c).Else-new-s in
    let k = (goal.at.After-new_length-s d).In_ok-check_text in
    let n = d.new_length-s in
    written (to_names (text_at k)) (new_text (text_at k)) (old_at k) (good k).answer n.result.length n.ensures.1 c.if-new-s.false c.if-s-gt-BYTES.false _ _
    c.write_new.ensures

pub returns-in_err-check_text : goal.returns-in_err-check_text
returns-in_err-check_text c = let t = c.args.text.now in
    let r = names-refused t _ (sym (ap says_checked c.in_err-check_text.was) ∙ c.check_text.ensures) in
    subst (Converts (to_names t) c.args.new.now c.args.new.now) (sym (handed-on _ c.from_residual.ensures.1))
    (is-refused (to_names t) c.args.new.now _ r.0 r.1 r.2)
