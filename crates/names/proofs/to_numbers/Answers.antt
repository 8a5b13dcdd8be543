-- `names::to_numbers` meets its contract.
use mathlib.Core.Path.{◌≡◌, sym, ◌∙◌, ap, subst}
use mathlib.Core.List.{List}
use Prim.Native.Nat.{ℕ}
use native.Mathlib.Omega.{arith}
use lib.ListN.{length, length-replicate}
use Rattle.laws.proofs.Exits.{handed-on}
use Rattle.answer.specs.Told.{answered}
use Rattle.answer.specs.Limits.{max_actions}
use Rattle.model.specs.Reading.{Entry}
use Rattle.print.proofs.LaidLaws.{put_as}
use Rattle.named.specs.NamedText.{lines_text}
use Rattle.named.specs.ReadNamed.{read_named}
use Rattle.named.specs.Converted.{to_numbers, Converts}
use Rattle.namelaws.specs.OldLines.{GoodText}
use Rattle.namecheck.specs.NameCheck.{ChecksAs}
use Rattle.names.proofs.ConvertLaws.{is-refused, no_room, too_long, written, to-refused, to-answered, zeros}
use Rattle.names.proofs.to_numbers.Goals as goal
use Rattle.names.proofs.to_numbers.Goals.{After-old_length-needed, In_ok-at}

abbrev text_at : In_ok-at → List ℕ
text_at c = c.args.text.now

abbrev old_at : In_ok-at → List ℕ
old_at c = c.args.old.now

abbrev places_at : In_ok-at → List ℕ
places_at c = c.check_named.new.places

abbrev place_at : In_ok-at → ℕ
place_at c = c.in_ok-at.at

good : (c : In_ok-at) → GoodText (text_at c) (read_named (text_at c)) (places_at c) (place_at c)
good c = subst (ChecksAs (text_at c) (read_named (text_at c)) (places_at c)) c.in_ok-at.was c.check_named.ensures

answers : (c : In_ok-at) → to_numbers (text_at c) ≡ answered (lines_text (good c).it.lines)
answers c = to-answered (text_at c) (good c).it (good c).read

-- ---- and its old text measured
abbrev known : After-old_length-needed → In_ok-at
known c = (goal.at.After-old_length-needed c).In_ok-at

needed : (c : After-old_length-needed) → c.old_length-needed.result ≡ length (lines_text (good (known c)).it.lines)
needed c = c.old_length-needed.ensures ∙ ap (λ (l : List Entry). length (lines_text l)) (sym (good (known c)).old)

pub check_named-requires : goal.check_named-requires
check_named-requires c = (length-replicate {A = ℕ} max_actions 0, λ a. zeros max_actions a)

pub old_length-needed-requires : goal.old_length-needed-requires
old_length-needed-requires c = let g = good (goal.at.old_length-needed-requires c).In_ok-at in (g.long, g.inside, g.short)

pub returns-then-old-needed : goal.returns-then-old-needed
returns-then-old-needed c = let k = known (goal.at.returns-then-old-needed c).After-old_length-needed in
    no_room (to_numbers (text_at k)) (lines_text (good k).it.lines) (old_at k) (answers k) c.old_length-needed.result (needed (goal.at.returns-then-old-needed c).After-old_length-needed) c.if-old-needed.true

pub returns-then-needed-gt-BYTES : goal.returns-then-needed-gt-BYTES
returns-then-needed-gt-BYTES c = let k = known (goal.at.returns-then-needed-gt-BYTES c).After-old_length-needed in
    too_long (to_numbers (text_at k)) (lines_text (good k).it.lines) (old_at k) (answers k) c.old_length-needed.result (needed (goal.at.returns-then-needed-gt-BYTES c).After-old_length-needed) c.if-old-needed.false c.if-needed-gt-BYTES.true

pub write_old-requires : goal.write_old-requires
write_old-requires c = let g = good (known (goal.at.write_old-requires c).After-old_length-needed) in
    (g.long, g.inside, g.short, omega (arith, c.old_length-needed.ensures, c.if-old-needed.false))

pub returns : goal.returns
returns c = let k = known (goal.at.returns c).After-old_length-needed in
    written (to_numbers (text_at k)) (lines_text (good k).it.lines) (old_at k) (answers k) c.old_length-needed.result (needed (goal.at.returns c).After-old_length-needed) c.if-old-needed.false c.if-needed-gt-BYTES.false _ _
    (put_as c.write_old.ensures _ (ap lines_text (sym (good k).old)))

pub returns-in_err-at : goal.returns-in_err-at
returns-in_err-at c = let t = c.args.text.now in
    let r = subst (ChecksAs t (read_named t) c.check_named.new.places) c.in_err-at.was c.check_named.ensures in
    subst (Converts (to_numbers t) c.args.old.now c.args.old.now) (sym (handed-on _ c.from_residual.ensures.1))
    (is-refused (to_numbers t) c.args.old.now _ r.tells r.says (to-refused t _ r))
