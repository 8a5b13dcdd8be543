-- `namecut::cut_at` meets its contract.
use mathlib.Core.Path.{◌≡◌, sym, ◌∙◌, ap, subst}
use mathlib.Core.Option.{none}
use mathlib.Core.List.{List}
use Prim.Native.Nat.{ℕ, ◌≤◌}
use native.Mathlib.Omega.{arith}
use lib.ListN.{length, drop}
use Rattle.model.specs.Reading.{got}
use Rattle.fields.specs.Resets.{valued}
use Rattle.lines.proofs.LineLaws.{valued-stops}
use Rattle.named.specs.NamedText.{line}
use Rattle.namefields.specs.NameFields.{number_by}
use Rattle.namelines.specs.declared.NamedLine.{NamedLine}
use Rattle.namelines.specs.NamedLines.{code_of, got_named}
use Rattle.namelaws.specs.OldLines.{old_of}
use Rattle.namelaws.proofs.NameTurns.{ReadAs, read_as}
use Rattle.cutlaws.specs.Cutting.{HasName, IsPlain, NoOld}
use Rattle.cutlaws.proofs.LineCuts.{cut-plain, cut-none}
use Rattle.namecut.proofs.cut_at.Goals as goal
use Rattle.namecut.proofs.cut_at.Goals.{After-held-next}

-- ---- where a line was scanned, and the place behind it held
abbrev text_at : After-held-next → List ℕ
text_at c = c.args.text.now

abbrev places_at : After-held-next → List ℕ
places_at c = c.args.places.now

abbrev place_at : After-held-next → ℕ
place_at c = c.args.at

abbrev line_at : After-held-next → NamedLine
line_at c = c.in-Ok.line

abbrev next_at : After-held-next → ℕ
next_at c = c.held-next.result

start : (c : After-held-next) → place_at c ≤ length (text_at c)
start c = omega (arith, c.requires.1)

scanned : (c : After-held-next) → valued code_of (line (drop (place_at c) (text_at c))) ≡ got (line_at c) (drop (next_at c) (text_at c))
scanned c =
    sym c.line_at.ensures ∙ ap (got_named (text_at c)) c.in-Ok.is
    ∙ ap (λ (b : List ℕ). got (line_at c) b) (sym c.held-next.ensures.0)

here : (c : After-held-next) → ReadAs (text_at c) (place_at c) (line_at c) (next_at c)
here c = read_as (text_at c) (place_at c) (line_at c) (next_at c) (scanned c)

no_old : (c : After-held-next) → NoOld (line_at c) → old_of (number_by (text_at c) (places_at c)) (line (drop (place_at c) (text_at c))) ≡ none
no_old c h = cut-none (text_at c) (places_at c) (place_at c) (next_at c) (start c) c.held-next.ensures.1
    (here c).it (here c).here (subst NoOld (sym (here c).code) h)

pub at_name-requires : goal.at_name-requires
at_name-requires c = (c.requires.0, scanned (goal.at.at_name-requires c).After-held-next, subst HasName (sym c.in-Act.is) tt, c.requires.1, c.held-next.ensures.1, c.requires.2)

pub at_name-requires-in-Row : goal.at_name-requires-in-Row
at_name-requires-in-Row c = (c.requires.0, scanned (goal.at.at_name-requires-in-Row c).After-held-next, subst HasName (sym c.in-Row.is) tt, c.requires.1, c.held-next.ensures.1, c.requires.2)

pub returns-in-Form : goal.returns-in-Form
returns-in-Form c = no_old (goal.at.returns-in-Form c).After-held-next (subst NoOld (sym c.in-Form.is) tt)

pub returns-in-Name : goal.returns-in-Name
returns-in-Name c = no_old (goal.at.returns-in-Name c).After-held-next (subst NoOld (sym c.in-Name.is) tt)

pub returns-in-Act : goal.returns-in-Act
returns-in-Act c = c.at_name.ensures

pub returns-in-Row : goal.returns-in-Row
returns-in-Row c = c.at_name-in-Row.ensures

pub returns-in-Plain : goal.returns-in-Plain
returns-in-Plain c = cut-plain (text_at (goal.at.returns-in-Plain c).After-held-next) (places_at (goal.at.returns-in-Plain c).After-held-next) (place_at (goal.at.returns-in-Plain c).After-held-next) (next_at (goal.at.returns-in-Plain c).After-held-next) (start (goal.at.returns-in-Plain c).After-held-next) c.held-next.ensures.1 (here (goal.at.returns-in-Plain c).After-held-next).it (here (goal.at.returns-in-Plain c).After-held-next).here
    (subst IsPlain (sym (here (goal.at.returns-in-Plain c).After-held-next).code) (subst IsPlain (sym c.in-Plain.is) tt))

pub returns-in-Err : goal.returns-in-Err
returns-in-Err c = let a = c.args in
    let t = a.text.now in
    ap (old_of (number_by t a.places.now))
    (valued-stops code_of (line (drop a.at t)) (sym c.line_at.ensures ∙ ap (got_named t) c.in-Err.is))
