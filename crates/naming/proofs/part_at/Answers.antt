-- `naming::part_at` meets its contract.
use mathlib.Core.Path.{◌≡◌, sym, ◌∙◌, ap}
use mathlib.Core.List.{List}
use Prim.Native.Nat.{ℕ}
use lib.ListN.{drop}
use Rattle.model.specs.Reading.{got, Entry, entry}
use Rattle.fields.specs.Resets.{valued}
use Rattle.lines.specs.Lines.{line_of, got_line}
use Rattle.lines.specs.declared.Line.{Line}
use Rattle.lines.proofs.LineLaws.{valued-is, valued-stops}
use Rattle.naminglaws.specs.Naming.{place_in, line_set}
use Rattle.naminglaws.proofs.LineLaws.{entries-stop}
use Rattle.naming.proofs.part_at.Goals as goal
use Rattle.naming.proofs.part_at.Goals.{After-held-next}

-- ---- where a line was scanned, and the place behind it held
abbrev text_at : After-held-next → List ℕ
text_at c = c.args.text.now

abbrev place_at : After-held-next → ℕ
place_at c = c.args.at

abbrev line_at : After-held-next → Line
line_at c = c.in-Ok.line

abbrev next_at : After-held-next → ℕ
next_at c = c.held-next.result

scanned : (c : After-held-next) → valued line_of (entry (drop (place_at c) (text_at c))) ≡ got (line_at c) (drop (next_at c) (text_at c))
scanned c =
    sym c.line_at.ensures ∙ ap (got_line (text_at c)) c.in-Ok.is
    ∙ ap (λ (b : List ℕ). got (line_at c) b) (sym c.held-next.ensures.0)

here : (c : After-held-next)
    → (e : Entry) × (entry (drop (place_at c) (text_at c)) ≡ got e (drop (next_at c) (text_at c))) × (line_of e ≡ line_at c)
here c = valued-is line_of (entry (drop (place_at c) (text_at c))) (scanned c)

pub returns-in-Ok : goal.returns-in-Ok
returns-in-Ok c = let h = here (goal.at.returns-in-Ok c).After-held-next in
    record {
      line = h.0;
      read = h.1;
      place_is = c.place_in-place.ensures ∙ ap place_in (sym h.2);
      set_is = c.line_set-declares.ensures ∙ ap line_set (sym h.2);
      start = c.requires;
      inside = c.held-next.ensures.1;
    }

pub returns-in-Err : goal.returns-in-Err
returns-in-Err c = let a = c.args in
    let t = a.text.now in
    entries-stop t a.at _ (valued-stops line_of (entry (drop a.at t)) (sym c.line_at.ensures ∙ ap (got_line t) c.in-Err.is))
