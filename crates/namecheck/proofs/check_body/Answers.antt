-- `namecheck::check_body` meets its contract. The loop's invariant: what the code keeps stands for what the definition keeps before this line.
use mathlib.Core.Path.{◌≡◌, sym, ◌∙◌, ap, subst}
use mathlib.Core.Option.{Option}
use mathlib.Core.List.{List}
use Prim.Native.Nat.{ℕ, ◌+◌, ◌≤◌}
use native.Mathlib.Omega.{arith}
use lib.ListN.{length, drop}
use Rattle.laws.specs.Sets.{◌∪◌}
use Rattle.std.specs.Prelude.{Err}
use Rattle.answer.specs.Told.{says_checked}
use Rattle.columns.specs.declared.Allowed.{Allowed}
use Rattle.lines.proofs.LineLaws.{valued-stops}
use Rattle.survey.specs.Places.{allowed_of}
use Rattle.named.specs.NamedText.{line}
use Rattle.named.specs.ReadNamed.{taken}
use Rattle.namefields.specs.NameFields.{name_from, number_by, found_is}
use Rattle.namelines.specs.declared.NamedLine.{NamedLine}
use Rattle.namelines.specs.NamedLines.{code_of, got_named, before_name}
use Rattle.namelaws.specs.Sheets.{with_sheet, sheet_of}
use Rattle.namelaws.specs.Judging.{judged_by, step_named, declared_named, column_by}
use Rattle.namelaws.proofs.NameTurns.{ReadAs, read_as, line-inside, number-below}
use Rattle.namelaws.proofs.BodyTurns.{Stands, stands-first, line-told, line-less, line_taken, says-shape, says_none, says-unused, says-fine}
use Rattle.namecheck.proofs.check_body.Goals as goal
use Rattle.namecheck.proofs.check_body.Goals.{After-action_named-found, After-judged, At-loop-at, In-Ok}

abbrev loop_of : In-Ok → At-loop-at
loop_of c = (goal.at.In-Ok c).At-loop-at

abbrev text_of : At-loop-at → List ℕ
text_of c = c.args.text.now

abbrev places_of : At-loop-at → List ℕ
places_of c = c.args.places.now

abbrev line_at : In-Ok → NamedLine
line_at c = c.in-Ok.line

abbrev next_at : In-Ok → ℕ
next_at c = c.in-Ok.next.at

here : (c : In-Ok) → ReadAs (text_of (loop_of c)) (loop_of c).loop-at.at (line_at c) (next_at c)
here c =
    read_as (text_of (loop_of c)) (loop_of c).loop-at.at (line_at c) (next_at c)
    (sym c.line_at.ensures ∙ ap (got_named (text_of (loop_of c)))
    c.in-Ok.is)

inside : (c : In-Ok) → (loop_of c).loop-at.at + before_name (line_at c) ≤ length (text_of (loop_of c))
inside c =
    let h = here c in
    let l = loop_of c in
    let t = text_of l in
    subst (λ m. l.loop-at.at + before_name m ≤ length t) h.code
    (line-inside t l.loop-at.at (drop (next_at c) t) h.it h.here c.loop-at-test.true)

abbrev scan : After-action_named-found → In-Ok
scan c = (goal.at.After-action_named-found c).In-Ok

abbrev found_at : After-action_named-found → Option ℕ
found_at c = found_is c.action_named-found.result

looked : (c : After-action_named-found)
    → found_at c
    ≡ number_by (text_of (loop_of (scan c))) (places_of (loop_of (scan c)))
    (name_from (text_of (loop_of (scan c))) ((loop_of (scan c)).loop-at.at + before_name (code_of (here (scan c)).it)))
looked c =
    let l = loop_of (scan c) in
    c.action_named-found.ensures
    ∙ ap (λ b. number_by (text_of l) (places_of l) (name_from (text_of l) (l.loop-at.at + b)))
    (c.before_name-before.ensures ∙ ap before_name (sym (here (scan c)).code))

-- ---- where it was judged
judged : (c : After-judged)
    → step_named (loop_of (scan (goal.at.After-judged c).After-action_named-found)).loop-at.p (code_of (here (scan (goal.at.After-judged c).After-action_named-found)).it) (found_at (goal.at.After-judged c).After-action_named-found) ≡ c.judged.result
judged c =
    let l = loop_of (scan (goal.at.After-judged c).After-action_named-found) in
    ap (λ m. step_named l.loop-at.p m (found_at (goal.at.After-judged c).After-action_named-found)) (here (scan (goal.at.After-judged c).After-action_named-found)).code ∙ sym c.judged.ensures

pub loop-at-init : goal.loop-at-init
loop-at-init c = let t = c.args.text.now in
    let P = c.args.places.now in
    let s = c.requires.0 in
    let first = stands-first t P c.args.from c.args.first 7 s s.behind in (
      with_sheet (sheet_of t P),
      subst (λ p. Stands t P c.args.from c.args.first (with_sheet (sheet_of t P)) p c.args.from c.args.first 0)
          (sym c.at_start-p.ensures) first,
    )

pub overflow_add-at : goal.overflow_add-at
overflow_add-at c = omega (arith, inside (goal.at.overflow_add-at c).In-Ok, c.before_name-before.ensures, (loop_of (goal.at.overflow_add-at c).In-Ok).requires.1)

pub action_named-found-requires : goal.action_named-found-requires
action_named-found-requires c = (loop_of (goal.at.action_named-found-requires c).In-Ok).requires.0.long

pub column_of-column-requires : goal.column_of-column-requires
column_of-column-requires c = let s = scan (goal.at.column_of-column-requires c).After-action_named-found in
    let l = loop_of s in
    (l.loop-at.invariant.1.low, inside s, l.requires.1)

pub returns-in-Err-judged : goal.returns-in-Err-judged
returns-in-Err-judged c = let s = scan (goal.at.returns-in-Err-judged c).After-action_named-found in
    let l = loop_of s in
    let a = l.args in
    let t = text_of l in
    let P = places_of l in
    let h = here s in
    let o = found_at (goal.at.returns-in-Err-judged c).After-action_named-found in
    let f = c.in-Err-judged.number in
    let e = judged (goal.at.returns-in-Err-judged c).After-judged ∙ c.in-Err-judged.is in
    let v = c.column_of-column in
    let col : v.result ≡ column_by t l.loop-at.at (allowed_of (judged_by l.loop-at.p (code_of h.it) o) f) (code_of h.it) o =
    v.ensures ∙ ap (λ (x : Allowed). column_by t l.loop-at.at x (line_at s) o) c.allowed-a.ensures
    ∙ ap (λ m. column_by t l.loop-at.at (allowed_of (judged_by l.loop-at.p m o) f) m o) (sym h.code) in
    ap (λ p. says_checked (Err (record { number = f; place = p }))) c.place_of-place.ensures
    ∙ line-told t P a.from a.first l.loop-at.invariant.0 l.loop-at.p l.loop-at.at l.loop-at.n l.loop-at.declared
    l.loop-at.invariant.1 h.it (next_at s) h.here o (looked (goal.at.returns-in-Err-judged c).After-action_named-found) f v.result e col

pub declares-requires : goal.declares-requires
declares-requires c = let l = loop_of (scan (goal.at.declares-requires c).After-action_named-found) in
    λ a e. number-below (text_of l) (places_of l) (name_from (text_of l) (l.loop-at.at + c.before_name-before.result)) a (sym c.action_named-found.ensures ∙ e)

pub overflow_add-n : goal.overflow_add-n
overflow_add-n c = let s = scan (goal.at.overflow_add-n c).After-action_named-found in
    let l = loop_of s in
    omega (arith, l.loop-at.invariant.1.count, l.requires.1)

pub loop-at-smaller : goal.loop-at-smaller
loop-at-smaller c = let s = scan (goal.at.loop-at-smaller c).After-action_named-found in
    let l = loop_of s in
    let a = l.args in
    let h = here s in
    line-less (text_of l) (places_of l) a.from a.first l.loop-at.invariant.0 l.loop-at.p l.loop-at.at
    l.loop-at.n l.loop-at.declared l.loop-at.invariant.1 h.it (next_at s) h.here
    (found_at (goal.at.loop-at-smaller c).After-action_named-found) (looked (goal.at.loop-at-smaller c).After-action_named-found)

pub loop-at-preserved : goal.loop-at-preserved
loop-at-preserved c = let s = scan (goal.at.loop-at-preserved c).After-action_named-found in
    let l = loop_of s in
    let a = l.args in
    let h = here s in
    let o = found_at (goal.at.loop-at-preserved c).After-action_named-found in
    let q = c.in-Ok-judged in
    let e = judged (goal.at.loop-at-preserved c).After-judged ∙ q.is in
    let w =
    line_taken (text_of l) (places_of l) a.from a.first l.loop-at.invariant.0 l.loop-at.p l.loop-at.at
    l.loop-at.n l.loop-at.declared l.loop-at.invariant.1 h.it (next_at s) h.here o
    (looked (goal.at.loop-at-preserved c).After-action_named-found) q.q e in
    let u : l.loop-at.declared ∪ declared_named (code_of h.it) o ≡ c.union-declared.result =
    ap (λ m. l.loop-at.declared ∪ declared_named m o) h.code
    ∙ ap (λ z. l.loop-at.declared ∪ z) (sym c.declares.ensures) ∙ sym c.union-declared.ensures in (
      taken l.loop-at.invariant.0 h.it,
      subst (λ z. Stands (text_of l) (places_of l) a.from a.first (taken l.loop-at.invariant.0 h.it) q.q (next_at s) (l.loop-at.n + 1) z) u w,
    )

pub column_at-column-requires : goal.column_at-column-requires
column_at-column-requires c = omega arith

pub returns-in-Err : goal.returns-in-Err
returns-in-Err c = let a = c.args in
    let t = text_of (goal.at.returns-in-Err c).At-loop-at in
    let e = valued-stops code_of (line (drop c.loop-at.at t)) (sym c.line_at.ensures ∙ ap (got_named t) c.in-Err.is) in
    says-shape t (places_of (goal.at.returns-in-Err c).At-loop-at) a.from a.first c.loop-at.invariant.0 c.loop-at.p c.loop-at.at
    c.loop-at.n c.loop-at.declared c.loop-at.invariant.1 c.column_at-column.result _
    c.loop-at-test.true e c.column_at-column.ensures

pub returns-then-p-eq0 : goal.returns-then-p-eq0
returns-then-p-eq0 c = let a = c.args in
    says_none (text_of (goal.at.returns-then-p-eq0 c).At-loop-at) (places_of (goal.at.returns-then-p-eq0 c).At-loop-at) a.from a.first c.loop-at.invariant.0 c.loop-at.p c.loop-at.at c.loop-at.n c.loop-at.declared c.loop-at.invariant.1
    c.loop-at-test.false c.if-p-eq0.true

pub first_unused-line-requires : goal.first_unused-line-requires
first_unused-line-requires c = c.requires.0.long

pub returns-then-line-ne0 : goal.returns-then-line-ne0
returns-then-line-ne0 c = let a = c.args in
    says-unused (text_of (goal.at.returns-then-line-ne0 c).At-loop-at) (places_of (goal.at.returns-then-line-ne0 c).At-loop-at) a.from a.first c.loop-at.invariant.0 c.loop-at.p c.loop-at.at c.loop-at.n c.loop-at.declared c.loop-at.invariant.1
    c.loop-at-test.false c.if-p-eq0.false c.first_unused-line.result (c.first_unused-line.ensures (text_of (goal.at.returns-then-line-ne0 c).At-loop-at)) c.if-line-ne0.true

pub returns : goal.returns
returns c = let a = c.args in
    says-fine (text_of (goal.at.returns c).At-loop-at) (places_of (goal.at.returns c).At-loop-at) a.from a.first c.loop-at.invariant.0 c.loop-at.p c.loop-at.at c.loop-at.n c.loop-at.declared c.loop-at.invariant.1
    c.loop-at-test.false c.if-p-eq0.false c.first_unused-line.result (c.first_unused-line.ensures (text_of (goal.at.returns c).At-loop-at)) c.if-line-ne0.false
