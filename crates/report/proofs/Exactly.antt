-- What is printed is exactly what is said of the request line, the text's model and the product's rows; and so is the contract of `report`.
use mathlib.Core.Path.{◌≡◌, refl, sym, ◌∙◌, ap, subst}
use mathlib.Core.Logic.{◌↔◌}
use mathlib.Core.Bool.{Bool, true, false, cond, true≢false}
use mathlib.Core.Option.{Option, none, some, some_inj}
use mathlib.Core.List.{List, [], ◌∷◌}
use Prim.Native.Nat.{ℕ, ◌-◌, ◌≤◌}
use native.Mathlib.Omega.{arith}
use lib.ListN.{length, length-append}
use lib.Dec.{ltb}
use borrow.Author.Tests.{ltb-false, le-ltb}
use Rattle.laws.specs.Search.{when}
use Rattle.laws.proofs.SearchLaws.{no-some}
use Rattle.answer.specs.Limits.{max_request}
use Rattle.answer.specs.Told.{tell, Answer, answered, refused}
use Rattle.answer.specs.Told.{Written}
use Rattle.model.specs.Model.{Model}
use Rattle.model.specs.Reading.{Got, Scan, is, stops, read_of}
use Rattle.iosa.specs.Settle.{settle_of}
use Rattle.answering.specs.Report.{Request, request_line, request_text, request_of, short_enough, answer_lines, report_of}
use Rattle.iosa.specs.InOrder.{◌▹◌, Gives, room}
use Rattle.iosa.specs.Lent.{Fills}
use Rattle.answering.specs.Printed.{Asks, Prints, is9, no-model, runs}
use Rattle.model.proofs.Reading.ReadOfText.{read-exactly}
use Rattle.answering.proofs.Answers.InOrder.{refused_or, check-exactly, gives-exactly, leaves-exactly, room-decided}
use Rattle.answering.proofs.Answers.Models.{settle-model-exactly}
use Rattle.answering.proofs.Answers.Texts.{read-text-exactly}
use Rattle.answering.proofs.Answers.Lines.{answer-printed}
use Rattle.steplines.specs.Run.{most_bytes}
use Rattle.text.proofs.Filling.{length_in, filled_with, fills-exactly}
use Rattle.request.specs.Kept.{there}
use Rattle.report.specs.Reported.{length_told, report_in, Reported}
use Rattle.report.specs.ReportExactly.{ReportExactly}
use Rattle.report.proofs.RequestExact.{request-exact}
use Rattle.report.proofs.ReportLaws.{report-9, report-text, report-model}

-- ---- the request line
short-exactly : (bs : List ℕ) (g g' : Got Request) → (short_enough bs (is g) ≡ some g') ↔ (g ≡ g') × (length bs - length g.rest ≤ max_request)
short-exactly bs g g' = go (ltb max_request (length bs - length g.rest)) refl
  where
    go : (b : Bool) → ltb max_request (length bs - length g.rest) ≡ b
        → (◌≡◌ {A = Option (Got Request)} (cond b none (some g)) (some g')) ↔ (g ≡ g') × (length bs - length g.rest ≤ max_request)
    go true e = (λ h. absurd (no-some refl h), λ p. absurd (true≢false (sym e ∙ le-ltb max_request _ p.1)))
    go false e = (λ h. (some_inj.0 h, ltb-false max_request _ e), λ p. ap some p.0)

asks : (bs : List ℕ) (o : Scan Request) → request_line bs ≡ o → (g : Got Request) → short_enough bs o ≡ some g → Asks bs g.value g.rest
asks bs (stops cs) e g h = absurd (no-some refl h)
asks bs (is g₀) e g h =
    let p = (short-exactly bs g₀ g).0 h in
    let q = request-exact.scanned bs g (e ∙ ap is p.0) in
    let n = ap (λ (x : Got Request). length x.rest) p.0 in
    record { fits = q.1; line = q.0; short = omega (arith, ap length q.0, length-append (request_text g.value) g.rest, p.1, n) }

asked : (bs : List ℕ) (q : Request) (text : List ℕ) → Asks bs q text → request_of bs ≡ there q text
unfolding request_of
asked bs q text a =
    let e = ap request_line a.line ∙ request-exact.printed q text a.fits tt in
    let g : Got Request = record { value = q; rest = text } in
    let n : length bs - length text ≤ max_request = omega (arith, ap length a.line, length-append (request_text q) text, a.short) in
    ap (short_enough bs) e ∙ (short-exactly bs g g).1 (refl, n)

not-asked : (bs : List ℕ) → ((q : Request) (text : List ℕ) → Asks bs q text → ⊥) → request_of bs ≡ none
unfolding request_of
not-asked bs f = go (short_enough bs (request_line bs)) refl
  where
    go : (o : Option (Got Request)) → short_enough bs (request_line bs) ≡ o → o ≡ none
    go none e = refl
    go (some g) e = absurd (f g.value g.rest (asks bs (request_line bs) refl g e))

-- ---- the report
module _ (input : List ℕ) where
  computed : (out : List ℕ) → Prints input out → report_of input ≡ out
  computed _ (is9 n) = report-9 input (not-asked input n)
  computed _ (no-model {q = q} {text = text} {t = t} a r) = report-text input text q (asked input q text a) t ((read-text-exactly text (refused t)).1 r)
  computed _ (runs {q = q} {text = text} {c = c} {cs = cs} {a = v} {out = out} a r s p) =
      let e = (read-text-exactly text (answered (c ∷ cs))).1 r in
      let w = ((read-exactly text (c ∷ cs)).0 e).0 in
      report-model input text q (asked input q text a) (c ∷ cs) e
      ∙ ap (answer_lines (c ∷ cs) q.state) ((settle-model-exactly c cs w q.state q.budget q.budget v).1 s)
      ∙ (answer-printed c cs w q.state q.budget q.budget s out).1 p

  of-model : (q : Request) (text : List ℕ) → Asks input q text → (m : Model) → read_of text ≡ answered m → Prints input (report_of input)
  of-model q text a [] e = absurd (omega (arith, ((read-exactly text []).0 e).0.some))
  of-model q text a (c ∷ cs) e =
      let w = ((read-exactly text (c ∷ cs)).0 e).0 in
      let s = (settle-model-exactly c cs w q.state q.budget q.budget (settle_of (c ∷ cs) q.state q.budget q.budget)).0 refl in
      let l = report-model input text q (asked input q text a) (c ∷ cs) e in
      runs a ((read-text-exactly text (answered (c ∷ cs))).0 e) s ((answer-printed c cs w q.state q.budget q.budget s (report_of input)).0 (sym l))

  printed : Prints input (report_of input)
  unfolding request_of
  printed = go (request_of input) refl
    where
      behind : (q : Request) (text : List ℕ) → Asks input q text → (v : Answer Model) → read_of text ≡ v → Prints input (report_of input)
      behind q text a (refused t) e =
          subst (Prints input) (sym (report-text input text q (asked input q text a) t e)) (no-model a ((read-text-exactly text (refused t)).0 e))
      behind q text a (answered m) e = of-model q text a m e

      go : (o : Option (Got Request)) → request_of input ≡ o → Prints input (report_of input)
      go none e = subst (Prints input) (sym (report-9 input e)) (is9 (λ q text a. no-some e (asked input q text a)))
      go (some g) e = behind g.value g.rest (asks input (request_line input) refl g e) (read_of g.rest) refl

  -- the program prints exactly this, for every input
  pub report-prints-exactly : (out : List ℕ) → (report_of input ≡ out) ↔ Prints input out
  report-prints-exactly out = (λ e. subst (Prints input) e printed, computed out)

  -- ---- the call
  module _ (old : List ℕ) where
    given : Answer (List ℕ)
    given = refused_or (when (ltb (length old) most_bytes) (tell 24 (most_bytes ∷ []))) (answered (report_of input))

    length-given : length_told input old ≡ length_in given
    unfolding length_told given
    length-given = go (ltb (length old) most_bytes)
      where
        go : (b : Bool) → ◌≡◌ {A = Answer ℕ} (cond b (refused (tell 24 (most_bytes ∷ []))) (answered (length (report_of input))))
            (length_in (refused_or (when b (tell 24 (most_bytes ∷ []))) (answered (report_of input))))
        go true = refl
        go false = refl

    filled-given : report_in input old ≡ filled_with given old
    unfolding report_in given
    filled-given = go (ltb (length old) most_bytes)
      where
        go : (b : Bool)
            → cond b old (filled_with (answered (report_of input)) old)
            ≡ filled_with (refused_or (when b (tell 24 (most_bytes ∷ []))) (answered (report_of input))) old
        go true = refl
        go false = refl

    given-exactly : (a : Answer (List ℕ)) → (given ≡ a) ↔ (room most_bytes (length old) ▹ Gives (Prints input)) a
    unfolding given
    given-exactly =
        check-exactly (room most_bytes (length old)) _ (room-decided most_bytes (length old)) (answered (report_of input)) (Gives (Prints input)) (λ p.
        gives-exactly (report_of input) (Prints input) report-prints-exactly)

    pub report-answers-exactly : (new : List ℕ) (r : Written) → Reported input old new r ↔ ReportExactly input old new r
    report-answers-exactly new r =
        let e = leaves-exactly given (room most_bytes (length old) ▹ Gives (Prints input)) (Fills old new r) given-exactly in
        let f = fills-exactly old new r given in (
          λ g. e.0 (f.0 (g.answer ∙ ap some length-given, g.buffer ∙ filled-given)),
          λ g. let p = f.1 (e.1 g) in record { answer = p.0 ∙ ap some (sym length-given); buffer = p.1 ∙ sym filled-given },
        )
