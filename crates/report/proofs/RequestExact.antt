-- The request line is scanned as it is printed, and printed as it was scanned.
use mathlib.Core.Path.{◌≡◌, ◌∙◌, ap, subst}
use mathlib.Core.List.{List, [], ◌∷◌, ◌++◌}
use Prim.Native.Nat.{ℕ}
use Rattle.model.specs.Text.{lf, decimal, joined, fields_after}
use Rattle.model.specs.Reading.{Got, Scan, is, got, then, exactly, the_byte, number, numbers, field}
use Rattle.model.specs.Line.{Fits, ListFits, Any, Exact}
use Rattle.answering.specs.Report.{Request, from_word, request_line, request_text, RequestFits}
use Rattle.model.proofs.Reading.Lines.{field-printed, field-scanned, field-before}
use Rattle.model.proofs.Reading.Scans.{is-inj, then_is}
use Rattle.model.proofs.Reading.Fields.{exactly-scanned, number-exact, numbers-exact}

printed : (q : Request) (bs : List ℕ) → RequestFits q → request_line (request_text q ++ bs) ≡ got q bs
unfolding request_line request_text fields_after exactly
printed q bs h =
    rw (
      field-printed numbers joined ListFits numbers-exact q.state h.0 (decimal q.budget ∷ []) bs,
      field-printed number decimal Fits number-exact q.budget h.1 [] bs,
    )

-- the scans of its parts, one after the other
abbrev as_request : Got (List ℕ) → Got ℕ → Got (Unit {0}) → Got Request
as_request s n z = record { value = record { state = s.value; budget = n.value }; rest = z.rest }

abbrev Scanned : List ℕ → Got Request → Type 0
Scanned bs g = (bs ≡ request_text g.value ++ g.rest) × RequestFits g.value

parts-scanned : (bs : List ℕ) (w : Got (Unit {0})) (s : Got (List ℕ)) (n : Got ℕ) (z : Got (Unit {0})) (g : Got Request) → exactly from_word bs ≡ is w
    → field numbers w.rest ≡ is s
    → field number s.rest ≡ is n → the_byte lf n.rest ≡ is z → ◌≡◌ {A = Scan Request} (is (as_request s n z)) (is g) → Scanned bs g
unfolding request_text fields_after
parts-scanned bs w s n z g ew es en ez eg =
    let ps = field-scanned numbers joined ListFits numbers-exact w.rest s es in
    let pn = field-scanned number decimal Fits number-exact s.rest n en in
    let end = exactly-scanned (lf ∷ []) n.rest z ez in
    let fields = field-before (joined s.value) (decimal n.value ∷ []) z.rest ps.0 (field-before (decimal n.value) [] z.rest pn.0 end) in
    subst (Scanned bs) (is-inj eg) (exactly-scanned from_word bs w ew ∙ ap {B = List ℕ} (λ l. from_word ++ l) fields, (ps.1, pn.1))

scanned : (bs : List ℕ) (g : Got Request) → request_line bs ≡ is g → Scanned bs g
unfolding request_line
scanned bs g e =
    let behind : List ℕ → ℕ → List ℕ → Scan Request = λ s n es. then (the_byte lf es) (λ _ fs. got (record { state = s; budget = n }) fs) in
    let t = then_is (exactly from_word bs) (λ _ cs. then (field numbers cs) (λ s ds. then (field number ds) (λ n es. behind s n es))) e in
    let u = then_is (field numbers t.0.rest) (λ s ds. then (field number ds) (λ n es. behind s n es)) t.2 in
    let v = then_is (field number u.0.rest) (λ n es. behind u.0.value n es) u.2 in
    let y = then_is (the_byte lf v.0.rest) (λ _ fs. got (record { state = u.0.value; budget = v.0.value }) fs) v.2 in
    parts-scanned bs t.0 u.0 v.0 y.0 g t.1 u.1 v.1 y.1 y.2

pub request-exact : Exact request_line request_text RequestFits Any
request-exact = record { printed = λ q bs h e. printed q bs h; scanned = scanned }
