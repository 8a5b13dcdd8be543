-- As many bytes as a request line, a text and one byte more tell what is printed: what stands behind them changes nothing.
use mathlib.Core.Path.{◌≡◌, refl, sym, ◌∙◌, ap}
use mathlib.Core.Bool.{Bool, true, false, cond}
use mathlib.Core.Option.{none}
use mathlib.Core.List.{List, [], ◌∷◌, ◌++◌, append_assoc}
use Prim.Native.Nat.{ℕ, ◌+◌, ◌-◌, ◌≤◌, ◌<◌}
use native.Mathlib.Omega.{arith}
use native.Mathlib.Decide.{dec_lt}
use lib.ListN.{length, take, drop, length-append, take-append-drop}
use lib.Seq.{take_all, take-append_seam, take-append-le, length-take-le}
use lib.Dec.{ltb}
use borrow.Author.Tests.{ltb-false}
use Rattle.model.proofs.Reading.Scans.{no-is}
use Rattle.answer.specs.Limits.{max_request, max_bytes}
use Rattle.answer.specs.Told.{tell}
use Rattle.model.specs.Reading.{Scan, is, stops}
use Rattle.answering.specs.Report.{Request, request_line, request_text, RequestFits, short_enough, request_of, refused_line, report_of}
use Rattle.model.proofs.Reading.Faults.{too-long-exactly}
use Rattle.request.specs.Kept.{there}
use Rattle.report.proofs.ReportLaws.{report-9, report-text}
use Rattle.report.proofs.RequestExact.{request-exact}

-- a request line before any bytes
request-before : (q : Request) → RequestFits q → (bs : List ℕ)
    → request_of (request_text q ++ bs) ≡ cond (ltb max_request (length (request_text q))) none (there q bs)
unfolding request_of
request-before q h bs =
    let e : length (request_text q ++ bs) - length bs ≡ length (request_text q) = omega (arith, length-append (request_text q) bs) in
    ap (short_enough (request_text q ++ bs)) (request-exact.printed q bs h tt) ∙ rw e

-- with a short request line before them, bytes over a text's limit are 1, whichever they are
too-long-report : (q : Request) → RequestFits q → ltb max_request (length (request_text q)) ≡ false → (bs : List ℕ) → max_bytes < length bs
    → report_of (request_text q ++ bs) ≡ refused_line (tell 1 (0 ∷ []))
too-long-report q h b bs l = report-text (request_text q ++ bs) bs q (request-before q h bs ∙ rw b) (tell 1 (0 ∷ [])) ((too-long-exactly bs).1 l)

too-wide-report : (q : Request) → RequestFits q → ltb max_request (length (request_text q)) ≡ true → (bs : List ℕ) → report_of (request_text q ++ bs)
    ≡ refused_line (tell 9 (0 ∷ []))
too-wide-report q h b bs = report-9 (request_text q ++ bs) (request-before q h bs ∙ rw b)

no-line-report : (bs cs : List ℕ) → request_line bs ≡ stops cs → report_of bs ≡ refused_line (tell 9 (0 ∷ []))
unfolding request_of
no-line-report bs cs e = report-9 bs (ap (short_enough bs) e)

-- f stands in front, and is longer than a request line and a text
module _ (f r : List ℕ) (long : max_request + max_bytes < length f) where
  -- where f has a request line, it is that of the whole
  with-line : (q : Request) (t : List ℕ) → RequestFits q → f ≡ request_text q ++ t → report_of f ≡ report_of (f ++ r)
  with-line q t h e = ap report_of e ∙ go (ltb max_request (length (request_text q))) refl ∙ sym (ap report_of whole)
    where
      whole : f ++ r ≡ request_text q ++ (t ++ r)
      whole = ap {B = List ℕ} (λ l. l ++ r) e ∙ append_assoc (request_text q) t r

      go : (b : Bool) → ltb max_request (length (request_text q)) ≡ b → report_of (request_text q ++ t) ≡ report_of (request_text q ++ (t ++ r))
      go true b = too-wide-report q h b t ∙ sym (too-wide-report q h b (t ++ r))
      go false b =
          let few = ltb-false max_request (length (request_text q)) b in
          let sum = ap length e ∙ length-append (request_text q) t in
          too-long-report q h b t (omega (arith, few, sum)) ∙ sym (too-long-report q h b (t ++ r) (omega (arith, few, sum, length-append t r)))

  -- where f has none, a request line of the whole is over its limit
  no_line : (cs : List ℕ) → request_line f ≡ stops cs → (o : Scan Request) → request_line (f ++ r) ≡ o → report_of (f ++ r) ≡ refused_line (tell 9 (0 ∷ []))
  no_line cs n (stops ds) e = no-line-report (f ++ r) ds e
  no_line cs n (is g) e = ap report_of p.0 ∙ go (ltb max_request (length (request_text g.value))) refl
    where
      p : (f ++ r ≡ request_text g.value ++ g.rest) × RequestFits g.value
      p = request-exact.scanned (f ++ r) g e

      -- a short one would be f's too
      within : length (request_text g.value) ≤ max_request → f ≡ request_text g.value ++ drop (length (request_text g.value)) f
      within h =
          let k = length (request_text g.value) in
          let same = sym (take-append-le k f r (omega arith)) ∙ ap (take k) p.0 ∙ take-append_seam (request_text g.value) g.rest in
          sym (take-append-drop k f) ∙ ap {B = List ℕ} (λ l. l ++ drop k f) same

      go : (b : Bool) → ltb max_request (length (request_text g.value)) ≡ b → report_of (request_text g.value ++ g.rest) ≡ refused_line (tell 9 (0 ∷ []))
      go true b = too-wide-report g.value p.1 b g.rest
      go false b =
          absurd (no-is n (ap request_line (within (ltb-false max_request (length (request_text g.value)) b)) ∙ request-exact.printed g.value (drop (length
          (request_text g.value)) f) p.1 tt))

  front-tells : report_of f ≡ report_of (f ++ r)
  front-tells = go (request_line f) refl
    where
      go : (o : Scan Request) → request_line f ≡ o → report_of f ≡ report_of (f ++ r)
      go (stops cs) e = no-line-report f cs e ∙ sym (no_line cs e (request_line (f ++ r)) refl)
      go (is g) e = let p = request-exact.scanned f g e in with-line g.value g.rest p.1 p.0

-- what the program reads tells as much as the whole of its input
pub front-decides : (n : ℕ) → max_request + max_bytes < n → (bs : List ℕ) → report_of (take n bs) ≡ report_of bs
front-decides n room bs = elim (dec_lt n (length bs)) [
  | yes h ↦ front-tells (take n bs) (drop n bs) (omega (arith, length-take-le n bs (let q : n ≤ length bs = omega arith in q)))
      ∙ ap report_of (take-append-drop n bs)
  | no h ↦ ap report_of (take_all n bs (omega arith))
]
